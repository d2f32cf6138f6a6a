use Rattle.std.proofs.Common.{◌≡◌, map, length}
use Rattle.dsm_syntax.specs.Views.{view_variable}
use Rattle.dsm_syntax.specs.Reading.{gathered, more_of, list_of}
use Rattle.dsm_laws_grammar.specs.Statements as reader
use Rattle.dsm_parse.proofs.variable.list.Given as goal

abbrev pub invariant-loop-alloc : goal.invariant-loop-alloc
invariant-loop-alloc l = list_of (reader.variable l.most) l.fn.cursor ≡ gathered (map view_variable l.all.items) (more_of (reader.variable l.most)) l.cursor

abbrev pub decreases-loop-alloc : goal.decreases-loop-alloc
decreases-loop-alloc l = length l.cursor

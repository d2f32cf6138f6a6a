use Rattle.std.proofs.Common.{◌≡◌, map, length, ◌*◌, ◌+◌}
use Rattle.dsm_syntax.specs.Views.{view_statement}
use Rattle.dsm_syntax.specs.Reading.{gathered}
use Rattle.dsm_laws_grammar.specs.Statements as reader
use Rattle.dsm_laws_grammar.proofs.Repeats.{all_of}
use Rattle.dsm_parse.proofs.statement.+statement.Given as goal

abbrev pub decreases-statement : goal.decreases-statement
decreases-statement l = l.most * 4

abbrev pub decreases-statement_by : goal.decreases-statement_by
decreases-statement_by l = l.below * 4 + 3

abbrev pub decreases-statements : goal.decreases-statements
decreases-statements l = l.most * 4 + 1

abbrev pub decreases-branches : goal.decreases-branches
decreases-branches l = l.below * 4 + 2

abbrev pub decreases-while_loop : goal.decreases-while_loop
decreases-while_loop l = l.below * 4 + 2

abbrev pub decreases-for_loop : goal.decreases-for_loop
decreases-for_loop l = l.below * 4 + 2

abbrev pub invariant-statements-loop-alloc : goal.invariant-statements-loop-alloc
invariant-statements-loop-alloc l =
    all_of reader.goes_on reader.statement l.most l.fn.cursor ≡ gathered (map view_statement l.all.items) (all_of reader.goes_on reader.statement l.most) l.cursor

abbrev pub decreases-statements-loop-alloc : goal.decreases-statements-loop-alloc
decreases-statements-loop-alloc l = length l.cursor

use Rattle.std.proofs.Common.{◌≡◌, length}
use Rattle.dsm_syntax.specs.Reading.{gathered, more_of, list_of}
use Rattle.dsm_syntax.specs.Tokens.{read_name}
use Rattle.dsm_parse.proofs.declarator.names.Given as goal

abbrev pub invariant-loop-alloc : goal.invariant-loop-alloc
invariant-loop-alloc l = list_of read_name l.fn.cursor ≡ gathered l.all.items (more_of read_name) l.cursor

abbrev pub decreases-loop-alloc : goal.decreases-loop-alloc
decreases-loop-alloc l = length l.cursor

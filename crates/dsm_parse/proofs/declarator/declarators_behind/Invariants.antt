use Rattle.std.proofs.Common.{[], ◌∷◌, ◌≡◌, length}
use Rattle.dsm_syntax.specs.Reading.{gathered, more_of}
use Rattle.dsm_laws_grammar.specs.Items.{declarator}
use Rattle.dsm_parse.proofs.declarator.declarators_behind.Given as goal

abbrev pub invariant-loop-alloc : goal.invariant-loop-alloc
invariant-loop-alloc l = gathered (l.fn.first ∷ []) (more_of declarator) l.fn.cursor ≡ gathered l.all.items (more_of declarator) l.cursor

abbrev pub decreases-loop-alloc : goal.decreases-loop-alloc
decreases-loop-alloc l = length l.cursor

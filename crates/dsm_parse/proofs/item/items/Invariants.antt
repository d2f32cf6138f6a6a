use Rattle.std.proofs.Common.{◌≡◌, length}
use Rattle.dsm_syntax.specs.Views.{view_items}
use Rattle.dsm_syntax.specs.Reading.{gathered}
use Rattle.dsm_laws_grammar.specs.Items as r
use Rattle.dsm_parse.proofs.item.items.Given as goal

abbrev pub invariant-loop-alloc : goal.invariant-loop-alloc
invariant-loop-alloc l = r.items l.most l.fn.cursor ≡ gathered (view_items l.all.items) (r.items l.most) l.cursor

abbrev pub decreases-loop-alloc : goal.decreases-loop-alloc
decreases-loop-alloc l = length l.cursor

use Rattle.std.proofs.Common.{sym, ◌∙◌, ap, ◌∷◌, []}
use Rattle.std.proofs.Common.{Vec, Global}
use Rattle.std.proofs.lemmas.List.{map-append}
use Rattle.std.proofs.lemmas.Result.{err_from_is_err_and}
use Rattle.dsm_syntax.specs.declared.tree.Item.{Item}
use Rattle.dsm_syntax.specs.Views.{view_item, view_items}
use Rattle.dsm_laws_grammar.proofs.Items.{items_turn, items_none, item_shorter}
use Rattle.dsm_parse.proofs.item.items.Goals as goal

pub loop-alloc-preserved : goal.loop-alloc-preserved
loop-alloc-preserved c =
    items_turn c.args.most c.requires.some (view_items c.loop-alloc.all.items) c.loop-alloc.cursor c.loop-alloc.invariant (sym c.is_empty.ensures ∙ c.loop-alloc-test.true) c.in_ok-item.ensures
    (ap view_items c.in_ok-push.ensures.items ∙ map-append view_item c.loop-alloc.all.items (c.in_ok-item.field-0 ∷ []))

pub loop-alloc-smaller : goal.loop-alloc-smaller
loop-alloc-smaller c = item_shorter c.args.most c.requires.some c.loop-alloc.cursor c.in_ok-item.ensures

pub returns-in_err-item : goal.returns-in_err-item
returns-in_err-item c =
    let p = err_from_is_err_and c.from_residual.result c.from_residual.ensures.1 in
    let see : Vec Item Global → _ = λ all. view_items all.items in
    rw (p.1, p.2) (items_none c.args.most c.requires.some (view_items c.loop-alloc.all.items) c.loop-alloc.cursor c.item.new.cursor _ view_item see c.loop-alloc.invariant (sym c.is_empty.ensures ∙ c.loop-alloc-test.true) c.in_err-item.ensures)

use Rattle.std.proofs.Common.{◌≡◌, ◌∙◌, ◌+◌, ◌++◌, ◌∷◌, [], take, ap, sym}
use Rattle.std.proofs.lemmas.List.{take_more}
use Rattle.dsm_fields.proofs.Loops.{appends_more}
use Rattle.dsm_msg.proofs.entry.put_entries.Goals as goal

pub loop-item-preserved : goal.loop-item-preserved
loop-item-preserved g c = λ last.
    let front = take c.loop-item.item-index c.args.items.now in
    let more : take (c.loop-item.item-index + 1) c.args.items.now ≡ front ++ c.item-item.result ∷ [] =
    take_more c.args.items.now c.loop-item.item-index c.item-item.result c.loop-item-test.true ∙ ap (λ (item : g.row.T.Denot). front ++ item ∷ []) (sym c.item-item.is) in
    rw more (appends_more g.T.Entry.entry_fields front c.item-item.result _ _ _ c.loop-item.invariant c.in_ok-write.ensures last)

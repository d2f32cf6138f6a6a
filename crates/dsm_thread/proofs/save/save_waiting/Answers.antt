use Rattle.std.proofs.Common.{◌≡◌, ◌∙◌, ◌+◌, ◌++◌, ◌∷◌, [], take, map, ap, sym}
use Rattle.std.specs.Prelude.{◌==◌}
use Rattle.std.proofs.lemmas.List.{take_more, map-append}
use Rattle.dsm_fields.proofs.Loops.{numbered_more}
use Rattle.dsm_saved.specs.Spelling.{due, frame_fields}
use Rattle.dsm_machine.specs.declared.frame.Frame.{Frame}
use Rattle.dsm_thread.specs.Saving.{kept_of}
use Rattle.dsm_thread.proofs.save.save_waiting.Goals as goal

pub loop-frame-preserved : goal.loop-frame-preserved
loop-frame-preserved c = λ program innermost at last.
    let frames = c.args.frames.now in
    let front = take c.loop-frame.frame-index frames in
    let frame = c.frame-item.result in
    let more : take (c.loop-frame.frame-index + 1) frames ≡ front ++ frame ∷ [] =
    take_more frames c.loop-frame.frame-index frame c.loop-frame-test.true ∙ ap (λ (f : Frame). front ++ f ∷ []) (sym c.frame-item.is) in
    rw (more, map-append kept_of front (frame ∷ [])) (numbered_more (frame_fields program innermost) (map kept_of front) (kept_of frame) _ _ _ (c.loop-frame.invariant program innermost)
    (λ at last. c.in_ok-save_frame.ensures program (at == innermost) (due program last)) at last)

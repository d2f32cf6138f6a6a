use Rattle.std.proofs.Common.{◌∙◌, ◌++◌, ◌∷◌, [], ℕ, List, map, ap, subst, arith}
use Rattle.std.proofs.lemmas.Result.{on_ok_weaker}
use Rattle.dsm_fields.specs.Fields.{Appends, numbered}
use Rattle.dsm_saved.specs.Spelling.{frame_fields}
use Rattle.dsm_machine.specs.declared.frame.Frame.{Frame}
use Rattle.dsm_thread.specs.Saving.{kept_of}
use Rattle.dsm_thread.proofs.Written.{stack_written}
use Rattle.dsm_thread.proofs.save.save_frames.Goals as goal

pub returns : goal.returns
returns c = on_ok_weaker c.save_frame.result (λ inner. λ program.
    stack_written program c.args.machine.now c.args.out.now.items c.put_byte.new.out.items c.save_waiting.new.out.items c.save_frame.new.out.items
    (c.in_ok-put_byte.ensures ∙ ap (λ (n : ℕ). c.args.out.now.items ++ n ∷ []) (omega (arith, c.len.ensures, c.requires)))
    (λ innermost at last. subst (λ (w : List Frame). Appends (numbered (frame_fields program innermost) at last (map kept_of w)) c.put_byte.new.out.items c.save_waiting.new.out.items) c.as_slice.ensures (c.in_ok-save_waiting.ensures program innermost at last))
    (λ is_last next. inner program is_last next)) c.save_frame.ensures

use Rattle.std.proofs.Common.{◌≡◌, ◌∙◌, ◌++◌, ℤ, List, ap, subst}
use Rattle.std.specs.Prelude.{reverse}
use Rattle.std.proofs.lemmas.Result.{on_ok_weaker}
use Rattle.dsm_fields.specs.Fields.{Appends}
use Rattle.dsm_saved.specs.Spelling.{known_fields}
use Rattle.dsm_thread.proofs.save.save_frame.Goals as goal

pub returns : goal.returns
returns c = on_ok_weaker c.put_frame.result (λ is. λ program is_last next.
    let frame = c.args.frame.now in
    let values : c.as_slice.result.now ++ c.as_slice-2.result.now ≡ frame.slots.values ++ reverse frame.operands.values =
    ap (λ (w : List ℤ). w ++ c.as_slice-2.result.now) c.as_slice.ensures ∙ ap (λ (w : List ℤ). frame.slots.values ++ w) c.as_slice-2.ensures in
    subst (λ (w : List ℤ). Appends (known_fields program is_last next (record { function = frame.function; place = frame.place; values = w })) c.args.out.now.items c.put_frame.new.out.items) values (is program is_last next)) c.put_frame.ensures

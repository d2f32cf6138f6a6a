use Rattle.std.proofs.Common.{◌∙◌, ◌++◌, ◌∷◌, [], ℕ, true, refl, ap}
use Rattle.std.proofs.lemmas.Result.{on_ok_weaker}
use Rattle.dsm_fields.specs.Fields.{byte}
use Rattle.dsm_msg.specs.Spelling.{kind_of, is_proc, is_other}
use Rattle.dsm_fields.proofs.Writing.{field_first, fields_first}
use Rattle.dsm_msg.proofs.bytes.put_message.Goals as goal

pub returns : goal.returns
returns c = on_ok_weaker c.put_body.result (λ behind.
    let msg = c.args.msg.now in
    field_first (byte (kind_of msg.body) true) (c.in_ok-put_byte.ensures ∙ ap (λ (n : ℕ). c.args.out.now.items ++ n ∷ []) c.kind_of.ensures) refl
    (field_first (byte msg.from.0 (is_proc msg.from.0)) c.in_ok-put_byte-2.ensures refl
    (field_first (byte msg.to.0 (is_other msg.from.0 msg.to.0)) c.in_ok-put_byte-3.ensures refl
    (fields_first c.in_ok-put_carry.ensures behind)))) c.put_body.ensures

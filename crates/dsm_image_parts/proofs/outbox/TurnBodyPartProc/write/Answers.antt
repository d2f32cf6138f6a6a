use Rattle.std.proofs.Common.{◌∙◌, ◌++◌, ◌∷◌, [], ℕ, option_map, refl, ap}
use Rattle.std.proofs.lemmas.Result.{on_ok_weaker}
use Rattle.dsm_msg.specs.Spelling.{kind_of, is_asking}
use Rattle.dsm_fields.specs.Fields.{number, byte, is_over}
use Rattle.dsm_fields.proofs.Writing.{field_first}
use Rattle.dsm_image_parts.proofs.outbox.TurnBodyPartProc.write.Goals as goal

pub returns : goal.returns
returns c = on_ok_weaker c.put_asking.result (λ behind. λ scope to at last.
    let v = c.args.self.now in
    field_first (number 4 v.turn (is_over (option_map (λ r. r.turn) last) v.turn)) c.in_ok-put_number.ensures.written c.in_ok-put_number.ensures.held
    (field_first (byte (kind_of v.body) (is_asking (kind_of v.body))) (c.in_ok-put_byte.ensures ∙ ap (λ (n : ℕ). c.put_number.new.out.items ++ n ∷ []) c.kind_of.ensures) refl
    (behind scope to.0))) c.put_asking.ensures

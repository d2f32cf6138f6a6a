use Rattle.std.proofs.Common.{true}
use Rattle.std.proofs.lemmas.Result.{on_ok_weaker}
use Rattle.dsm_fields.specs.Fields.{number}
use Rattle.dsm_fields.proofs.Writing.{field_first, fields_first}
use Rattle.dsm_image_parts.specs.Spelling.{record_fields, pending_fields}
use Rattle.dsm_image_parts.proofs.Writing.{of_listed}
use Rattle.dsm_image.proofs.payload.put_tail.Goals as goal

pub returns : goal.returns
returns c = on_ok_weaker c.put_listed-2.result (λ behind. λ scope.
    let me = c.args.image.now.me in
    field_first (number 4 c.args.image.now.held true) c.in_ok-put_number.ensures.written c.in_ok-put_number.ensures.held
    (fields_first (of_listed (λ _. true) (record_fields scope) c.as_slice.ensures (c.in_ok-put_listed.ensures (λ _. true) scope me))
    (of_listed (λ _. true) pending_fields c.as_slice-2.ensures (behind (λ _. true) scope me)))) c.put_listed-2.ensures

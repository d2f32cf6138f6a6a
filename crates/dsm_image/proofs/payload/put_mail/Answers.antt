use Rattle.std.proofs.Common.{true, None}
use Rattle.std.proofs.lemmas.Result.{on_ok_weaker}
use Rattle.dsm_fields.proofs.Writing.{fields_first}
use Rattle.dsm_image_parts.specs.Spelling.{mail_grant_fields, mail_opening_fields, seen_fields, outbox_fields}
use Rattle.dsm_image_parts.proofs.Writing.{of_listed, of_numbered}
use Rattle.dsm_image.proofs.payload.put_mail.Goals as goal

pub returns : goal.returns
returns c = on_ok_weaker c.put_parts-2.result (λ behind. λ scope.
    let me = c.args.image.now.me in
    fields_first (of_listed (λ _. true) (mail_grant_fields scope) c.as_slice.ensures (c.in_ok-put_listed.ensures (λ _. true) scope me))
    (fields_first (of_listed (λ _. true) (mail_opening_fields scope) c.as_slice-2.ensures (c.in_ok-put_listed-2.ensures (λ _. true) scope me))
    (fields_first (of_numbered (seen_fields me.0) c.as_slice-3.ensures (c.in_ok-put_parts.ensures scope me 0 None))
    (of_numbered (outbox_fields scope) c.as_slice-4.ensures (behind scope me 0 None))))) c.put_parts-2.ensures

use Rattle.std.proofs.lemmas.Result.{on_ok_weaker}
use Rattle.dsm_fields.proofs.Writing.{fields_first}
use Rattle.dsm_image.proofs.payload.put_payload.Goals as goal

pub returns : goal.returns
returns c = on_ok_weaker c.put_served.result (λ behind. λ scope.
    fields_first (c.in_ok-put_head.ensures scope)
    (fields_first (c.in_ok-put_own.ensures scope)
    (fields_first (c.in_ok-put_mail.ensures scope)
    (fields_first (c.in_ok-put_tail.ensures scope)
    (fields_first (c.in_ok-put_made.ensures scope) (behind scope)))))) c.put_served.ensures

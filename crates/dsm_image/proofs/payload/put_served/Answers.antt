use Rattle.std.proofs.Common.{None}
use Rattle.std.proofs.lemmas.Result.{on_ok_weaker}
use Rattle.dsm_fields.proofs.Writing.{fields_first}
use Rattle.dsm_image_parts.specs.Spelling.{saved_lock_fields, log_fields}
use Rattle.dsm_image_parts.proofs.Writing.{of_numbered}
use Rattle.dsm_image.proofs.payload.put_served.Goals as goal

pub returns : goal.returns
returns c = on_ok_weaker c.put_parts-2.result (λ behind. λ scope.
    fields_first (of_numbered saved_lock_fields c.as_slice.ensures (c.in_ok-put_parts.ensures scope (record { 0 = 0 }) 0 None))
    (of_numbered (log_fields scope) c.as_slice-2.ensures (behind scope (record { 0 = 0 }) 0 None))) c.put_parts-2.ensures

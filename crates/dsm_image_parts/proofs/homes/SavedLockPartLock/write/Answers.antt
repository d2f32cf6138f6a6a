use Rattle.std.proofs.Common.{true, None}
use Rattle.std.proofs.lemmas.Result.{on_ok_weaker}
use Rattle.dsm_fields.specs.Fields.{number}
use Rattle.dsm_fields.proofs.Writing.{field_first}
use Rattle.dsm_image_parts.specs.Spelling.{saved_line_fields}
use Rattle.dsm_image_parts.proofs.Writing.{of_numbered}
use Rattle.dsm_image_parts.proofs.homes.SavedLockPartLock.write.Goals as goal

pub returns : goal.returns
returns c = on_ok_weaker c.put_parts.result (λ behind. λ scope lock at last.
    field_first (number 4 c.args.self.now.version true) c.in_ok-put_number.ensures.written c.in_ok-put_number.ensures.held
    (of_numbered saved_line_fields c.as_slice.ensures (behind scope 0 0 None))) c.put_parts.ensures

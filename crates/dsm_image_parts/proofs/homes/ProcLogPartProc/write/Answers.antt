use Rattle.std.proofs.Common.{true}
use Rattle.std.proofs.lemmas.Result.{on_ok_weaker}
use Rattle.dsm_fields.proofs.Writing.{fields_first}
use Rattle.dsm_image_parts.specs.Spelling.{logged_grant_fields, logged_opening_fields, record_fields}
use Rattle.dsm_image_parts.proofs.Writing.{of_listed}
use Rattle.dsm_image_parts.proofs.homes.ProcLogPartProc.write.Goals as goal

pub returns : goal.returns
returns c = on_ok_weaker c.put_listed-3.result (λ behind. λ scope proc at last.
    fields_first (of_listed (λ _. true) (logged_grant_fields scope) c.as_slice.ensures (c.in_ok-put_listed.ensures (λ _. true) scope proc))
    (fields_first (of_listed (λ _. true) (logged_opening_fields scope) c.as_slice-2.ensures (c.in_ok-put_listed-2.ensures (λ _. true) scope proc))
    (of_listed (λ _. true) (record_fields scope) c.as_slice-3.ensures (behind (λ _. true) scope proc)))) c.put_listed-3.ensures

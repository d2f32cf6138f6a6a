use Rattle.std.proofs.Common.{true, None}
use Rattle.std.proofs.lemmas.Result.{on_ok_weaker}
use Rattle.dsm_base.specs.declared.setup.Object.{Object}
use Rattle.dsm_fields.specs.Fields.{number}
use Rattle.dsm_fields.proofs.Writing.{field_first}
use Rattle.dsm_image_parts.specs.Spelling.{value_fields}
use Rattle.dsm_image_parts.proofs.Writing.{of_numbered}
use Rattle.dsm_image_parts.proofs.homes.SavedLinePartU32.write.Goals as goal

pub returns : goal.returns
returns c = on_ok_weaker c.put_parts.result (λ behind. λ scope line at last.
    field_first (number 4 c.args.self.now.stamp true) c.in_ok-put_number.ensures.written c.in_ok-put_number.ensures.held
    (of_numbered value_fields c.as_slice.ensures (behind scope (Object.Lock (record { 0 = 0 })) 0 None))) c.put_parts.ensures

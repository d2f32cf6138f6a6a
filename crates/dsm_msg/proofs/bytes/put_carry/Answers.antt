use Rattle.std.proofs.Common.{true}
use Rattle.std.proofs.lemmas.Result.{on_ok_weaker}
use Rattle.dsm_fields.specs.Fields.{number}
use Rattle.dsm_msg.specs.Spelling.{record_fields, pending_fields}
use Rattle.dsm_fields.proofs.Writing.{field_first, fields_first, of_list}
use Rattle.dsm_msg.proofs.bytes.put_carry.Goals as goal

pub returns : goal.returns
returns c = on_ok_weaker c.put_counted-2.result (λ behind.
    field_first (number 4 c.args.carry.now.turn true) c.in_ok-put_number.ensures.written c.in_ok-put_number.ensures.held
    (field_first (number 4 c.args.carry.now.seen true) c.in_ok-put_number-2.ensures.written c.in_ok-put_number-2.ensures.held
    (fields_first (of_list record_fields c.as_slice.ensures c.in_ok-put_counted.ensures)
    (of_list pending_fields c.as_slice-2.ensures behind)))) c.put_counted-2.ensures

use Rattle.std.proofs.lemmas.Result.{on_ok_weaker}
use Rattle.dsm_msg.specs.Spelling.{grant_fields, opening_fields, record_fields, version_fields, arrival_fields, lock_stand_fields, bar_stand_fields}
use Rattle.dsm_fields.proofs.Writing.{fields_first, of_list}
use Rattle.dsm_msg.proofs.body.put_report.Goals as goal

pub returns : goal.returns
returns c = on_ok_weaker c.put_counted-7.result (λ behind.
    fields_first (of_list grant_fields c.as_slice.ensures c.in_ok-put_counted.ensures)
    (fields_first (of_list opening_fields c.as_slice-2.ensures c.in_ok-put_counted-2.ensures)
    (fields_first (of_list record_fields c.as_slice-3.ensures c.in_ok-put_counted-3.ensures)
    (fields_first (of_list version_fields c.as_slice-4.ensures c.in_ok-put_counted-4.ensures)
    (fields_first (of_list arrival_fields c.as_slice-5.ensures c.in_ok-put_counted-5.ensures)
    (fields_first (of_list lock_stand_fields c.as_slice-6.ensures c.in_ok-put_counted-6.ensures)
    (of_list bar_stand_fields c.as_slice-7.ensures behind))))))) c.put_counted-7.ensures

use Rattle.std.proofs.Common.{◌≡◌, ◌∙◌, refl, true, ap}
use Rattle.std.proofs.lemmas.Result.{on_ok_weaker}
use Rattle.dsm_msg.specs.declared.message.Body.TheOpen as layer
use Rattle.dsm_msg.specs.declared.message.Body.TheViews.{out-Body}
use Rattle.dsm_fields.specs.Fields.{number, byte, mode_number}
use Rattle.dsm_msg.specs.Spelling.{line_fields, lock_number_fields, bar_number_fields}
use Rattle.dsm_msg.proofs.Layers.{out_grant, out_opened, out_pruned}
use Rattle.dsm_fields.proofs.Writing.{field_first, fields_first, of_list}
use Rattle.dsm_msg.proofs.body.put_body.Goals as goal

pub returns-in_ok-put_number-in-Grant-2 : goal.returns-in_ok-put_number-in-Grant-2
returns-in_ok-put_number-in-Grant-2 c =
    let v = c.in-Grant in
    let opened : out-Body c.args.body.now ≡ layer.Grant v.lock v.mode v.turn v.version v.lines = ap out-Body v.is ∙ out_grant v.lock v.mode v.turn v.version v.lines in
    on_ok_weaker c.put_counted.result (λ behind.
    let lines = of_list line_fields c.as_slice.ensures behind in
    rw opened (field_first (number 2 v.lock.0 true) c.in_ok-put_short-in-Grant.ensures.written c.in_ok-put_short-in-Grant.ensures.held
    (field_first (byte (mode_number v.mode) true) c.in_ok-put_mode-in-Grant.ensures refl
    (field_first (number 4 v.turn true) c.in_ok-put_number-in-Grant.ensures.written c.in_ok-put_number-in-Grant.ensures.held
    (field_first (number 4 v.version true) c.in_ok-put_number-in-Grant-2.ensures.written c.in_ok-put_number-in-Grant-2.ensures.held lines))))) c.put_counted.ensures

pub returns-in_ok-put_number-in-Opened : goal.returns-in_ok-put_number-in-Opened
returns-in_ok-put_number-in-Opened c =
    let v = c.in-Opened in
    let opened : out-Body c.args.body.now ≡ layer.Opened v.bar v.epoch v.lines = ap out-Body v.is ∙ out_opened v.bar v.epoch v.lines in
    on_ok_weaker c.put_counted-in-Opened.result (λ behind.
    let lines = of_list line_fields c.as_slice-in-Opened.ensures behind in
    rw opened (field_first (byte v.bar.0 true) c.in_ok-put_byte-in-Opened.ensures refl
    (field_first (number 4 v.epoch true) c.in_ok-put_number-in-Opened.ensures.written c.in_ok-put_number-in-Opened.ensures.held lines))) c.put_counted-in-Opened.ensures

pub returns-in_ok-put_counted-in-Pruned : goal.returns-in_ok-put_counted-in-Pruned
returns-in_ok-put_counted-in-Pruned c =
    let v = c.in-Pruned in
    let opened : out-Body c.args.body.now ≡ layer.Pruned v.turn v.versions v.crossings = ap out-Body v.is ∙ out_pruned v.turn v.versions v.crossings in
    on_ok_weaker c.put_counted-in-Pruned-2.result (λ behind.
    let versions = of_list lock_number_fields c.as_slice-in-Pruned.ensures c.in_ok-put_counted-in-Pruned.ensures in
    let crossings = of_list bar_number_fields c.as_slice-in-Pruned-2.ensures behind in
    rw opened (field_first (number 4 v.turn true) c.in_ok-put_number-in-Pruned.ensures.written c.in_ok-put_number-in-Pruned.ensures.held (fields_first versions crossings))) c.put_counted-in-Pruned-2.ensures

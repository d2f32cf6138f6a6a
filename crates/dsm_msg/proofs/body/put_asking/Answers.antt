use Rattle.std.proofs.Common.{◌≡◌, ◌∙◌, refl, true, ap}
use Rattle.std.proofs.lemmas.Result.{on_ok_weaker}
use Rattle.dsm_msg.specs.declared.message.Body.TheOpen as layer
use Rattle.dsm_msg.specs.declared.message.Body.TheViews.{out-Body}
use Rattle.dsm_fields.specs.Fields.{number, byte, mode_number}
use Rattle.dsm_msg.specs.Spelling.{line_fields}
use Rattle.dsm_msg.proofs.Layers.{out_release, out_arrive}
use Rattle.dsm_fields.proofs.Writing.{field_first, of_list}
use Rattle.dsm_msg.proofs.body.put_asking.Goals as goal

pub returns-in_ok-put_number-in-Release : goal.returns-in_ok-put_number-in-Release
returns-in_ok-put_number-in-Release c =
    let v = c.in-Release in
    let opened : out-Body c.args.body.now ≡ layer.Release v.lock v.mode v.version v.lines = ap out-Body v.is ∙ out_release v.lock v.mode v.version v.lines in
    on_ok_weaker c.put_counted.result (λ behind.
    let lines = of_list line_fields c.as_slice.ensures behind in
    let all = field_first (number 2 v.lock.0 true) c.in_ok-put_short-in-Release.ensures.written c.in_ok-put_short-in-Release.ensures.held
    (field_first (byte (mode_number v.mode) true) c.in_ok-put_mode-in-Release.ensures refl
    (field_first (number 4 v.version true) c.in_ok-put_number-in-Release.ensures.written c.in_ok-put_number-in-Release.ensures.held lines)) in
    rw opened (record { bytes = all.bytes; held = all.held })) c.put_counted.ensures

pub returns-in_ok-put_number-in-Arrive : goal.returns-in_ok-put_number-in-Arrive
returns-in_ok-put_number-in-Arrive c =
    let v = c.in-Arrive in
    let opened : out-Body c.args.body.now ≡ layer.Arrive v.bar v.epoch v.lines = ap out-Body v.is ∙ out_arrive v.bar v.epoch v.lines in
    on_ok_weaker c.put_counted-in-Arrive.result (λ behind.
    let lines = of_list line_fields c.as_slice-in-Arrive.ensures behind in
    rw opened (field_first (byte v.bar.0 true) c.in_ok-put_byte-in-Arrive.ensures refl
    (field_first (number 4 v.epoch true) c.in_ok-put_number-in-Arrive.ensures.written c.in_ok-put_number-in-Arrive.ensures.held lines))) c.put_counted-in-Arrive.ensures

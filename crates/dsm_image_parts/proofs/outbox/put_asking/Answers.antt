use Rattle.std.proofs.Common.{◌≡◌, ◌∙◌, refl, true, ap}
use Rattle.std.proofs.lemmas.Result.{on_ok_weaker}
use Rattle.dsm_base.specs.declared.setup.Object.{Object}
use Rattle.dsm_msg.specs.declared.message.Body.TheOpen as layer
use Rattle.dsm_msg.specs.declared.message.Body.TheViews.{out-Body}
use Rattle.dsm_msg.specs.Spelling.{may_give}
use Rattle.dsm_msg.proofs.Layers.{out_req, out_release, out_arrive}
use Rattle.dsm_fields.specs.Fields.{number, byte, mode_number}
use Rattle.dsm_fields.proofs.Writing.{field_first}
use Rattle.dsm_image_parts.specs.Spelling.{line_fields, is_lock_at, is_bar_at}
use Rattle.dsm_image_parts.proofs.Writing.{of_listed}
use Rattle.dsm_image_parts.proofs.outbox.put_asking.Goals as goal

pub returns-in_ok-put_number-in-Release : goal.returns-in_ok-put_number-in-Release
returns-in_ok-put_number-in-Release c =
    let v = c.in-Release in
    let opened : out-Body c.args.body.now ≡ layer.Release v.lock v.mode v.version v.lines = ap out-Body v.is ∙ out_release v.lock v.mode v.version v.lines in
    on_ok_weaker c.put_listed.result (λ behind. λ scope to.
    let lines = of_listed (may_give v.mode) (line_fields scope (Object.Lock v.lock)) c.as_slice.ensures (behind (may_give v.mode) scope (Object.Lock v.lock)) in
    rw opened (field_first (number 2 v.lock.0 (is_lock_at scope to v.lock.0)) c.in_ok-put_short-in-Release.ensures.written c.in_ok-put_short-in-Release.ensures.held
    (field_first (byte (mode_number v.mode) true) c.in_ok-put_mode-in-Release.ensures refl
    (field_first (number 4 v.version true) c.in_ok-put_number-in-Release.ensures.written c.in_ok-put_number-in-Release.ensures.held lines)))) c.put_listed.ensures

pub returns-in_ok-put_number-in-Arrive : goal.returns-in_ok-put_number-in-Arrive
returns-in_ok-put_number-in-Arrive c =
    let v = c.in-Arrive in
    let opened : out-Body c.args.body.now ≡ layer.Arrive v.bar v.epoch v.lines = ap out-Body v.is ∙ out_arrive v.bar v.epoch v.lines in
    on_ok_weaker c.put_listed-in-Arrive.result (λ behind. λ scope to.
    let lines = of_listed (λ _. true) (line_fields scope (Object.Bar v.bar)) c.as_slice-in-Arrive.ensures (behind (λ _. true) scope (Object.Bar v.bar)) in
    rw opened (field_first (byte v.bar.0 (is_bar_at scope to v.bar.0)) c.in_ok-put_byte-in-Arrive.ensures refl
    (field_first (number 4 v.epoch true) c.in_ok-put_number-in-Arrive.ensures.written c.in_ok-put_number-in-Arrive.ensures.held lines))) c.put_listed-in-Arrive.ensures

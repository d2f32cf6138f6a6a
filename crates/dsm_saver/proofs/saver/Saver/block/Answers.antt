use Rattle.std.proofs.Common.{◌≡◌, ℕ, Option, Some, sym, ◌∙◌, ap, subst}
use Rattle.dsm_saver.specs.Blocks.{IsImage, block_of}
use Rattle.dsm_saver.specs.States.{Image, State}
use Rattle.dsm_saver.proofs.Slots.{elsewhere-advanced}
use Rattle.dsm_saver.proofs.Calls.{opened, due-whole, may-write, has-room, leaves-written, saved-written, fits-written, leaves-failed, saved-failed, stops-failed, saved-finished}
use Rattle.dsm_saver.proofs.saver.Saver.block.Goals as goal

pub put_block-requires-clause-unmarked : goal.put_block-requires-clause-unmarked
put_block-requires-clause-unmarked g c =
    let before = opened c.self.view_is (sym c.take.ensures.value ∙ c.in-Some.is) c.self.invariant c.requires in
    may-write before c.mark-slot.result.0 (ap (λ (m : ℕ × ℕ). m.0) c.mark-slot.ensures.value)

pub put_block-requires-clause-room : goal.put_block-requires-clause-room
put_block-requires-clause-room g c =
    let before = opened c.self.view_is (sym c.take.ensures.value ∙ c.in-Some.is) c.self.invariant c.requires in
    has-room before c.mark-slot.result.0 c.in-Some-next.block (ap (λ (m : ℕ × ℕ). m.0) c.mark-slot.ensures.value) c.in-Some-next.ensures.number.1

pub invariant_of-self-in-Ok : goal.invariant_of-self-in-Ok
invariant_of-self-in-Ok g c =
    λ x same. elsewhere-advanced c.self.inside.marked c.in-Some.image c.advanced.result x
    (c.self.invariant c.in-Some.image (sym c.take.ensures.value ∙ c.in-Some.is)) c.advanced.ensures same

pub returns-in_default-next-clause-saved : goal.returns-in_default-next-clause-saved
returns-in_default-next-clause-saved g c =
    let before = opened c.self.view_is (sym c.take.ensures.value ∙ c.in-Some.is) c.self.invariant c.requires in
    saved-finished before c.finish.result c.finish.new.self _ (subst (λ (i : Image). IsImage i.bytes) c.image.view_is c.image.invariant.bytes) c.in_default-next.ensures.number c.finish.ensures.finishes c.finish.ensures.leaves

pub returns-in-Ok-clause-leaves : goal.returns-in-Ok-clause-leaves
returns-in-Ok-clause-leaves g c =
    let before = opened c.self.view_is (sym c.take.ensures.value ∙ c.in-Some.is) c.self.invariant c.requires in
    let is = due-whole c.in-Some.image c.mark-slot.result.0 c.in-Some-next.block c.in-Some-next.bytes.now
    (ap (λ (m : ℕ × ℕ). m.0) c.mark-slot.ensures.value) c.in-Some-next.ensures.number.0 c.in-Some-next.ensures.bytes in
    leaves-written before _ (λ image. block_of image.written image.bytes) is c.in-Ok.ensures.writes

pub returns-in-Ok-clause-fits : goal.returns-in-Ok-clause-fits
returns-in-Ok-clause-fits g c =
    let before = opened c.self.view_is (sym c.take.ensures.value ∙ c.in-Some.is) c.self.invariant c.requires in
    let is = due-whole c.in-Some.image c.mark-slot.result.0 c.in-Some-next.block c.in-Some-next.bytes.now
    (ap (λ (m : ℕ × ℕ). m.0) c.mark-slot.ensures.value) c.in-Some-next.ensures.number.0 c.in-Some-next.ensures.bytes in
    fits-written before _ _ c.advanced.result is c.in-Ok.ensures.writes c.in-Ok.ensures.room c.advanced.ensures

pub returns-in-Ok-clause-saved : goal.returns-in-Ok-clause-saved
returns-in-Ok-clause-saved g c =
    let before = opened c.self.view_is (sym c.take.ensures.value ∙ c.in-Some.is) c.self.invariant c.requires in
    let is = due-whole c.in-Some.image c.mark-slot.result.0 c.in-Some-next.block c.in-Some-next.bytes.now
    (ap (λ (m : ℕ × ℕ). m.0) c.mark-slot.ensures.value) c.in-Some-next.ensures.number.0 c.in-Some-next.ensures.bytes in
    saved-written before _ (λ image. block_of image.written image.bytes) is c.in-Ok.ensures.writes

pub returns-in-Err-clause-leaves : goal.returns-in-Err-clause-leaves
returns-in-Err-clause-leaves g c =
    let before = opened c.self.view_is (sym c.take.ensures.value ∙ c.in-Some.is) c.self.invariant c.requires in
    let is = due-whole c.in-Some.image c.mark-slot.result.0 c.in-Some-next.block c.in-Some-next.bytes.now
    (ap (λ (m : ℕ × ℕ). m.0) c.mark-slot.ensures.value) c.in-Some-next.ensures.number.0 c.in-Some-next.ensures.bytes in
    leaves-failed before _ (λ image. block_of image.written image.bytes) is c.in-Some-next.ensures.number.1 c.in-Err.ensures.writes

pub returns-in-Err-clause-fits : goal.returns-in-Err-clause-fits
returns-in-Err-clause-fits g c =
    let before = opened c.self.view_is (sym c.take.ensures.value ∙ c.in-Some.is) c.self.invariant c.requires in
    let is = due-whole c.in-Some.image c.mark-slot.result.0 c.in-Some-next.block c.in-Some-next.bytes.now
    (ap (λ (m : ℕ × ℕ). m.0) c.mark-slot.ensures.value) c.in-Some-next.ensures.number.0 c.in-Some-next.ensures.bytes in
    stops-failed before _ (λ image. block_of image.written image.bytes) is _ _ (let state : Option Image → State = λ o. record { marked = c.self.inside.marked; image = o } in ap state c.take.ensures.after) c.in-Err.ensures.writes

pub returns-in-Err-clause-saved : goal.returns-in-Err-clause-saved
returns-in-Err-clause-saved g c =
    let before = opened c.self.view_is (sym c.take.ensures.value ∙ c.in-Some.is) c.self.invariant c.requires in
    let is = due-whole c.in-Some.image c.mark-slot.result.0 c.in-Some-next.block c.in-Some-next.bytes.now
    (ap (λ (m : ℕ × ℕ). m.0) c.mark-slot.ensures.value) c.in-Some-next.ensures.number.0 c.in-Some-next.ensures.bytes in
    saved-failed before _ (λ image. block_of image.written image.bytes) is c.in-Err.ensures.writes

use Rattle.std.proofs.Common.{ℕ, ◌∙◌, ap}
use Rattle.dsm_saver.specs.Blocks.{block_of, torn_after}
use Rattle.dsm_saver.proofs.Calls.{opened, due-torn, may-write, has-room, stopped-open, leaves-written, saved-written, stops-written, leaves-failed, saved-failed, stops-failed}
use Rattle.dsm_saver.proofs.saver.Saver.torn.Goals as goal

pub put_block-answer-requires-clause-unmarked : goal.put_block-answer-requires-clause-unmarked
put_block-answer-requires-clause-unmarked g c =
    let before = opened c.self.view_is c.in-Some.is c.self.invariant c.requires.fits in
    may-write before c.mark-slot.result.0 (ap (λ (m : ℕ × ℕ). m.0) c.mark-slot.ensures.value)

pub put_block-answer-requires-clause-room : goal.put_block-answer-requires-clause-room
put_block-answer-requires-clause-room g c =
    let before = opened c.self.view_is c.in-Some.is c.self.invariant c.requires.fits in
    has-room before c.mark-slot.result.0 c.in-Some-next.block (ap (λ (m : ℕ × ℕ). m.0) c.mark-slot.ensures.value) c.in-Some-next.ensures.number.1

pub returns-in-Ok-clause-leaves : goal.returns-in-Ok-clause-leaves
returns-in-Ok-clause-leaves g c =
    let before = opened c.self.view_is c.in-Some.is c.self.invariant c.requires.fits in
    let is = due-torn c.args.kept c.in-Some.image c.mark-slot.result.0 c.in-Some-next.block c.in-Some-next.bytes.now c.torn_block-torn.result
    (ap (λ (m : ℕ × ℕ). m.0) c.mark-slot.ensures.value) c.in-Some-next.ensures.number.0 c.in-Some-next.ensures.bytes c.torn_block-torn.ensures in
    leaves-written before _ (λ image. torn_after c.args.kept (block_of image.written image.bytes)) is c.in-Ok.ensures.writes

pub returns-in-Ok-clause-fits : goal.returns-in-Ok-clause-fits
returns-in-Ok-clause-fits g c =
    let before = opened c.self.view_is c.in-Some.is c.self.invariant c.requires.fits in
    let is = due-torn c.args.kept c.in-Some.image c.mark-slot.result.0 c.in-Some-next.block c.in-Some-next.bytes.now c.torn_block-torn.result
    (ap (λ (m : ℕ × ℕ). m.0) c.mark-slot.ensures.value) c.in-Some-next.ensures.number.0 c.in-Some-next.ensures.bytes c.torn_block-torn.ensures in
    stops-written before _ (λ image. torn_after c.args.kept (block_of image.written image.bytes)) is c.stop.new.self _ (c.stop.ensures ∙ stopped-open before) c.in-Ok.ensures.writes

pub returns-in-Ok-clause-saved : goal.returns-in-Ok-clause-saved
returns-in-Ok-clause-saved g c =
    let before = opened c.self.view_is c.in-Some.is c.self.invariant c.requires.fits in
    let is = due-torn c.args.kept c.in-Some.image c.mark-slot.result.0 c.in-Some-next.block c.in-Some-next.bytes.now c.torn_block-torn.result
    (ap (λ (m : ℕ × ℕ). m.0) c.mark-slot.ensures.value) c.in-Some-next.ensures.number.0 c.in-Some-next.ensures.bytes c.torn_block-torn.ensures in
    saved-written before _ (λ image. torn_after c.args.kept (block_of image.written image.bytes)) is c.in-Ok.ensures.writes

pub returns-in-Err-clause-leaves : goal.returns-in-Err-clause-leaves
returns-in-Err-clause-leaves g c =
    let before = opened c.self.view_is c.in-Some.is c.self.invariant c.requires.fits in
    let is = due-torn c.args.kept c.in-Some.image c.mark-slot.result.0 c.in-Some-next.block c.in-Some-next.bytes.now c.torn_block-torn.result
    (ap (λ (m : ℕ × ℕ). m.0) c.mark-slot.ensures.value) c.in-Some-next.ensures.number.0 c.in-Some-next.ensures.bytes c.torn_block-torn.ensures in
    leaves-failed before _ (λ image. torn_after c.args.kept (block_of image.written image.bytes)) is c.in-Some-next.ensures.number.1 c.in-Err.ensures.writes

pub returns-in-Err-clause-fits : goal.returns-in-Err-clause-fits
returns-in-Err-clause-fits g c =
    let before = opened c.self.view_is c.in-Some.is c.self.invariant c.requires.fits in
    let is = due-torn c.args.kept c.in-Some.image c.mark-slot.result.0 c.in-Some-next.block c.in-Some-next.bytes.now c.torn_block-torn.result
    (ap (λ (m : ℕ × ℕ). m.0) c.mark-slot.ensures.value) c.in-Some-next.ensures.number.0 c.in-Some-next.ensures.bytes c.torn_block-torn.ensures in
    stops-failed before _ (λ image. torn_after c.args.kept (block_of image.written image.bytes)) is c.stop.new.self _ (c.stop.ensures ∙ stopped-open before) c.in-Err.ensures.writes

pub returns-in-Err-clause-saved : goal.returns-in-Err-clause-saved
returns-in-Err-clause-saved g c =
    let before = opened c.self.view_is c.in-Some.is c.self.invariant c.requires.fits in
    let is = due-torn c.args.kept c.in-Some.image c.mark-slot.result.0 c.in-Some-next.block c.in-Some-next.bytes.now c.torn_block-torn.result
    (ap (λ (m : ℕ × ℕ). m.0) c.mark-slot.ensures.value) c.in-Some-next.ensures.number.0 c.in-Some-next.ensures.bytes c.torn_block-torn.ensures in
    saved-failed before _ (λ image. torn_after c.args.kept (block_of image.written image.bytes)) is c.in-Err.ensures.writes

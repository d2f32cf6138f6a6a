use Rattle.std.proofs.Common.{◌≡◌, ◌∙◌, ◌+◌, ◌++◌, ◌∷◌, [], List, length, map, reverse, take, ap, sym, subst, arith}
use Rattle.std.proofs.lemmas.List.{take_more, length-map}
use Rattle.dsm_code.specs.Programs.{Program}
use Rattle.dsm_code.specs.Machine.{State}
use Rattle.dsm_saved.specs.declared.saved.SavedFrame.{SavedFrame}
use Rattle.dsm_saved.specs.States.{opened, going_with}
use Rattle.dsm_machine.specs.Frames.{frame_of}
use Rattle.dsm_machine.specs.States.{state_in}
use Rattle.dsm_thread.specs.Resuming.{CanResume, within}
use Rattle.dsm_thread.proofs.Resumed.{one_more, can_at}
use Rattle.dsm_thread.proofs.load.resume_all.Goals as goal

pub resume_within-requires-clause-room : goal.resume_within-requires-clause-room
resume_within-requires-clause-room c =
    let program = c.args.machine.now.code.value in
    let can = can_at program c.args.rest.now c.loop-frame.frame-index c.frame-item.result c.requires.room.1 c.loop-frame-test.true in
    subst (λ (p : Program). CanResume p c.frame-item.result) (sym c.loop-frame.invariant.code) (subst (CanResume program) (sym c.frame-item.is) can)

pub loop-frame-preserved : goal.loop-frame-preserved
loop-frame-preserved c =
    let program = c.args.machine.now.code.value in
    let own = c.args.machine.now.own.items in
    let first = c.args.first.now in
    let rest = c.args.rest.now in
    let i = c.loop-frame.frame-index in
    let front = take i rest in
    let frame = c.frame-item.result in
    let more : take (i + 1) rest ≡ front ++ frame ∷ [] = take_more rest i frame c.loop-frame-test.true ∙ ap (λ (f : SavedFrame). front ++ f ∷ []) (sym c.frame-item.is) in
    let old = state_in c.loop-frame.machine in
    let made : state_in c.resume_within.new.machine ≡ within old (opened program frame) =
    c.resume_within.ensures.state ∙ ap (λ (p : Program). within old (opened p frame)) c.loop-frame.invariant.code in
    let all : state_in c.resume_within.new.machine ≡ going_with program own (map (opened program) (reverse (first ∷ take (i + 1) rest))) =
    made ∙ one_more program own first front frame old c.loop-frame.invariant.state ∙ ap (λ (w : List SavedFrame). going_with program own (map (opened program) (reverse (first ∷ w)))) (sym more) in
    record {
      state = all;
      count = omega (arith, c.loop-frame.invariant.count, ap (λ (s : State). length s.outer) c.resume_within.ensures.state, length-map c.loop-frame.machine.outer.values frame_of, length-map c.resume_within.new.machine.outer.values frame_of);
      code = ap (λ (s : State). s.program) c.resume_within.ensures.state ∙ c.loop-frame.invariant.code;
      roomy = c.resume_within.ensures.roomy;
    }

use Rattle.std.proofs.Common.{◌≡◌, ◌∙◌, ◌∷◌, ap, sym, subst}
use Rattle.dsm_code.specs.Programs.{Program}
use Rattle.dsm_code.specs.Machine.{State}
use Rattle.dsm_thread.specs.Resuming.{AllCanResume}
use Rattle.dsm_thread.proofs.Resumed.{can_resume}
use Rattle.dsm_thread.proofs.load.rebuild.Goals as goal

pub resume_all-requires-clause-room : goal.resume_all-requires-clause-room
resume_all-requires-clause-room c =
    let program = c.args.code.value in
    let first = c.in-Some.first.now in
    let rest = c.in-Some.rest.now in
    let same : c.in_ok-machine.machine.code.value ≡ program = ap (λ (s : State). s.program) c.in_ok-machine.ensures.state in
    let parts : c.args.saved.now.frames ≡ first ∷ rest = sym c.as_slice-in-0.ensures ∙ c.in-Some.ensures.cases.0 in
    subst (λ (p : Program). AllCanResume p (first ∷ rest)) (sym same)
    (can_resume program c.args.saved.now first rest c.in-0.is c.requires.shaped c.requires.state parts)

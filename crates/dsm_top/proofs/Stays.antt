-- Threads of a program's code want only what the program's setup has.
use Rattle.std.specs.Prelude.{◌≡◌, ℕ, true}
use Rattle.std.proofs.Common.{refl, sym, ap, ◌∙◌, arith, subst}
use Rattle.dsm_base.specs.declared.setup.Setup.{Setup}
use Rattle.dsm_base.specs.Threads.{StaysWithin}
use Rattle.dsm_base.proofs.StepsSettle.{settled_keeps}
use Rattle.dsm_check.specs.Programs.{Program}
use Rattle.dsm_check.specs.Setups.{IsSetupOf}
use Rattle.dsm_code.specs.Machine.{State, step, weight, started, first_state, code_semantics}
use Rattle.dsm_code.specs.Programs as code
use Rattle.dsm_code.specs.Valid.{is_valid}
use Rattle.dsm_code.proofs.Falls.{IsSame, step_same, step_falls}
use Rattle.dsm_code.proofs.Keeping.{ready_typed}
use Rattle.dsm_code.proofs.Within.{code_stays_within, started_typed}
use Rattle.dsm_laws_code.specs.Programs.{code_of}

-- the code of a thread stays the same before its first labelled step
first_program : (program : code.Program) (procs me : ℕ) → (first_state program procs me).program ≡ program
first_program program procs me =
    settled_keeps step weight step_falls (λ (s : State). s.program ≡ program)
    (λ s t same is. subst (IsSame s) is (step_same s) ∙ same) (started program procs me) refl

pub code_stays : (program : Program) (made : code.Program) (procs count me : ℕ) (setup : Setup) → made ≡ code_of program → is_valid made ≡ true → IsSetupOf program procs setup →
    StaysWithin setup code_semantics (first_state made count me)
code_stays program made procs count me setup is valid is_setup =
    let same = first_program made count me in
    let cells : (first_state made count me).program.cells ≡ setup.cells = ap (λ (p : code.Program). p.cells) (same ∙ is) ∙ sym is_setup.cells in
    let locks : (first_state made count me).program.locks ≡ setup.locks = ap (λ (p : code.Program). p.locks) (same ∙ is) ∙ sym is_setup.locks in
    let bars : (first_state made count me).program.bars ≡ setup.bars = ap (λ (p : code.Program). p.bars) (same ∙ is) ∙ sym is_setup.bars in
    code_stays_within setup (first_state made count me) (ready_typed (started made count me) (started_typed made count me valid)) (omega (arith, cells)) (omega (arith, locks)) (omega (arith, bars))

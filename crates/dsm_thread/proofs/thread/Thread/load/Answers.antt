use Rattle.std.proofs.Common.{◌≡◌, ◌∙◌, true, Result, Ok, Err, sym, ap, subst}
use Rattle.std.proofs.lemmas.Result.{err_from_is_err_and}
use Rattle.dsm_base.specs.declared.errors.LoadErr.{LoadErr}
use Rattle.dsm_code.specs.Programs.{Program}
use Rattle.dsm_code.specs.Machine.{State}
use Rattle.dsm_code.specs.Valid.{is_valid}
use Rattle.dsm_saved.specs.declared.saved.Saved.{Saved}
use Rattle.dsm_saved.specs.Answers.{IsAnswer, OrMemory, Spells}
use Rattle.dsm_saved.specs.States.{IsLoaded}
use Rattle.dsm_saved.proofs.Loading.{saved_state}
use Rattle.dsm_machine.specs.States.{state_in}
use Rattle.dsm_thread.proofs.Loaded.{bad_only, good_fits, good_only, restored_asks}
use Rattle.dsm_thread.proofs.thread.Thread.load.Goals as goal

abbrev refused : LoadErr → Result State LoadErr
refused e = Err e

abbrev unread : LoadErr → Result Saved LoadErr
unread e = Err e

pub returns-in_err-saved-clause-only : goal.returns-in_err-saved-clause-only
returns-in_err-saved-clause-only c =
    let program = c.args.code.value in
    let bytes = c.args.bytes.now in
    let e = c.in_err-saved.field-0.0 in
    let p = err_from_is_err_and c.from_residual.result c.from_residual.ensures.1 in
    let same : refused e ≡ c.from_residual.result = sym (p.1 ∙ ap refused p.2) in
    let only = subst (λ (q : Program). (other : Result Saved LoadErr) → IsAnswer q other bytes → OrMemory (unread e) (unread e ≡ other)) c.as_ref-2.ensures c.in_err-saved.ensures.only in
    subst (λ (r : Result State LoadErr). (other : Result State LoadErr) → IsLoaded program other bytes → OrMemory r (r ≡ other)) same (bad_only program bytes e only)

pub invariant_of-result : goal.invariant_of-result
invariant_of-result c =
    let program = c.args.code.value in
    let saved = c.in_ok-saved.saved in
    let valid : is_valid program ≡ true = subst (λ (p : Program). is_valid p ≡ true) c.as_ref.ensures c.is_valid.ensures in
    let spells = subst (λ (p : Program). Spells p c.args.bytes.now saved) c.as_ref-2.ensures c.in_ok-saved.ensures.fits in
    let is = saved_state program saved valid spells.is c.in_ok-saved.ensures.few in
    record {
      fit = c.in_ok-machine.ensures.fit;
      stands = restored_asks program saved c.in_ok-machine.machine is c.in_ok-machine.ensures.state;
      text = c.write_line.ensures;
    }

pub returns-clause-fits : goal.returns-clause-fits
returns-clause-fits c =
    let program = c.args.code.value in
    let saved = c.in_ok-saved.saved in
    let valid : is_valid program ≡ true = subst (λ (p : Program). is_valid p ≡ true) c.as_ref.ensures c.is_valid.ensures in
    let spells = subst (λ (p : Program). Spells p c.args.bytes.now saved) c.as_ref-2.ensures c.in_ok-saved.ensures.fits in
    good_fits program c.args.bytes.now saved (state_in c.in_ok-machine.machine) valid spells c.in_ok-saved.ensures.few c.in_ok-machine.ensures.state

pub returns-clause-only : goal.returns-clause-only
returns-clause-only c =
    let program = c.args.code.value in
    let bytes = c.args.bytes.now in
    let saved = c.in_ok-saved.saved in
    let only = subst (λ (p : Program). (other : Result Saved LoadErr) → IsAnswer p other bytes → OrMemory (Ok saved) (Ok saved ≡ other)) c.as_ref-2.ensures c.in_ok-saved.ensures.only in
    good_only program bytes saved (state_in c.in_ok-machine.machine) only c.in_ok-machine.ensures.state

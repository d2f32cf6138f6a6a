use Rattle.std.proofs.Common.{◌≡◌, true, subst}
use Rattle.dsm_code.specs.Valid.{is_valid}
use Rattle.dsm_saved.proofs.Loading.{saved_state, saved_cells}
use Rattle.dsm_thread.proofs.Loaded.{restored_fit}
use Rattle.dsm_thread.proofs.load.restore.Goals as goal

pub rebuild-requires-clause-state : goal.rebuild-requires-clause-state
rebuild-requires-clause-state c =
    let program = c.args.code.value in
    saved_state program c.args.saved.now (subst (λ p. is_valid p ≡ true) c.as_ref.ensures c.is_valid.ensures) c.requires.saved c.requires.few

pub rebuild-requires-clause-cells : goal.rebuild-requires-clause-cells
rebuild-requires-clause-cells c = saved_cells c.args.code.value c.args.saved.now c.requires.saved

pub returns-clause-fit : goal.returns-clause-fit
returns-clause-fit c =
    let program = c.args.code.value in
    let is = saved_state program c.args.saved.now (subst (λ p. is_valid p ≡ true) c.as_ref.ensures c.is_valid.ensures) c.requires.saved c.requires.few in
    restored_fit program c.args.saved.now c.rebuild.result is c.rebuild.ensures.state c.rebuild.ensures.roomy

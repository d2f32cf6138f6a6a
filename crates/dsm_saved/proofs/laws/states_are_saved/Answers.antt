use Rattle.dsm_saved.proofs.Saving.{saved_kept, saved_shaped, state_again}
use Rattle.dsm_saved.proofs.laws.states_are_saved.Goals as goal

pub returns : goal.returns
returns c = record { kept = saved_kept; shaped = saved_shaped; again = state_again }

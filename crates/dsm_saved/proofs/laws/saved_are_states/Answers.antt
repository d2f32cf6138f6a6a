use Rattle.dsm_saved.proofs.Loading.{saved_state, saved_again}
use Rattle.dsm_saved.proofs.laws.saved_are_states.Goals as goal

pub returns : goal.returns
returns c = record { state = saved_state; again = saved_again }

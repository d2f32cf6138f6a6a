use Rattle.dsm_net.specs.Fits.{run_of}
use Rattle.dsm_laws_runs.specs.Versions.{AllAskFirst}
use Rattle.dsm_semantics.specs.Programs.{first_states, threads_of}
use Rattle.dsm_semantics.proofs.Asking.{program_asks_first}
use Rattle.dsm_laws_protocol.proofs.OwnParts.{own_parts}
use Rattle.dsm_laws_protocol.proofs.Reaching.{hold_together}
use Rattle.dsm_laws_protocol.proofs.Waiting.{nobody_waits}
use Rattle.dsm_laws_history.proofs.Agreement.{one_memory, barrier_lines, newer_lines}
use Rattle.dsm_laws_history.proofs.Arrivals.{opens_when_all_came}
use Rattle.dsm_laws_history.proofs.Grants.{takes_granted}
use Rattle.dsm_laws_history.proofs.Handled.{desks}
use Rattle.dsm_laws_history.proofs.InPlace.{openings_are_in_place}
use Rattle.dsm_laws_history.proofs.Order.{waits_in_order}
use Rattle.dsm_top.proofs.StateTexts.{locks_told}
use Rattle.dsm_top.proofs.run.laws.Goals as goal

pub returns : goal.returns
returns c = λ program setup acts trace fits within.
    let first = first_states program setup.procs in
    let threads = threads_of program in
    let ask_first : AllAskFirst setup first threads = record { asks = λ p inside. program_asks_first program.functions program.main program.private_cells setup.procs p } in
    let newer = newer_lines setup first threads ask_first acts trace fits within in
    record {
      one_memory = one_memory setup first threads ask_first acts trace fits within;
      own_parts = own_parts setup first threads acts trace fits;
      newer_lines = newer;
      granted = takes_granted setup first threads acts trace fits;
      barrier_lines = barrier_lines setup first threads ask_first acts trace fits within;
      opens = opens_when_all_came setup first threads ask_first acts trace fits within;
      openings = openings_are_in_place setup first threads ask_first acts trace fits within;
      handled = desks setup first threads ask_first acts trace fits within;
      in_order = waits_in_order setup first threads acts trace fits;
      together = hold_together setup first threads ask_first acts trace fits within;
      not_in_vain = nobody_waits setup first threads acts trace fits;
      locks_told = locks_told setup first threads (run_of setup first threads fits.done).net trace newer;
    }

use Rattle.std.proofs.Common.{◌≡◌, ℕ, length, map}
use Rattle.std.specs.List.{All}
use Rattle.dsm_base.specs.Family.{family_of}
use Rattle.dsm_check.specs.CheckedViews.{program_of}
use Rattle.dsm_semantics.specs.Programs.{first_states}
use Rattle.dsm_interpreter.specs.Threads.{state_of}
use Rattle.dsm_plain.specs.Machine.{IsThreadOf}
use Rattle.dsm_plain.proofs.start.start_threads.Given as goal

abbrev pub invariant-loop-me : goal.invariant-loop-me
invariant-loop-me l = record {
  count : length l.threads.items ≡ l.me;
  states : (i : ℕ) → family_of (first_states (program_of l.checked) l.procs) (map state_of l.threads.items) i ≡ first_states (program_of l.checked) l.procs i;
  ready : All (IsThreadOf (program_of l.checked)) l.threads.items;
}

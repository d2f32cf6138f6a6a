-- How threads come to be over.
use Rattle.std.specs.Prelude.{ℕ, Bool, true, false, if◌then◌else◌, List, [], ◌∷◌, Option, Some, None, is_some}
use Rattle.dsm_base.specs.declared.finished.Finished.{Finished}
use Rattle.dsm_base.specs.declared.label.Ending.{Ending}
use Rattle.dsm_base.specs.declared.label.Label.{Label}
use Rattle.dsm_base.specs.Family.{update, all_below}
use Rattle.dsm_base.specs.Plain.{Turn}

-- how a thread came to be over, after one more label
abbrev pub ending_after : Option Ending → Label → Option Ending
ending_after ending Label.End = Some Ending.Ended
ending_after ending (Label.Stop fault line) = Some Ending.Stopped
ending_after ending _ = ending

-- how each thread came to be over in a run
abbrev pub endings_of : List Turn → ℕ → Option Ending
endings_of [] = λ p. None
endings_of (turn ∷ before) =
    update (endings_of before) turn.proc (ending_after (endings_of before turn.proc) turn.label)

-- whether a thread came to its end, not to a stop
abbrev pub is_ended : Option Ending → Bool
is_ended None = false
is_ended (Some Ending.Ended) = true
is_ended (Some Ending.Stopped) = false

-- done where each thread has ended, stopped where each has ended or stopped, and else unfinished
abbrev pub finished_where : Bool → Bool → Finished
finished_where all_ended all_over =
    if all_ended then Finished.Done else (if all_over then Finished.Stopped else Finished.Unfinished)

-- how far the threads of so many processors have come
abbrev pub finished_by : ℕ → (ℕ → Option Ending) → Finished
finished_by procs endings =
    finished_where (all_below procs (λ p. is_ended (endings p))) (all_below procs (λ p. is_some (endings p)))

-- What the reports of the others answer to a processor that makes its turns again.
use Rattle.std.specs.Prelude.{ℕ, ◌%◌, ◌-◌, Bool, not, ◌||◌, ◌&&◌, ◌==◌, if◌then◌else◌, List, [], Option, Some, None, is_some, option_map, max}
use Rattle.std.specs.Option.{option_or, option_and_then, unwrap_or}
use Rattle.dsm_base.specs.Family.{all_below}
use Rattle.dsm_lines.specs.declared.list.Line.{Line}
use Rattle.dsm_msg.specs.declared.message.Report.{Report}
use Rattle.dsm_barrier.specs.BarrierStates.{lines_of_others}
use Rattle.dsm_replay.specs.declared.replay.Input.{Input}
use Rattle.dsm_replay.specs.declared.replay.Waited.{Waited}
use Rattle.dsm_replay.specs.Reports.{version_granted, version_recorded, epoch_opened, lines_made, lines_arrived, first_told}
use Rattle.dsm_replay.specs.Newest.{newest_lines}

-- the turn up to which turns are made again: of the image, of what others have seen, of what is out
abbrev pub replay_bound : ℕ → ℕ → ℕ → ℕ
replay_bound image_turn seen printed = max image_turn (max seen printed)

-- who makes its turns again, how many processors there are, and the reports of the others by processor
pub record Told : Type 0 where
  pub me : ℕ
  pub procs : ℕ
  pub reports : ℕ → Option Report

-- the version for a take: of the first grant for the turn, or else of the first record of it
abbrev pub version_told : Told → ℕ → ℕ → Option ℕ
version_told told turn lock =
    option_or (first_told told.procs told.reports (version_granted turn lock))
    (first_told told.procs told.reports (version_recorded turn lock))

-- whether the reports of all others have the arrival that ends this epoch of a barrier
abbrev pub have_all_arrived : Told → ℕ → ℕ → Bool
have_all_arrived told bar ended = all_below told.procs
    (λ q. (q == told.me) || is_some (option_and_then (lines_arrived bar ended) (told.reports q)))

-- whether a barrier is managed here and all others have come to it in the epoch before this one
abbrev pub is_open : Told → ℕ → ℕ → Bool
is_open told bar epoch =
    not (epoch == 0) && (((bar % told.procs) == told.me) && have_all_arrived told bar (epoch - 1))

-- the epoch for a crossing: of the first opening for the turn, or else the one that all others have ended the epoch before
abbrev pub epoch_told : Told → ℕ → ℕ → ℕ → Option ℕ
epoch_told told turn bar epoch =
    option_or (first_told told.procs told.reports (epoch_opened turn bar))
    (if is_open told bar epoch then Some epoch else None)

-- what answers a take or a crossing that waits in a turn
abbrev pub input_told : Told → ℕ → Waited → Option Input
input_told told turn (Waited.Take lock mode) =
    option_map (λ version. Input.Take lock version) (version_told told turn lock.0)
input_told told turn (Waited.Cross bar epoch) =
    option_map (λ new. Input.Cross bar new) (epoch_told told turn bar.0 epoch)

-- the lines of a version of a lock, as the first report has them that has that version
abbrev pub lines_of_version : Told → ℕ → ℕ → List Line
lines_of_version told lock version =
    unwrap_or (first_told told.procs told.reports (lines_made lock version)) []

-- the lines that a processor brought to a barrier with its arrival before this epoch
abbrev pub lines_brought : Told → ℕ → ℕ → ℕ → List Line
lines_brought told bar epoch q =
    if epoch == 0 then [] else unwrap_or (option_and_then (lines_arrived bar (epoch - 1)) (told.reports q)) []

-- the lines that an answer brings: of the versions that the own copy doesn't have; or of the others' arrivals
abbrev pub lines_told : Told → Input → ℕ → List Line
lines_told told (Input.Take lock version) «have» =
    newest_lines (lines_of_version told lock.0) «have» version
lines_told told (Input.Cross bar epoch) «have» =
    lines_of_others (lines_brought told bar.0 epoch) told.procs told.me

-- What one report has of a turn, of a version and of an epoch.
use Rattle.std.specs.Prelude.{ℕ, zero, suc, ◌&&◌, ◌==◌, List, Option, None, option_map, find}
use Rattle.std.specs.Option.{option_or, option_and_then}
use Rattle.dsm_lines.specs.declared.list.Line.{Line}
use Rattle.dsm_msg.specs.declared.message.Report.{Report}

-- the version of the first grant of a lock for a turn
abbrev pub version_granted : ℕ → ℕ → Report → Option ℕ
version_granted turn lock report =
    option_map (λ grant. grant.version)
    (find (λ grant. (grant.turn == turn) && (grant.lock.0 == lock)) report.grants)

-- the version of the first record of a lock of a turn
abbrev pub version_recorded : ℕ → ℕ → Report → Option ℕ
version_recorded turn lock report =
    option_map (λ taken. taken.version)
    (find (λ taken. (taken.turn == turn) && (taken.lock.0 == lock)) report.records)

-- the epoch of the first opening of a barrier for a turn
abbrev pub epoch_opened : ℕ → ℕ → Report → Option ℕ
epoch_opened turn bar report =
    option_map (λ opening. opening.epoch)
    (find (λ opening. (opening.turn == turn) && (opening.bar.0 == bar)) report.openings)

-- the lines with which the sender made a version of a lock
abbrev pub lines_made : ℕ → ℕ → Report → Option (List Line)
lines_made lock version report =
    option_map (λ made. made.lines)
    (find (λ made. (made.version == version) && (made.lock.0 == lock)) report.versions)

-- the lines that the sender's arrival brought, which ended this epoch of a barrier
abbrev pub lines_arrived : ℕ → ℕ → Report → Option (List Line)
lines_arrived bar ended report =
    option_map (λ arrival. arrival.lines)
    (find (λ arrival. (arrival.epoch == ended) && (arrival.bar.0 == bar)) report.arrivals)

-- the first answer of the processors below a number, in order
abbrev pub first_below : {A : Type 0} → ℕ → (ℕ → Option A) → Option A
first_below zero answer = None
first_below (suc n) answer = option_or (first_below n answer) (answer n)

-- the first answer of the reports of so many processors, in order
abbrev pub first_told : {A : Type 0} → ℕ → (ℕ → Option Report) → (Report → Option A) → Option A
first_told procs reports answer = first_below procs (λ q. option_and_then answer (reports q))

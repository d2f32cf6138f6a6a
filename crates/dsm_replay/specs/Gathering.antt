-- Which reports have come, and what one more makes of them.
use Rattle.std.specs.Prelude.{ℕ, Bool, ◌||◌, ◌==◌, if◌then◌else◌, Option, Some, None, is_some, max}
use Rattle.dsm_base.specs.Family.{update, all_below, family_of}
use Rattle.dsm_msg.specs.declared.message.Report.{Report}
use Rattle.dsm_replay.specs.declared.gather.Gather.{Gather}

-- the reports by processor, and the greatest number of own turns that they tell to have been seen
pub record Gathered : Type 0 where
  pub reports : ℕ → Option Report
  pub seen : ℕ

-- no report has come
abbrev pub none_gathered : Gathered
none_gathered = record { reports = λ q. None; seen = 0 }

-- with one more report; one of its own, or a second one of a processor, changes nothing
abbrev pub gathered_with : ℕ → Gathered → ℕ → ℕ → Report → Gathered
gathered_with me before from seen report =
    if (from == me) || is_some (before.reports from)
    then before
    else record { reports = update before.reports from (Some report); seen = max before.seen seen }

-- whether the reports of all others have come
abbrev pub have_all_told : ℕ → ℕ → Gathered → Bool
have_all_told procs me gathered = all_below procs (λ q. (q == me) || is_some (gathered.reports q))

-- what has come to a processor that gathers
abbrev pub gathered_by : Gather → Gathered
gathered_by gather = record { reports = family_of (λ q. None) gather.reports.items; seen = gather.seen }

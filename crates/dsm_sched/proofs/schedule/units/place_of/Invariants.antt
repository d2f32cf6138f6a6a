use Rattle.std.proofs.Common.{◌-◌, ◌<◌, ◌≤◌, ℕ, length, get_or}
use Rattle.dsm_sched.proofs.schedule.units.place_of.Given as goal

-- the place is between the two
abbrev pub invariant-places : goal.invariant-places
invariant-places l = record {
  ordered : l.low ≤ l.high;
  within : l.high ≤ length l.ends;
  passed : (k : ℕ) → k < l.low → get_or l.ends k 0 ≤ l.index;
  ahead : (k : ℕ) → l.high ≤ k → k < length l.ends → l.index < get_or l.ends k 0;
}

abbrev pub decreases-places : goal.decreases-places
decreases-places l = l.high - l.low

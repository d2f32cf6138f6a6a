use Rattle.std.proofs.Common.{◌≡◌, length}
use Rattle.dsm_sched.specs.Words.{rows_left}
use Rattle.dsm_sched.proofs.rows.Rows.next.Given as goal

-- no row was passed over
abbrev pub invariant-lines : goal.invariant-lines
invariant-lines l = rows_left l.self ≡ rows_left l.fn.self

abbrev pub decreases-lines : goal.decreases-lines
decreases-lines l = length l.self.text

use Rattle.std.proofs.Common.{◌≡◌, drop}
use Rattle.dsm_state.specs.Stops.{stop_after}
use Rattle.dsm_state.proofs.stop.stop_after.Given as goal

-- the records that are left leave what all do
abbrev pub invariant-loop-record : goal.invariant-loop-record
invariant-loop-record l =
    stop_after l.proc.0 l.stop (drop l.record-index l.records) ≡ stop_after l.proc.0 l.fn.before l.records

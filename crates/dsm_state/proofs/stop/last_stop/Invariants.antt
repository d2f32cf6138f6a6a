use Rattle.std.proofs.Common.{◌≡◌, drop}
use Rattle.dsm_state.specs.Stops.{last_stop}
use Rattle.dsm_state.proofs.stop.last_stop.Given as goal

-- the groups that are left leave what all do
abbrev pub invariant-loop-group : goal.invariant-loop-group
invariant-loop-group l =
    last_stop l.proc.0 l.stop (drop l.group-index l.groups) ≡ last_stop l.proc.0 l.fn.before l.groups

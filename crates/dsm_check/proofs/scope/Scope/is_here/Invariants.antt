use Rattle.std.proofs.Common.{◌≡◌, map, reverse, take}
use Rattle.dsm_check.specs.Environments.{is_here}
use Rattle.dsm_check.specs.BodyTables.{entry_of}
use Rattle.dsm_check.proofs.scope.Scope.is_here.Given as goal

abbrev pub invariant-loop-known : goal.invariant-loop-known
invariant-loop-known l = l.here ≡ is_here (map entry_of (reverse (take l.known-index l.oldest_first))) l.name

use Rattle.std.proofs.Common.{◌≡◌, ◌≤◌, length}
use Rattle.dsm_check.specs.Environments.{closed}
use Rattle.dsm_check.specs.BodyTables.{scope_of, blocks_in}
use Rattle.dsm_check.proofs.scope.Scope.close.Given as goal

abbrev pub invariant-loop-known : goal.invariant-loop-known
invariant-loop-known l =
    (1 ≤ blocks_in l.self.locals)
    × (blocks_in l.self.locals ≡ blocks_in l.initial.self.locals)
    × (record (scope_of l.self) { names = closed (scope_of l.self).names }
    ≡ record (scope_of l.initial.self) { names = closed (scope_of l.initial.self).names })

abbrev pub decreases-loop-known : goal.decreases-loop-known
decreases-loop-known l = length l.self.locals

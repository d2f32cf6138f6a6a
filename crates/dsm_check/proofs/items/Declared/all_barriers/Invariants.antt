use Rattle.std.proofs.Common.{◌≡◌, drop}
use Rattle.dsm_check.specs.Checks.{each}
use Rattle.dsm_check.specs.FileNames.{with_barrier}
use Rattle.dsm_check.specs.FileTables.{names_of, AreCounted}
use Rattle.dsm_check.proofs.items.Declared.all_barriers.Given as goal

abbrev pub invariant-loop-barrier : goal.invariant-loop-barrier
invariant-loop-barrier l =
    AreCounted l.self
    × (each with_barrier (names_of l.initial.self.names) l.barriers ≡ each with_barrier (names_of l.self.names) (drop l.barrier-index l.barriers))

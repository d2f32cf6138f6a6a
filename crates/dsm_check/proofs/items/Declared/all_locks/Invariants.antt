use Rattle.std.proofs.Common.{◌≡◌, drop}
use Rattle.dsm_check.specs.Checks.{each}
use Rattle.dsm_check.specs.FileNames.{with_locks}
use Rattle.dsm_check.specs.FileTables.{names_of, AreCounted}
use Rattle.dsm_check.proofs.items.Declared.all_locks.Given as goal

abbrev pub invariant-loop-lock : goal.invariant-loop-lock
invariant-loop-lock l =
    AreCounted l.self
    × (each with_locks (names_of l.initial.self.names) l.locks ≡ each with_locks (names_of l.self.names) (drop l.lock-index l.locks))

use Rattle.std.proofs.Common.{◌≡◌, ◌++◌, map, reverse, take}
use Rattle.dsm_check.specs.Environments.{meaning}
use Rattle.dsm_check.specs.FileTables.{names_of}
use Rattle.dsm_check.specs.BodyTables.{entry_of}
use Rattle.dsm_check.proofs.scope.Scope.meaning.Given as goal

abbrev pub invariant-loop-known : goal.invariant-loop-known
invariant-loop-known l =
    l.found ≡ meaning (map entry_of (reverse (take l.known-index l.oldest_first)) ++ names_of l.self.file.now) l.name

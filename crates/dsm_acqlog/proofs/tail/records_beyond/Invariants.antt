use Rattle.std.proofs.Common.{◌≡◌, ◌++◌, drop}
use Rattle.dsm_acqlog.specs.Tails.{beyond}
use Rattle.dsm_acqlog.proofs.tail.records_beyond.Given as goal

abbrev pub invariant-loop-taken : goal.invariant-loop-taken
invariant-loop-taken l = l.left ++ beyond l.known (drop l.taken-index l.records) ≡ beyond l.known l.records

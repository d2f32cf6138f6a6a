use Rattle.std.proofs.Common.{◌≡◌, length}
use Rattle.dsm_segments.specs.Entries.{behind}
use Rattle.dsm_segments.specs.Chains.{entries_of}
use Rattle.dsm_segments.specs.Sound.{Changes}
use Rattle.dsm_segments.proofs.chain.prune.Given as goal

abbrev pub invariant-loop-keys : goal.invariant-loop-keys
invariant-loop-keys g l =
    record {
      changes : Changes l.owner l.fn.slab l.slab l.keys;
      entries : behind g.T.Numbered.log_number l.upto (entries_of l.slab l.keys) ≡ behind g.T.Numbered.log_number l.upto (entries_of l.fn.slab l.fn.keys);
    }

abbrev pub decreases-loop-keys : goal.decreases-loop-keys
decreases-loop-keys g l = length l.keys

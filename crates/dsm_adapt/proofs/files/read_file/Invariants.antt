use Rattle.std.proofs.Common.{◌≡◌, ◌+◌, ◌++◌, List, ℕ, length}
use Rattle.dsm_adapt.proofs.files.read_file.Given as goal

-- what was read so far, and how much is still wanted
abbrev pub invariant-loop-file : goal.invariant-loop-file
invariant-loop-file g l = (bytes : List ℕ) × (l.into.items ≡ l.fn.into.items ++ bytes) × (length bytes + l.left ≡ l.most)

abbrev pub decreases-loop-file : goal.decreases-loop-file
decreases-loop-file g l = l.left

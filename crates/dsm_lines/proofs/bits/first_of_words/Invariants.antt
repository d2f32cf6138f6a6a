use Rattle.std.proofs.Common.{◌≡◌, ℕ, ◌*◌, ◌<◌, ◌≤◌, false}
use Rattle.dsm_lines.specs.Bits.{is_bit}
use Rattle.dsm_lines.proofs.bits.first_of_words.Given as goal

-- none is set in the words gone over
abbrev pub invariant-loop-at : goal.invariant-loop-at
invariant-loop-at l = (at : ℕ) → 64 * l.from ≤ at → at < 64 * l.at → is_bit l.words at ≡ false

-- Pieces one after the other.
use Rattle.std.proofs.Common.{◌≡◌, ℕ, zero, suc, ◌+◌, ◌-◌, ◌*◌, ◌<◌, ◌≤◌, ap, ◌∙◌, add_comm, arith}
use Rattle.std.proofs.Math.Nat.{suc-mul}

-- of what is left at a turn, one is for this turn
pub one_more : (size turn count : ℕ) → turn < size → (size - turn) * count ≡ count + (size - (turn + 1)) * count
one_more size turn count h =
    let same : size - turn ≡ suc (size - (turn + 1)) = omega arith in
    ap (λ n. n * count) same ∙ suc-mul (size - (turn + 1)) count ∙ add_comm ((size - (turn + 1)) * count) count

pub one_length : (size count : ℕ) → 0 < size → count ≤ size * count
one_length zero count h = absurd (omega (arith, h))
one_length (suc n) count h = omega (arith, suc-mul n count)

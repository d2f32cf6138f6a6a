-- What operators come to: a value of 64 bits, or a fault.
use Rattle.std.specs.Prelude.{ℕ, ◌^◌, nat_lt, ℤ, pos, negsuc, ◌+ℤ◌, ◌-ℤ◌, ◌*ℤ◌, neg_ℤ, int_lt, int_le, int_div, Bool, ◌&&◌, ◌||◌, not, if◌then◌else◌, Result, Ok, Err}
use Rattle.std.specs.Ordering.{int_eq}
use Rattle.std.specs.Int.{w64, int_bit_and, int_bit_or, int_bit_xor, int_bit_not, int_shr}
use Rattle.dsm_base.specs.declared.names.Fault.{Fault}
use Rattle.dsm_syntax.specs.declared.tree.UnaryOp.{UnaryOp}
use Rattle.dsm_syntax.specs.declared.tree.StepOp.{StepOp}
use Rattle.dsm_syntax.specs.declared.tree.BinaryOp.{BinaryOp}

-- what an operator comes to: a value, or a fault
abbrev pub Outcome : Type 0
Outcome = Result ℤ Fault

-- whether a number lies from -2^63 to 2^63 - 1
abbrev pub fits_64_bits : ℤ → Bool
fits_64_bits (pos n) = nat_lt n (2 ^ 63)
fits_64_bits (negsuc n) = nat_lt n (2 ^ 63)

-- a value that fits 64 bits, and else an overflow
abbrev pub fitting : ℤ → Outcome
fitting z = if fits_64_bits z then Ok z else Err Fault.Overflow

-- a condition holds where it isn't 0
abbrev pub holds : ℤ → Bool
holds z = not (int_eq z (pos 0))

-- a test as a value
abbrev pub truth : Bool → ℤ
truth b = if b then pos 1 else pos 0

-- a divisor must not be 0
abbrev pub unless_zero : ℤ → Outcome → Outcome
unless_zero divisor outcome = if int_eq divisor (pos 0) then Err Fault.DivZero else outcome

-- `a - (a / b) * b`, where the quotient fits
abbrev pub remainder : ℤ → ℤ → Outcome
remainder a b = if fits_64_bits (int_div a b) then Ok (a -ℤ int_div a b *ℤ b) else Err Fault.Overflow

-- a shift goes by 0 to 63
abbrev pub shifted : (ℕ → Outcome) → ℤ → Outcome
shifted by (pos n) = if nat_lt n 64 then by n else Err Fault.Shift
shifted by (negsuc n) = Err Fault.Shift

-- an operator before its operand
abbrev pub unary_value : UnaryOp → ℤ → Outcome
unary_value UnaryOp.Negate a = fitting (neg_ℤ a)
unary_value UnaryOp.Plus a = Ok a
unary_value UnaryOp.Not a = Ok (truth (not (holds a)))
unary_value UnaryOp.Complement a = Ok (int_bit_not w64 a)

-- a step by one
abbrev pub step_value : StepOp → ℤ → Outcome
step_value StepOp.Increment a = fitting (a +ℤ pos 1)
step_value StepOp.Decrement a = fitting (a -ℤ pos 1)

-- division rounds toward zero, and a shift to the right rounds down; the bits of a number are those of its two's complement
abbrev pub binary_value : BinaryOp → ℤ → ℤ → Outcome
binary_value BinaryOp.Times a b = fitting (a *ℤ b)
binary_value BinaryOp.Divide a b = unless_zero b (fitting (int_div a b))
binary_value BinaryOp.Remainder a b = unless_zero b (remainder a b)
binary_value BinaryOp.Plus a b = fitting (a +ℤ b)
binary_value BinaryOp.Minus a b = fitting (a -ℤ b)
binary_value BinaryOp.ShiftLeft a b = shifted (λ n. fitting (a *ℤ pos (2 ^ n))) b
binary_value BinaryOp.ShiftRight a b = shifted (λ n. Ok (int_shr a n)) b
binary_value BinaryOp.Less a b = Ok (truth (int_lt a b))
binary_value BinaryOp.LessEqual a b = Ok (truth (int_le a b))
binary_value BinaryOp.Greater a b = Ok (truth (int_lt b a))
binary_value BinaryOp.GreaterEqual a b = Ok (truth (int_le b a))
binary_value BinaryOp.Equal a b = Ok (truth (int_eq a b))
binary_value BinaryOp.NotEqual a b = Ok (truth (not (int_eq a b)))
binary_value BinaryOp.BitAnd a b = Ok (int_bit_and w64 a b)
binary_value BinaryOp.BitXor a b = Ok (int_bit_xor w64 a b)
binary_value BinaryOp.BitOr a b = Ok (int_bit_or w64 a b)
binary_value BinaryOp.And a b = Ok (truth (holds a && holds b))
binary_value BinaryOp.Or a b = Ok (truth (holds a || holds b))

-- Numbers of operands, and lists of items that find theirs.
use Rattle.std.proofs.Common.{◌≡◌, ℕ, ◌+◌, ◌-◌, ◌≤◌, ℤ, pos, true, false, List, [], ◌∷◌, length, refl, ◌∙◌, subst, arith, take}
use Rattle.std.specs.Prelude.{IsTrue, reverse, replicate}
use Rattle.std.proofs.lemmas.Bool.{false≢true}
use Rattle.std.proofs.lemmas.List.{length-append, length-take-le, length-reverse, length-replicate}
use Rattle.dsm_check.specs.Resolved as r
use Rattle.dsm_check.specs.Programs.{Program}
use Rattle.dsm_semantics.specs.States.{LockPlace, one_lock, lock_member, Use, for_value, for_change, for_step_behind, Item, third_part, below}
use Rattle.dsm_semantics.specs.Semantics.{loaded, below_index, new_slots, after_loop, after_body}
use Rattle.dsm_laws_language.specs.States.{lock_index_count, loaded_count, takes, gives, is_outermost, has_loop, is_closed_item, AreClosed}

pub never : {A : Type 0} → IsTrue false → A
never h = absurd (false≢true h)

pub below_length : (operands : List ℤ) (rest : ℕ) → length operands ≡ rest + 1 → length (below operands) ≡ rest
below_length [] rest h = omega (arith, h)
below_length (v ∷ operands) rest h = omega (arith, h)

pub below_below_length : (operands : List ℤ) (rest : ℕ) → length operands ≡ rest + 2 → length (below (below operands)) ≡ rest
below_below_length operands rest h =
    let once : length operands ≡ (rest + 1) + 1 = omega (arith, h) in
    below_length (below operands) rest (below_length operands (rest + 1) once)

pub below_index_length : (lock : LockPlace) (operands : List ℤ) → length operands ≡ lock_index_count lock → length (below_index lock operands) ≡ 0
below_index_length (one_lock lock line) operands h = h
below_index_length (lock_member array line) operands h = below_length operands 0 h

pub loaded_length : (way : Use) (index rest : List ℤ) (value : ℤ) → length (loaded way index rest value) ≡ length rest + loaded_count way (length index)
loaded_length for_value index rest value = omega arith
loaded_length for_change index rest value = omega (arith, length-append index rest)
loaded_length for_step_behind index rest value = omega (arith, length-append index (value ∷ rest))

-- a function that is entered has its slots
pub slots_length : (function : r.Function) (arguments : List ℤ) → length arguments ≤ function.slots → length (new_slots function arguments) ≡ function.slots
slots_length function arguments few =
    omega (arith, few, length-append arguments (replicate (function.slots - length arguments) (pos 0)), length-replicate (function.slots - length arguments) (pos 0))

pub arguments_length : (count : ℕ) (operands : List ℤ) → count ≤ length operands → length (reverse (take count operands)) ≡ count
arguments_length count operands enough = length-reverse (take count operands) ∙ length-take-le count operands enough

module _ (program : Program) (slots : ℕ) where
  pub at_depth : (a b : ℕ) (k : List Item) → a ≡ b → AreClosed program slots a k → AreClosed program slots b k
  at_depth a b k same closed = subst (λ depth. AreClosed program slots depth k) same closed

  -- an item before others
  pub put : (item : Item) (k : List Item) (depth rest after : ℕ) → depth ≡ rest + takes program item → after ≡ rest + gives item
      → (IsTrue (is_outermost item) → rest ≡ 0) → IsTrue (is_closed_item program slots (has_loop k) item) → AreClosed program slots after k
      → AreClosed program slots depth (item ∷ k)
  put item k depth rest after before behind outermost closed done =
      (rest, record { operands = before; outermost = outermost }, closed, at_depth after (rest + gives item) k behind done)

  -- what follows the innermost loop, and what follows its body
  pub after_loop_closed : (k : List Item) (depth : ℕ) → has_loop k ≡ true → AreClosed program slots depth k → AreClosed program slots 0 (after_loop k)
  after_loop_closed [] depth h closed = never h
  after_loop_closed (third_part loop ∷ k) depth h closed = at_depth _ 0 k (omega (arith, closed.1.outermost refl)) closed.3
  after_loop_closed (item ∷ k) depth h closed = after_loop_closed k _ h closed.3

  pub after_body_closed : (k : List Item) (depth : ℕ) → has_loop k ≡ true → AreClosed program slots depth k → AreClosed program slots 0 (after_body k)
  after_body_closed [] depth h closed = never h
  after_body_closed (third_part loop ∷ k) depth h closed =
      at_depth depth 0 (third_part loop ∷ k) (omega (arith, closed.1.operands, closed.1.outermost refl)) closed
  after_body_closed (item ∷ k) depth h closed = after_body_closed k _ h closed.3

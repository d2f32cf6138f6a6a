-- How many operands instructions leave, and which numbers they name.
use Rattle.std.proofs.Common.{◌≡◌, ℕ, ◌+◌, ◌-◌, ◌<◌, ◌≤◌, ℤ, pos, negsuc, true, List, [], ◌∷◌, length, take, Some, refl, sym, ap, ◌∙◌, arith, length-append}
use Rattle.std.specs.Prelude.{◌==◌, nat_lt, replicate, reverse}
use Rattle.std.proofs.lemmas.Bool.{and_parts, ltb-true, eqb-true}
use Rattle.std.proofs.lemmas.Option.{cond_some, same_Some}
use Rattle.std.proofs.lemmas.List.{length-reverse, length-take, length-replicate}
use Rattle.dsm_base.specs.declared.names.Bar.{Bar}
use Rattle.dsm_base.specs.declared.names.Mode.{Mode}
use Rattle.dsm_code.specs.declared.instruction.Array.{Array}
use Rattle.dsm_code.specs.declared.instruction.Target.{Target}
use Rattle.dsm_code.specs.declared.instruction.Use.{Use}
use Rattle.dsm_code.specs.declared.instruction.Instr.{Instr}
use Rattle.dsm_code.specs.Instructions.{below, number_at, index_count, index_of, below_index, loaded, loaded_count, stored, is_below, same_target, same_mode, is_take, is_cross}
use Rattle.dsm_code.specs.Programs.{Function}
use Rattle.dsm_code.specs.Machine.{new_slots}

pub below_length : (values : List ℤ) → length (below values) ≡ length values - 1
below_length [] = refl
below_length (v ∷ rest) = omega arith

pub below_index_length : (target : Target) (operands : List ℤ) → length (below_index target operands) ≡ length operands - index_count target
below_index_length (Target.One number) operands = omega arith
below_index_length (Target.Member array) operands = below_length operands

pub loaded_length : (way : Use) (target : Target) (operands : List ℤ) (value : ℤ)
    → length (loaded way (index_of target operands) (below_index target operands) value) ≡ length operands - index_count target + loaded_count way (index_count target)
loaded_length Use.Value (Target.One number) operands value = omega arith
loaded_length Use.Value (Target.Member array) operands value = omega (arith, below_length operands)
loaded_length Use.Change (Target.One number) operands value = omega arith
loaded_length Use.Change (Target.Member array) operands value = omega (arith, below_length operands)
loaded_length Use.StepBehind (Target.One number) operands value = omega arith
loaded_length Use.StepBehind (Target.Member array) operands value = omega (arith, below_length operands)

-- of a slot
pub loaded_slot_length : (way : Use) (operands : List ℤ) (value : ℤ) → length (loaded way [] operands value) ≡ length operands - 0 + loaded_count way 0
loaded_slot_length Use.Value operands value = omega arith
loaded_slot_length Use.Change operands value = omega arith
loaded_slot_length Use.StepBehind operands value = omega arith

pub stored_length : (target : Target) (operands : List ℤ) → 1 + index_count target ≤ length operands
    → length (stored target operands) ≡ length operands - (1 + index_count target) + 1
stored_length (Target.One number) operands enough = omega (arith, enough)
stored_length (Target.Member array) operands enough = omega (arith, enough, below_length operands, below_length (below operands))

pub slots_length : (f : Function) (arguments : List ℤ) → length arguments ≤ f.slots → length (new_slots f arguments) ≡ f.slots
slots_length f arguments few =
    omega (arith, length-append arguments (replicate (f.slots - length arguments) (pos 0)), length-replicate (f.slots - length arguments) (pos 0))

pub arguments_length : (count : ℕ) (operands : List ℤ) → count ≤ length operands → length (reverse (take count operands)) ≡ count
arguments_length count operands enough = length-reverse (take count operands) ∙ omega (arith, length-take count operands, enough)

-- a number that is found is below the bound
member_below : (bound : ℕ) (array : Array) (index : ℤ) (number : ℕ) → array.first + array.size < bound + 1 → number_at (Target.Member array) index ≡ Some number → number < bound
member_below bound array (pos i) number within is =
    let found = cond_some (nat_lt i array.size) (array.first + i) number is in
    omega (arith, within, ltb-true i array.size found.0, found.1)
member_below bound array (negsuc i) number within is = cc (is)

pub number_below : (bound : ℕ) (target : Target) (index : ℤ) (number : ℕ) → is_below bound target ≡ true → number_at target index ≡ Some number → number < bound
number_below bound (Target.One n) index number within is = omega (arith, ltb-true n bound within, same_Some n number is)
number_below bound (Target.Member array) index number within is = member_below bound array index number (ltb-true (array.first + array.size) (bound + 1) within) is

-- Targets, modes and instructions that are one.

same_arrays : (a b : Array) → (a.first ≡ b.first) → a.size ≡ b.size → a ≡ b
same_arrays a b first size i = record { first = first i; size = size i }

pub same_targets : (a b : Target) → same_target a b ≡ true → a ≡ b
same_targets (Target.One a) (Target.One b) h = ap Target.One (eqb-true a b h)
same_targets (Target.One a) (Target.Member b) h = cc (h)
same_targets (Target.Member a) (Target.One b) h = cc (h)
same_targets (Target.Member a) (Target.Member b) h =
    let both = and_parts (a.first == b.first) (a.size == b.size) h in
    ap Target.Member (same_arrays a b (eqb-true a.first b.first both.0) (eqb-true a.size b.size both.1))

pub same_modes : (a b : Mode) → same_mode a b ≡ true → a ≡ b
same_modes Mode.Shared Mode.Shared h = refl
same_modes Mode.Shared Mode.Excl h = cc (h)
same_modes Mode.Excl Mode.Shared h = cc (h)
same_modes Mode.Excl Mode.Excl h = refl

pub take_is : (target : Target) (mode : Mode) (i : Instr) → is_take target mode i ≡ true → (line : ℕ) × (i ≡ Instr.Take target mode line)
take_is target mode (Instr.Take other way line) h =
    let both = and_parts (same_target target other) (same_mode mode way) h in
    let one : other ≡ target = sym (same_targets target other both.0) in
    let how : way ≡ mode = sym (same_modes mode way both.1) in
    (line, ap (λ t. Instr.Take t way line) one ∙ ap (λ m. Instr.Take target m line) how)
take_is target mode _ h = cc (h)

same_bars : (a b : Bar) → a.0 ≡ b.0 → a ≡ b
same_bars a b same i = record { 0 = same i }

pub cross_is : (bar : Bar) (i : Instr) → is_cross bar i ≡ true → i ≡ Instr.Cross bar
cross_is bar (Instr.Cross other) h = ap Instr.Cross (sym (same_bars bar other (eqb-true bar.0 other.0 h)))
cross_is bar _ h = cc (h)

-- What instructions name, and what loads and stores leave of the operands.
use Rattle.std.specs.Prelude.{ℕ, ◌+◌, ◌==◌, nat_lt, ℤ, pos, negsuc, Bool, true, false, ◌&&◌, if◌then◌else◌, List, [], ◌∷◌, ◌++◌, Option, Some, None}
use Rattle.dsm_base.specs.declared.names.Bar.{Bar}
use Rattle.dsm_base.specs.declared.names.Mode.{Mode}
use Rattle.dsm_code.specs.declared.instruction.Array.{Array}
use Rattle.dsm_code.specs.declared.instruction.Target.{Target}
use Rattle.dsm_code.specs.declared.instruction.Use.{Use}
use Rattle.dsm_code.specs.declared.instruction.Instr.{Instr}

-- the value on top, and the values below it; where there is none, which never comes, it counts as 0
abbrev pub top : List ℤ → ℤ
top [] = pos 0
top (value ∷ rest) = value

abbrev pub below : List ℤ → List ℤ
below [] = []
below (value ∷ rest) = rest

-- the number of an array's member, where the index is one of the array's
abbrev pub member_number : Array → ℤ → Option ℕ
member_number array (pos i) = if nat_lt i array.size then Some (array.first + i) else None
member_number array (negsuc i) = None

-- the number of what is named: of an array's member by its index, where that is one of the array's
abbrev pub number_at : Target → ℤ → Option ℕ
number_at (Target.One number) index = Some number
number_at (Target.Member array) index = member_number array index

-- how many operands name it
abbrev pub index_count : Target → ℕ
index_count (Target.One number) = 0
index_count (Target.Member array) = 1

-- the index on top, if there is one
abbrev pub index_of : Target → List ℤ → List ℤ
index_of (Target.One number) operands = []
index_of (Target.Member array) operands = top operands ∷ []

-- the operands below the index, if there is one
abbrev pub below_index : Target → List ℤ → List ℤ
below_index (Target.One number) operands = operands
below_index (Target.Member array) operands = below operands

-- the operands that a load leaves; those before it were the index, if any, and the rest
abbrev pub loaded : Use → List ℤ → List ℤ → ℤ → List ℤ
loaded Use.Value index rest value = value ∷ rest
loaded Use.Change index rest value = value ∷ (index ++ rest)
loaded Use.StepBehind index rest value = value ∷ (index ++ value ∷ rest)

-- how many of them are not the rest
abbrev pub loaded_count : Use → ℕ → ℕ
loaded_count Use.Value indexes = 1
loaded_count Use.Change indexes = 1 + indexes
loaded_count Use.StepBehind indexes = 2 + indexes

-- the operands that a store leaves: the value stays, and an index below it goes
abbrev pub stored : Target → List ℤ → List ℤ
stored (Target.One number) operands = operands
stored (Target.Member array) operands = top operands ∷ below (below operands)

-- a target has numbers below a bound alone
abbrev pub is_below : ℕ → Target → Bool
is_below bound (Target.One number) = nat_lt number bound
is_below bound (Target.Member array) = nat_lt (array.first + array.size) (bound + 1)

-- the cells and locks that an instruction names have numbers of 16 bits
abbrev pub is_small : Instr → Bool
is_small (Instr.Load target way line) = is_below 65536 target
is_small (Instr.Store target bound line) = is_below 65536 target
is_small (Instr.Ask target mode line) = is_below 65536 target
is_small (Instr.Take target mode line) = is_below 65536 target
is_small (Instr.Give target line) = is_below 65536 target
is_small _ = true

-- whether two targets are one
abbrev pub same_target : Target → Target → Bool
same_target (Target.One a) (Target.One b) = a == b
same_target (Target.Member a) (Target.Member b) = (a.first == b.first) && (a.size == b.size)
same_target _ _ = false

-- whether two modes are one
abbrev pub same_mode : Mode → Mode → Bool
same_mode Mode.Shared Mode.Shared = true
same_mode Mode.Excl Mode.Excl = true
same_mode _ _ = false

-- neither a take nor a crossing
abbrev pub is_free : Instr → Bool
is_free (Instr.Take target mode line) = false
is_free (Instr.Cross bar) = false
is_free _ = true

-- the take of this target in this mode
abbrev pub is_take : Target → Mode → Instr → Bool
is_take target mode (Instr.Take other way line) = same_target target other && same_mode mode way
is_take target mode _ = false

-- the crossing of this barrier
abbrev pub is_cross : Bar → Instr → Bool
is_cross bar (Instr.Cross other) = bar.0 == other.0
is_cross bar _ = false

-- an instruction whose step has a label
abbrev pub is_stop : Instr → Bool
is_stop (Instr.Load target way line) = true
is_stop (Instr.Store target bound line) = true
is_stop (Instr.GoBack count) = true
is_stop (Instr.Enter number line) = true
is_stop Instr.Leave = true
is_stop (Instr.Ask target mode line) = true
is_stop (Instr.Take target mode line) = true
is_stop (Instr.Give target line) = true
is_stop (Instr.Arrive bar) = true
is_stop (Instr.Cross bar) = true
is_stop (Instr.Print number) = true
is_stop _ = false

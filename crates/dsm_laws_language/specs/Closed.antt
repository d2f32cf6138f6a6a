-- Programs that are closed: all that they name is there, calls give as many arguments as there are parameters, and `break` and `continue` stand in loops.
use Rattle.std.specs.Prelude.{ℕ, suc, Bool, true, false, ◌&&◌, ◌+◌, ◌==◌, nat_lt, nat_le, List, length, slice_get, Option, Some, None}
use Rattle.std.specs.List.{list_all}
use Rattle.dsm_syntax.specs.declared.tree.Sharing.{Sharing}
use Rattle.dsm_syntax.specs.Sound.{is_sound_string}
use Rattle.dsm_check.specs.declared.resolved.Array.{Array}
use Rattle.dsm_check.specs.Resolved as r
use Rattle.dsm_check.specs.Programs.{Program}
use Rattle.dsm_semantics.specs.Within.{most_bytes}

-- all members of an array are below a bound
abbrev pub is_below : ℕ → Array → Bool
is_below bound array = nat_le (array.first + array.size) bound

-- how many cells of a kind there are
abbrev pub cells_of : Program → Sharing → ℕ
cells_of program Sharing.Shared = program.shared_cells
cells_of program Sharing.Private = program.private_cells

-- a function that is there, with so many parameters
abbrev pub has_params : ℕ → Option r.Function → Bool
has_params count None = false
has_params count (Some function) = function.params == count

-- the function of a number has so many parameters
abbrev pub is_callable : Program → ℕ → ℕ → Bool
is_callable program number count = has_params count (slice_get program.functions number)

-- how many arguments there are
abbrev pub count_in : r.Expressions → ℕ
count_in r.nil = 0
count_in (r.cons e rest) = suc (count_in rest)

-- of what may be missing
abbrev pub is_closed_option : {A : Type 0} → (A → Bool) → Option A → Bool
is_closed_option test None = true
is_closed_option test (Some a) = test a

-- what a function with so many slots names is there
abbrev mutual
  -- of a location
  pub is_closed_location : Program → ℕ → r.Location → Bool
  is_closed_location program slots (r.variable number) = nat_lt number slots
  is_closed_location program slots (r.cell sharing number line) = nat_lt number (cells_of program sharing)
  is_closed_location program slots (r.element sharing array index line) =
      is_below (cells_of program sharing) array && is_closed_expression program slots index

  -- of an expression, whose calls give as many arguments as there are parameters
  pub is_closed_expression : Program → ℕ → r.Expression → Bool
  is_closed_expression program slots (r.number n) = true
  is_closed_expression program slots (r.load location) = is_closed_location program slots location
  is_closed_expression program slots (r.call function arguments line) =
      is_callable program function (count_in arguments) && are_closed_arguments program slots arguments
  is_closed_expression program slots (r.unary op line e) = is_closed_expression program slots e
  is_closed_expression program slots (r.prefix op line location) = is_closed_location program slots location
  is_closed_expression program slots (r.postfix location op line) = is_closed_location program slots location
  is_closed_expression program slots (r.binary a op line b) = is_closed_expression program slots a && is_closed_expression program slots b
  is_closed_expression program slots (r.choice test a b) =
      is_closed_expression program slots test && (is_closed_expression program slots a && is_closed_expression program slots b)
  is_closed_expression program slots (r.assign location op line e) =
      is_closed_location program slots location && is_closed_expression program slots e

  -- of arguments
  pub are_closed_arguments : Program → ℕ → r.Expressions → Bool
  are_closed_arguments program slots r.nil = true
  are_closed_arguments program slots (r.cons e rest) = is_closed_expression program slots e && are_closed_arguments program slots rest

-- of a declaration: of the slot and what it begins with
abbrev pub is_closed_variable : Program → ℕ → r.Variable → Bool
is_closed_variable program slots variable = nat_lt variable.slot slots && is_closed_option (is_closed_expression program slots) variable.initial

-- of declarations
abbrev pub are_closed_variables : Program → ℕ → List r.Variable → Bool
are_closed_variables program slots variables = list_all (is_closed_variable program slots) variables

-- of a part of a print, whose strings are printable
abbrev pub is_closed_part : Program → ℕ → r.Part → Bool
is_closed_part program slots (r.part_text text) = is_sound_string text
is_closed_part program slots (r.part_value e) = is_closed_expression program slots e

-- of all parts
abbrev pub are_closed_parts : Program → ℕ → List r.Part → Bool
are_closed_parts program slots parts = list_all (is_closed_part program slots) parts

-- of a print, whose line has at most 256 bytes
abbrev pub is_closed_print : Program → ℕ → List r.Part → Bool
is_closed_print program slots parts = are_closed_parts program slots parts && nat_le (most_bytes parts) 256

-- of the first part of a `for`
abbrev pub is_closed_start : Program → ℕ → r.ForStart → Bool
is_closed_start program slots r.start_nothing = true
is_closed_start program slots (r.start_variables variables) = are_closed_variables program slots variables
is_closed_start program slots (r.start_expression e) = is_closed_expression program slots e

-- of a lock
abbrev pub is_closed_lock : Program → ℕ → r.LockPlace → Bool
is_closed_lock program slots (r.one_lock lock line) = nat_lt lock.0 program.locks
is_closed_lock program slots (r.lock_element array index line) = is_below program.locks array && is_closed_expression program slots index

-- the same of a statement, and of many
abbrev mutual
  -- of a statement, by whether it is in a loop
  pub is_closed_statement : Program → ℕ → Bool → r.Statement → Bool
  is_closed_statement program slots looped (r.block body) = are_closed_statements program slots looped body
  is_closed_statement program slots looped r.empty = true
  is_closed_statement program slots looped (r.variables variables) = are_closed_variables program slots variables
  is_closed_statement program slots looped (r.expression e) = is_closed_expression program slots e
  is_closed_statement program slots looped (r.when test body) =
      is_closed_expression program slots test && is_closed_statement program slots looped body
  is_closed_statement program slots looped (r.either test body other) =
      is_closed_expression program slots test && (is_closed_statement program slots looped body && is_closed_statement program slots looped other)
  is_closed_statement program slots looped (r.while test body) =
      is_closed_expression program slots test && is_closed_statement program slots true body
  is_closed_statement program slots looped (r.for start test step body) =
      is_closed_start program slots start && (is_closed_option (is_closed_expression program slots) test
      && (is_closed_option (is_closed_expression program slots) step && is_closed_statement program slots true body))
  is_closed_statement program slots looped r.break = looped
  is_closed_statement program slots looped r.continue = looped
  is_closed_statement program slots looped (r.return value) = is_closed_option (is_closed_expression program slots) value
  is_closed_statement program slots looped (r.acquire lock mode) = is_closed_lock program slots lock
  is_closed_statement program slots looped (r.release lock) = is_closed_lock program slots lock
  is_closed_statement program slots looped (r.barrier bar) = nat_lt bar.0 program.barriers
  is_closed_statement program slots looped (r.print parts) = is_closed_print program slots parts

  -- of statements
  pub are_closed_statements : Program → ℕ → Bool → r.Statements → Bool
  are_closed_statements program slots looped r.none = true
  are_closed_statements program slots looped (r.then statement rest) =
      is_closed_statement program slots looped statement && are_closed_statements program slots looped rest

-- a function has slots for its parameters, at most 192 in all, a name for each slot, and a closed body
abbrev pub is_closed_function : Program → r.Function → Bool
is_closed_function program function =
    nat_le function.params function.slots && (nat_le function.slots 192 && (length function.names == function.slots
    && are_closed_statements program function.slots false function.body))

-- there are at most 65,536 shared cells, 16,384 private ones, 256 locks, 64 barriers and 256 functions
abbrev pub has_limits : Program → Bool
has_limits program =
    nat_le program.shared_cells 65536 && (nat_le program.private_cells 16384 && (nat_le program.locks 256
    && (nat_le program.barriers 64 && nat_le (length program.functions) 256)))

-- main takes the processor and how many there are, and each function is closed
abbrev pub is_closed : Program → Bool
is_closed program = is_callable program program.main 2 && (has_limits program && list_all (is_closed_function program) program.functions)

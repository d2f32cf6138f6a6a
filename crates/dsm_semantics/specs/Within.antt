-- A program names only cells, locks and barriers that there are, and its prints fit into lines; so it is with what remains to be done of it.
use Rattle.std.specs.Prelude.{IsTrue, ℕ, ◌+◌, ◌<◌, ◌≤◌, List, [], ◌∷◌, length, Option, Some, None}
use Rattle.std.specs.List.{AllByRecursion}
use Rattle.dsm_base.specs.declared.label.Want.{Want}
use Rattle.dsm_base.specs.declared.setup.Setup.{Setup}
use Rattle.dsm_syntax.specs.declared.tree.Sharing.{Sharing}
use Rattle.dsm_syntax.specs.Sound.{is_sound_string}
use Rattle.dsm_check.specs.declared.resolved.Array.{Array}
use Rattle.dsm_check.specs.Resolved as r
use Rattle.dsm_check.specs.Programs.{Program}
use Rattle.dsm_semantics.specs.States.{Place, slot, cell, member, LockPlace, one_lock, lock_member, Loop, Item, evaluate, evaluate_all, load, store, and_then, or_else, choose, execute, run, declare, branch, round, decide, third_part, jump_back, ask, take_lock, give, cross, gather, print, Frame, State}

-- how many shared cells, locks and barriers there are
pub record Extent : Type 0 where
  pub cells : ℕ
  pub locks : ℕ
  pub bars : ℕ

-- of a setup
abbrev pub extent_of : Setup → Extent
extent_of setup = record { cells = setup.cells; locks = setup.locks; bars = setup.bars }

-- of a program
abbrev pub extent_in : Program → Extent
extent_in program = record { cells = program.shared_cells; locks = program.locks; bars = program.barriers }

-- all members of an array are below a bound
abbrev pub IsArrayBelow : ℕ → Array → Type 0
IsArrayBelow bound array = array.first + array.size ≤ bound

-- a shared cell is there; a private one is no matter here
abbrev pub IsCellWithin : Extent → Sharing → ℕ → Type 0
IsCellWithin extent Sharing.Shared number = number < extent.cells
IsCellWithin extent Sharing.Private number = Unit {0}

-- all cells of a shared array are there
abbrev pub IsArrayWithin : Extent → Sharing → Array → Type 0
IsArrayWithin extent Sharing.Shared array = IsArrayBelow extent.cells array
IsArrayWithin extent Sharing.Private array = Unit {0}

-- a place or an expression names only what there is
abbrev mutual
  -- of a location
  pub IsLocationWithin : Extent → r.Location → Type 0
  IsLocationWithin extent (r.variable number) = Unit {0}
  IsLocationWithin extent (r.cell sharing number line) = IsCellWithin extent sharing number
  IsLocationWithin extent (r.element sharing array index line) = IsArrayWithin extent sharing array × IsWithin extent index

  -- of an expression
  pub IsWithin : Extent → r.Expression → Type 0
  IsWithin extent (r.number n) = Unit {0}
  IsWithin extent (r.load location) = IsLocationWithin extent location
  IsWithin extent (r.call function arguments line) = AreWithin extent arguments
  IsWithin extent (r.unary op line e) = IsWithin extent e
  IsWithin extent (r.prefix op line location) = IsLocationWithin extent location
  IsWithin extent (r.postfix location op line) = IsLocationWithin extent location
  IsWithin extent (r.binary a op line b) = IsWithin extent a × IsWithin extent b
  IsWithin extent (r.choice test a b) = IsWithin extent test × IsWithin extent a × IsWithin extent b
  IsWithin extent (r.assign location op line e) = IsLocationWithin extent location × IsWithin extent e

  -- of arguments
  pub AreWithin : Extent → r.Expressions → Type 0
  AreWithin extent r.nil = Unit {0}
  AreWithin extent (r.cons e rest) = IsWithin extent e × AreWithin extent rest

-- of an expression that may be missing
abbrev pub IsOptionWithin : Extent → Option r.Expression → Type 0
IsOptionWithin extent None = Unit {0}
IsOptionWithin extent (Some e) = IsWithin extent e

-- of declarations
abbrev pub AreVariablesWithin : Extent → List r.Variable → Type 0
AreVariablesWithin extent variables = AllByRecursion (λ variable. IsOptionWithin extent variable.initial) variables

-- of a part of a print, whose strings are printable
abbrev pub IsPartWithin : Extent → r.Part → Type 0
IsPartWithin extent (r.part_text text) = IsTrue (is_sound_string text)
IsPartWithin extent (r.part_value e) = IsWithin extent e

-- of all parts
abbrev pub ArePartsWithin : Extent → List r.Part → Type 0
ArePartsWithin extent parts = AllByRecursion (IsPartWithin extent) parts

-- how many bytes these parts make at most; a value makes at most 20
abbrev pub most_bytes : List r.Part → ℕ
most_bytes [] = 0
most_bytes (r.part_text text ∷ rest) = length text + most_bytes rest
most_bytes (r.part_value e ∷ rest) = 20 + most_bytes rest

-- a line has at most 256 bytes
abbrev pub IsPrintWithin : Extent → List r.Part → Type 0
IsPrintWithin extent parts = ArePartsWithin extent parts × (most_bytes parts ≤ 256)

-- of the first part of a `for`
abbrev pub IsStartWithin : Extent → r.ForStart → Type 0
IsStartWithin extent r.start_nothing = Unit {0}
IsStartWithin extent (r.start_variables variables) = AreVariablesWithin extent variables
IsStartWithin extent (r.start_expression e) = IsWithin extent e

-- of a lock
abbrev pub IsLockWithin : Extent → r.LockPlace → Type 0
IsLockWithin extent (r.one_lock lock line) = lock.0 < extent.locks
IsLockWithin extent (r.lock_element array index line) = IsArrayBelow extent.locks array × IsWithin extent index

-- the same of a statement, and of many
abbrev mutual
  -- of a statement
  pub IsStatementWithin : Extent → r.Statement → Type 0
  IsStatementWithin extent (r.block body) = AreStatementsWithin extent body
  IsStatementWithin extent r.empty = Unit {0}
  IsStatementWithin extent (r.variables variables) = AreVariablesWithin extent variables
  IsStatementWithin extent (r.expression e) = IsWithin extent e
  IsStatementWithin extent (r.when test body) = IsWithin extent test × IsStatementWithin extent body
  IsStatementWithin extent (r.either test body other) =
      IsWithin extent test × IsStatementWithin extent body × IsStatementWithin extent other
  IsStatementWithin extent (r.while test body) = IsWithin extent test × IsStatementWithin extent body
  IsStatementWithin extent (r.for start test step body) =
      IsStartWithin extent start × IsOptionWithin extent test × IsOptionWithin extent step × IsStatementWithin extent body
  IsStatementWithin extent r.break = Unit {0}
  IsStatementWithin extent r.continue = Unit {0}
  IsStatementWithin extent (r.return value) = IsOptionWithin extent value
  IsStatementWithin extent (r.acquire lock mode) = IsLockWithin extent lock
  IsStatementWithin extent (r.release lock) = IsLockWithin extent lock
  IsStatementWithin extent (r.barrier bar) = bar.0 < extent.bars
  IsStatementWithin extent (r.print parts) = IsPrintWithin extent parts

  -- of statements
  pub AreStatementsWithin : Extent → r.Statements → Type 0
  AreStatementsWithin extent r.none = Unit {0}
  AreStatementsWithin extent (r.then statement rest) = IsStatementWithin extent statement × AreStatementsWithin extent rest

-- of all functions of a program
abbrev pub AreFunctionsWithin : Extent → List r.Function → Type 0
AreFunctionsWithin extent functions = AllByRecursion (λ function. AreStatementsWithin extent function.body) functions

-- a want names only what there is
abbrev pub NamesWithin : Extent → Want → Type 0
NamesWithin extent (Want.Load number line) = number.0 < extent.cells
NamesWithin extent (Want.Store number value line) = number.0 < extent.cells
NamesWithin extent (Want.Ask lock mode line) = lock.0 < extent.locks
NamesWithin extent (Want.Take lock mode) = lock.0 < extent.locks
NamesWithin extent (Want.Give lock line) = lock.0 < extent.locks
NamesWithin extent (Want.Arrive bar) = bar.0 < extent.bars
NamesWithin extent (Want.Cross bar) = bar.0 < extent.bars
NamesWithin extent _ = Unit {0}

-- What remains to be done names only what there is.

-- of a place
abbrev pub IsPlaceWithin : Extent → Place → Type 0
IsPlaceWithin extent (slot number) = Unit {0}
IsPlaceWithin extent (cell sharing number line) = IsCellWithin extent sharing number
IsPlaceWithin extent (member sharing array line) = IsArrayWithin extent sharing array

-- of the place of a lock
abbrev pub IsLockPlaceWithin : Extent → LockPlace → Type 0
IsLockPlaceWithin extent (one_lock lock line) = lock.0 < extent.locks
IsLockPlaceWithin extent (lock_member array line) = IsArrayBelow extent.locks array

-- of the other part of an `if`
abbrev pub IsOtherWithin : Extent → Option r.Statement → Type 0
IsOtherWithin extent None = Unit {0}
IsOtherWithin extent (Some other) = IsStatementWithin extent other

-- of a loop
abbrev pub IsLoopWithin : Extent → Loop → Type 0
IsLoopWithin extent loop = IsOptionWithin extent loop.test × IsOptionWithin extent loop.step × IsStatementWithin extent loop.body

-- of an item
abbrev pub IsItemWithin : Extent → Item → Type 0
IsItemWithin extent (evaluate e) = IsWithin extent e
IsItemWithin extent (evaluate_all arguments) = AreWithin extent arguments
IsItemWithin extent (load place way) = IsPlaceWithin extent place
IsItemWithin extent (store place) = IsPlaceWithin extent place
IsItemWithin extent (and_then e) = IsWithin extent e
IsItemWithin extent (or_else e) = IsWithin extent e
IsItemWithin extent (choose a b) = IsWithin extent a × IsWithin extent b
IsItemWithin extent (execute statement) = IsStatementWithin extent statement
IsItemWithin extent (run statements) = AreStatementsWithin extent statements
IsItemWithin extent (declare variables) = AreVariablesWithin extent variables
IsItemWithin extent (branch body other) = IsStatementWithin extent body × IsOtherWithin extent other
IsItemWithin extent (round loop) = IsLoopWithin extent loop
IsItemWithin extent (decide loop) = IsLoopWithin extent loop
IsItemWithin extent (third_part loop) = IsLoopWithin extent loop
IsItemWithin extent (jump_back loop) = IsLoopWithin extent loop
IsItemWithin extent (ask lock mode) = IsLockPlaceWithin extent lock
IsItemWithin extent (take_lock lock mode) = IsLockPlaceWithin extent lock
IsItemWithin extent (give lock) = IsLockPlaceWithin extent lock
IsItemWithin extent (cross bar) = bar.0 < extent.bars
IsItemWithin extent (gather parts) = ArePartsWithin extent parts
IsItemWithin extent (print parts) = IsPrintWithin extent parts
IsItemWithin extent _ = Unit {0}

-- of items
abbrev pub AreItemsWithin : Extent → List Item → Type 0
AreItemsWithin extent [] = Unit {0}
AreItemsWithin extent (item ∷ k) = IsItemWithin extent item × AreItemsWithin extent k

-- of the functions that wait
abbrev pub AreFramesWithin : Extent → List Frame → Type 0
AreFramesWithin extent [] = Unit {0}
AreFramesWithin extent (frame ∷ outer) = AreItemsWithin extent frame.todo × AreFramesWithin extent outer

-- of a state
abbrev pub IsStateWithin : Extent → State → Type 0
IsStateWithin extent s = AreItemsWithin extent s.todo × AreFramesWithin extent s.outer

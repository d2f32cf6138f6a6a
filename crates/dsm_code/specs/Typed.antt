-- States that stand at a place of valid code, with the operands that the code has there.
use Rattle.std.specs.Prelude.{◌≡◌, ℕ, ◌+◌, ◌<◌, ◌≤◌, ◌^◌, List, [], ◌∷◌, length, Option, Some, None, IsTrue}
use Rattle.dsm_base.specs.declared.label.Want.{Want}
use Rattle.dsm_base.specs.Steps.{Over}
use Rattle.dsm_code.specs.declared.instruction.Instr.{Instr}
use Rattle.dsm_code.specs.declared.parts.Row.{Row}
use Rattle.dsm_code.specs.Instructions.{is_small}
use Rattle.dsm_code.specs.Programs.{Program, Function, function_at, row_at}
use Rattle.dsm_code.specs.Machine.{State, Frame}
use Rattle.dsm_code.specs.Valid.{takes, depth_after, has_names, is_valid}

-- an instruction with so many operands: it finds those that it takes, leaves no more than the program has, and names what there is
pub record IsFine (program : Program) (f : Function) (row : Row) : Type 0 where
  pub operands : takes program row.instr ≤ row.depth
  pub low : depth_after program row.depth row.instr ≤ program.deepest
  pub names : IsTrue (has_names program f row.instr)
  pub small : IsTrue (is_small row.instr)

-- a function of so many slots is at a place with so many operands
pub record IsAt (program : Program) (number place operands slots : ℕ) : Type 0 where
  pub function : number < length program.functions
  pub row : Row
  pub is : row_at program number place ≡ Some row
  pub depth : row.depth ≡ operands
  pub low : operands ≤ program.deepest
  pub small : place < 2 ^ 32
  pub slots_are : (function_at program number).slots ≡ slots

-- a caller is at its call of a function, whose arguments are gone
pub record Waits (program : Program) (callee : ℕ) (caller : Frame) : Type 0 where
  pub function : caller.function < length program.functions
  pub line : ℕ
  pub depth : ℕ
  pub is : row_at program caller.function caller.place ≡ Some (record { instr = Instr.Enter callee line; depth = depth })
  pub operands : length caller.operands + (function_at program callee).params ≡ depth
  pub slots_are : (function_at program caller.function).slots ≡ length caller.slots

-- each caller waits for the function above it, and main for the first
abbrev pub AllWait : Program → ℕ → List Frame → Type 0
AllWait program callee [] = callee ≡ program.main
AllWait program callee (caller ∷ outer) = Waits program callee caller × AllWait program caller.function outer

-- a thread that goes on
pub record IsGoing (s : State) : Type 0 where
  pub valid : IsTrue (is_valid s.program)
  pub inner : IsAt s.program s.function s.place (length s.operands) (length s.slots)
  pub outer : AllWait s.program s.function s.outer
  pub few : length s.outer < 256
  pub own : length s.own ≡ s.program.private_cells

abbrev pub IsTypedIn : State → Option Over → Type 0
IsTypedIn s None = IsGoing s
IsTypedIn s (Some way) = Unit {0}

-- a thread that goes on, or that is over
abbrev pub IsTyped : State → Type 0
IsTyped s = IsTypedIn s s.life

-- a want names cells, locks and barriers of the program
abbrev pub NamesIn : Program → Want → Type 0
NamesIn program (Want.Load cell line) = cell.0 < program.cells
NamesIn program (Want.Store cell value line) = cell.0 < program.cells
NamesIn program (Want.Ask lock mode line) = lock.0 < program.locks
NamesIn program (Want.Take lock mode) = lock.0 < program.locks
NamesIn program (Want.Give lock line) = lock.0 < program.locks
NamesIn program (Want.Arrive bar) = bar.0 < program.bars
NamesIn program (Want.Cross bar) = bar.0 < program.bars
NamesIn program _ = Unit {0}

-- the thread is at an instruction which finds the operands that it takes, and all that it names
pub record FindsAll (s : State) : Type 0 where
  pub row : Row
  pub is : row_at s.program s.function s.place ≡ Some row
  pub operands : takes s.program row.instr ≤ length s.operands
  pub names : IsTrue (has_names s.program (function_at s.program s.function) row.instr)

-- The instructions of what a tree names.
use Rattle.std.specs.Prelude.{ℕ, ◌+◌, List, Option, Some, None}
use Rattle.dsm_base.specs.declared.setup.Object.{Object}
use Rattle.dsm_base.specs.declared.setup.Piece.{Piece}
use Rattle.dsm_base.specs.Access.{piece_of}
use Rattle.dsm_syntax.specs.declared.tree.Sharing.{Sharing}
use Rattle.dsm_check.specs.declared.resolved.Array as check
use Rattle.dsm_check.specs.Resolved as r
use Rattle.dsm_semantics.specs.States as t
use Rattle.dsm_semantics.specs.States.{Place, slot, cell, member, LockPlace, one_lock, lock_member}
use Rattle.dsm_code.specs.declared.instruction.Array.{Array}
use Rattle.dsm_code.specs.declared.instruction.Target.{Target}
use Rattle.dsm_code.specs.declared.instruction.Use.{Use}
use Rattle.dsm_code.specs.declared.instruction.Bound.{Bound}
use Rattle.dsm_code.specs.declared.instruction.Instr.{Instr}
use Rattle.dsm_code.specs.declared.parts.Row.{Row}

-- an instruction that finds so many operands
abbrev pub row : ℕ → Instr → Row
row depth instr = record { instr = instr; depth = depth }

-- an array as instructions name it
abbrev pub array_of : check.Array → Array
array_of array = record { first = array.first; size = array.size }

-- what a value is loaded for
abbrev pub use_of : t.Use → Use
use_of t.for_value = Use.Value
use_of t.for_change = Use.Change
use_of t.for_step_behind = Use.StepBehind

-- what the object of a cell's piece is; of a cell in no piece it doesn't matter, since none may store there
abbrev pub bound_to : Object → Bound
bound_to (Object.Lock lock) = Bound.ToLock
bound_to (Object.Bar bar) = Bound.ToBarrier

abbrev pub bound_in : Option Piece → Bound
bound_in None = Bound.ToLock
bound_in (Some piece) = bound_to piece.object

-- what a cell is bound to
abbrev pub bound_of : List Piece → ℕ → Bound
bound_of pieces number = bound_in (piece_of pieces number)

-- the load of a place: only that of shared data has a label
abbrev pub loading : Place → Use → Instr
loading (slot number) way = Instr.LoadSlot number way
loading (cell Sharing.Shared number line) way = Instr.Load (Target.One number) way line
loading (cell Sharing.Private number line) way = Instr.LoadOwn (Target.One number) way line
loading (member Sharing.Shared array line) way = Instr.Load (Target.Member (array_of array)) way line
loading (member Sharing.Private array line) way = Instr.LoadOwn (Target.Member (array_of array)) way line

-- the store to a place: one to private data marks nothing, and one to shared data marks a line
abbrev pub storing : List Piece → Place → Instr
storing pieces (slot number) = Instr.StoreSlot number
storing pieces (cell Sharing.Shared number line) = Instr.Store (Target.One number) (bound_of pieces number) line
storing pieces (cell Sharing.Private number line) = Instr.StoreOwn (Target.One number) line
storing pieces (member Sharing.Shared array line) = Instr.Store (Target.Member (array_of array)) (bound_of pieces array.first) line
storing pieces (member Sharing.Private array line) = Instr.StoreOwn (Target.Member (array_of array)) line

-- a lock as instructions name it
abbrev pub lock_target : LockPlace → Target
lock_target (one_lock lock line) = Target.One lock.0
lock_target (lock_member array line) = Target.Member (array_of array)

-- the operands before what is done with a location, where so many were there before its index: the index is one more
abbrev pub depth_at : ℕ → r.Location → ℕ
depth_at depth (r.variable number) = depth
depth_at depth (r.cell sharing number line) = depth
depth_at depth (r.element sharing array index line) = depth + 1

-- the same of a lock, before whose index there are none
abbrev pub lock_depth : r.LockPlace → ℕ
lock_depth (r.one_lock lock line) = 0
lock_depth (r.lock_element array index line) = 1

-- What a machine shows, and the room that it keeps.
use Rattle.std.specs.Prelude.{◌≡◌, ◌+◌, ◌≤◌, ◌<◌, ◌^◌, [], length, map, Option, Some, None, IsTrue}
use Rattle.dsm_base.specs.declared.label.Want.{Want}
use Rattle.dsm_base.specs.Steps.{Move, goes, asks, Over, ended, stopped}
use Rattle.dsm_code.specs.declared.instruction.Instr.{Instr}
use Rattle.dsm_code.specs.Instructions.{is_small}
use Rattle.dsm_code.specs.declared.parts.Row.{Row}
use Rattle.dsm_code.specs.Programs.{Program, row_at}
use Rattle.dsm_code.specs.Machine as m
use Rattle.dsm_code.specs.Valid.{takes, depth_after}
use Rattle.dsm_code.specs.Typed.{IsTyped}
use Rattle.dsm_machine.specs.Frames.{frame_of, HasRoom, AllHaveRoom}
use Rattle.dsm_machine.specs.declared.machine.Life.{Life}
use Rattle.dsm_machine.specs.declared.machine.Machine.{Machine}

-- how the thread came to be over, if it is
abbrev pub life_of : Life → Option Over
life_of Life.Going = None
life_of Life.Ended = Some ended
life_of (Life.Stopped fault line) = Some (stopped fault line)

-- the state of code that a machine has come to
abbrev pub state_in : Machine → m.State
state_in machine = record {
  program = machine.code.value;
  function = machine.frame.function;
  place = machine.frame.place;
  operands = machine.frame.operands.values;
  slots = machine.frame.slots.values;
  outer = map frame_of machine.outer.values;
  own = machine.own.items;
  life = life_of machine.life;
}

-- the instruction that it is at, with its number of operands
abbrev pub row_here : Machine → Option Row
row_here machine = row_at machine.code.value machine.frame.function machine.frame.place

-- a step was made, or it wants something and all is as it was
abbrev pub Makes : Move m.State → m.State → m.State → Option Want → Type 0
Makes (goes t) old new wanted = (wanted ≡ None) × (new ≡ t)
Makes (asks want after) old new wanted = (wanted ≡ Some want) × (new ≡ old)

-- the machine made this step of its state, or tells what the step wants and is as it was
abbrev pub Steps : Machine → Machine → (m.State → Move m.State) → Option Want → Type 0
Steps old new move wanted = Makes (move (state_in old)) (state_in old) (state_in new) wanted

-- the machine has come to this state from its own
abbrev pub Becomes : Machine → Machine → (m.State → m.State) → Type 0
Becomes old new next = state_in new ≡ next (state_in old)

-- a machine that goes on: 256 frames in all, each with room for the most operands and slots of the program, and all private cells
pub record IsRoomy (machine : Machine) : Type 0 where
  pub going : machine.life ≡ Life.Going
  pub own : length machine.own.items ≡ machine.code.value.private_cells
  pub frame : HasRoom machine.code.value.deepest machine.code.value.widest machine.frame
  pub outer : AllHaveRoom machine.code.value.deepest machine.code.value.widest machine.outer.values
  pub spare : AllHaveRoom machine.code.value.deepest machine.code.value.widest machine.spare.values
  pub count : length machine.outer.values + length machine.spare.values ≡ 255
  pub outer_room : 255 ≤ machine.outer.room
  pub spare_room : 255 ≤ machine.spare.room

-- a machine that is over: only the private cells are left
pub record IsBare (machine : Machine) : Type 0 where
  pub own : length machine.own.items ≡ machine.code.value.private_cells
  pub function : machine.frame.function ≡ 0
  pub place : machine.frame.place ≡ 0
  pub operands : machine.frame.operands.values ≡ []
  pub slots : machine.frame.slots.values ≡ []
  pub outer : machine.outer.values ≡ []

abbrev pub IsRoomyIn : Machine → Life → Type 0
IsRoomyIn machine Life.Going = IsRoomy machine
IsRoomyIn machine _ = IsBare machine

-- where it goes on, it stands at an instruction with the operands that the code has there, and has all the room that it can come to need
pub record IsFit (machine : Machine) : Type 0 where
  pub typed : IsTyped (state_in machine)
  pub roomy : IsRoomyIn machine machine.life

-- the machine has the operands that an instruction takes, and room for those that it leaves
pub record CanDo (machine : Machine) (instr : Instr) : Type 0 where
  pub operands : takes machine.code.value instr ≤ length machine.frame.operands.values
  pub room : depth_after machine.code.value (length machine.frame.operands.values) instr ≤ machine.frame.operands.room
  pub place : machine.frame.place < 2 ^ 32
  pub small : IsTrue (is_small instr)

-- a caller has room for the value that it waits for
pub record CanReturn (program : Program) (caller : m.Frame) : Type 0 where
  pub room : length caller.operands + 1 ≤ program.deepest
  pub place : caller.place < 2 ^ 32

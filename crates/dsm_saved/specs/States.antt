-- What is saved of a state of code, and the state that goes on from what was saved.
use Rattle.std.specs.Prelude.{◌≡◌, ◌==◌, if◌then◌else◌, ℕ, zero, suc, ℤ, List, [], ◌∷◌, ◌++◌, length, map, reverse, take, drop, Option, Some, None, Result, Ok, Err}
use Rattle.dsm_base.specs.declared.errors.LoadErr.{LoadErr}
use Rattle.dsm_base.specs.declared.errors.LoadErr.TheVariants as errors
use Rattle.dsm_base.specs.declared.names.Fault.{Fault}
use Rattle.dsm_base.specs.Steps.{Move, goes, asks, Over, ended, stopped}
use Rattle.dsm_code.specs.Programs.{Program, function_at}
use Rattle.dsm_code.specs.Machine.{State, Frame, waiting, step}
use Rattle.dsm_code.specs.Typed.{IsTyped}
use Rattle.dsm_saved.specs.declared.saved.SavedFrame.{SavedFrame}
use Rattle.dsm_saved.specs.declared.saved.Saved.{Saved}
use Rattle.dsm_saved.specs.Answers.{IsBad, Spells}

-- whether a thread goes on, has ended or has stopped
abbrev pub way_of : Option Over → ℕ
way_of None = 0
way_of (Some ended) = 1
way_of (Some (stopped fault line)) = 2

-- faults by number
abbrev pub fault_number : Fault → ℕ
fault_number Fault.Overflow = 0
fault_number Fault.DivZero = 1
fault_number Fault.Shift = 2
fault_number Fault.Index = 3
fault_number Fault.Depth = 4
fault_number Fault.Unbound = 5
fault_number Fault.Held = 6
fault_number Fault.NotHeld = 7

-- the fault and the line for which it has stopped
abbrev pub fault_of : Option Over → ℕ
fault_of None = 0
fault_of (Some ended) = 0
fault_of (Some (stopped fault line)) = fault_number fault

abbrev pub line_of : Option Over → ℕ
line_of None = 0
line_of (Some ended) = 0
line_of (Some (stopped fault line)) = line

-- a function that is under way, as it is saved
abbrev pub saved_frame : Frame → SavedFrame
saved_frame f = record { function = f.function; place = f.place; values = f.slots ++ reverse f.operands }

-- the functions that are under way, from main inwards
abbrev pub frames_in : State → Option Over → List SavedFrame
frames_in s None = reverse (map saved_frame (waiting s s.operands ∷ s.outer))
frames_in s (Some way) = []

-- what is saved of a state
abbrev pub saved_of : State → Saved
saved_of s = record {
  way = way_of s.life;
  fault = fault_of s.life;
  line = line_of s.life;
  own = s.own;
  frames = frames_in s s.life;
}

-- the fault of a number
abbrev pub numbered_fault : ℕ → Fault
numbered_fault number =
    if number == 0 then Fault.Overflow
    else if number == 1 then Fault.DivZero
    else if number == 2 then Fault.Shift
    else if number == 3 then Fault.Index
    else if number == 4 then Fault.Depth
    else if number == 5 then Fault.Unbound
    else if number == 6 then Fault.Held
    else Fault.NotHeld

-- a saved function, under way: its slots come first
abbrev pub opened : Program → SavedFrame → Frame
opened program f = record {
  function = f.function;
  place = f.place;
  operands = reverse (drop (function_at program f.function).slots f.values);
  slots = take (function_at program f.function).slots f.values;
}

-- the state that is over
abbrev pub bare : Program → List ℤ → Over → State
bare program own way = record { program = program; function = 0; place = 0; operands = []; slots = []; outer = []; own = own; life = Some way }

-- the state with these functions under way, the innermost first
abbrev pub going_with : Program → List ℤ → List Frame → State
going_with program own [] = bare program own ended
going_with program own (f ∷ outer) = record {
  program = program;
  function = f.function;
  place = f.place;
  operands = f.operands;
  slots = f.slots;
  outer = outer;
  own = own;
  life = None;
}

-- the state that goes on from what was saved
abbrev pub state_by : Program → Saved → ℕ → State
state_by program saved zero = going_with program saved.own (map (opened program) (reverse saved.frames))
state_by program saved (suc zero) = bare program saved.own ended
state_by program saved (suc (suc way)) = bare program saved.own (stopped (numbered_fault saved.fault) saved.line)

abbrev pub state_of : Program → Saved → State
state_of program saved = state_by program saved saved.way

-- a step wants something
abbrev pub Asks : {S : Type 0} → Move S → Type 0
Asks (goes t) = ⊥
Asks (asks want after) = Unit {0}

-- where a thread is over, only its private cells are left, all of them
abbrev pub IsOverIn : State → Option Over → Type 0
IsOverIn s None = Unit {0}
IsOverIn s (Some way) = (length s.own ≡ s.program.private_cells) × (s ≡ bare s.program s.own way)

-- a state of this code right before a labelled step, or over: such states are saved
pub record IsState (program : Program) (s : State) : Type 0 where
  pub program_is : s.program ≡ program
  pub typed : IsTyped s
  pub asks : Asks (step s)
  pub over : IsOverIn s s.life

-- the bytes spell what is saved of this state of the code
pub record SpellsState (program : Program) (bytes : List ℕ) (s : State) : Type 0 where
  pub is : IsState program s
  pub spells : Spells program bytes (saved_of s)

-- The answer that fits the bytes: the state, or the first place at which no saved thread of this code goes on.
abbrev pub IsLoaded : Program → Result State LoadErr → List ℕ → Type 0
IsLoaded program (Ok s) bytes = SpellsState program bytes s
IsLoaded program (Err (errors.BadImage place)) bytes = IsBad program bytes place
IsLoaded program (Err (errors.Damaged kept found)) bytes = ⊥
IsLoaded program (Err errors.StoreFault) bytes = ⊥
IsLoaded program (Err errors.Memory) bytes = ⊥

-- Frames of functions that are under way, and the room that they keep.
use Rattle.std.specs.Prelude.{ℕ, ◌-◌, ◌≤◌, ℤ, pos, List, [], ◌∷◌, ◌++◌, length, replicate}
use Rattle.dsm_code.specs.Machine as m
use Rattle.dsm_machine.specs.declared.frame.Frame.{Frame}

-- what a frame shows
abbrev pub frame_of : Frame → m.Frame
frame_of f = record { function = f.function; place = f.place; operands = f.operands.values; slots = f.slots.values }

-- a function of so many slots that begins with some arguments
abbrev pub begun : Frame → ℕ → List ℤ → ℕ → Frame
begun f number arguments slots = record f {
  function = number;
  place = 0;
  operands = record { values = []; room = f.operands.room };
  slots = record { values = arguments ++ replicate (slots - length arguments) (pos 0); room = f.slots.room };
}

-- a frame of no function
abbrev pub cleared : Frame → Frame
cleared f = record { function = 0; place = 0; operands = record { values = []; room = f.operands.room }; slots = record { values = []; room = f.slots.room } }

-- a frame that has room for so many operands and slots
pub record HasRoom (deepest widest : ℕ) (f : Frame) : Type 0 where
  pub operands : deepest ≤ f.operands.room
  pub slots : widest ≤ f.slots.room

abbrev pub AllHaveRoom : ℕ → ℕ → List Frame → Type 0
AllHaveRoom deepest widest [] = Unit {0}
AllHaveRoom deepest widest (f ∷ frames) = HasRoom deepest widest f × AllHaveRoom deepest widest frames

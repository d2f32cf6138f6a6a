-- Saved functions that are under way again.
use Rattle.std.specs.Prelude.{ℕ, ℤ, ◌-◌, ◌≤◌, List, [], ◌∷◌, length, take, drop, reverse, None}
use Rattle.dsm_code.specs.Programs.{Program, function_at}
use Rattle.dsm_code.specs.Machine.{State, Frame, waiting}
use Rattle.dsm_machine.specs.declared.frame.Frame as machine
use Rattle.dsm_saved.specs.declared.saved.SavedFrame.{SavedFrame}

-- the values of a saved function are its slots, and no more operands than the program has room for
pub record CanResume (program : Program) (f : SavedFrame) : Type 0 where
  pub slots : (function_at program f.function).slots ≤ length f.values
  pub operands : length f.values - (function_at program f.function).slots ≤ program.deepest

abbrev pub AllCanResume : Program → List SavedFrame → Type 0
AllCanResume program [] = Unit {0}
AllCanResume program (f ∷ frames) = CanResume program f × AllCanResume program frames

-- a frame that goes on with a saved function of so many slots
abbrev pub resumed : machine.Frame → SavedFrame → ℕ → machine.Frame
resumed f saved slots = record f {
  function = saved.function;
  place = saved.place;
  operands = record { values = reverse (drop slots saved.values); room = f.operands.room };
  slots = record { values = take slots saved.values; room = f.slots.room };
}

-- nothing is under way
abbrev pub fresh : Program → List ℤ → State
fresh program own = record { program = program; function = 0; place = 0; operands = []; slots = []; outer = []; own = own; life = None }

-- a function in the place of the innermost one
abbrev pub resumed_in : State → Frame → State
resumed_in s f = record s { function = f.function; place = f.place; operands = f.operands; slots = f.slots }

-- a function within the innermost one, which waits
abbrev pub within : State → Frame → State
within s f = record (resumed_in s f) { outer = waiting s s.operands ∷ s.outer }

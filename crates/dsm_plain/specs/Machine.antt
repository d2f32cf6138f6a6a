-- What the machine of one memory in the code shows.
use Rattle.std.specs.Prelude.{◌≡◌, ℕ, pos, List, [], map, length, Option}
use Rattle.std.specs.List.{All}
use Rattle.dsm_base.specs.declared.label.Ending.{Ending}
use Rattle.dsm_base.specs.declared.label.Label.{Label}
use Rattle.dsm_base.specs.declared.label.Want.{Want}
use Rattle.dsm_base.specs.declared.rights.Rights.{Rights}
use Rattle.dsm_base.specs.Family.{family_of}
use Rattle.dsm_base.specs.Pieces.{HasPieces}
use Rattle.dsm_base.specs.Plain.{PlainState, seen_by, label_of}
use Rattle.dsm_base.specs.Rights.{held_of, arrived_of, crossed_of, HasSizes}
use Rattle.dsm_base.specs.Threads.{Semantics}
use Rattle.dsm_check.specs.CheckedViews.{program_of}
use Rattle.dsm_check.specs.Programs.{Program}
use Rattle.dsm_check.specs.Setups.{IsSetupOf}
use Rattle.dsm_semantics.specs.States.{State, ending_of}
use Rattle.dsm_semantics.specs.Within.{extent_in}
use Rattle.dsm_semantics.specs.Programs.{threads_of}
use Rattle.dsm_interpreter.specs.declared.thread.PlainThread.{PlainThread}
use Rattle.dsm_interpreter.specs.Sound.{IsReady}
use Rattle.dsm_interpreter.specs.Threads.{functions_of, state_of}
use Rattle.dsm_plain.specs.declared.machine.Plain.{Plain}
pub use Rattle.dsm_semantics.specs.Programs.{first_states}

-- of a processor that there isn't
abbrev pub no_rights : Rights
no_rights = record { held = []; arrived = []; crossed = [] }

-- the rights of each processor
abbrev pub rights_at : List Rights → ℕ → Rights
rights_at rights = family_of (λ p. no_rights) rights

-- the state that the machine is in
abbrev pub machine_of : Plain → PlainState State
machine_of plain = record {
  threads = family_of (first_states (program_of plain.checked.now) plain.setup.procs) (map state_of plain.threads.items);
  memory = family_of (λ cell. pos 0) plain.memory;
  versions = family_of (λ lock. 0) plain.versions;
  held = λ p. held_of (rights_at plain.rights.items p);
  arrived = λ p. arrived_of (rights_at plain.rights.items p);
  crossed = λ p. crossed_of (rights_at plain.rights.items p);
}

-- what its threads do
abbrev pub semantics_of : Plain → Semantics State
semantics_of plain = threads_of (program_of plain.checked.now)

-- what a processor's thread wants
abbrev pub want_at : Plain → ℕ → Want
want_at plain p = (semantics_of plain).want ((machine_of plain).threads p)

-- the label of a processor's turn that its thread wants so
abbrev pub label_at : Plain → ℕ → Want → Option Label
label_at plain p want =
    label_of plain.setup.bindings p (seen_by (machine_of plain) p) ((semantics_of plain).text ((machine_of plain).threads p)) want

-- how each thread came to be over, if it is
abbrev pub endings_at : Plain → ℕ → Option Ending
endings_at plain p = ending_of ((machine_of plain).threads p)

-- a thread of the program, which tells what it wants
pub record IsThreadOf (program : Program) (thread : PlainThread) : Type 0 where
  pub functions : functions_of thread ≡ program.functions
  pub ready : IsReady (extent_in program) thread

-- a machine that is set up for its program, with a thread, rights, cells, versions and pieces of it
pub record IsWhole (plain : Plain) : Type 0 where
  pub is_setup : IsSetupOf (program_of plain.checked.now) plain.setup.procs plain.setup
  pub threads : length plain.threads.items ≡ plain.setup.procs
  pub ready : All (IsThreadOf (program_of plain.checked.now)) plain.threads.items
  pub rights : length plain.rights.items ≡ plain.setup.procs
  pub sizes : All (HasSizes plain.setup.locks plain.setup.bars) plain.rights.items
  pub memory : length plain.memory ≡ plain.setup.cells
  pub versions : length plain.versions ≡ plain.setup.locks
  pub pieces : HasPieces plain.setup plain.pieces

-- the program and the setup stay
pub record IsSameProgram (old new : Plain) : Type 0 where
  pub setup : new.setup ≡ old.setup
  pub checked : new.checked.now ≡ old.checked.now

-- What bytes are answered with.
use Rattle.std.specs.Prelude.{◌≡◌, ℕ, ◌+◌, ◌-◌, ◌<◌, true, List, [], ◌∷◌, ◌++◌, length, Result, Ok, Err}
use Rattle.dsm_base.specs.declared.errors.LoadErr.{LoadErr}
use Rattle.dsm_base.specs.declared.errors.LoadErr.TheVariants as errors
use Rattle.dsm_fields.specs.Fields.{bytes_of, are_fit, IsCut, Breaks}
use Rattle.dsm_fields.specs.Reading.{Cut, Broken, Read}
use Rattle.dsm_code.specs.Programs.{Program}
use Rattle.dsm_saved.specs.declared.saved.Saved.{Saved}
use Rattle.dsm_saved.specs.Spelling.{saved_fields, IsShaped}

-- a saved thread of this code
pub record IsSaved (program : Program) (saved : Saved) : Type 0 where
  pub shaped : IsShaped saved
  pub fit : are_fit (saved_fields program saved) ≡ true

-- its bytes
abbrev pub saved_bytes : Program → Saved → List ℕ
saved_bytes program saved = bytes_of (saved_fields program saved)

-- the bytes begin with those of this saved thread, and so many follow
pub record Begins (program : Program) (bytes : List ℕ) (saved : Saved) (rest : List ℕ) : Type 0 where
  pub is : IsSaved program saved
  pub parts : bytes ≡ saved_bytes program saved ++ rest

-- Why bytes are no saved thread of this code, and the first place at which none goes on.
pub data IsBad (program : Program) (bytes : List ℕ) (place : ℕ) : Type 0 where
  -- the bytes end within a field
  cut : (left : ℕ) → IsCut IsShaped (saved_fields program) bytes left → place + left ≡ length bytes → IsBad program bytes place
  -- a field is none that comes behind those before it
  broken : (left : ℕ) → Breaks IsShaped (saved_fields program) bytes left → place + left ≡ length bytes → IsBad program bytes place
  -- bytes stand behind the last field
  behind : (saved : Saved) (rest : List ℕ) → Begins program bytes saved rest → 0 < length rest → place + length rest ≡ length bytes → IsBad program bytes place

-- the bytes spell this saved thread
pub record Spells (program : Program) (bytes : List ℕ) (saved : Saved) : Type 0 where
  pub is : IsSaved program saved
  pub spelled : bytes ≡ saved_bytes program saved

-- The answer that fits the bytes. Of a saved thread and a place exactly one does.
abbrev pub IsAnswer : Program → Result Saved LoadErr → List ℕ → Type 0
IsAnswer program (Ok saved) bytes = Spells program bytes saved
IsAnswer program (Err (errors.BadImage place)) bytes = IsBad program bytes place
IsAnswer program (Err (errors.Damaged kept found)) bytes = ⊥
IsAnswer program (Err errors.StoreFault) bytes = ⊥
IsAnswer program (Err errors.Memory) bytes = ⊥

-- out of memory, or else this
abbrev pub OrMemory : {A : Type 0} → Result A LoadErr → Type 0 → Type 0
OrMemory (Err errors.Memory) P = Unit {0}
OrMemory (Err errors.StoreFault) P = P
OrMemory (Err (errors.Damaged kept found)) P = P
OrMemory (Err (errors.BadImage place)) P = P
OrMemory (Ok value) P = P

-- the answer that reading all fields gives
abbrev pub answer_of : ℕ → Read Saved → Result Saved LoadErr
answer_of size (Ok (saved, [])) = Ok saved
answer_of size (Ok (saved, byte ∷ rest)) = Err (errors.BadImage (size - length (byte ∷ rest)))
answer_of size (Err (Cut left)) = Err (errors.BadImage (size - left))
answer_of size (Err (Broken left)) = Err (errors.BadImage (size - left))

-- What bytes are answered with.
use Rattle.std.specs.Prelude.{◌≡◌, ℕ, ◌+◌, ◌-◌, ◌<◌, false, ◌==◌, if◌then◌else◌, List, [], ◌∷◌, ◌++◌, length, Result, Ok, Err}
use Rattle.dsm_msg.specs.declared.message.Msg.{Msg}
use Rattle.dsm_msg.specs.declared.error.MsgErr.{MsgErr}
use Rattle.dsm_msg.specs.declared.error.MsgErr.TheVariants as errors
use Rattle.dsm_fields.specs.Fields.{Any, IsCut, Breaks}
use Rattle.dsm_msg.specs.Spelling.{is_kind, message_fields, spelling, IsMessage}
use Rattle.dsm_fields.specs.Reading.{Cut, Broken, Read}

-- the refusal of a field that begins where so many bytes are left
abbrev pub fault_of : List ℕ → ℕ → MsgErr
fault_of [] left = errors.BadField (0 - left)
fault_of (kind ∷ bytes) left = if left == length (kind ∷ bytes) then errors.BadKind kind else errors.BadField (length (kind ∷ bytes) - left)

-- the answer that reading gives
abbrev pub answer_of : List ℕ → Read Msg → Result Msg MsgErr
answer_of bytes (Ok (msg, [])) = Ok msg
answer_of bytes (Ok (msg, byte ∷ rest)) = Err (errors.Rest (length (byte ∷ rest)))
answer_of bytes (Err (Cut left)) = Err errors.Short
answer_of bytes (Err (Broken left)) = Err (fault_of bytes left)

-- out of memory, or else this
abbrev pub OrMemory : Result Msg MsgErr → Type 0 → Type 0
OrMemory (Err errors.Memory) P = Unit {0}
OrMemory (Err errors.Short) P = P
OrMemory (Err (errors.BadKind kind)) P = P
OrMemory (Err (errors.BadField place)) P = P
OrMemory (Err (errors.Rest count)) P = P
OrMemory (Ok msg) P = P

-- the bytes break a field that begins at this place, behind the first byte
pub record IsBadField (place : ℕ) (bytes : List ℕ) : Type 0 where
  pub left : ℕ
  pub breaks : Breaks Any message_fields bytes left
  pub ends : place + left ≡ length bytes
  pub behind : 0 < place

-- the first byte is no kind
pub record IsBadKind (kind : ℕ) (bytes : List ℕ) : Type 0 where
  pub rest : List ℕ
  pub parts : bytes ≡ kind ∷ rest
  pub no_kind : is_kind kind ≡ false

-- a message, and so many bytes behind it
pub record HasRest (count : ℕ) (bytes : List ℕ) : Type 0 where
  pub msg : Msg
  pub message : IsMessage msg
  pub rest : List ℕ
  pub parts : bytes ≡ spelling msg ++ rest
  pub counts : count ≡ length rest
  pub some : 0 < count

-- the bytes spell this message
pub record Spells (bytes : List ℕ) (msg : Msg) : Type 0 where
  pub message : IsMessage msg
  pub spelled : bytes ≡ spelling msg

-- the bytes end within a field of a message
pub record EndsEarly (bytes : List ℕ) : Type 0 where
  pub left : ℕ
  pub cut : IsCut Any message_fields bytes left

-- The answer that fits the bytes. Of a message and the four refusals exactly one does.
abbrev pub IsAnswer : Result Msg MsgErr → List ℕ → Type 0
IsAnswer (Ok msg) bytes = Spells bytes msg
IsAnswer (Err errors.Short) bytes = EndsEarly bytes
IsAnswer (Err (errors.BadKind kind)) bytes = IsBadKind kind bytes
IsAnswer (Err (errors.BadField place)) bytes = IsBadField place bytes
IsAnswer (Err (errors.Rest count)) bytes = HasRest count bytes
IsAnswer (Err errors.Memory) bytes = ⊥

-- no spelling of a message begins another's
abbrev pub NoPrefix : Type 0
NoPrefix = (a b : Msg) (rest : List ℕ) → IsMessage a → IsMessage b → spelling a ++ rest ≡ spelling b → (a ≡ b) × (rest ≡ [])

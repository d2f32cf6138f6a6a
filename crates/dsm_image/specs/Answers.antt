-- What bytes are answered with.
use Rattle.std.specs.Prelude.{◌≡◌, ◌≢◌, ℕ, ◌+◌, ◌-◌, ◌<◌, true, List, [], ◌∷◌, ◌++◌, length, Result, Ok, Err}
use Rattle.sha2.specs.Sha256.{sha256}
use Rattle.dsm_base.specs.declared.errors.LoadErr.{LoadErr}
use Rattle.dsm_base.specs.declared.errors.LoadErr.TheVariants as errors
use Rattle.dsm_fields.specs.Fields.{bytes_of, are_fit, IsCut, Breaks}
use Rattle.dsm_fields.specs.Reading.{Cut, Broken, Read}
use Rattle.dsm_image.specs.declared.image.Image.{Image}
use Rattle.dsm_image_parts.specs.declared.scope.Scope.{Scope}
use Rattle.dsm_image.specs.Frame.{size_in, front_of, kept_in, behind_in, zeros_behind, IsRoomy, IsSealed, IsFirstOther}
use Rattle.dsm_image.specs.Spelling.{front_fields, spelling, IsShaped, IsImage}

-- the digest that is kept isn't that of the bytes before it
pub record IsDamaged (kept found bytes : List ℕ) : Type 0 where
  pub room : IsRoomy bytes
  pub kept_is : kept ≡ kept_in bytes
  pub found_is : found ≡ sha256 (front_of bytes)
  pub differ : kept ≢ found

-- the parts of sealed bytes
pub record IsOpened (front behind bytes : List ℕ) : Type 0 where
  pub is : IsSealed bytes
  pub front_is : front ≡ front_of bytes
  pub behind_is : behind ≡ behind_in bytes

-- why bytes aren't sealed: the length and the digest don't fit, or the digest is another
abbrev pub IsClosed : LoadErr → List ℕ → Type 0
IsClosed (errors.Damaged kept found) bytes = IsDamaged kept.0 found.0 bytes
IsClosed (errors.BadImage place) bytes = (place ≡ 4) × (IsRoomy bytes → ⊥)
IsClosed errors.StoreFault bytes = ⊥
IsClosed errors.Memory bytes = ⊥

-- the answer that reading all before the digest gives
abbrev pub front_answer : ℕ → Read Image → Result Image LoadErr
front_answer size (Ok (image, [])) = Ok image
front_answer size (Ok (image, byte ∷ rest)) = Err (errors.BadImage (size - length (byte ∷ rest)))
front_answer size (Err (Cut left)) = Err (errors.BadImage (size - left))
front_answer size (Err (Broken left)) = Err (errors.BadImage (size - left))

-- all before the digest spells this image, and so many bytes follow it there
pub record IsFront (scope : Scope) (bytes : List ℕ) (image : Image) (rest : List ℕ) : Type 0 where
  pub shaped : IsShaped scope image
  pub fit : are_fit (front_fields scope (size_in bytes) image) ≡ true
  pub parts : front_of bytes ≡ bytes_of (front_fields scope (size_in bytes) image) ++ rest

-- Why bytes are no image for another cause than their digest, and at which place.
pub data IsBad (scope : Scope) (bytes : List ℕ) (place : ℕ) : Type 0 where
  -- the length and the digest don't fit
  no_room : (IsRoomy bytes → ⊥) → place ≡ 4 → IsBad scope bytes place
  -- a field doesn't end before the digest
  cut : (left : ℕ) → IsSealed bytes → IsCut (IsShaped scope) (front_fields scope (size_in bytes)) (front_of bytes) left → place + left ≡ size_in bytes → IsBad scope bytes place
  -- a field breaks its range, its order or its count, given those before it
  broken : (left : ℕ) → IsSealed bytes → Breaks (IsShaped scope) (front_fields scope (size_in bytes)) (front_of bytes) left → place + left ≡ size_in bytes → IsBad scope bytes place
  -- bytes stand between the last field and the digest
  between : (image : Image) (rest : List ℕ) → IsSealed bytes → IsFront scope bytes image rest → 0 < length rest → place + length rest ≡ size_in bytes → IsBad scope bytes place
  -- the zeros behind the digest aren't those that are due
  behind : (image : Image) (at : ℕ) → IsSealed bytes → IsFront scope bytes image [] → IsFirstOther at (behind_in bytes) (zeros_behind (size_in bytes)) → place ≡ size_in bytes + (32 + at) → IsBad scope bytes place

-- the bytes spell this image
pub record Spells (scope : Scope) (bytes : List ℕ) (image : Image) : Type 0 where
  pub is : IsImage scope image
  pub spelled : bytes ≡ spelling scope image

-- The answer that fits the bytes. Of an image and the two refusals exactly one does.
abbrev pub IsAnswer : Scope → Result Image LoadErr → List ℕ → Type 0
IsAnswer scope (Ok image) bytes = Spells scope bytes image
IsAnswer scope (Err (errors.Damaged kept found)) bytes = IsDamaged kept.0 found.0 bytes
IsAnswer scope (Err (errors.BadImage place)) bytes = IsBad scope bytes place
IsAnswer scope (Err errors.StoreFault) bytes = ⊥
IsAnswer scope (Err errors.Memory) bytes = ⊥

-- out of memory, or else this
abbrev pub OrMemory : Result Image LoadErr → Type 0 → Type 0
OrMemory (Err errors.Memory) P = Unit {0}
OrMemory (Err errors.StoreFault) P = P
OrMemory (Err (errors.Damaged kept found)) P = P
OrMemory (Err (errors.BadImage place)) P = P
OrMemory (Ok image) P = P

-- no spelling of an image of a setup begins another's
abbrev pub OneSpelling : Scope → Type 0
OneSpelling scope = (a b : Image) → IsImage scope a → IsImage scope b → spelling scope a ≡ spelling scope b → a ≡ b

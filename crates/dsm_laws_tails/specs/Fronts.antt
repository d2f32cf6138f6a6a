-- Parts of lists that have the newest first, and tails of which one is replaced.
use Rattle.std.specs.Prelude.{◌≡◌, ◌≢◌, ℕ, nat_lt, if◌then◌else◌, List, [], ◌∷◌, length}
use Rattle.dsm_base.specs.declared.label.Label.{Label}
use Rattle.dsm_base.specs.Plain.{Turn}

-- the oldest k of a list
abbrev pub upto : {A : Type 0} → ℕ → List A → List A
upto k [] = []
upto k (x ∷ before) = if nat_lt (length before) k then x ∷ before else upto k before

-- what is newer than the oldest k
abbrev pub past : {A : Type 0} → ℕ → List A → List A
past k [] = []
past k (x ∷ before) = if nat_lt (length before) k then [] else x ∷ past k before

-- the turns of p that show these labels
abbrev pub turns_by : ℕ → List Label → List Turn
turns_by p [] = []
turns_by p (label ∷ before) = record { proc = p; label = label } ∷ turns_by p before

-- the tails, with this one for p
pub record AreWith (tails : ℕ → List Label) (p : ℕ) (tail : List Label) (others : ℕ → List Label) : Type 0 where
  pub own : others p ≡ tail
  pub same : (q : ℕ) → p ≢ q → others q ≡ tails q

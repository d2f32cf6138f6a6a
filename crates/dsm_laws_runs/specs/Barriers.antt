-- The cells of barriers: whose they are, and what their owners had stored when they came to the barrier.
use Rattle.std.specs.Prelude.{ℕ, ℤ, pos, Bool, false, ◌&&◌, ◌==◌, not, nat_lt, if◌then◌else◌, List, [], ◌∷◌, Option, Some, None}
use Rattle.dsm_base.specs.declared.label.Label.{Label}
use Rattle.dsm_base.specs.declared.setup.Piece.{Piece}
use Rattle.dsm_base.specs.declared.setup.Setup.{Setup}
use Rattle.dsm_base.specs.Access.{piece_of}
use Rattle.dsm_base.specs.Plain.{memory_after}
use Rattle.dsm_laws_runs.specs.OwnPart.{arrived_of}
use Rattle.dsm_laws_runs.specs.Pieces.{is_bar}

-- whether a piece is one of this barrier and this owner
abbrev pub is_owned : ℕ → ℕ → Option Piece → Bool
is_owned bar owner None = false
is_owned bar owner (Some piece) = is_bar bar piece.object && (piece.owner == owner)

-- whether a piece is one of this barrier and of another owner than p
abbrev pub is_of_other : ℕ → ℕ → Option Piece → Bool
is_of_other bar p None = false
is_of_other bar p (Some piece) = is_bar bar piece.object && not (piece.owner == p)

-- the owner of a piece
abbrev pub owner_of : Option Piece → ℕ
owner_of None = 0
owner_of (Some piece) = piece.owner

-- what the stores among some labels have left in the cells, from zeros
abbrev pub stored_by : List Label → ℕ → ℤ
stored_by [] = λ cell. pos 0
stored_by (label ∷ before) = memory_after (stored_by before) label

-- the labels up to the k-th arrival at a barrier; none for k = 0, and all where there are fewer arrivals
abbrev pub until_arrival : ℕ → ℕ → List Label → List Label
until_arrival bar k [] = []
until_arrival bar k (label ∷ before) = if nat_lt (arrived_of before bar) k then label ∷ before else until_arrival bar k before

-- the cells of a barrier in an epoch: what the owner of each, who has made these labels, had stored when it came to the barrier for that epoch
abbrev pub memory_in : Setup → (ℕ → List Label) → ℕ → ℕ → ℕ → ℤ
memory_in setup labels bar epoch cell = stored_by (until_arrival bar epoch (labels (owner_of (piece_of setup.bindings cell)))) cell

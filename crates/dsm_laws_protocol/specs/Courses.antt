-- A processor's course: the labels that it has made, or what they do to one lock. It has the newest first.
use Rattle.std.specs.Prelude.{◌≡◌, ℕ, ◌+◌, Bool, true, false, ◌==◌, if◌then◌else◌, nat_lt, List, [], ◌∷◌, length, map, Option, Some, None}
use Rattle.dsm_base.specs.declared.names.Mode.{Mode}
use Rattle.dsm_base.specs.declared.label.Label.{Label}

-- Parts of a course.

-- its first k members
abbrev pub upto : {A : Type 0} → ℕ → List A → List A
upto k [] = []
upto k (x ∷ xs) = if nat_lt (length xs) k then x ∷ xs else upto k xs

-- those beyond
abbrev pub past : {A : Type 0} → ℕ → List A → List A
past k [] = []
past k (x ∷ xs) = if nat_lt (length xs) k then [] else x ∷ past k xs

-- What labels do to one lock.

-- what a turn does to one lock
pub data Move : Type 0 where
  asks : (mode : Mode) → Move
  takes : (mode : Mode) (version : ℕ) → Move
  gives : Move
  still : Move

-- what a label does to a lock
abbrev pub move_of : ℕ → Label → Move
move_of lock (Label.Ask other mode) = if other.0 == lock then asks mode else still
move_of lock (Label.Take other mode version) = if other.0 == lock then takes mode version else still
move_of lock (Label.Give other) = if other.0 == lock then gives else still
move_of lock _ = still

-- what labels do to a lock, one after another
abbrev pub moves_of : ℕ → List Label → List Move
moves_of lock labels = map (move_of lock) labels

-- an ask that no give has answered: its turn and mode
pub record Claim : Type 0 where
  pub turn : ℕ
  pub mode : Mode

-- the claim after a move of this turn: an ask makes one, a give ends it
abbrev pub claim_after : ℕ → Option Claim → Move → Option Claim
claim_after turn claim (asks mode) = Some record { turn = turn; mode = mode }
claim_after turn claim gives = None
claim_after turn claim _ = claim

-- the claim that moves leave, the newest first
abbrev pub claim_of : List Move → Option Claim
claim_of [] = None
claim_of (move ∷ before) = claim_after (length before + 1) (claim_of before) move

-- whether a mode is exclusive
abbrev pub is_excl : Mode → Bool
is_excl Mode.Shared = false
is_excl Mode.Excl = true

-- whether there is a claim, and it is exclusive
abbrev pub is_exclusive_claim : Option Claim → Bool
is_exclusive_claim None = false
is_exclusive_claim (Some claim) = is_excl claim.mode

-- how many versions of the lock were made
abbrev pub made_after : ℕ → Option Claim → Move → ℕ
made_after count claim gives = if is_exclusive_claim claim then count + 1 else count
made_after count claim _ = count

-- how many versions moves make
abbrev pub made_by : List Move → ℕ
made_by [] = 0
made_by (move ∷ before) = made_after (made_by before) (claim_of before) move

-- the version that the own copy has
abbrev pub have_after : ℕ → Option Claim → Move → ℕ
have_after version claim (takes mode taken) = taken
have_after version claim gives = if is_exclusive_claim claim then version + 1 else version
have_after version claim _ = version

-- the version that a copy has after moves
abbrev pub have_by : List Move → ℕ
have_by [] = 0
have_by (move ∷ before) = have_after (have_by before) (claim_of before) move

-- the mode in which the lock is held
abbrev pub held_by : List Move → Option Mode
held_by [] = None
held_by (takes mode version ∷ before) = Some mode
held_by (gives ∷ before) = None
held_by (_ ∷ before) = held_by before

-- whether it was asked for
abbrev pub has_ask : List Move → Bool
has_ask [] = false
has_ask (asks mode ∷ before) = true
has_ask (_ ∷ before) = has_ask before

-- whether it was asked for before the newest move
abbrev pub has_ask_behind : List Move → Bool
has_ask_behind [] = false
has_ask_behind (move ∷ before) = has_ask before

-- Which courses there are.

-- only who has no claim asks, and only who has one gives the lock back
abbrev pub May : Option Claim → Move → Type 0
May None (asks mode) = Unit {0}
May None still = Unit {0}
May None _ = ⊥
May (Some claim) gives = Unit {0}
May (Some claim) still = Unit {0}
May (Some claim) _ = ⊥

-- right after an ask comes the take, and at no other time
abbrev pub Follows : List Move → Move → Type 0
Follows (asks mode ∷ before) next = (version : ℕ) × (next ≡ takes mode version)
Follows moves next = May (claim_of moves) next

-- each move follows those before it
abbrev pub IsCourse : List Move → Type 0
IsCourse [] = Unit {0}
IsCourse (move ∷ before) = IsCourse before × Follows before move

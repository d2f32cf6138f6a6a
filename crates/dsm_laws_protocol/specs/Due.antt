-- What a home is due of a course: the asks, gives and arrivals beyond the turn up to which it has handled it, the oldest first.
use Rattle.std.specs.Prelude.{◌≡◌, ℕ, ◌+◌, ◌<◌, ◌≤◌, ◌==◌, if◌then◌else◌, nat_lt, List, [], ◌∷◌, ◌++◌, length, Option, Some, None}
use Rattle.dsm_base.specs.declared.names.Bar.{Bar}
use Rattle.dsm_base.specs.declared.names.Lock.{Lock}
use Rattle.dsm_base.specs.declared.names.Mode.{Mode}
use Rattle.dsm_base.specs.declared.label.Label.{Label}
use Rattle.dsm_base.specs.declared.setup.Setup.{Setup}
use Rattle.dsm_home.specs.LockStates.{version_made}
use Rattle.dsm_net.specs.Messages.{home_of, manager_of}
use Rattle.dsm_laws_protocol.specs.Courses.{upto, Claim, moves_of, claim_of, have_by}

-- a body with the turn that made it
pub record Item (B : Type 0) : Type 0 where
  pub turn : ℕ
  pub body : B

-- what a turn sends, if anything, with its number
abbrev pub items : {B : Type 0} → ℕ → Option B → List (Item B)
items turn None = []
items turn (Some body) = record { turn = turn; body = body } ∷ []

-- what the turns over the first k send, the oldest first
abbrev pub due : {A B : Type 0} → (List A → A → Option B) → ℕ → List A → List (Item B)
due makes k [] = []
due makes k (x ∷ xs) = if nat_lt (length xs) k then [] else due makes k xs ++ items (length xs + 1) (makes xs x)

-- each is of a turn over this
abbrev pub AreOver : {B : Type 0} → ℕ → List (Item B) → Type 0
AreOver k [] = Unit {0}
AreOver k (item ∷ others) = (k < item.turn) × AreOver k others

-- each item is of a turn up to k
abbrev pub AreWithin : {B : Type 0} → ℕ → List (Item B) → Type 0
AreWithin k [] = Unit {0}
AreWithin k (item ∷ others) = (item.turn ≤ k) × AreWithin k others

-- what the first that is due tells of the course
pub record IsFirstDue {A B : Type 0} (makes : List A → A → Option B) (k : ℕ) (xs : List A) (item : Item B) (rest : List (Item B)) : Type 0 where
  pub label : A
  pub before : List A
  pub later : k < item.turn
  pub within : item.turn ≤ length xs
  pub is_next : upto item.turn xs ≡ label ∷ before
  pub is_body : makes before label ≡ Some item.body
  pub is_quiet : due makes k before ≡ []
  pub is_rest : due makes item.turn xs ≡ rest
  pub since : k ≤ length before
  pub same_past : upto k before ≡ upto k xs

-- What a label says to a home.

-- what a processor tells the home of a lock: that it asks for it, or that it gave it back; and the manager of a barrier: that it has come
pub data Word : Type 0 where
  asked : (lock : Lock) (mode : Mode) («have» : ℕ) → Word
  gave : (lock : Lock) (mode : Mode) (version : ℕ) → Word
  arrived : (bar : Bar) → Word

-- the version of a lock that labels leave
abbrev pub have_of : ℕ → List Label → ℕ
have_of lock before = have_by (moves_of lock before)

-- a give of who has the lock in this claim, and whose copy has this version
abbrev pub word_of_give : Lock → ℕ → Option Claim → Option Word
word_of_give lock version None = None
word_of_give lock version (Some claim) = Some (gave lock claim.mode (version_made claim.mode version))

-- what a label tells this home or manager
abbrev pub word_for : Setup → ℕ → List Label → Label → Option Word
word_for setup home before (Label.Ask lock mode) = if home_of setup lock.0 == home then Some (asked lock mode (have_of lock.0 before)) else None
word_for setup home before (Label.Give lock) = if home_of setup lock.0 == home then word_of_give lock (have_of lock.0 before) (claim_of (moves_of lock.0 before)) else None
word_for setup home before (Label.Arrive bar) = if manager_of setup bar.0 == home then Some (arrived bar) else None
word_for setup home before _ = None

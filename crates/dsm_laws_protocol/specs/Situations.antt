-- How things stand at one lock: what its home has handled of each processor's course, who holds it and who waits, and which grants there are.
use Rattle.std.specs.Prelude.{◌≡◌, ◌≢◌, ℕ, zero, suc, ◌+◌, ◌≤◌, Bool, true, false, ◌&&◌, ◌==◌, if◌then◌else◌, nat_lt, List, [], ◌∷◌, length, filter, Some, None}
use Rattle.dsm_base.specs.declared.names.Mode.{Mode}
use Rattle.dsm_base.specs.declared.holders.Holder.{Holder}
use Rattle.dsm_lines.specs.declared.of_objects.MailGrant.{MailGrant}
use Rattle.dsm_home.specs.declared.waiting.Waiting.{Waiting}
use Rattle.dsm_home.specs.LockStates.{LockState, fits_beside}
use Rattle.dsm_net.specs.Messages.{processor_named}
use Rattle.dsm_laws_protocol.specs.Courses.{upto, past, Move, takes, Claim, claim_of, made_by, has_ask_behind, IsCourse}

-- the modes in which q holds a lock, or was granted it
abbrev pub modes_of : ℕ → List Holder → List Mode
modes_of q [] = []
modes_of q (holder ∷ holders) =
    if holder.proc.0 == q then holder.mode ∷ modes_of q holders else modes_of q holders

-- where q waits
abbrev pub waits_of : ℕ → List Waiting → List Waiting
waits_of q [] = []
waits_of q (one ∷ others) = if one.proc.0 == q then one ∷ waits_of q others else waits_of q others

-- whether these may hold a lock together
abbrev pub hold_together : List Holder → Bool
hold_together [] = true
hold_together (holder ∷ holders) = fits_beside holders holder.mode && hold_together holders

-- the sum of the first members of a family
abbrev pub total : ℕ → (ℕ → ℕ) → ℕ
total zero f = 0
total (suc n) f = f n + total n f

-- Grants.

-- those for turns that are still to come
abbrev pub fresh : ℕ → List MailGrant → List MailGrant
fresh turns grants = filter (λ grant. nat_lt turns grant.turn) grants

-- a grant that answers a claim
pub record IsGrant (claim : Claim) (version : ℕ) (grant : MailGrant) : Type 0 where
  pub is_turn : grant.turn ≡ claim.turn + 1
  pub is_mode : grant.mode ≡ claim.mode
  pub is_version : grant.version ≡ version

-- each of these grants a claim at a version
abbrev pub AreGrants : Claim → ℕ → List MailGrant → Type 0
AreGrants claim version [] = Unit {0}
AreGrants claim version (grant ∷ grants) =
    IsGrant claim version grant × AreGrants claim version grants

-- some grant is for a turn to come, and each that is answers the claim
pub record AreAnswers (claim : Claim) (version turns : ℕ) (grants : List MailGrant) : Type 0 where
  pub some : fresh turns grants ≢ []
  pub each : AreGrants claim version (fresh turns grants)

-- One processor.

-- who waits for an answer to its claim
abbrev pub waiting_for : ℕ → Claim → ℕ → Waiting
waiting_for q claim «have» = record {
  proc = processor_named q;
  turn = claim.turn + 1;
  mode = claim.mode;
  «have» = «have»;
}

-- how q stands at a lock whose home has handled its course up to turn k: the modes in which it holds the lock there, where it waits there, and the grants of the lock that there are for it
pub data Stands (q : ℕ) (moves : List Move) (k version : ℕ) (modes : List Mode) (waits : List Waiting) (grants : List MailGrant) : Type 0 where
  is_apart : claim_of (upto k moves) ≡ None → modes ≡ [] → waits ≡ [] → fresh (length moves) grants ≡ []
      → Stands q moves k version modes waits grants
  is_waiting : (claim : Claim) («have» : ℕ) → claim_of (upto k moves) ≡ Some claim → modes ≡ []
      → waits ≡ waiting_for q claim «have» ∷ [] → length moves ≡ claim.turn → fresh (length moves) grants ≡ []
      → Stands q moves k version modes waits grants
  is_granted : (claim : Claim) → claim_of (upto k moves) ≡ Some claim → modes ≡ claim.mode ∷ []
      → waits ≡ [] → length moves ≡ claim.turn → AreAnswers claim version (length moves) grants
      → Stands q moves k version modes waits grants
  has_taken : (claim : Claim) → claim_of (upto k moves) ≡ Some claim → modes ≡ claim.mode ∷ []
      → waits ≡ [] → claim.turn + 1 ≤ length moves
      → upto (claim.turn + 1) moves ≡ takes claim.mode version ∷ upto claim.turn moves
      → fresh (length moves) grants ≡ [] → Stands q moves k version modes waits grants

-- All processors.

-- all that concerns one lock at one moment
pub record Situation : Type 0 where
  pub moves : ℕ → List Move  -- by processor: what its course does to the lock
  pub handled : ℕ → ℕ  -- by processor: the turn up to which the home has handled its course
  pub grants : ℕ → List MailGrant  -- by processor: the grants of the lock for it, wherever they are
  pub state : LockState  -- at its home

-- how q stands in a situation
abbrev pub StandsIn : Situation → ℕ → Type 0
StandsIn s q =
    Stands q (s.moves q) (s.handled q) s.state.version (modes_of q s.state.holders)
    (waits_of q s.state.queue) (s.grants q)

-- the law of a lock
pub record IsLawful (procs : ℕ) (s : Situation) : Type 0 where
  pub courses : (q : ℕ) → IsCourse (s.moves q)
  pub within : (q : ℕ) → s.handled q ≤ length (s.moves q)
  -- an ask that isn't handled is the newest move
  pub asked : (q : ℕ) → has_ask_behind (past (s.handled q) (s.moves q)) ≡ false
  pub stands : (q : ℕ) → StandsIn s q
  pub together : hold_together s.state.holders ≡ true
  -- the version counts the exclusive holds of which the home knows that they were given back
  pub is_version : s.state.version ≡ total procs (λ q. made_by (upto (s.handled q) (s.moves q)))

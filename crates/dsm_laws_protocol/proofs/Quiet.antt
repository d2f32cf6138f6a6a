-- Where a home is due nothing, nothing was done to its locks; and what it is due first is the next move at each of them.
use Rattle.std.specs.Prelude.{◌≡◌, ℕ, ◌+◌, Bool, true, false, ◌==◌, List, [], ◌∷◌, length, Option, Some, None}
use Rattle.std.proofs.Common.{arith, refl, sym, ap, ◌∙◌, subst, inl, inr}
use Rattle.std.proofs.lemmas.Bool.Decides.{leb_tells, eqb_tells}
use Rattle.std.proofs.lemmas.List.{length-map}
use Rattle.dsm_base.specs.declared.names.Bar.{Bar}
use Rattle.dsm_base.specs.declared.names.Lock.{Lock}
use Rattle.dsm_base.specs.declared.names.Mode.{Mode}
use Rattle.dsm_base.specs.declared.label.Label.{Label}
use Rattle.dsm_base.specs.declared.setup.Setup.{Setup}
use Rattle.dsm_home.specs.LockStates.{version_made}
use Rattle.dsm_net.specs.Messages.{home_of, manager_of}
use Rattle.dsm_laws_protocol.specs.Courses.{upto, Move, Claim, claim_of, made_by, move_of, moves_of}
use Rattle.dsm_laws_protocol.specs.Due.{Item, items, due, IsFirstDue, Word, asked, gave, arrived, word_of_give, have_of, word_for}
use Rattle.dsm_laws_protocol.proofs.Courses.{upto_grown, upto_all, upto_map}
use Rattle.dsm_laws_protocol.proofs.Due.{append_empty, due_grown}
use Rattle.dsm_laws_protocol.proofs.Homes.{IsNextMove}

no_items : {B : Type 0} (turn : ℕ) (o : Option B) → items turn o ≡ [] → o ≡ None
no_items turn None e = refl
no_items turn (Some body) e = cc

-- what a course did to a lock is the same
pub record IsSameRight (one other : List Move) : Type 0 where
  pub same_claim : claim_of one ≡ claim_of other
  pub same_made : made_by one ≡ made_by other

no_give : (lock : _) (version : ℕ) (claim : Option Claim) → word_of_give lock version claim ≡ None → claim ≡ None
no_give lock version None e = refl
no_give lock version (Some claim) e = cc

module _ (setup : Setup) (home lock : ℕ) (is_home : (home_of setup lock == home) ≡ true) where
  untold : (before : List Label) (label : Label) → word_for setup home before label ≡ None → IsSameRight (moves_of lock (label ∷ before)) (moves_of lock before)
  untold before Label.Quiet e = record { same_claim = refl; same_made = refl }
  untold before (Label.Load cell value) e = record { same_claim = refl; same_made = refl }
  untold before (Label.Store cell value) e = record { same_claim = refl; same_made = refl }
  untold before (Label.Ask other mode) e =
      elim (eqb_tells other.0 lock) [
        | inl (t, i) ↦ (let k : (home_of setup other.0 == home) ≡ true = rw i is_home in let n : Some _ ≡ None = rw k at e in cc)
        | inr (t, i) ↦ rw t record { same_claim = refl; same_made = refl }
      ]
  untold before (Label.Take other mode version) e = elim (eqb_tells other.0 lock) [ inl (t, i) ↦ rw t record { same_claim = refl; same_made = refl } | inr (t, i) ↦ rw t record { same_claim = refl; same_made = refl } ]
  untold before (Label.Give other) e =
      elim (eqb_tells other.0 lock) [
        | inl (t, i) ↦ (
            let k : (home_of setup other.0 == home) ≡ true = rw i is_home in
            let n : claim_of (moves_of other.0 before) ≡ None = no_give other _ _ (rw k at e) in
            let m : claim_of (moves_of lock before) ≡ None = rw i at n in
            rw t record { same_claim = sym m; same_made = rw m refl })
        | inr (t, i) ↦ rw t record { same_claim = refl; same_made = refl }
      ]
  untold before (Label.Arrive bar) e = record { same_claim = refl; same_made = refl }
  untold before (Label.Cross bar epoch) e = record { same_claim = refl; same_made = refl }
  untold before (Label.Line text) e = record { same_claim = refl; same_made = refl }
  untold before Label.End e = record { same_claim = refl; same_made = refl }
  untold before (Label.Stop fault line) e = record { same_claim = refl; same_made = refl }

  -- nothing is due beyond a turn: the right is as it was then
  pub quiet : (k : ℕ) (course : List Label) → due (word_for setup home) k course ≡ [] → IsSameRight (moves_of lock course) (moves_of lock (upto k course))
  quiet k [] e = record { same_claim = refl; same_made = refl }
  quiet k (label ∷ before) e =
      elim (leb_tells k (length before)) [
        | inl (_, less) ↦ (
            let both : (due (word_for setup home) k before ≡ []) × (items (length before + 1) (word_for setup home before label) ≡ []) = append_empty _ _ (sym (due_grown (word_for setup home) k label before less) ∙ e) in
            let now : IsSameRight (moves_of lock (label ∷ before)) (moves_of lock before) = untold before label (no_items (length before + 1) _ both.1) in
            let more : IsSameRight (moves_of lock before) (moves_of lock (upto k before)) = quiet k before both.0 in
            rw (upto_grown k label before less) record { same_claim = now.same_claim ∙ more.same_claim; same_made = now.same_made ∙ more.same_made })
        | inr (_, more) ↦ rw (upto_all k (label ∷ before) (omega arith)) record { same_claim = refl; same_made = refl }
      ]

-- Words.

gave_not_asked : (lock other : Lock) (version own : ℕ) (mode : Mode) (claim : _) → word_of_give other version claim ≡ Some (asked lock mode own) → ⊥
gave_not_asked lock other version own mode None e = cc
gave_not_asked lock other version own mode (Some claim) e = cc

-- only an ask says that it asks
pub ask_label : (setup : Setup) (home : ℕ) (before : List Label) (label : Label) (lock : Lock) (mode : Mode) (own : ℕ) → word_for setup home before label ≡ Some (asked lock mode own) → label ≡ Label.Ask lock mode
ask_label setup home before (Label.Ask other m) lock mode own e = go (home_of setup other.0 == home) refl
  where
    go : (b : Bool) → (home_of setup other.0 == home) ≡ b → Label.Ask other m ≡ Label.Ask lock mode
    go true i = let k : Some (asked other m _) ≡ Some (asked lock mode own) = rw i at e in cc
    go false i = let k : None ≡ Some (asked lock mode own) = rw i at e in cc
ask_label setup home before (Label.Give other) lock mode own e = go (home_of setup other.0 == home) refl
  where
    go : (b : Bool) → (home_of setup other.0 == home) ≡ b → Label.Give other ≡ Label.Ask lock mode
    go true i = absurd (gave_not_asked lock other _ own mode _ (rw i at e))
    go false i = let k : None ≡ Some (asked lock mode own) = rw i at e in cc
ask_label setup home before (Label.Arrive bar) lock mode own e = go (manager_of setup bar.0 == home) refl
  where
    go : (b : Bool) → (manager_of setup bar.0 == home) ≡ b → Label.Arrive bar ≡ Label.Ask lock mode
    go true i = let k : Some (arrived bar) ≡ Some (asked lock mode own) = rw i at e in cc
    go false i = let k : None ≡ Some (asked lock mode own) = rw i at e in cc
ask_label setup home before Label.Quiet lock mode own e = cc
ask_label setup home before (Label.Load cell value) lock mode own e = cc
ask_label setup home before (Label.Store cell value) lock mode own e = cc
ask_label setup home before (Label.Take other m version) lock mode own e = cc
ask_label setup home before (Label.Cross bar epoch) lock mode own e = cc
ask_label setup home before (Label.Line text) lock mode own e = cc
ask_label setup home before Label.End lock mode own e = cc
ask_label setup home before (Label.Stop fault line) lock mode own e = cc

-- what a word of a release tells
pub record IsGive (before : List Label) (label : Label) (lock : Lock) (mode : Mode) (version : ℕ) : Type 0 where
  pub is_label : label ≡ Label.Give lock
  pub claim : Claim
  pub is_claim : claim_of (moves_of lock.0 before) ≡ Some claim
  pub is_mode : claim.mode ≡ mode
  pub is_version : version ≡ version_made claim.mode (have_of lock.0 before)

gave_is : (before : List Label) (other lock : Lock) (mode : Mode) (version : ℕ) (claim : Option Claim) → claim_of (moves_of other.0 before) ≡ claim → word_of_give other (have_of other.0 before) claim ≡ Some (gave lock mode version) →
    IsGive before (Label.Give other) lock mode version
gave_is before other lock mode version None c e = cc
gave_is before other lock mode version (Some claim) c e =
    let l : other ≡ lock = cc in
    let m : claim.mode ≡ mode = cc in
    let v : version_made claim.mode (have_of other.0 before) ≡ version = cc in
    record {
      is_label = ap Label.Give l;
      claim = claim;
      is_claim = subst (λ (x : Lock). claim_of (moves_of x.0 before) ≡ Some claim) l c;
      is_mode = m;
      is_version = subst (λ (x : Lock). version ≡ version_made claim.mode (have_of x.0 before)) l (sym v);
    }

pub give_word : (setup : Setup) (home : ℕ) (before : List Label) (label : Label) (lock : Lock) (mode : Mode) (version : ℕ) → word_for setup home before label ≡ Some (gave lock mode version) → IsGive before label lock mode version
give_word setup home before (Label.Give other) lock mode version e = go (home_of setup other.0 == home) refl
  where
    go : (b : Bool) → (home_of setup other.0 == home) ≡ b → IsGive before (Label.Give other) lock mode version
    go true i = gave_is before other lock mode version (claim_of (moves_of other.0 before)) refl (rw i at e)
    go false i = let k : None ≡ Some (gave lock mode version) = rw i at e in cc
give_word setup home before (Label.Ask other m) lock mode version e = go (home_of setup other.0 == home) refl
  where
    go : (b : Bool) → (home_of setup other.0 == home) ≡ b → IsGive before (Label.Ask other m) lock mode version
    go true i = let k : Some (asked other m (have_of other.0 before)) ≡ Some (gave lock mode version) = rw i at e in cc
    go false i = let k : None ≡ Some (gave lock mode version) = rw i at e in cc
give_word setup home before (Label.Arrive bar) lock mode version e = go (manager_of setup bar.0 == home) refl
  where
    go : (b : Bool) → (manager_of setup bar.0 == home) ≡ b → IsGive before (Label.Arrive bar) lock mode version
    go true i = let k : Some (arrived bar) ≡ Some (gave lock mode version) = rw i at e in cc
    go false i = let k : None ≡ Some (gave lock mode version) = rw i at e in cc
give_word setup home before Label.Quiet lock mode version e = cc
give_word setup home before (Label.Load cell value) lock mode version e = cc
give_word setup home before (Label.Store cell value) lock mode version e = cc
give_word setup home before (Label.Take other m taken) lock mode version e = cc
give_word setup home before (Label.Cross bar epoch) lock mode version e = cc
give_word setup home before (Label.Line text) lock mode version e = cc
give_word setup home before Label.End lock mode version e = cc
give_word setup home before (Label.Stop fault line) lock mode version e = cc

gave_not_came : (other : Lock) (version : ℕ) (bar : Bar) (claim : Option Claim) → word_of_give other version claim ≡ Some (arrived bar) → ⊥
gave_not_came other version bar None e = cc
gave_not_came other version bar (Some claim) e = cc

-- only an arrival says that a processor has come
pub came_label : (setup : Setup) (home : ℕ) (before : List Label) (label : Label) (bar : Bar) → word_for setup home before label ≡ Some (arrived bar) → label ≡ Label.Arrive bar
came_label setup home before (Label.Arrive other) bar e = go (manager_of setup other.0 == home) refl
  where
    go : (b : Bool) → (manager_of setup other.0 == home) ≡ b → Label.Arrive other ≡ Label.Arrive bar
    go true i = let k : Some (arrived other) ≡ Some (arrived bar) = rw i at e in cc
    go false i = let k : None ≡ Some (arrived bar) = rw i at e in cc
came_label setup home before (Label.Ask other m) bar e = go (home_of setup other.0 == home) refl
  where
    go : (b : Bool) → (home_of setup other.0 == home) ≡ b → Label.Ask other m ≡ Label.Arrive bar
    go true i = let k : Some (asked other m (have_of other.0 before)) ≡ Some (arrived bar) = rw i at e in cc
    go false i = let k : None ≡ Some (arrived bar) = rw i at e in cc
came_label setup home before (Label.Give other) bar e = go (home_of setup other.0 == home) refl
  where
    go : (b : Bool) → (home_of setup other.0 == home) ≡ b → Label.Give other ≡ Label.Arrive bar
    go true i = absurd (gave_not_came other (have_of other.0 before) bar (claim_of (moves_of other.0 before)) (rw i at e))
    go false i = let k : None ≡ Some (arrived bar) = rw i at e in cc
came_label setup home before Label.Quiet bar e = cc
came_label setup home before (Label.Load cell value) bar e = cc
came_label setup home before (Label.Store cell value) bar e = cc
came_label setup home before (Label.Take other m version) bar e = cc
came_label setup home before (Label.Cross other epoch) bar e = cc
came_label setup home before (Label.Line text) bar e = cc
came_label setup home before Label.End bar e = cc
came_label setup home before (Label.Stop fault line) bar e = cc

-- Moves.

-- the next move that a home handles, at each of its locks
module _ (setup : Setup) (home lock k : ℕ) (is_home : (home_of setup lock == home) ≡ true) (course : List Label) (item : Item Word) (rest : List (Item Word)) (first : IsFirstDue (word_for setup home) k course item rest) where
  abbrev pub next_move : IsNextMove (moves_of lock course) k item.turn (move_of lock first.label)
  next_move =
      let same : IsSameRight (moves_of lock first.before) (moves_of lock (upto k first.before)) = quiet setup home lock is_home k first.before first.is_quiet in
      let past : moves_of lock (upto k first.before) ≡ upto k (moves_of lock course) = ap (moves_of lock) first.same_past ∙ sym (upto_map (move_of lock) k course) in
      record {
        before = moves_of lock first.before;
        later = first.later;
        within = rw length-map first.within;
        is_next = upto_map (move_of lock) item.turn course ∙ ap (moves_of lock) first.is_next;
        same_claim = same.same_claim ∙ ap claim_of past;
        same_made = same.same_made ∙ ap made_by past;
      }

-- What the law of a lock tells: who holds the lock, at which version it is, and what a grant allows.
use Rattle.std.specs.Prelude.{◌≡◌, ℕ, suc, ◌+◌, ◌≤◌, ◌<◌, true, false, ◌==◌, [], ◌∷◌, length, find, Some, None}
use Rattle.std.proofs.Common.{arith, sym, ap, ◌∙◌, subst, inl, inr}
use Rattle.std.proofs.lemmas.Bool.Decides.{eqb_tells, leb_tells}
use Rattle.dsm_base.specs.declared.names.Mode.{Mode}
use Rattle.dsm_base.specs.Holders.{are_compatible}
use Rattle.dsm_lines.specs.declared.of_objects.MailGrant.{MailGrant}
use Rattle.dsm_laws_protocol.specs.Courses.{upto, takes, gives, Claim, claim_of, is_excl, is_exclusive_claim, made_by, have_by, Follows, IsCourse}
use Rattle.dsm_laws_protocol.specs.Situations.{IsGrant, is_apart, is_waiting, is_granted, has_taken, StandsIn, Situation, IsLawful, total, modes_of}
use Rattle.dsm_laws_protocol.proofs.Families.{total_same, turned_false}
use Rattle.dsm_laws_protocol.proofs.Holders.{both_shared}
use Rattle.dsm_laws_protocol.proofs.Courses.{HasLock, upto_length, upto_grown, upto_upto, claim_within, claim_before, claim_handled, whole_handled, made_same, course_upto, newest_claim, version_kept}
use Rattle.dsm_laws_protocol.proofs.Turns.{found_fresh, some_fresh}
use Rattle.dsm_laws_protocol.proofs.Homes.{IsNextMove, same_some}

-- how many versions were version_made in all
abbrev pub newest : ℕ → Situation → ℕ
newest procs s = total procs (λ q. made_by (s.moves q))

module _ (procs : ℕ) (s : Situation) (h : IsLawful procs s) where
  -- who has the lock is a holder, and has taken it at the desk's version
  pub record IsHolder (q : ℕ) (mode : Mode) (claim : Claim) : Type 0 where
    pub is_alone : modes_of q s.state.holders ≡ mode ∷ []
    pub is_taken : upto (claim.turn + 1) (s.moves q) ≡ takes mode s.state.version ∷ upto claim.turn (s.moves q)

  pub holder : (q : ℕ) (mode : Mode) (has : HasLock (s.moves q) mode) → IsHolder q mode has.claim
  holder q mode has =
      let handled : has.claim.turn ≤ s.handled q = claim_handled (s.handled q) (s.moves q) has.claim (h.asked q) has.is_claim has.is_taken in
      go (claim_before (s.handled q) (s.moves q) has.claim handled has.is_claim) (h.stands q)
    where
      go : claim_of (upto (s.handled q) (s.moves q)) ≡ Some has.claim → StandsIn s q → IsHolder q mode has.claim
      go e (is_apart c m w f) = cc
      go e (is_waiting claim own c m w l f) = absurd (let t : claim.turn ≡ has.claim.turn = ap (λ x. x.turn) (same_some (sym c ∙ e)) in let n = has.is_taken in omega arith)
      go e (is_granted claim c m w l f) = absurd (let t : claim.turn ≡ has.claim.turn = ap (λ x. x.turn) (same_some (sym c ∙ e)) in let n = has.is_taken in omega arith)
      go e (has_taken claim c m w g u f) =
          let k : claim ≡ has.claim = same_some (sym c ∙ e) in
          let d : claim.mode ≡ mode = ap (λ x. x.mode) k ∙ has.is_mode in
          record {
            is_alone = m ∙ ap (λ x. x ∷ []) d;
            is_taken = subst (λ x. upto (x.turn + 1) (s.moves q) ≡ takes mode s.state.version ∷ upto x.turn (s.moves q)) k (u ∙ ap (λ x. takes x s.state.version ∷ upto claim.turn (s.moves q)) d);
          }

  -- one who has taken the lock exclusively may have version_made a version of which the home doesn't know; no other has
  made_known : (q : ℕ) → ((claim : Claim) → modes_of q s.state.holders ≡ claim.mode ∷ [] → claim.turn < length (s.moves q) → is_excl claim.mode ≡ false) →
      StandsIn s q → made_by (s.moves q) ≡ made_by (upto (s.handled q) (s.moves q))
  made_known q shared (is_apart c m w f) = made_same (s.handled q) (s.moves q) (h.asked q) (ap is_exclusive_claim c)
  made_known q shared (is_waiting claim own c m w l f) = ap made_by (sym (whole_handled (s.handled q) (s.moves q) claim (h.within q) c l))
  made_known q shared (is_granted claim c m w l f) = ap made_by (sym (whole_handled (s.handled q) (s.moves q) claim (h.within q) c l))
  made_known q shared (has_taken claim c m w g u f) = made_same (s.handled q) (s.moves q) (h.asked q) (ap is_exclusive_claim c ∙ shared claim m (omega arith))

  not_excl : (mode other : Mode) → are_compatible mode other ≡ true → is_excl other ≡ false
  not_excl mode other e = grind arith

  -- where a holder has version_made no version of which the home doesn't know, the desk's version is the newest
  pub desk_newest : (q : ℕ) (mode : Mode) → modes_of q s.state.holders ≡ mode ∷ [] → made_by (s.moves q) ≡ made_by (upto (s.handled q) (s.moves q)) → s.state.version ≡ newest procs s
  desk_newest q mode mine known = h.is_version ∙ sym (total_same procs _ _ each)
    where
      each : (x : ℕ) → made_by (s.moves x) ≡ made_by (upto (s.handled x) (s.moves x))
      each x =
          elim (eqb_tells x q) [
            | inl (_, i) ↦ rw i known
            | inr (t, _) ↦ made_known x (λ claim m lt. not_excl mode claim.mode (both_shared q x s.state.holders mode claim.mode [] [] h.together (turned_false q x t) mine m)) (h.stands x)
          ]

  -- what the grant that is found for the next turn tells
  pub record IsTakeable (q : ℕ) (grant : MailGrant) : Type 0 where
    pub is_alone : modes_of q s.state.holders ≡ grant.mode ∷ []
    pub is_desk : grant.version ≡ s.state.version
    pub is_newest : grant.version ≡ newest procs s

  pub takeable : (q : ℕ) (grant : MailGrant) → find (λ one. one.turn == length (s.moves q) + 1) (s.grants q) ≡ Some grant → IsTakeable q grant
  takeable q grant e = go (h.stands q)
    where
      go : StandsIn s q → IsTakeable q grant
      go (is_apart c m w f) = absurd (some_fresh (length (s.moves q)) grant (s.grants q) e f)
      go (is_waiting claim own c m w l f) = absurd (some_fresh (length (s.moves q)) grant (s.grants q) e f)
      go (has_taken claim c m w g u f) = absurd (some_fresh (length (s.moves q)) grant (s.grants q) e f)
      go (is_granted claim c m w l f) =
          let is : IsGrant claim s.state.version grant = found_fresh (length (s.moves q)) claim s.state.version grant (s.grants q) e f.each in
          record {
            is_alone = m ∙ ap (λ x. x ∷ []) (sym is.is_mode);
            is_desk = is.is_version;
            is_newest = is.is_version ∙ desk_newest q claim.mode m (ap made_by (sym (whole_handled (s.handled q) (s.moves q) claim (h.within q) c l)));
          }

  -- and nobody has the lock in a mode that isn't compatible with it
  pub beside : (q x : ℕ) (grant : MailGrant) (mode : Mode) → (x == q) ≡ false → IsTakeable q grant → HasLock (s.moves x) mode → are_compatible grant.mode mode ≡ true
  beside q x grant mode ne take has = both_shared q x s.state.holders grant.mode mode [] [] h.together (turned_false q x ne) take.is_alone (holder x mode has).is_alone

-- the own copy of who has the lock is at the desk's version
pub have_desk : (procs : ℕ) (s : Situation) (h : IsLawful procs s) (q : ℕ) (mode : Mode) → HasLock (s.moves q) mode → have_by (s.moves q) ≡ s.state.version
have_desk procs s h q mode has =
    version_kept (s.moves q) has.claim mode s.state.version (upto has.claim.turn (s.moves q)) (h.courses q) has.is_claim has.is_taken (holder procs s h q mode has).is_taken

not_taken : (mode : Mode) (version : ℕ) → gives ≡ takes mode version → ⊥
not_taken mode version e = cc

-- at the desk of who gives a lock back: it is the holder, and has the lock at the desk's version
module _ (procs : ℕ) (s : Situation) (h : IsLawful procs s) (q t : ℕ) (next : IsNextMove (s.moves q) (s.handled q) t gives) (claim : Claim) (is_claim : claim_of next.before ≡ Some claim) where
  pub record IsGiver : Type 0 where
    pub is_alone : modes_of q s.state.holders ≡ claim.mode ∷ []
    pub is_desk : have_by next.before ≡ s.state.version

  pub giver : IsGiver
  giver = go (h.stands q)
    where
      count : length next.before + 1 ≡ t
      count = let u : length (upto t (s.moves q)) ≡ t = upto_length t (s.moves q) next.within in let v : length (upto t (s.moves q)) ≡ suc (length next.before) = ap length next.is_next in omega arith

      course_of_before : IsCourse next.before
      course_of_before = (subst IsCourse next.is_next (course_upto t (s.moves q) (h.courses q))).0

      at : claim_of (upto (s.handled q) (s.moves q)) ≡ Some claim
      at = sym next.same_claim ∙ is_claim

      old : claim.turn ≤ s.handled q
      old = let a = claim_within (upto (s.handled q) (s.moves q)) claim at in let b = upto_length (s.handled q) (s.moves q) (h.within q) in omega arith

      follows : Follows next.before gives
      follows = (subst IsCourse next.is_next (course_upto t (s.moves q) (h.courses q))).1

      -- nobody gives a lock back right after the ask
      taken_before : claim.turn + 1 ≤ length next.before
      taken_before =
          elim (leb_tells (claim.turn + 1) (length next.before)) [
            | inl (_, le) ↦ le
            | inr (_, more) ↦ absurd (
                let w = claim_within next.before claim is_claim in
                let k : (version : ℕ) × (gives ≡ takes claim.mode version) = newest_claim next.before claim gives is_claim (omega arith) follows in
                not_taken claim.mode k.0 k.1)
          ]

      go : StandsIn s q → IsGiver
      go (is_apart c m w f) = let k : None ≡ Some claim = sym c ∙ at in cc
      go (is_waiting other own c m w l f) = absurd (let k : other.turn ≡ claim.turn = ap (λ x. x.turn) (same_some (sym c ∙ at)) in let a = next.later in let b = next.within in let d = old in omega arith)
      go (is_granted other c m w l f) = absurd (let k : other.turn ≡ claim.turn = ap (λ x. x.turn) (same_some (sym c ∙ at)) in let a = next.later in let b = next.within in let d = old in omega arith)
      go (has_taken other c m w g u f) =
          let k : other ≡ claim = same_some (sym c ∙ at) in
          let lt : claim.turn + 1 ≤ length next.before = taken_before in
          let same : upto (claim.turn + 1) next.before ≡ upto (claim.turn + 1) (s.moves q) =
          sym (upto_grown (claim.turn + 1) gives next.before lt) ∙ ap (upto (claim.turn + 1)) (sym next.is_next) ∙ upto_upto (claim.turn + 1) t (s.moves q) (let n = count in omega arith) in
          let took : upto (claim.turn + 1) (s.moves q) ≡ takes claim.mode s.state.version ∷ upto claim.turn (s.moves q) =
          subst (λ x. upto (x.turn + 1) (s.moves q) ≡ takes x.mode s.state.version ∷ upto x.turn (s.moves q)) k u in
          record {
            is_alone = m ∙ ap (λ x. x.mode ∷ []) k;
            is_desk = version_kept next.before claim claim.mode s.state.version (upto claim.turn (s.moves q)) (course_of_before) is_claim (omega arith) (same ∙ took);
          }

-- A turn of a processor keeps the law of a lock.
use Rattle.std.specs.Prelude.{◌≡◌, ℕ, zero, suc, ◌+◌, ◌≤◌, ◌<◌, Bool, true, false, ◌==◌, nat_lt, List, [], ◌∷◌, length, find, Some}
use Rattle.std.proofs.Common.{arith, refl, sym, ap, ◌∙◌, subst, inl, inr}
use Rattle.std.proofs.lemmas.Bool.Decides.{leb_tells}
use Rattle.dsm_base.specs.declared.names.Mode.{Mode}
use Rattle.dsm_base.specs.Family.{update}
use Rattle.dsm_lines.specs.declared.of_objects.MailGrant.{MailGrant}
use Rattle.dsm_home.specs.declared.waiting.Waiting.{Waiting}
use Rattle.dsm_home.specs.LockStates.{start_lock}
use Rattle.dsm_laws_protocol.specs.Courses.{upto, past, Move, asks, takes, gives, still, Claim, claim_of, has_ask, has_ask_behind, made_by, Follows}
use Rattle.dsm_laws_protocol.specs.Situations.{fresh, IsGrant, AreGrants, Stands, is_apart, is_waiting, is_granted, has_taken, Situation, IsLawful, total}
use Rattle.dsm_laws_protocol.proofs.Families.{one_changed, total_same}
use Rattle.dsm_laws_protocol.proofs.Courses.{upto_grown, past_grown, past_all, upto_all, upto_length, newest_claim, whole_handled, claim_within}

-- the grant for a turn, as a take finds it
pub record IsFound (turn : ℕ) (mode : Mode) (version : ℕ) (grants : List MailGrant) : Type 0 where
  pub grant : MailGrant
  pub is_first : find (λ one. one.turn == turn) grants ≡ Some grant
  pub is_version : version ≡ grant.version

module _ (n : ℕ) where
  -- what is found for the next turn is fresh
  pub found_fresh : (claim : Claim) (version : ℕ) (grant : MailGrant) (grants : List MailGrant) → find (λ one. one.turn == n + 1) grants ≡ Some grant → AreGrants claim version (fresh n grants) → IsGrant claim version grant
  found_fresh claim version grant [] e h = cc
  found_fresh claim version grant (one ∷ grants) e h = go (found_fresh claim version grant grants) (one.turn == n + 1) refl (nat_lt n one.turn) refl
    where
      go : (find (λ one. one.turn == n + 1) grants ≡ Some grant → AreGrants claim version (fresh n grants) → IsGrant claim version grant) → (b : Bool) → (one.turn == n + 1) ≡ b → (c : Bool) → nat_lt n one.turn ≡ c → IsGrant claim version grant
      go more true i true j = let m : Some one ≡ Some grant = rw i at e in let k : one ≡ grant = cc in subst (IsGrant claim version) k (let a : AreGrants claim version (one ∷ fresh n grants) = rw j at h in a.0)
      go more true i false j = absurd (grind arith)
      go more false i true j = more (rw i at e) (let a : AreGrants claim version (one ∷ fresh n grants) = rw j at h in a.1)
      go more false i false j = more (rw i at e) (rw j at h)

  -- so something is
  pub some_fresh : (grant : MailGrant) (grants : List MailGrant) → find (λ one. one.turn == n + 1) grants ≡ Some grant → fresh n grants ≡ [] → ⊥
  some_fresh grant [] e h = cc
  some_fresh grant (one ∷ grants) e h = grind (arith, some_fresh grant grants)

  -- less is fresh later
  none_later : (grants : List MailGrant) → fresh n grants ≡ [] → fresh (suc n) grants ≡ []
  none_later [] h = refl
  none_later (one ∷ grants) h = grind (arith, none_later grants)

  granted_gone : (claim : Claim) (version : ℕ) (grants : List MailGrant) → n ≡ claim.turn → AreGrants claim version (fresh n grants) → fresh (suc n) grants ≡ []
  granted_gone claim version [] e h = refl
  granted_gone claim version (one ∷ grants) e h = go (granted_gone claim version grants e) (nat_lt n one.turn) refl
    where
      go : (AreGrants claim version (fresh n grants) → fresh (suc n) grants ≡ []) → (b : Bool) → nat_lt n one.turn ≡ b → fresh (suc n) (one ∷ grants) ≡ []
      go more true i = let a : AreGrants claim version (one ∷ fresh n grants) = rw i at h in let t = a.0.is_turn in let k = more a.1 in grind arith
      go more false i = let k = more (rw i at h) in grind arith

module _ (q k version : ℕ) (modes : List Mode) (waits : List Waiting) (grants : List MailGrant) (moves : List Move) (next : Move) (le : k ≤ length moves) (follows : Follows moves next)
    (found : (mode : Mode) (number : ℕ) → next ≡ takes mode number → IsFound (length moves + 1) mode number grants) where
  -- a take by one that no grant is for
  no_take : (claim : Claim) → claim_of (upto k moves) ≡ Some claim → length moves ≡ claim.turn → fresh (length moves) grants ≡ [] → ⊥
  no_take claim e l f =
      let t : (number : ℕ) × (next ≡ takes claim.mode number) = newest_claim moves claim next (rw (whole_handled k moves claim le e l) at e) l follows in
      let g : IsFound (length moves + 1) claim.mode t.0 grants = found claim.mode t.0 t.1 in
      some_fresh (length moves) g.grant grants g.is_first f

  pub stood : Stands q moves k version modes waits grants → Stands q (next ∷ moves) k version modes waits grants
  stood (is_apart c m w f) = is_apart (rw (upto_grown k next moves le) c) m w (none_later (length moves) grants f)
  stood (is_waiting claim own c m w l f) = absurd (no_take claim c l f)
  stood (is_granted claim c m w l f) =
      let t : (number : ℕ) × (next ≡ takes claim.mode number) = newest_claim moves claim next (rw (whole_handled k moves claim le c l) at c) l follows in
      let g : IsFound (length moves + 1) claim.mode t.0 grants = found claim.mode t.0 t.1 in
      let all : AreGrants claim version (fresh (length moves) grants) = f.each in
      let is : IsGrant claim version g.grant = found_fresh (length moves) claim version g.grant grants g.is_first all in
      let v : next ≡ takes claim.mode version = t.1 ∙ ap (λ x. takes claim.mode x) (g.is_version ∙ is.is_version) in
      has_taken claim (rw (upto_grown k next moves le) c) m w (omega arith)
      (upto_all (claim.turn + 1) (next ∷ moves) (omega arith) ∙ ap (λ x. x ∷ moves) v ∙ ap (λ x. takes claim.mode version ∷ x) (sym (upto_grown claim.turn next moves (omega arith) ∙ upto_all claim.turn moves (omega arith))))
      (granted_gone (length moves) claim version grants l all)
  stood (has_taken claim c m w g t f) =
      has_taken claim (rw (upto_grown k next moves le) c) m w (omega arith)
      (upto_grown (claim.turn + 1) next moves g ∙ t ∙ ap (λ x. takes claim.mode version ∷ x) (sym (upto_grown claim.turn next moves (omega arith)))) (none_later (length moves) grants f)

  -- who has asked, and whose ask isn't handled, makes no turn
  ask_waits : (before : List Move) (mode : Mode) → moves ≡ asks mode ∷ before → k < length moves → Stands q moves k version modes waits grants → ⊥
  ask_waits before mode e lt s =
      let t : (number : ℕ) × (next ≡ takes mode number) = subst (λ x. Follows x next) e follows in
      let g : IsFound (length moves + 1) mode t.0 grants = found mode t.0 t.1 in
      go g s
    where
      go : {number : ℕ} → IsFound (length moves + 1) mode number grants → Stands q moves k version modes waits grants → ⊥
      go g (is_apart c m w f) = some_fresh (length moves) g.grant grants g.is_first f
      go g (is_waiting claim own c m w l f) = some_fresh (length moves) g.grant grants g.is_first f
      go g (is_granted claim c m w l f) = let i = claim_within (upto k moves) claim c in let u = upto_length k moves le in omega arith
      go g (has_taken claim c m w o t f) = some_fresh (length moves) g.grant grants g.is_first f

  pub asked_on : Stands q moves k version modes waits grants → has_ask_behind (past k moves) ≡ false → has_ask_behind (past k (next ∷ moves)) ≡ false
  asked_on s h = rw (past_grown k next moves le) (go moves refl)
    where
      go : (all : List Move) → moves ≡ all → has_ask (past k moves) ≡ false
      go [] e = rw e refl
      go (asks mode ∷ before) e = elim (leb_tells (length moves) k) [ inl (_, less) ↦ rw (past_all k moves less) refl | inr (_, lt) ↦ absurd (ask_waits before mode e lt s) ]
      go (takes mode number ∷ before) e = rw e (let d : has_ask_behind (past k (takes mode number ∷ before)) ≡ false = rw e at h in grind arith)
      go (gives ∷ before) e = rw e (let d : has_ask_behind (past k (gives ∷ before)) ≡ false = rw e at h in grind arith)
      go (still ∷ before) e = rw e (let d : has_ask_behind (past k (still ∷ before)) ≡ false = rw e at h in grind arith)

-- All processors.

abbrev pub with_move : Situation → ℕ → Move → Situation
with_move s q next = record s { moves = update s.moves q (next ∷ s.moves q) }

pub turn_made : (procs : ℕ) (s : Situation) (q : ℕ) (next : Move) → IsLawful procs s → Follows (s.moves q) next →
    ((mode : Mode) (number : ℕ) → next ≡ takes mode number → IsFound (length (s.moves q) + 1) mode number (s.grants q)) → IsLawful procs (with_move s q next)
turn_made procs s q next h follows found = record {
  courses = one_changed q (λ here. rw here (h.courses q, follows)) (λ x there. rw there (h.courses x));
  within = one_changed q (λ here. rw here (let k = h.within q in omega arith)) (λ x there. rw there (h.within x));
  asked = one_changed q (λ here. rw here (asked_on q (s.handled q) s.state.version _ _ (s.grants q) (s.moves q) next (h.within q) follows found (h.stands q) (h.asked q))) (λ x there. rw there (h.asked x));
  stands = one_changed q (λ here. rw here (stood q (s.handled q) s.state.version _ _ (s.grants q) (s.moves q) next (h.within q) follows found (h.stands q))) (λ x there. rw there (h.stands x));
  together = h.together;
  is_version = h.is_version ∙ total_same procs _ _ (one_changed q (λ here. rw here (ap made_by (sym (upto_grown (s.handled q) next (s.moves q) (h.within q))))) (λ x there. rw there refl));
}

-- Before the first turn.

abbrev start_situation : Situation
start_situation = record { moves = λ q. []; handled = λ q. 0; grants = λ q. []; state = start_lock }

no_total : (n : ℕ) → 0 ≡ total n (λ q. 0)
no_total zero = refl
no_total (suc n) = let k = no_total n in omega arith

pub start_rights : (procs : ℕ) → IsLawful procs start_situation
start_rights procs = record {
  courses = λ q. tt;
  within = λ q. omega arith;
  asked = λ q. refl;
  stands = λ q. is_apart refl refl refl refl;
  together = refl;
  is_version = no_total procs;
}

-- What the home of a lock handles and grants keeps the law of the lock.
use Rattle.std.specs.Prelude.{◌≡◌, ℕ, suc, ◌+◌, ◌≤◌, ◌<◌, Bool, true, false, ◌==◌, if◌then◌else◌, nat_lt, List, [], ◌∷◌, ◌++◌, length, map, Some, None}
use Rattle.std.proofs.Common.{arith, refl, sym, ap, ◌∙◌, subst, inl, inr, append_assoc, append-nil, true≢false}
use Rattle.std.proofs.lemmas.Bool.Decides.{eqb_tells}
use Rattle.std.proofs.lemmas.List.Elements.{filter-append}
use Rattle.std.proofs.Math.Path.{fun_ext}
use Rattle.dsm_base.specs.declared.names.Mode.{Mode}
use Rattle.dsm_base.specs.Family.{update}
use Rattle.dsm_lines.specs.declared.of_objects.MailGrant.{MailGrant}
use Rattle.dsm_home.specs.declared.waiting.Waiting.{Waiting}
use Rattle.dsm_home.specs.LockStates.{fits_beside, holder_of, front_of, behind_front, lock_with_request, version_made, lock_after_release}
use Rattle.dsm_net.specs.Effects.{waiting_of}
use Rattle.dsm_laws_protocol.specs.Courses.{upto, Move, asks, gives, Claim, claim_of, is_excl, made_by, IsCourse}
use Rattle.dsm_laws_protocol.specs.Situations.{fresh, AreAnswers, IsGrant, waiting_for, Stands, is_apart, is_waiting, is_granted, has_taken, StandsIn, Situation, IsLawful, total, modes_of, waits_of}
use Rattle.dsm_laws_protocol.proofs.Families.{one_changed, total_same, total_more, turned_false, turned_true, if_same}
use Rattle.dsm_laws_protocol.proofs.Holders.{waits_append, modes_append, modes_without, modes_without_other, without_together, both_shared, together_one}
use Rattle.dsm_laws_protocol.proofs.Courses.{past_all, upto_length, claim_within, course_upto, asks_unclaimed, ask_newest, asks_behind_later}

-- the next of a processor's moves that its home handles: t is its turn
pub record IsNextMove (moves : List Move) (k t : ℕ) (next : Move) : Type 0 where
  pub before : List Move
  pub later : k < t
  pub within : t ≤ length moves
  pub is_next : upto t moves ≡ next ∷ before
  pub same_claim : claim_of before ≡ claim_of (upto k moves)
  pub same_made : made_by before ≡ made_by (upto k moves)

abbrev pub next_as : {moves : List Move} {k t : ℕ} {next other : Move} → IsNextMove moves k t next → next ≡ other → IsNextMove moves k t other
next_as n e = record {
  before = n.before;
  later = n.later;
  within = n.within;
  is_next = n.is_next ∙ ap (λ x. x ∷ n.before) e;
  same_claim = n.same_claim;
  same_made = n.same_made;
}

pub same_some : {A : Type 0} {a b : A} → Some a ≡ Some b → a ≡ b
same_some e = cc

module _ (procs : ℕ) (s : Situation) (h : IsLawful procs s) (q t : ℕ) where
  -- Messages that say nothing of the lock.

  abbrev pub with_handled : Situation
  with_handled = record s { handled = update s.handled q t }

  same_stands : (k version : ℕ) (modes : List Mode) (waits : List Waiting) (grants : List MailGrant) (moves : List Move) → claim_of (upto t moves) ≡ claim_of (upto k moves) →
      Stands q moves k version modes waits grants → Stands q moves t version modes waits grants
  same_stands k version modes waits grants moves e (is_apart c m w f) = is_apart (e ∙ c) m w f
  same_stands k version modes waits grants moves e (is_waiting claim own c m w l f) = is_waiting claim own (e ∙ c) m w l f
  same_stands k version modes waits grants moves e (is_granted claim c m w l f) = is_granted claim (e ∙ c) m w l f
  same_stands k version modes waits grants moves e (has_taken claim c m w g u f) = has_taken claim (e ∙ c) m w g u f

  pub handled_more : s.handled q ≤ t → t ≤ length (s.moves q) → claim_of (upto t (s.moves q)) ≡ claim_of (upto (s.handled q) (s.moves q)) →
      made_by (upto t (s.moves q)) ≡ made_by (upto (s.handled q) (s.moves q)) → IsLawful procs with_handled
  handled_more le within c m = record {
    courses = h.courses;
    within = one_changed q (λ here. rw here within) (λ x there. rw there (h.within x));
    asked = one_changed q (λ here. rw here (asks_behind_later (s.handled q) t (s.moves q) le (h.asked q))) (λ x there. rw there (h.asked x));
    stands = one_changed q (λ here. rw here (same_stands (s.handled q) s.state.version _ _ (s.grants q) (s.moves q) c (h.stands q))) (λ x there. rw there (h.stands x));
    together = h.together;
    is_version = h.is_version ∙ total_same procs _ _ (one_changed q (λ here. rw here (sym m)) (λ x there. rw there refl));
  }

  -- An ask.

  unclaimed : {k version : ℕ} {modes : List Mode} {waits : List Waiting} {grants : List MailGrant} {moves : List Move} → claim_of (upto k moves) ≡ None →
      Stands q moves k version modes waits grants → (modes ≡ []) × (waits ≡ []) × (fresh (length moves) grants ≡ [])
  unclaimed e (is_apart c m w f) = (m, w, f)
  unclaimed e (is_waiting claim own c m w l f) = cc
  unclaimed e (is_granted claim c m w l f) = cc
  unclaimed e (has_taken claim c m w g u f) = cc

  -- who asks is neither a holder nor waits
  pub asker_out : (mode : Mode) → IsNextMove (s.moves q) (s.handled q) t (asks mode) → (modes_of q s.state.holders ≡ []) × (waits_of q s.state.queue ≡ []) × (fresh (length (s.moves q)) (s.grants q) ≡ [])
  asker_out mode next =
      let course : IsCourse (asks mode ∷ next.before) = subst IsCourse next.is_next (course_upto t (s.moves q) (h.courses q)) in
      unclaimed (sym next.same_claim ∙ asks_unclaimed next.before mode course.1) (h.stands q)

  -- the home puts an ask at the end of the queue
  pub ask_came : (mode : Mode) (own : ℕ) → IsNextMove (s.moves q) (s.handled q) t (asks mode) → IsLawful procs (record with_handled { state = lock_with_request s.state (waiting_of q t mode own) })
  ask_came mode own next =
      let newest : t ≡ length (s.moves q) = ask_newest (s.handled q) t mode (s.moves q) next.before (h.asked q) next.later next.within next.is_next in
      let course : IsCourse (asks mode ∷ next.before) = subst IsCourse next.is_next (course_upto t (s.moves q) (h.courses q)) in
      let none : claim_of (upto (s.handled q) (s.moves q)) ≡ None = sym next.same_claim ∙ asks_unclaimed next.before mode course.1 in
      let out : (modes_of q s.state.holders ≡ []) × (waits_of q s.state.queue ≡ []) × (fresh (length (s.moves q)) (s.grants q) ≡ []) = unclaimed none (h.stands q) in
      let count : length next.before + 1 ≡ t = let u : length (upto t (s.moves q)) ≡ t = upto_length t (s.moves q) next.within in let v : length (upto t (s.moves q)) ≡ suc (length next.before) = ap length next.is_next in omega arith in
      record {
        courses = h.courses;
        within = one_changed q (λ here. rw here next.within) (λ x there. rw there (h.within x));
        asked = one_changed q (λ here. rw (here, past_all t (s.moves q) (omega arith)) refl) (λ x there. rw there (h.asked x));
        stands = one_changed q
            (λ here. rw here (is_waiting record { turn = t; mode = mode } own (ap claim_of next.is_next ∙ ap (λ n. Some record { turn = n; mode = mode }) count) out.0
            (waits_append q s.state.queue (waiting_of q t mode own ∷ []) ∙ rw here (ap (λ ws. ws ++ waiting_of q t mode own ∷ []) out.1)) (sym newest) out.2))
            (λ x there. rw there (subst (λ ws. Stands x (s.moves x) (s.handled x) s.state.version (modes_of x s.state.holders) ws (s.grants x))
            (sym (waits_append x s.state.queue (waiting_of q t mode own ∷ []) ∙ rw (turned_false q x there) (append-nil (waits_of x s.state.queue)))) (h.stands x)));
        together = h.together;
        is_version = h.is_version ∙ total_same procs _ _ (one_changed q (λ here. rw here (sym (ap made_by next.is_next ∙ next.same_made))) (λ x there. rw there refl));
      }

  -- A give.

  holding : {k version : ℕ} {modes : List Mode} {waits : List Waiting} {grants : List MailGrant} {moves : List Move} (claim : Claim) → claim_of (upto k moves) ≡ Some claim → claim.turn < length moves →
      Stands q moves k version modes waits grants → (modes ≡ claim.mode ∷ []) × (waits ≡ []) × (fresh (length moves) grants ≡ [])
  holding claim e lt (is_apart c m w f) = cc
  holding claim e lt (is_waiting other own c m w l f) = let k : other ≡ claim = same_some (sym c ∙ e) in absurd (let n : other.turn ≡ claim.turn = ap (λ x. x.turn) k in omega arith)
  holding claim e lt (is_granted other c m w l f) = let k : other ≡ claim = same_some (sym c ∙ e) in absurd (let n : other.turn ≡ claim.turn = ap (λ x. x.turn) k in omega arith)
  holding claim e lt (has_taken other c m w g u f) = let k : other ≡ claim = same_some (sym c ∙ e) in (m ∙ ap (λ x. x.mode ∷ []) k, w, f)

  -- another is not touched by a new version, where an exclusive hold ended
  others_stand : (mode : Mode) → modes_of q s.state.holders ≡ mode ∷ [] → (x : ℕ) → (x == q) ≡ false →
      StandsIn s x →
      Stands x (s.moves x) (s.handled x) (version_made mode s.state.version) (modes_of x s.state.holders) (waits_of x s.state.queue) (s.grants x)
  others_stand Mode.Shared mine x there stands = stands
  others_stand Mode.Excl mine x there (is_apart c m w f) = is_apart c m w f
  others_stand Mode.Excl mine x there (is_waiting claim own c m w l f) = is_waiting claim own c m w l f
  others_stand Mode.Excl mine x there (is_granted claim c m w l f) = absurd (true≢false (sym (both_shared q x s.state.holders Mode.Excl claim.mode [] [] h.together (turned_false q x there) mine m)))
  others_stand Mode.Excl mine x there (has_taken claim c m w g u f) = absurd (true≢false (sym (both_shared q x s.state.holders Mode.Excl claim.mode [] [] h.together (turned_false q x there) mine m)))

  given_count : (mode : Mode) (f g : ℕ → ℕ) → q < procs → g q ≡ (if is_excl mode then f q + 1 else f q) → ((x : ℕ) → (x == q) ≡ false → g x ≡ f x) → version_made mode (total procs f) ≡ total procs g
  given_count Mode.Shared f g lt e others = total_same procs f g (one_changed q (λ here. sym e) (λ x there. sym (others x there)))
  given_count Mode.Excl f g lt e others = sym (total_more procs f g q lt e others)

  -- the home takes the hold away
  pub give_came : (claim : Claim) → q < procs → claim_of (upto (s.handled q) (s.moves q)) ≡ Some claim → IsNextMove (s.moves q) (s.handled q) t gives →
      IsLawful procs (record with_handled { state = lock_after_release s.state q claim.mode })
  give_came claim lt e next =
      let count : claim.turn ≤ s.handled q = let a = claim_within (upto (s.handled q) (s.moves q)) claim e in let b = upto_length (s.handled q) (s.moves q) (h.within q) in omega arith in
      let later : s.handled q < t = next.later in
      let last : t ≤ length (s.moves q) = next.within in
      let was : (modes_of q s.state.holders ≡ claim.mode ∷ []) × (waits_of q s.state.queue ≡ []) × (fresh (length (s.moves q)) (s.grants q) ≡ []) = holding claim e (omega arith) (h.stands q) in
      record {
        courses = h.courses;
        within = one_changed q (λ here. rw here next.within) (λ x there. rw there (h.within x));
        asked = one_changed q (λ here. rw here (asks_behind_later (s.handled q) t (s.moves q) (omega arith) (h.asked q))) (λ x there. rw there (h.asked x));
        stands = one_changed q
            (λ here. rw here (is_apart (ap claim_of next.is_next) (modes_without q s.state.holders) was.1 was.2))
            (λ x there. rw there (subst (λ ms. Stands x (s.moves x) (s.handled x) (version_made claim.mode s.state.version) ms (waits_of x s.state.queue) (s.grants x))
            (sym (modes_without_other q x s.state.holders there)) (others_stand claim.mode was.0 x there (h.stands x))));
        together = without_together q s.state.holders h.together;
        is_version = ap (version_made claim.mode) h.is_version ∙ given_count claim.mode _ _ lt
            (rw if_same (ap made_by next.is_next ∙ rw (next.same_claim ∙ e) (ap (λ n. if is_excl claim.mode then n + 1 else n) next.same_made)))
            (λ x there. rw there refl);
      }

-- Grants.

granted_answers : (n : ℕ) (claim : Claim) (version : ℕ) (grant : MailGrant) (grants : List MailGrant) → n ≡ claim.turn → IsGrant claim version grant → fresh n grants ≡ [] →
    AreAnswers claim version n (grants ++ grant ∷ [])
granted_answers n claim version grant grants l is f =
    let t : grant.turn ≡ claim.turn + 1 = is.is_turn in
    let k : fresh n (grants ++ grant ∷ []) ≡ grant ∷ [] = filter-append (λ g. nat_lt n g.turn) grants (grant ∷ []) ∙ ap (λ gs. gs ++ fresh n (grant ∷ [])) f ∙ grind arith in
    record { some = λ e. (let m : grant ∷ [] ≡ [] = sym k ∙ e in cc); each = rw k (is, tt) }

module _ (procs : ℕ) (s : Situation) (h : IsLawful procs s) where
  abbrev pub with_grant : Waiting → List Waiting → MailGrant → Situation
  with_grant one others grant = record s {
    state = record s.state { holders = s.state.holders ++ holder_of one ∷ []; queue = others };
    grants = update s.grants one.proc.0 (s.grants one.proc.0 ++ grant ∷ []);
  }

  -- the first in the queue is granted the lock
  pub serve_one : (one : Waiting) (others : List Waiting) (grant : MailGrant) → s.state.queue ≡ one ∷ others → fits_beside s.state.holders one.mode ≡ true →
      grant.turn ≡ one.turn → grant.mode ≡ one.mode → grant.version ≡ s.state.version → IsLawful procs (with_grant one others grant)
  serve_one one others grant e fits turn mode version = record {
    courses = h.courses;
    within = h.within;
    asked = h.asked;
    stands = one_changed one.proc.0 (λ here. rw here (granted_stands here (h.stands one.proc.0))) (λ x there. rw there (kept_stands x there (h.stands x)));
    together = together_one s.state.holders (holder_of one) h.together fits;
    is_version = h.is_version;
  }
    where
      kept_stands : (x : ℕ) → (x == one.proc.0) ≡ false → StandsIn s x →
          Stands x (s.moves x) (s.handled x) s.state.version (modes_of x (s.state.holders ++ holder_of one ∷ [])) (waits_of x others) (s.grants x)
      kept_stands x there stands =
          let m : modes_of x (s.state.holders ++ holder_of one ∷ []) ≡ modes_of x s.state.holders = modes_append x s.state.holders (holder_of one ∷ []) ∙ rw (turned_false one.proc.0 x there) (append-nil (modes_of x s.state.holders)) in
          let w : waits_of x s.state.queue ≡ waits_of x others = ap (waits_of x) e ∙ rw (turned_false one.proc.0 x there) refl in
          rw m (rw w at stands)

      granted_stands : (one.proc.0 == one.proc.0) ≡ true → StandsIn s one.proc.0 →
          Stands one.proc.0 (s.moves one.proc.0) (s.handled one.proc.0) s.state.version (modes_of one.proc.0 (s.state.holders ++ holder_of one ∷ [])) (waits_of one.proc.0 others) (s.grants one.proc.0 ++ grant ∷ [])
      granted_stands here stands = go (ap (waits_of one.proc.0) e ∙ rw here refl) stands
        where
          go : waits_of one.proc.0 s.state.queue ≡ one ∷ waits_of one.proc.0 others → StandsIn s one.proc.0 →
              Stands one.proc.0 (s.moves one.proc.0) (s.handled one.proc.0) s.state.version (modes_of one.proc.0 (s.state.holders ++ holder_of one ∷ [])) (waits_of one.proc.0 others) (s.grants one.proc.0 ++ grant ∷ [])
          go q (is_apart c m w f) = cc
          go q (is_granted claim c m w l f) = cc
          go q (has_taken claim c m w g u f) = cc
          go q (is_waiting claim own c m w l f) =
              let same : one ≡ waiting_for one.proc.0 claim own = cc in
              let t : one.turn ≡ claim.turn + 1 = ap (λ y. y.turn) same in
              let d : one.mode ≡ claim.mode = ap (λ y. y.mode) same in
              is_granted claim c
              (modes_append one.proc.0 s.state.holders (holder_of one ∷ []) ∙ rw here (ap (λ ms. ms ++ one.mode ∷ []) m ∙ ap (λ mode. mode ∷ []) d)) (cc) l
              (granted_answers (length (s.moves one.proc.0)) claim s.state.version grant (s.grants one.proc.0) l record { is_turn = turn ∙ t; is_mode = mode ∙ d; is_version = version } f)

grants_more : (grant : Waiting → MailGrant) (one : Waiting) (others : List Waiting) (grants : ℕ → List MailGrant) →
    ◌≡◌ {A = ℕ → List MailGrant} (λ q. update grants one.proc.0 (grants one.proc.0 ++ grant one ∷ []) q ++ map grant (waits_of q others)) (λ q. grants q ++ map grant (waits_of q (one ∷ others)))
grants_more grant one others grants = fun_ext (λ q. elim (eqb_tells one.proc.0 q) [
  | inl (t, i) ↦ rw (t, turned_true one.proc.0 q t) (ap (λ r. (grants r ++ grant one ∷ []) ++ map grant (waits_of q others)) i ∙ append_assoc (grants q) (grant one ∷ []) (map grant (waits_of q others)))
  | inr (t, _) ↦ rw (t, turned_false q one.proc.0 t) refl
])

pub record AreGrantsAt (version : ℕ) (grant : Waiting → MailGrant) : Type 0 where
  pub is_turn : (one : Waiting) → (grant one).turn ≡ one.turn
  pub is_mode : (one : Waiting) → (grant one).mode ≡ one.mode
  pub is_version : (one : Waiting) → (grant one).version ≡ version

-- the home grants the lock to those at the front of the queue
abbrev with_front : (Waiting → MailGrant) → List Waiting → Situation → Situation
with_front grant queue s = record s {
  state = record s.state { holders = s.state.holders ++ map holder_of (front_of s.state.holders queue); queue = behind_front s.state.holders queue };
  grants = λ q. s.grants q ++ map grant (waits_of q (front_of s.state.holders queue));
}

serve_none : (procs : ℕ) (grant : Waiting → MailGrant) (queue : List Waiting) (s : Situation) → s.state.queue ≡ queue → IsLawful procs s →
    IsLawful procs (record s { state = record s.state { holders = s.state.holders ++ []; queue = queue }; grants = λ q. s.grants q ++ [] })
serve_none procs grant queue s e h = subst (IsLawful procs) (λ i. record s { state = record s.state { holders = sym (append-nil s.state.holders) i; queue = e i }; grants = λ q. sym (append-nil (s.grants q)) i }) h

pub serve : (procs : ℕ) (grant : Waiting → MailGrant) (queue : List Waiting) (s : Situation) → s.state.queue ≡ queue → AreGrantsAt s.state.version grant → IsLawful procs s → IsLawful procs (with_front grant queue s)
serve procs grant [] s e all h = serve_none procs grant [] s e h
serve procs grant (one ∷ others) s e all h = go (fits_beside s.state.holders one.mode) refl (λ fits. serve procs grant others (with_grant procs s h one others (grant one)) refl all
    (serve_one procs s h one others (grant one) e fits (all.is_turn one) (all.is_mode one) (all.is_version one)))
  where
    go : (b : Bool) → fits_beside s.state.holders one.mode ≡ b → (fits_beside s.state.holders one.mode ≡ true → IsLawful procs (with_front grant others (with_grant procs s h one others (grant one)))) →
        IsLawful procs (with_front grant (one ∷ others) s)
    go true fits more = rw fits (subst (IsLawful procs) (λ i. record s {
      state = record s.state {
        holders = append_assoc s.state.holders (holder_of one ∷ []) (map holder_of (front_of (s.state.holders ++ holder_of one ∷ []) others)) i;
        queue = behind_front (s.state.holders ++ holder_of one ∷ []) others;
      };
      grants = grants_more grant one (front_of (s.state.holders ++ holder_of one ∷ []) others) s.grants i;
    }) (more fits))
    go false fits more = rw fits (serve_none procs grant (one ∷ others) s e h)

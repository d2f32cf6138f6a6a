-- The steps of which units are made, over all locks: what each keeps of the law.
use Rattle.std.specs.Prelude.{◌≡◌, ℕ, ◌≤◌, true, false, ◌==◌, List, [], ◌∷◌, ◌++◌, length, map, filter}
use Rattle.std.proofs.Common.{arith, refl, sym, ap, ap₂, ◌∙◌, subst, inl, inr, append_assoc, append-nil}
use Rattle.std.proofs.lemmas.Bool.Decides.{eqb_tells}
use Rattle.std.proofs.lemmas.List.{length-map}
use Rattle.dsm_base.specs.declared.names.Lock.{Lock}
use Rattle.dsm_base.specs.declared.label.Label.{Label}
use Rattle.dsm_base.specs.declared.setup.Setup.{Setup}
use Rattle.dsm_base.specs.Family.{update, update_at}
use Rattle.dsm_lines.specs.declared.of_objects.MailGrant.{MailGrant}
use Rattle.dsm_msg.specs.declared.message.Msg.{Msg}
use Rattle.dsm_home.specs.declared.waiting.Waiting.{Waiting}
use Rattle.dsm_home.specs.LockStates.{LockState, grants_of, lock_after_grants}
use Rattle.dsm_net.specs.Processor.{Mail, Processor}
use Rattle.dsm_net.specs.Messages.{home_of}
use Rattle.dsm_net.specs.Grants.{own_grant, home_after_grants, grant_messages}
use Rattle.dsm_laws_protocol.specs.Courses.{upto, Move, move_of, moves_of, claim_of, made_by}
use Rattle.dsm_laws_protocol.specs.Situations.{Situation, IsLawful, waits_of}
use Rattle.dsm_laws_protocol.specs.Due.{due, word_for}
use Rattle.dsm_laws_protocol.specs.Worlds.{World, grants_said, mail_for, situation_at, AreLawful}
use Rattle.dsm_laws_protocol.proofs.Families.{at_locks, one_changed, if_same, turned_false}
use Rattle.dsm_laws_protocol.proofs.Courses.{upto_map, upto_upto}
use Rattle.dsm_laws_protocol.proofs.Homes.{handled_more, serve}
use Rattle.dsm_laws_protocol.proofs.Quiet.{IsSameRight, quiet}
use Rattle.dsm_laws_protocol.proofs.Channels.{goes, grants_append}
use Rattle.dsm_laws_protocol.proofs.Granting.{sent_to, none_to_me, none_from, none_other, mail_now, mail_other}
use Rattle.dsm_laws_protocol.proofs.Likeness.{lawful_alike, same_fresh}

-- The steps.

module _ {S : Type 0} (w : World S) where
  abbrev pub with_new : ℕ → Processor S → World S
  with_new p s = record w { processors = update w.processors p s }

  abbrev pub with_sent : List Msg → World S
  with_sent msgs = record w { channels = λ p q. w.channels p q ++ filter (goes p q) msgs }

  abbrev pub without_oldest : ℕ → ℕ → List Msg → World S
  without_oldest p q others = record w { channels = update_at w.channels p q others }

  abbrev pub with_handled : ℕ → ℕ → ℕ → World S
  with_handled home p turn = record w { handled = update_at w.handled home p turn }

  abbrev pub with_label : ℕ → Label → World S
  with_label p label = record w { courses = update w.courses p (label ∷ w.courses p) }

-- A home has handled more.

-- nothing was done to a lock between two turns
pub record IsSameUpto (moves : List Move) (k turn : ℕ) : Type 0 where
  pub later : k ≤ turn
  pub within : turn ≤ length moves
  pub same_claim : claim_of (upto turn moves) ≡ claim_of (upto k moves)
  pub same_made : made_by (upto turn moves) ≡ made_by (upto k moves)

module _ {S : Type 0} (setup : Setup) (w : World S) (home p turn : ℕ) where
  pub raised_at : (lock : ℕ) → (home_of setup lock ≡ home → IsSameUpto (moves_of lock (w.courses p)) (w.handled home p) turn) → IsLawful setup.procs (situation_at setup w lock) →
      IsLawful setup.procs (situation_at setup (with_handled w home p turn) lock)
  raised_at lock same h =
      elim (eqb_tells (home_of setup lock) home) [
        | inl (t, i) ↦ (
            let u : IsSameUpto (moves_of lock (w.courses p)) (w.handled (home_of setup lock) p) turn = subst (λ r. IsSameUpto (moves_of lock (w.courses p)) (w.handled r p) turn) (sym i) (same i) in
            lawful_alike setup.procs (record (situation_at setup w lock) { handled = update (w.handled (home_of setup lock)) p turn }) (situation_at setup (with_handled w home p turn) lock)
            record { moves = λ q. refl; handled = λ q. rw t (ap (λ r. update (w.handled r) p turn q) i); grants = λ q. refl; state = refl }
            (handled_more setup.procs (situation_at setup w lock) h p turn u.later u.within u.same_claim u.same_made))
        | inr (t, _) ↦ lawful_alike setup.procs (situation_at setup w lock) (situation_at setup (with_handled w home p turn) lock)
            record { moves = λ q. refl; handled = λ q. rw t refl; grants = λ q. refl; state = refl } h
      ]

  -- where the home is due nothing up to that turn
  pub quiet_same : (lock : ℕ) → w.handled home p ≤ turn → turn ≤ length (w.courses p) → due (word_for setup home) (w.handled home p) (upto turn (w.courses p)) ≡ [] → home_of setup lock ≡ home →
      IsSameUpto (moves_of lock (w.courses p)) (w.handled home p) turn
  quiet_same lock later within none i =
      let is_home : (home_of setup lock == home) ≡ true = rw i (grind arith) in
      let same : IsSameRight (moves_of lock (upto turn (w.courses p))) (moves_of lock (upto (w.handled home p) (upto turn (w.courses p)))) = quiet setup home lock is_home (w.handled home p) (upto turn (w.courses p)) none in
      let now_is : upto turn (moves_of lock (w.courses p)) ≡ moves_of lock (upto turn (w.courses p)) = upto_map (move_of lock) turn (w.courses p) in
      let old_is : moves_of lock (upto (w.handled home p) (upto turn (w.courses p))) ≡ upto (w.handled home p) (moves_of lock (w.courses p)) =
      ap (moves_of lock) (upto_upto (w.handled home p) turn (w.courses p) later) ∙ sym (upto_map (move_of lock) (w.handled home p) (w.courses p)) in
      record {
        later = later;
        within = rw length-map within;
        same_claim = ap claim_of now_is ∙ same.same_claim ∙ ap claim_of old_is;
        same_made = ap made_by now_is ∙ same.same_made ∙ ap made_by old_is;
      }

  pub raised : w.handled home p ≤ turn → turn ≤ length (w.courses p) → due (word_for setup home) (w.handled home p) (upto turn (w.courses p)) ≡ [] → AreLawful setup w → AreLawful setup (with_handled w home p turn)
  raised later within none h lock = raised_at lock (quiet_same lock later within none) (h lock)

-- A home handles a request or a release.

module _ {S : Type 0} (setup : Setup) (w : World S) (p turn : ℕ) (lock : Lock) (state : LockState) (now : Processor S) where
  abbrev home : ℕ
  home = home_of setup lock.0

  -- it puts the lock into this state, lawfully, and changes no other
  pub record IsHandling : Type 0 where
    pub same_mail : now.mail ≡ (w.processors home).mail
    pub one_lock : now.locks ≡ update (w.processors home).locks lock.0 state
    pub others : (other : ℕ) → (lock.0 == other) ≡ false → home_of setup other ≡ home → IsSameUpto (moves_of other (w.courses p)) (w.handled home p) turn
    pub right : IsLawful setup.procs (record (situation_at setup w lock.0) { handled = update (w.handled home) p turn; state = state })

  module _ (is : IsHandling) where
    abbrev after : World S
    after = with_handled (with_new w home now) home p turn

    mail_same : (other q : ℕ) → mail_for other (update w.processors home now q).mail.grants ≡ mail_for other (w.processors q).mail.grants
    mail_same other q =
        elim (eqb_tells q home) [
          | inl (t, i) ↦ rw t (ap (λ (m : Mail). mail_for other m.grants) is.same_mail ∙ ap (λ r. mail_for other (w.processors r).mail.grants) (sym i))
          | inr (t, _) ↦ rw t refl
        ]

    grants_same : (other q : ℕ) → mail_for other (update w.processors home now q).mail.grants ++ grants_said other (w.channels (home_of setup other) q) ≡ mail_for other (w.processors q).mail.grants ++ grants_said other (w.channels (home_of setup other) q)
    grants_same other q = ap (λ xs. xs ++ grants_said other (w.channels (home_of setup other) q)) (mail_same other q)

    here : IsLawful setup.procs (situation_at setup after lock.0)
    here =
        let before = record (situation_at setup w lock.0) { handled = update (w.handled home) p turn; state = state } in
        lawful_alike setup.procs before (situation_at setup after lock.0) record {
          moves = λ q. refl;
          handled = λ q. sym (ap (λ f. f q) (if_same home (update (w.handled home) p turn) (w.handled home)));
          grants = λ q. same_fresh before q _ (grants_same lock.0 q);
          state = sym (ap (λ (x : Processor S). x.locks lock.0) (if_same home now (w.processors home)) ∙ ap (λ f. f lock.0) is.one_lock ∙ if_same lock.0 state ((w.processors home).locks lock.0));
        } is.right

    state_same : (other : ℕ) → (lock.0 == other) ≡ false → (w.processors (home_of setup other)).locks other ≡ (update w.processors home now (home_of setup other)).locks other
    state_same other ne =
        elim (eqb_tells (home_of setup other) home) [
          | inl (t, i) ↦ rw t (ap (λ r. (w.processors r).locks other) i ∙ sym (ap (λ f. f other) is.one_lock ∙ rw (turned_false other lock.0 ne) refl))
          | inr (t, _) ↦ rw t refl
        ]

    there : (other : ℕ) → (lock.0 == other) ≡ false → IsLawful setup.procs (situation_at setup w other) → IsLawful setup.procs (situation_at setup after other)
    there other ne h =
        let before = situation_at setup (with_handled w home p turn) other in
        lawful_alike setup.procs before (situation_at setup after other) record {
          moves = λ q. refl;
          handled = λ q. refl;
          grants = λ q. same_fresh before q _ (grants_same other q);
          state = state_same other ne;
        } (raised_at setup w home p turn other (is.others other ne) h)

    pub handled_lawful : AreLawful setup w → AreLawful setup after
    handled_lawful h = at_locks {P = λ other. IsLawful setup.procs (situation_at setup after other)} lock.0 here (λ other ne. there other ne (h other))

-- A home grants a lock to all to whom it may.

module _ {S : Type 0} (setup : Setup) (w : World S) (lock : Lock) (s : Processor S) (is_home : w.processors (home_of setup lock.0) ≡ s) (none : w.channels (home_of setup lock.0) (home_of setup lock.0) ≡ []) where
  abbrev giver : ℕ
  giver = home_of setup lock.0

  abbrev served : Processor S
  served = home_after_grants setup giver s lock

  abbrev msgs : List Msg
  msgs = grant_messages setup giver s lock

  abbrev ones : List Waiting
  ones = grants_of (s.locks lock.0)

  abbrev grant : Waiting → MailGrant
  grant = own_grant setup s lock

  abbrev pub with_grants : World S
  with_grants = with_sent (with_new w giver served) msgs

  grants_home : (situation_at setup w lock.0).grants giver ++ map grant (waits_of giver ones) ≡ mail_for lock.0 served.mail.grants ++ grants_said lock.0 (w.channels giver giver ++ filter (goes giver giver) msgs)
  grants_home =
      ap₂ (λ (x : Processor S) ms. (mail_for lock.0 x.mail.grants ++ grants_said lock.0 ms) ++ map grant (waits_of giver ones)) is_home none
      ∙ ap (λ xs. xs ++ map grant (waits_of giver ones)) (append-nil (mail_for lock.0 s.mail.grants))
      ∙ sym (mail_now setup giver s lock) ∙ sym (append-nil (mail_for lock.0 served.mail.grants))
      ∙ ap₂ (λ xs ys. mail_for lock.0 served.mail.grants ++ grants_said lock.0 (xs ++ ys)) (sym none) (sym (none_to_me setup giver s lock ones))

  grants_other : (q : ℕ) → (q == giver) ≡ false → (situation_at setup w lock.0).grants q ++ map grant (waits_of q ones) ≡ mail_for lock.0 (w.processors q).mail.grants ++ grants_said lock.0 (w.channels giver q ++ filter (goes giver q) msgs)
  grants_other q there =
      append_assoc (mail_for lock.0 (w.processors q).mail.grants) (grants_said lock.0 (w.channels giver q)) (map grant (waits_of q ones))
      ∙ ap (λ xs. mail_for lock.0 (w.processors q).mail.grants ++ xs)
      (ap (λ xs. grants_said lock.0 (w.channels giver q) ++ xs) (sym (sent_to setup giver s lock q ones there)) ∙ sym (grants_append lock.0 (w.channels giver q) (filter (goes giver q) msgs)))

  grants_now : (q : ℕ) → (situation_at setup w lock.0).grants q ++ map grant (waits_of q ones) ≡ (situation_at setup with_grants lock.0).grants q
  grants_now = one_changed {P = λ q. (situation_at setup w lock.0).grants q ++ map grant (waits_of q ones) ≡ (situation_at setup with_grants lock.0).grants q} giver
      (λ here. rw here grants_home) (λ q there. rw there (grants_other q there))

  granted_here : IsLawful setup.procs (situation_at setup w lock.0) → IsLawful setup.procs (situation_at setup with_grants lock.0)
  granted_here h =
      let before : Situation = record (situation_at setup w lock.0) { state = s.locks lock.0 } in
      let lawful : IsLawful setup.procs before = subst (λ x. IsLawful setup.procs (record (situation_at setup w lock.0) { state = x })) (ap (λ (x : Processor S). x.locks lock.0) is_home) h in
      let front : Situation = record before { state = lock_after_grants (s.locks lock.0); grants = λ q. before.grants q ++ map grant (waits_of q ones) } in
      let done : IsLawful setup.procs front = serve setup.procs grant (s.locks lock.0).queue before refl record { is_turn = λ one. refl; is_mode = λ one. refl; is_version = λ one. refl } lawful in
      lawful_alike setup.procs front (situation_at setup with_grants lock.0) record {
        moves = λ q. refl;
        handled = λ q. refl;
        grants = λ q. same_fresh front q _ (sym (grants_now q));
        state = sym (ap (λ (x : Processor S). x.locks lock.0) (if_same giver served (w.processors giver)) ∙ if_same lock.0 (lock_after_grants (s.locks lock.0)) (s.locks lock.0));
      } done

  module _ (other : ℕ) (ne : (lock.0 == other) ≡ false) where
    none_sent : (q : ℕ) → grants_said other (filter (goes (home_of setup other) q) msgs) ≡ []
    none_sent q =
        elim (eqb_tells (home_of setup other) giver) [
          | inl (_, i) ↦ ap (λ r. grants_said other (filter (goes r q) msgs)) i ∙ none_other setup giver s lock other q ones ne
          | inr (t, _) ↦ ap (grants_said other) (none_from setup giver s lock (home_of setup other) q ones t)
        ]

    mail_same_at : (q : ℕ) → mail_for other (update w.processors giver served q).mail.grants ≡ mail_for other (w.processors q).mail.grants
    mail_same_at q =
        elim (eqb_tells q giver) [
          | inl (t, i) ↦ rw t (mail_other setup giver s lock other ne ∙ ap (λ (x : Processor S). mail_for other x.mail.grants) (sym is_home ∙ ap w.processors (sym i)))
          | inr (t, _) ↦ rw t refl
        ]

    grants_same_at : (q : ℕ) → (situation_at setup with_grants other).grants q ≡ (situation_at setup w other).grants q
    grants_same_at q = ap₂ (λ xs ys. xs ++ ys) (mail_same_at q)
        (grants_append other (w.channels (home_of setup other) q) (filter (goes (home_of setup other) q) msgs)
        ∙ ap (λ xs. grants_said other (w.channels (home_of setup other) q) ++ xs) (none_sent q) ∙ append-nil (grants_said other (w.channels (home_of setup other) q)))

    state_same_at : (w.processors (home_of setup other)).locks other ≡ (update w.processors giver served (home_of setup other)).locks other
    state_same_at =
        elim (eqb_tells (home_of setup other) giver) [
          | inl (t, i) ↦ rw t (ap (λ r. (w.processors r).locks other) i ∙ ap (λ (x : Processor S). x.locks other) is_home ∙ sym (rw (turned_false other lock.0 ne) refl))
          | inr (t, _) ↦ rw t refl
        ]

    granted_there : IsLawful setup.procs (situation_at setup w other) → IsLawful setup.procs (situation_at setup with_grants other)
    granted_there h = lawful_alike setup.procs (situation_at setup w other) (situation_at setup with_grants other) record {
      moves = λ q. refl;
      handled = λ q. refl;
      grants = λ q. same_fresh (situation_at setup w other) q _ (grants_same_at q);
      state = state_same_at;
    } h

  pub granted_lawful : AreLawful setup w → AreLawful setup with_grants
  granted_lawful h = at_locks {P = λ other. IsLawful setup.procs (situation_at setup with_grants other)} lock.0 (granted_here (h lock.0)) (λ other ne. granted_there other ne (h other))

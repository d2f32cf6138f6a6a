-- Messages are sent and come, and processors make turns: what this keeps of the law, over all locks.
use Rattle.std.specs.Prelude.{◌≡◌, ℕ, suc, ◌+◌, Bool, true, false, ◌==◌, nat_lt, List, [], ◌∷◌, ◌++◌, length, filter, find, Some}
use Rattle.std.proofs.Common.{arith, refl, sym, ap, ap₂, ◌∙◌, subst, inl, inr, append_assoc, append-nil}
use Rattle.std.proofs.lemmas.Bool.Decides.{eqb_tells}
use Rattle.std.proofs.lemmas.List.{length-map}
use Rattle.dsm_base.specs.declared.names.Lock.{Lock}
use Rattle.dsm_base.specs.declared.names.Mode.{Mode}
use Rattle.dsm_base.specs.declared.label.Label.{Label}
use Rattle.dsm_base.specs.declared.setup.Setup.{Setup}
use Rattle.dsm_base.specs.Family.{update}
use Rattle.dsm_lines.specs.declared.of_objects.MailGrant.{MailGrant}
use Rattle.dsm_msg.specs.declared.message.Msg.{Msg}
use Rattle.dsm_net.specs.Processor.{Processor}
use Rattle.dsm_net.specs.Inputs.{is_grant_for}
use Rattle.dsm_net.specs.Messages.{home_of}
use Rattle.dsm_laws_protocol.specs.Courses.{Move, takes, still, move_of, moves_of, Follows}
use Rattle.dsm_laws_protocol.specs.Situations.{fresh, Situation, IsLawful}
use Rattle.dsm_laws_protocol.specs.Worlds.{World, grants_in, grants_said, mail_for, situation_at, AreLawful}
use Rattle.dsm_laws_protocol.proofs.Turns.{IsFound, with_move, turn_made}
use Rattle.dsm_laws_protocol.proofs.Channels.{goes, grants_append}
use Rattle.dsm_laws_protocol.proofs.Likeness.{lawful_alike, same_fresh}
use Rattle.dsm_laws_protocol.proofs.Worlds.{with_new, with_sent, without_oldest, with_label}

-- Messages that bring no grants are sent.
pub sent_lawful : {S : Type 0} (setup : Setup) (w : World S) (msgs : List Msg) → ((lock p q : ℕ) → grants_said lock (filter (goes p q) msgs) ≡ []) → AreLawful setup w → AreLawful setup (with_sent w msgs)
sent_lawful setup w msgs none h lock =
    lawful_alike setup.procs (situation_at setup w lock) (situation_at setup (with_sent w msgs) lock) record {
      moves = λ q. refl;
      handled = λ q. refl;
      grants = λ q. same_fresh (situation_at setup w lock) q _ (ap (λ xs. mail_for lock (w.processors q).mail.grants ++ xs)
          (grants_append lock (w.channels (home_of setup lock) q) (filter (goes (home_of setup lock) q) msgs)
          ∙ ap (λ xs. grants_said lock (w.channels (home_of setup lock) q) ++ xs) (none lock (home_of setup lock) q) ∙ append-nil (grants_said lock (w.channels (home_of setup lock) q))));
      state = refl;
    } (h lock)

-- A processor changes in nothing that is about locks.
module _ {S : Type 0} (setup : Setup) (w : World S) (p : ℕ) (now : Processor S) (locks : now.locks ≡ (w.processors p).locks) (mail : now.mail.grants ≡ (w.processors p).mail.grants) where
  module _ (lock : ℕ) where
    same_grants : (q : ℕ) → (situation_at setup (with_new w p now) lock).grants q ≡ (situation_at setup w lock).grants q
    same_grants q =
        elim (eqb_tells q p) [
          | inl (t, i) ↦ rw t (ap (λ grants. mail_for lock grants ++ grants_said lock (w.channels (home_of setup lock) q)) mail
              ∙ ap (λ r. mail_for lock (w.processors r).mail.grants ++ grants_said lock (w.channels (home_of setup lock) q)) (sym i))
          | inr (t, _) ↦ rw t refl
        ]

    same_state : (w.processors (home_of setup lock)).locks lock ≡ (update w.processors p now (home_of setup lock)).locks lock
    same_state = elim (eqb_tells (home_of setup lock) p) [ inl (t, i) ↦ rw t (ap (λ r. (w.processors r).locks lock) i ∙ sym (ap (λ f. f lock) locks)) | inr (t, _) ↦ rw t refl ]

  pub unchanged_lawful : AreLawful setup w → AreLawful setup (with_new w p now)
  unchanged_lawful h lock = lawful_alike setup.procs (situation_at setup w lock) (situation_at setup (with_new w p now) lock) record {
    moves = λ q. refl;
    handled = λ q. refl;
    grants = λ q. same_fresh (situation_at setup w lock) q _ (same_grants lock q);
    state = same_state lock;
  } (h lock)

-- The oldest message from p comes.
module _ {S : Type 0} (setup : Setup) (w : World S) (p to : ℕ) (msg : Msg) (others : List Msg) (now : Processor S) where
  pub record IsComing : Type 0 where
    pub oldest : w.channels p to ≡ msg ∷ others
    pub locks : now.locks ≡ (w.processors to).locks
    -- a grant comes to the mailbox
    pub mail : (lock : ℕ) → mail_for lock now.mail.grants ≡ mail_for lock (w.processors to).mail.grants ++ grants_in lock msg.body
    pub from_home : (lock : ℕ) → (home_of setup lock == p) ≡ false → grants_in lock msg.body ≡ []

  module _ (is : IsComing) where
    abbrev came : World S
    came = without_oldest (with_new w to now) p to others

    module _ (lock : ℕ) where
      abbrev at : ℕ
      at = home_of setup lock

      -- mailbox and channel together are as before
      grants_kept : (q : ℕ) → (situation_at setup came lock).grants q ≡ (situation_at setup w lock).grants q
      grants_kept q =
          elim (eqb_tells q to) [
            | inl (t, i) ↦ elim (eqb_tells at p) [
              | inl (u, j) ↦ rw (t, u, t) (
                  ap (λ gs. gs ++ grants_said lock others) (is.mail lock)
                  ∙ append_assoc (mail_for lock (w.processors to).mail.grants) (grants_in lock msg.body) (grants_said lock others)
                  ∙ ap (λ ms. mail_for lock (w.processors to).mail.grants ++ grants_said lock ms) (sym is.oldest)
                  ∙ ap₂ (λ x y. mail_for lock (w.processors x).mail.grants ++ grants_said lock (w.channels y x)) (sym i) (sym j))
              | inr (u, _) ↦ rw (t, u) (
                  ap (λ gs. gs ++ grants_said lock (w.channels at q)) (is.mail lock ∙ ap (λ gs. mail_for lock (w.processors to).mail.grants ++ gs) (is.from_home lock u) ∙ append-nil (mail_for lock (w.processors to).mail.grants))
                  ∙ ap (λ x. mail_for lock (w.processors x).mail.grants ++ grants_said lock (w.channels at q)) (sym i))
            ]
            | inr (t, _) ↦ elim (eqb_tells at p) [
              | inl (u, j) ↦ rw (t, u, t) (ap (λ y. mail_for lock (w.processors q).mail.grants ++ grants_said lock (w.channels y q)) (sym j))
              | inr (u, _) ↦ rw (t, u) refl
            ]
          ]

      state_kept : (w.processors at).locks lock ≡ (update w.processors to now at).locks lock
      state_kept = elim (eqb_tells at to) [ inl (t, i) ↦ rw t (ap (λ r. (w.processors r).locks lock) i ∙ sym (ap (λ f. f lock) is.locks)) | inr (t, _) ↦ rw t refl ]

      came_at : IsLawful setup.procs (situation_at setup w lock) → IsLawful setup.procs (situation_at setup came lock)
      came_at h = lawful_alike setup.procs (situation_at setup w lock) (situation_at setup came lock) record {
        moves = λ q. refl;
        handled = λ q. refl;
        grants = λ q. same_fresh (situation_at setup w lock) q _ (grants_kept q);
        state = state_kept;
      } h

    pub came_lawful : AreLawful setup w → AreLawful setup came
    came_lawful h lock = came_at lock (h lock)

-- A turn is made.

-- the grant by which a lock can be taken is found among all grants of the lock that there are
pub found_for : (turn lock : ℕ) (grant : MailGrant) (mail others : List MailGrant) → find (is_grant_for turn lock) mail ≡ Some grant → find (λ (one : MailGrant). one.turn == turn) (mail_for lock mail ++ others) ≡ Some grant
found_for turn lock grant [] others e = cc
found_for turn lock grant (one ∷ mail) others e = go (found_for turn lock grant mail others) (one.turn == turn) refl (one.lock.0 == lock) refl
  where
    go : (find (is_grant_for turn lock) mail ≡ Some grant → find (λ (one : MailGrant). one.turn == turn) (mail_for lock mail ++ others) ≡ Some grant) → (b : Bool) → (one.turn == turn) ≡ b → (d : Bool) → (one.lock.0 == lock) ≡ d →
        find (λ (one : MailGrant). one.turn == turn) (mail_for lock (one ∷ mail) ++ others) ≡ Some grant
    go more true i true j = rw j (rw i (rw (i, j) at e))
    go more false i true j = rw j (rw i (more (rw i at e)))
    go more true i false j = rw j (more (rw (i, j) at e))
    go more false i false j = rw j (more (rw i at e))

-- the mail that a turn leaves has all that is fresh behind it
mail_fresh : (n lock : ℕ) (mail others : List MailGrant) → fresh (suc n) (mail_for lock (filter (λ (grant : MailGrant). nat_lt (n + 1) grant.turn) mail) ++ others) ≡ fresh (suc n) (mail_for lock mail ++ others)
mail_fresh n lock [] others = refl
mail_fresh n lock (one ∷ mail) others = grind (arith, mail_fresh n lock mail others)

not_takes : (mode : Mode) (version : ℕ) → still ≡ takes mode version → ⊥
not_takes mode version e = cc

-- a label that takes a lock
pub record IsTakeOf (lock : ℕ) (label : Label) (mode : Mode) (version : ℕ) : Type 0 where
  pub taken : Lock
  pub is_label : label ≡ Label.Take taken mode version
  pub is_lock : taken.0 ≡ lock

take_of : (lock : ℕ) (label : Label) (mode : Mode) (version : ℕ) → move_of lock label ≡ takes mode version → IsTakeOf lock label mode version
take_of lock (Label.Take other m v) mode version e =
    elim (eqb_tells other.0 lock) [
      | inl (t, i) ↦ (let k : takes m v ≡ takes mode version = rw t at e in record { taken = other; is_label = ap₂ (Label.Take other) (let n : m ≡ mode = cc in n) (let n : v ≡ version = cc in n); is_lock = i })
      | inr (t, _) ↦ absurd (not_takes mode version (rw t at e))
    ]
take_of lock (Label.Ask other m) mode version e =
    elim (eqb_tells other.0 lock) [ inl (t, _) ↦ absurd (let k : Move.asks m ≡ takes mode version = rw t at e in cc) | inr (t, _) ↦ absurd (not_takes mode version (rw t at e)) ]
take_of lock (Label.Give other) mode version e =
    elim (eqb_tells other.0 lock) [ inl (t, _) ↦ absurd (let k : Move.gives ≡ takes mode version = rw t at e in cc) | inr (t, _) ↦ absurd (not_takes mode version (rw t at e)) ]
take_of lock _ mode version e = absurd (not_takes mode version e)

module _ {S : Type 0} (setup : Setup) (w : World S) (p : ℕ) (label : Label) (now : Processor S) where
  pub record IsTurning : Type 0 where
    pub locks : now.locks ≡ (w.processors p).locks
    pub mail : now.mail.grants ≡ filter (λ (grant : MailGrant). nat_lt (length (w.courses p) + 1) grant.turn) (w.processors p).mail.grants
    pub follows : (lock : ℕ) → Follows (moves_of lock (w.courses p)) (move_of lock label)
    -- a lock is taken by a grant of the mailbox
    pub grant : (lock : Lock) (mode : Mode) (version : ℕ) → label ≡ Label.Take lock mode version → MailGrant
    pub found : (lock : Lock) (mode : Mode) (version : ℕ) (is : label ≡ Label.Take lock mode version) → find (is_grant_for (length (w.courses p) + 1) lock.0) (w.processors p).mail.grants ≡ Some (grant lock mode version is)
    pub is_version : (lock : Lock) (mode : Mode) (version : ℕ) (is : label ≡ Label.Take lock mode version) → version ≡ (grant lock mode version is).version

  module _ (is : IsTurning) where
    abbrev made : World S
    made = with_label (with_new w p now) p label

    module _ (lock : ℕ) where
      abbrev before : Situation
      before = situation_at setup w lock

      abbrev next : Move
      next = move_of lock label

      count : length (moves_of lock (w.courses p)) ≡ length (w.courses p)
      count = length-map (w.courses p) (move_of lock)

      is_found : (mode : Mode) (version : ℕ) → next ≡ takes mode version → IsFound (length (moves_of lock (w.courses p)) + 1) mode version (before.grants p)
      is_found mode version e =
          let t : IsTakeOf lock label mode version = take_of lock label mode version e in
          record {
            grant = is.grant t.taken mode version t.is_label;
            is_first = found_for (length (moves_of lock (w.courses p)) + 1) lock (is.grant t.taken mode version t.is_label) (w.processors p).mail.grants (grants_said lock (w.channels (home_of setup lock) p))
                (subst (λ n. find (is_grant_for (n + 1) lock) (w.processors p).mail.grants ≡ Some (is.grant t.taken mode version t.is_label)) (sym count)
                (subst (λ l. find (is_grant_for (length (w.courses p) + 1) l) (w.processors p).mail.grants ≡ Some (is.grant t.taken mode version t.is_label)) t.is_lock (is.found t.taken mode version t.is_label)));
            is_version = is.is_version t.taken mode version t.is_label;
          }

      moves_now : (q : ℕ) → update before.moves p (next ∷ moves_of lock (w.courses p)) q ≡ moves_of lock (update w.courses p (label ∷ w.courses p) q)
      moves_now q = elim (eqb_tells q p) [ inl (t, _) ↦ rw t refl | inr (t, _) ↦ rw t refl ]

      state_now : (w.processors (home_of setup lock)).locks lock ≡ (update w.processors p now (home_of setup lock)).locks lock
      state_now = elim (eqb_tells (home_of setup lock) p) [ inl (t, i) ↦ rw t (ap (λ r. (w.processors r).locks lock) i ∙ sym (ap (λ f. f lock) is.locks)) | inr (t, _) ↦ rw t refl ]

      mail_now : (n : ℕ) (msgs : List Msg) → n ≡ length (w.courses p) → fresh (suc n) (mail_for lock now.mail.grants ++ grants_said lock msgs) ≡ fresh (suc n) (mail_for lock (w.processors p).mail.grants ++ grants_said lock msgs)
      mail_now n msgs e =
          ap (λ grants. fresh (suc n) (mail_for lock grants ++ grants_said lock msgs)) is.mail
          ∙ subst (λ m. fresh (suc n) (mail_for lock (filter (λ (grant : MailGrant). nat_lt (m + 1) grant.turn) (w.processors p).mail.grants) ++ grants_said lock msgs) ≡ fresh (suc n) (mail_for lock (w.processors p).mail.grants ++ grants_said lock msgs)) e
          (mail_fresh n lock (w.processors p).mail.grants (grants_said lock msgs))

      grants_now : (q : ℕ) → fresh (length ((with_move before p next).moves q)) ((situation_at setup made lock).grants q) ≡ fresh (length ((with_move before p next).moves q)) (before.grants q)
      grants_now q =
          elim (eqb_tells q p) [
            | inl (t, i) ↦ rw t (mail_now (length (moves_of lock (w.courses p))) (w.channels (home_of setup lock) q) count
                ∙ ap (λ r. fresh (suc (length (moves_of lock (w.courses p)))) (mail_for lock (w.processors r).mail.grants ++ grants_said lock (w.channels (home_of setup lock) q))) (sym i))
            | inr (t, _) ↦ rw t refl
          ]

      turned_at : IsLawful setup.procs before → IsLawful setup.procs (situation_at setup made lock)
      turned_at h = lawful_alike setup.procs (with_move before p next) (situation_at setup made lock) record {
        moves = moves_now;
        handled = λ q. refl;
        grants = grants_now;
        state = state_now;
      } (turn_made setup.procs before p next h (is.follows lock) is_found)

    pub turned_lawful : AreLawful setup w → AreLawful setup made
    turned_lawful h lock = turned_at lock (h lock)

-- A message that is delivered: what is reached then.
use Rattle.std.specs.Prelude.{◌≡◌, ℕ, ◌≤◌, ◌<◌, Bool, true, false, ◌==◌, List, [], ◌∷◌, ◌++◌, length, filter, Some, None}
use Rattle.std.proofs.Common.{arith, refl, sym, ap, ◌∙◌, subst, inl, inr, append-nil, true≢false}
use Rattle.std.proofs.Math.Path.{fun_ext}
use Rattle.std.proofs.lemmas.Bool.Decides.{eqb_tells}
use Rattle.std.proofs.lemmas.List.Elements.{filter-append}
use Rattle.dsm_base.specs.declared.names.Proc.{Proc}
use Rattle.dsm_base.specs.declared.names.Bar.{Bar}
use Rattle.dsm_base.specs.declared.names.Lock.{Lock}
use Rattle.dsm_base.specs.declared.names.Mode.{Mode}
use Rattle.dsm_base.specs.declared.label.Label.{Label}
use Rattle.dsm_base.specs.declared.setup.Setup.{Setup}
use Rattle.dsm_base.specs.Family.{update, update_at}
use Rattle.dsm_base.specs.Threads.{Semantics}
use Rattle.dsm_lines.specs.declared.list.Line.{Line}
use Rattle.dsm_lines.specs.declared.of_objects.MailGrant.{MailGrant}
use Rattle.dsm_msg.specs.declared.message.Body.{Body}
use Rattle.dsm_msg.specs.declared.message.Carry.{Carry}
use Rattle.dsm_msg.specs.declared.message.Msg.{Msg}
use Rattle.dsm_home.specs.LockStates.{version_made}
use Rattle.dsm_net.specs.Processor.{Own, Peer, Processor}
use Rattle.dsm_net.specs.Messages.{home_of, with_carry}
use Rattle.dsm_net.specs.Grants.{home_after_grants, grant_messages}
use Rattle.dsm_net.specs.Openings.{manager_after_openings, opening_messages}
use Rattle.dsm_net.specs.Effects.{may_bring, counts, with_last, with_request, with_release, with_arrived, with_opening, effect_of_body}
use Rattle.dsm_laws_protocol.specs.Courses.{Move, asks, gives, still, move_of, moves_of, claim_of, made_by}
use Rattle.dsm_laws_protocol.specs.Due.{Word, asked, gave, arrived, have_of, word_for}
use Rattle.dsm_laws_protocol.specs.Flows.{words_in, IsFlow}
use Rattle.dsm_laws_protocol.specs.Worlds.{World, grants_in, grants_said, mail_for, AreLawful}
use Rattle.dsm_laws_protocol.proofs.Families.{if_same, same_number}
use Rattle.dsm_laws_protocol.proofs.Channels.{goes}
use Rattle.dsm_laws_protocol.proofs.Granting.{none_to_me}
use Rattle.dsm_laws_protocol.proofs.Homes.{IsNextMove, next_as}
use Rattle.dsm_laws_protocol.proofs.Quiet.{ask_label, IsGive, give_word, came_label, next_move}
use Rattle.dsm_laws_protocol.proofs.Flows.{AreQuiet, IsTold, told_came, IsPassed, other_came, order_within}
use Rattle.dsm_laws_protocol.proofs.Worlds.{with_new, without_oldest, with_handled, IsSameUpto, raised_at, raised, granted_lawful}
use Rattle.dsm_laws_protocol.proofs.Journeys.{came_lawful, sent_lawful}
use Rattle.dsm_laws_protocol.proofs.Handling.{IsDue, ask_counts, ask_lawful, IsReturn, give_counts, give_lawful}
use Rattle.dsm_laws_protocol.proofs.Reached.{AreSent, IsReached, after_delivery, delivery_reached, grants_quiet, grants_sent}
use Rattle.dsm_laws_protocol.proofs.Opening.{openings_quiet, openings_sent, no_opening_to_me, no_grants_opened}

-- the last of several changes of one member is the one that counts
pub last_change : {A : Type 0} (f : ℕ → A) (k : ℕ) (a b : A) (r : ℕ) → update (update f k a) k b r ≡ update f k b r
last_change f k a b r = elim (eqb_tells r k) [ inl (t, _) ↦ rw t refl | inr (t, _) ↦ rw t refl ]

pub last_of_three : {A : Type 0} (f : ℕ → A) (k : ℕ) (a b c : A) (r : ℕ) → update (update (update f k a) k b) k c r ≡ update f k c r
last_of_three f k a b c r = elim (eqb_tells r k) [ inl (t, _) ↦ rw t refl | inr (t, _) ↦ rw t refl ]

-- a move that does nothing to a lock
pub still_same : (moves : List Move) (k turn : ℕ) → IsNextMove moves k turn still → IsSameUpto moves k turn
still_same moves k turn n = record {
  later = let lt : k < turn = n.later in omega arith;
  within = n.within;
  same_claim = ap claim_of n.is_next ∙ n.same_claim;
  same_made = ap made_by n.is_next ∙ n.same_made;
}

ask_home : (setup : Setup) (q : ℕ) (before : List Label) (lock : Lock) (mode : Mode) (word : Word) → word_for setup q before (Label.Ask lock mode) ≡ Some word → home_of setup lock.0 ≡ q
ask_home setup q before lock mode word e = elim (eqb_tells (home_of setup lock.0) q) [ inl (_, i) ↦ i | inr (t, _) ↦ absurd (let k : None ≡ Some word = rw t at e in cc) ]

give_home : (setup : Setup) (q : ℕ) (before : List Label) (lock : Lock) (word : Word) → word_for setup q before (Label.Give lock) ≡ Some word → home_of setup lock.0 ≡ q
give_home setup q before lock word e = elim (eqb_tells (home_of setup lock.0) q) [ inl (_, i) ↦ i | inr (t, _) ↦ absurd (let k : None ≡ Some word = rw t at e in cc) ]

module _ {S : Type 0} (setup : Setup) (first : ℕ → S) (threads : Semantics S) (w : World S) (h : IsReached setup first threads w) (p : ℕ) (carry : Carry) (others : List Msg) where
  -- the receiver once it has taken in what the message brought along
  abbrev pub heard : ℕ → Processor S
  heard q = with_carry (w.processors q) p carry

  abbrev after : ℕ → Processor S → List Msg → World S
  after q now sends = after_delivery setup first threads w h p q carry.turn others now sends

  same_last : (q a : ℕ) → ((heard q).peers a).last ≡ ((w.processors q).peers a).last
  same_last q a =
      elim (eqb_tells a p) [
        | inl (t, i) ↦ rw t (ap (λ x. ((w.processors q).peers x).last) (sym i))
        | inr (t, _) ↦ rw t refl
      ]

  -- A body that tells the receiver nothing.

  pub record IsTaking (q : ℕ) (body : Body) (now : Processor S) : Type 0 where
    pub own : now.own ≡ (w.processors q).own
    pub peers : now.peers ≡ (heard q).peers
    pub locks : now.locks ≡ (w.processors q).locks
    pub mail : (lock : ℕ) → mail_for lock now.mail.grants ≡ mail_for lock (w.processors q).mail.grants ++ grants_in lock body

  pub taken_reached : (q : ℕ) (from to : Proc) (body : Body) (now : Processor S) → (p == q) ≡ false → w.channels p q ≡ record { from = from; to = to; carry = carry; body = body } ∷ others →
      words_in carry.turn body ≡ [] → IsTaking q body now → IsReached setup first threads (after q now [])
  taken_reached q from to body now ne oldest quiet is =
      let msg : Msg = record { from = from; to = to; carry = carry; body = body } in
      let flow : IsFlow setup q (w.courses p) (w.handled q p) (msg ∷ others) = subst (IsFlow setup q (w.courses p) (w.handled q p)) oldest (h.flows p q ne) in
      let sent : AreSent setup p (msg ∷ others) = subst (AreSent setup p) oldest (h.sent p q) in
      let passed : IsPassed setup q (w.courses p) (w.handled q p) msg others = other_came setup q (w.courses p) (w.handled q p) msg others flow quiet in
      let later : w.handled q p ≤ carry.turn = flow.in_order.0 in
      let within : carry.turn ≤ length (w.courses p) = order_within carry.turn (length (w.courses p)) others flow.in_order.2 in
      let came : World S = without_oldest (with_new w q now) p q others in
      let lawful : AreLawful setup came = came_lawful setup w p q msg others now record { oldest = oldest; locks = is.locks; mail = is.mail; from_home = sent.0.from_home } h.lawful in
      let lawful_now : AreLawful setup (with_handled came q p carry.turn) = raised setup came q p carry.turn later within passed.is_quiet lawful in
      delivery_reached setup first threads w h p q carry.turn others now [] record {
        apart = ne;
        own = is.own;
        later = later;
        last_now = let k : (now.peers p).last ≡ ((w.processors q).peers p).last = ap (λ f. (f p).last) is.peers ∙ same_last q p in let l = h.last p q in omega arith;
        last_same = λ a there. (let k : (now.peers a).last ≡ ((w.processors q).peers a).last = ap (λ f. (f a).last) is.peers ∙ same_last q a in let l = h.last a q in omega arith);
        flow = passed.flow;
        left = sent.1;
        quiet = tt;
        sent = tt;
        no_self = refl;
        lawful = subst (λ f. AreLawful setup (record (with_handled came q p carry.turn) { channels = f })) (fun_ext (λ a. fun_ext (λ b. sym (append-nil (update_at w.channels p q others a b))))) lawful_now;
      }

  -- A request or a release: the receiver is the home of its lock.

  abbrev served : ℕ → Processor S → Lock → Processor S
  served q queued lock = home_after_grants setup q queued lock

  abbrev grants : ℕ → Processor S → Lock → List Msg
  grants q queued lock = grant_messages setup q queued lock

  -- the oldest message is gone, and the home has changed
  abbrev came_to : ℕ → World S
  came_to q = without_oldest (with_new w q (heard q)) p q others

  none_left : (q r : ℕ) → (p == q) ≡ false → update_at w.channels p q others r r ≡ []
  none_left q r ne =
      elim (eqb_tells r p) [
        | inl (t, i) ↦ elim (eqb_tells r q) [
          | inl (u, j) ↦ absurd (true≢false (sym (rw i at u) ∙ ne))
          | inr (u, _) ↦ rw (t, u) (ap (λ a. w.channels a r) (sym i) ∙ h.none r)
        ]
        | inr (t, _) ↦ rw t (h.none r)
      ]

  -- the home grants what it may once it has handled the body
  granted_delivery : (q : ℕ) (lock : Lock) (queued : Processor S) → home_of setup lock.0 ≡ q → (p == q) ≡ false → AreLawful setup (with_handled (with_new (came_to q) q queued) q p carry.turn) →
      AreLawful setup (after q (served q queued lock) (grants q queued lock))
  granted_delivery q lock queued i =
      subst (λ q. (p == q) ≡ false → AreLawful setup (with_handled (with_new (came_to q) q queued) q p carry.turn) → AreLawful setup (after q (served q queued lock) (grants q queued lock))) i (λ ne lawful.
      (let home : ℕ = home_of setup lock.0 in
      let w2 : World S = with_handled (with_new (came_to home) home queued) home p carry.turn in
      subst (λ f. AreLawful setup (record (after home (served home queued lock) (grants home queued lock)) { processors = f }))
      (fun_ext (last_of_three w.processors home (heard home) queued (served home queued lock)))
      (granted_lawful setup w2 lock queued (if_same home queued (update w.processors home (heard home) home)) (none_left home home ne) lawful)))

  -- what is known of a body that the home is due
  pub record IsDueBody (q : ℕ) (lock : Lock) (body : Body) (queued : Processor S) : Type 0 where
    pub apart : (p == q) ≡ false
    pub is_home : home_of setup lock.0 ≡ q
    pub later : w.handled q p < carry.turn
    pub flow : IsFlow setup q (w.courses p) carry.turn others
    pub left : AreSent setup p others
    pub own : queued.own ≡ (w.processors q).own
    pub peers : queued.peers ≡ (with_last (heard q) p carry.turn).peers
    pub lawful : AreLawful setup (with_handled (with_new (came_to q) q queued) q p carry.turn)

  pub due_reached : (q : ℕ) (lock : Lock) (body : Body) (queued : Processor S) → IsDueBody q lock body queued → IsReached setup first threads (after q (served q queued lock) (grants q queued lock))
  due_reached q lock body queued is =
      let later : w.handled q p < carry.turn = is.later in
      delivery_reached setup first threads w h p q carry.turn others (served q queued lock) (grants q queued lock) record {
        apart = is.apart;
        own = is.own;
        later = omega arith;
        last_now = let k : (queued.peers p).last ≡ carry.turn = ap (λ f. (f p).last) is.peers ∙ ap (λ (x : Peer). x.last) (if_same p (record ((heard q).peers p) { last = carry.turn }) ((heard q).peers p)) in omega arith;
        last_same = λ a there. (let k : (queued.peers a).last ≡ ((w.processors q).peers a).last = ap (λ f. (f a).last) is.peers ∙ rw there refl in let l = h.last a q in omega arith);
        flow = is.flow;
        left = is.left;
        quiet = subst (λ n. AreQuiet n (grants q queued lock)) (ap (λ (x : Own S). x.turns) is.own ∙ (h.owns q).turns) (grants_quiet setup q queued lock);
        sent = grants_sent setup q queued lock is.is_home;
        no_self = none_to_me setup q queued lock _;
        lawful = granted_delivery q lock queued is.is_home is.apart is.lawful;
      }

  -- a request
  pub asked_reached : (q : ℕ) (from to : Proc) (lock : Lock) (mode : Mode) (own : ℕ) → (p == q) ≡ false → w.channels p q ≡ record { from = from; to = to; carry = carry; body = Body.Req lock mode own } ∷ others →
      IsReached setup first threads (after q (effect_of_body setup q (heard q) p carry.turn (Body.Req lock mode own)).processor (effect_of_body setup q (heard q) p carry.turn (Body.Req lock mode own)).sends)
  asked_reached q from to lock mode own ne oldest =
      let msg : Msg = record { from = from; to = to; carry = carry; body = Body.Req lock mode own } in
      let flow : IsFlow setup q (w.courses p) (w.handled q p) (msg ∷ others) = subst (IsFlow setup q (w.courses p) (w.handled q p)) oldest (h.flows p q ne) in
      let sent : AreSent setup p (msg ∷ others) = subst (AreSent setup p) oldest (h.sent p q) in
      let told : IsTold setup q (w.courses p) (w.handled q p) msg (asked lock mode own) others = told_came setup q (w.courses p) (w.handled q p) msg (asked lock mode own) others flow refl in
      let first_due = told.first in
      let label : first_due.label ≡ Label.Ask lock mode = ask_label setup q first_due.before first_due.label lock mode own first_due.is_body in
      let is_home : home_of setup lock.0 ≡ q = ask_home setup q first_due.before lock mode (asked lock mode own) (subst (λ l. word_for setup q first_due.before l ≡ Some (asked lock mode own)) label first_due.is_body) in
      at_home q is_home ne oldest told label sent.1
    where
      at_home : (q : ℕ) → home_of setup lock.0 ≡ q → (p == q) ≡ false → w.channels p q ≡ record { from = from; to = to; carry = carry; body = Body.Req lock mode own } ∷ others →
          (told : IsTold setup q (w.courses p) (w.handled q p) record { from = from; to = to; carry = carry; body = Body.Req lock mode own } (asked lock mode own) others) → told.first.label ≡ Label.Ask lock mode → AreSent setup p others →
          IsReached setup first threads (after q (effect_of_body setup q (heard q) p carry.turn (Body.Req lock mode own)).processor (effect_of_body setup q (heard q) p carry.turn (Body.Req lock mode own)).sends)
      at_home q i = subst (λ q. (p == q) ≡ false → w.channels p q ≡ record { from = from; to = to; carry = carry; body = Body.Req lock mode own } ∷ others →
          (told : IsTold setup q (w.courses p) (w.handled q p) record { from = from; to = to; carry = carry; body = Body.Req lock mode own } (asked lock mode own) others) → told.first.label ≡ Label.Ask lock mode → AreSent setup p others →
          IsReached setup first threads (after q (effect_of_body setup q (heard q) p carry.turn (Body.Req lock mode own)).processor (effect_of_body setup q (heard q) p carry.turn (Body.Req lock mode own)).sends)) i (λ ne oldest told label left.
          (let home : ℕ = home_of setup lock.0 in
          let came : AreLawful setup (came_to home) = came_lawful setup w p home record { from = from; to = to; carry = carry; body = Body.Req lock mode own } others (heard home) record {
            oldest = oldest;
            locks = refl;
            mail = λ other. sym (append-nil (mail_for other (w.processors home).mail.grants));
            from_home = λ other apart. refl;
          } h.lawful in
          let due : IsDue setup (came_to home) came p carry.turn lock (heard home) (asks mode) = record {
            is_home = if_same home (heard home) (w.processors home);
            last = let k = same_last home p in let l = h.last p home in let m : w.handled home p < carry.turn = told.first.later in omega arith;
            next_is = next_as (next_move setup home lock.0 (w.handled home p) (same_number home) (w.courses p) _ _ told.first) (ap (move_of lock.0) label ∙ if_same lock.0 (asks mode) still);
            others = λ other apart there. still_same (moves_of other (w.courses p)) (w.handled home p) carry.turn
                (next_as (next_move setup home other (w.handled home p) (rw there (same_number home)) (w.courses p) _ _ told.first) (ap (move_of other) label ∙ rw apart refl));
          } in
          rw (ask_counts setup (came_to home) came p carry.turn lock (heard home) mode own due)
          (due_reached home lock (Body.Req lock mode own) (with_request (heard home) p carry.turn lock mode own) record {
            apart = ne;
            is_home = refl;
            later = told.first.later;
            flow = told.flow;
            left = left;
            own = refl;
            peers = refl;
            lawful = ask_lawful setup (came_to home) came p carry.turn lock (heard home) mode own due;
          })))

  -- a release
  pub gave_reached : (q : ℕ) (from to : Proc) (lock : Lock) (mode : Mode) (version : ℕ) (lines : List Line) → (p == q) ≡ false →
      w.channels p q ≡ record { from = from; to = to; carry = carry; body = Body.Release lock mode version lines } ∷ others →
      IsReached setup first threads (after q (effect_of_body setup q (heard q) p carry.turn (Body.Release lock mode version lines)).processor (effect_of_body setup q (heard q) p carry.turn (Body.Release lock mode version lines)).sends)
  gave_reached q from to lock mode version lines ne oldest =
      let msg : Msg = record { from = from; to = to; carry = carry; body = Body.Release lock mode version lines } in
      let flow : IsFlow setup q (w.courses p) (w.handled q p) (msg ∷ others) = subst (IsFlow setup q (w.courses p) (w.handled q p)) oldest (h.flows p q ne) in
      let sent : AreSent setup p (msg ∷ others) = subst (AreSent setup p) oldest (h.sent p q) in
      let told : IsTold setup q (w.courses p) (w.handled q p) msg (gave lock mode version) others = told_came setup q (w.courses p) (w.handled q p) msg (gave lock mode version) others flow refl in
      let give : IsGive told.first.before told.first.label lock mode version = give_word setup q told.first.before told.first.label lock mode version told.first.is_body in
      let is_home : home_of setup lock.0 ≡ q = give_home setup q told.first.before lock (gave lock mode version) (subst (λ l. word_for setup q told.first.before l ≡ Some (gave lock mode version)) give.is_label told.first.is_body) in
      at_home q is_home ne oldest told give sent.0.fits sent.1
    where
      at_home : (q : ℕ) → home_of setup lock.0 ≡ q → (p == q) ≡ false → w.channels p q ≡ record { from = from; to = to; carry = carry; body = Body.Release lock mode version lines } ∷ others →
          (told : IsTold setup q (w.courses p) (w.handled q p) record { from = from; to = to; carry = carry; body = Body.Release lock mode version lines } (gave lock mode version) others) →
          IsGive told.first.before told.first.label lock mode version → may_bring mode lines ≡ true → AreSent setup p others →
          IsReached setup first threads (after q (effect_of_body setup q (heard q) p carry.turn (Body.Release lock mode version lines)).processor (effect_of_body setup q (heard q) p carry.turn (Body.Release lock mode version lines)).sends)
      at_home q i = subst (λ q. (p == q) ≡ false → w.channels p q ≡ record { from = from; to = to; carry = carry; body = Body.Release lock mode version lines } ∷ others →
          (told : IsTold setup q (w.courses p) (w.handled q p) record { from = from; to = to; carry = carry; body = Body.Release lock mode version lines } (gave lock mode version) others) →
          IsGive told.first.before told.first.label lock mode version → may_bring mode lines ≡ true → AreSent setup p others →
          IsReached setup first threads (after q (effect_of_body setup q (heard q) p carry.turn (Body.Release lock mode version lines)).processor (effect_of_body setup q (heard q) p carry.turn (Body.Release lock mode version lines)).sends)) i (λ ne oldest told give fits left.
          (let home : ℕ = home_of setup lock.0 in
          let came : AreLawful setup (came_to home) = came_lawful setup w p home record { from = from; to = to; carry = carry; body = Body.Release lock mode version lines } others (heard home) record {
            oldest = oldest;
            locks = refl;
            mail = λ other. sym (append-nil (mail_for other (w.processors home).mail.grants));
            from_home = λ other apart. refl;
          } h.lawful in
          let due : IsDue setup (came_to home) came p carry.turn lock (heard home) gives = record {
            is_home = if_same home (heard home) (w.processors home);
            last = let k = same_last home p in let l = h.last p home in let m : w.handled home p < carry.turn = told.first.later in omega arith;
            next_is = next_as (next_move setup home lock.0 (w.handled home p) (same_number home) (w.courses p) _ _ told.first) (ap (move_of lock.0) give.is_label ∙ if_same lock.0 gives still);
            others = λ other apart there. still_same (moves_of other (w.courses p)) (w.handled home p) carry.turn
                (next_as (next_move setup home other (w.handled home p) (rw there (same_number home)) (w.courses p) _ _ told.first) (ap (move_of other) give.is_label ∙ rw apart refl));
          } in
          let return : IsReturn setup (came_to home) came p carry.turn lock (heard home) mode version lines = record {
            due = due;
            claim = give.claim;
            is_claim = give.is_claim;
            is_mode = give.is_mode;
            is_version = give.is_version ∙ ap (λ m. version_made m (have_of lock.0 told.first.before)) give.is_mode;
            brings = fits;
            is_processor = h.is_in p (let a : w.handled home p < carry.turn = told.first.later in let b : carry.turn ≤ length (w.courses p) = told.first.within in omega arith);
          } in
          rw (give_counts setup (came_to home) came p carry.turn lock (heard home) mode version lines return)
          (due_reached home lock (Body.Release lock mode version lines) (with_release setup (heard home) p carry.turn lock mode version lines) record {
            apart = ne;
            is_home = refl;
            later = told.first.later;
            flow = told.flow;
            left = left;
            own = refl;
            peers = refl;
            lawful = give_lawful setup (came_to home) came p carry.turn lock (heard home) mode version lines return;
          })))

  heard_taking : (q : ℕ) (body : Body) → ((lock : ℕ) → grants_in lock body ≡ []) → IsTaking q body (heard q)
  heard_taking q body none = record {
    own = refl;
    peers = refl;
    locks = refl;
    mail = λ lock. sym (ap (λ gs. mail_for lock (w.processors q).mail.grants ++ gs) (none lock) ∙ append-nil (mail_for lock (w.processors q).mail.grants));
  }

  -- An arrival: the receiver is the manager of its barrier, and no lock is touched.

  pub record IsArriving (q : ℕ) (now : Processor S) (sends : List Msg) : Type 0 where
    pub own : now.own ≡ (w.processors q).own
    pub last_now : (now.peers p).last ≤ carry.turn
    pub last_same : (a : ℕ) → (a == p) ≡ false → (now.peers a).last ≤ w.handled q a
    pub locks : now.locks ≡ (w.processors q).locks
    pub mail : now.mail.grants ≡ (w.processors q).mail.grants
    pub quiet : AreQuiet (length (w.courses q)) sends
    pub sent : AreSent setup q sends
    pub no_self : filter (goes q q) sends ≡ []
    pub no_grants : (lock a b : ℕ) → grants_said lock (filter (goes a b) sends) ≡ []

  abbrev ArrivalTold : ℕ → Proc → Proc → Bar → ℕ → List Line → Type 0
  ArrivalTold q from to bar epoch lines = IsTold setup q (w.courses p) (w.handled q p) record { from = from; to = to; carry = carry; body = Body.Arrive bar epoch lines } (arrived bar) others

  arrival_told : (q : ℕ) (from to : Proc) (bar : Bar) (epoch : ℕ) (lines : List Line) → (p == q) ≡ false → w.channels p q ≡ record { from = from; to = to; carry = carry; body = Body.Arrive bar epoch lines } ∷ others →
      ArrivalTold q from to bar epoch lines
  arrival_told q from to bar epoch lines ne oldest =
      told_came setup q (w.courses p) (w.handled q p) record { from = from; to = to; carry = carry; body = Body.Arrive bar epoch lines } (arrived bar) others
      (subst (IsFlow setup q (w.courses p) (w.handled q p)) oldest (h.flows p q ne)) refl

  arrived_reached : (q : ℕ) (from to : Proc) (bar : Bar) (epoch : ℕ) (lines : List Line) (now : Processor S) (sends : List Msg) → (p == q) ≡ false →
      w.channels p q ≡ record { from = from; to = to; carry = carry; body = Body.Arrive bar epoch lines } ∷ others → ArrivalTold q from to bar epoch lines → IsArriving q now sends → IsReached setup first threads (after q now sends)
  arrived_reached q from to bar epoch lines now sends ne oldest told is =
      let msg : Msg = record { from = from; to = to; carry = carry; body = Body.Arrive bar epoch lines } in
      let sent : AreSent setup p (msg ∷ others) = subst (AreSent setup p) oldest (h.sent p q) in
      let label : told.first.label ≡ Label.Arrive bar = came_label setup q told.first.before told.first.label bar told.first.is_body in
      let later : w.handled q p < carry.turn = told.first.later in
      let taken : World S = without_oldest (with_new w q now) p q others in
      let lawful : AreLawful setup taken = came_lawful setup w p q msg others now record {
        oldest = oldest;
        locks = is.locks;
        mail = λ lock. ap (mail_for lock) is.mail ∙ sym (append-nil (mail_for lock (w.processors q).mail.grants));
        from_home = sent.0.from_home;
      } h.lawful in
      let handled : AreLawful setup (with_handled taken q p carry.turn) = λ lock. raised_at setup taken q p carry.turn lock
      (λ i. still_same (moves_of lock (w.courses p)) (w.handled q p) carry.turn
      (next_as (next_move setup q lock (w.handled q p) (rw i (same_number q)) (w.courses p) _ _ told.first) (ap (move_of lock) label))) (lawful lock) in
      delivery_reached setup first threads w h p q carry.turn others now sends record {
        apart = ne;
        own = is.own;
        later = omega arith;
        last_now = is.last_now;
        last_same = is.last_same;
        flow = told.flow;
        left = sent.1;
        quiet = is.quiet;
        sent = is.sent;
        no_self = is.no_self;
        lawful = sent_lawful setup (with_handled taken q p carry.turn) sends is.no_grants handled;
      }

  arrive_reached : (q : ℕ) (from to : Proc) (bar : Bar) (epoch : ℕ) (lines : List Line) → (p == q) ≡ false → w.channels p q ≡ record { from = from; to = to; carry = carry; body = Body.Arrive bar epoch lines } ∷ others →
      IsReached setup first threads (after q (effect_of_body setup q (heard q) p carry.turn (Body.Arrive bar epoch lines)).processor (effect_of_body setup q (heard q) p carry.turn (Body.Arrive bar epoch lines)).sends)
  arrive_reached q from to bar epoch lines ne oldest = go (counts (heard q) p carry.turn (Body.Arrive bar epoch lines)) refl
    where
      told : ArrivalTold q from to bar epoch lines
      told = arrival_told q from to bar epoch lines ne oldest

      now : Processor S
      now = with_arrived (heard q) p carry.turn bar lines

      last_before : (a : ℕ) → ((heard q).peers a).last ≤ w.handled q a
      last_before a = let k = same_last q a in let l = h.last a q in omega arith

      go : (b : Bool) → counts (heard q) p carry.turn (Body.Arrive bar epoch lines) ≡ b →
          IsReached setup first threads (after q (effect_of_body setup q (heard q) p carry.turn (Body.Arrive bar epoch lines)).processor (effect_of_body setup q (heard q) p carry.turn (Body.Arrive bar epoch lines)).sends)
      go true e = rw e (arrived_reached q from to bar epoch lines (manager_after_openings setup q now bar) (opening_messages setup q now bar) ne oldest told record {
        own = refl;
        last_now = let k : (now.peers p).last ≡ carry.turn = ap (λ (x : Peer). x.last) (if_same p (record ((heard q).peers p) { last = carry.turn }) ((heard q).peers p)) in omega arith;
        last_same = λ a there. (let k : (now.peers a).last ≡ ((heard q).peers a).last = rw there refl in let l = last_before a in omega arith);
        locks = refl;
        mail = refl;
        quiet = subst (λ n. AreQuiet n (opening_messages setup q now bar)) (h.owns q).turns (openings_quiet setup q now bar);
        sent = openings_sent setup q now bar;
        no_self = no_opening_to_me setup q now bar;
        no_grants = no_grants_opened setup q now bar;
      })
      go false e = rw e (arrived_reached q from to bar epoch lines (heard q) [] ne oldest told record {
        own = refl;
        last_now = let k = last_before p in let l : w.handled q p < carry.turn = told.first.later in omega arith;
        last_same = λ a there. last_before a;
        locks = refl;
        mail = refl;
        quiet = tt;
        sent = tt;
        no_self = refl;
        no_grants = λ lock a b. refl;
      })

  -- any message
  pub delivered_reached : (q : ℕ) (from to : Proc) (body : Body) → (p == q) ≡ false → w.channels p q ≡ record { from = from; to = to; carry = carry; body = body } ∷ others →
      IsReached setup first threads (after q (effect_of_body setup q (heard q) p carry.turn body).processor (effect_of_body setup q (heard q) p carry.turn body).sends)
  delivered_reached q from to (Body.Req lock mode own) ne oldest = asked_reached q from to lock mode own ne oldest
  delivered_reached q from to (Body.Release lock mode version lines) ne oldest = gave_reached q from to lock mode version lines ne oldest
  delivered_reached q from to (Body.Grant lock mode take version lines) ne oldest =
      taken_reached q from to (Body.Grant lock mode take version lines) (effect_of_body setup q (heard q) p carry.turn (Body.Grant lock mode take version lines)).processor ne oldest refl record {
        own = refl;
        peers = refl;
        locks = refl;
        mail = λ other. filter-append (λ (grant : MailGrant). grant.lock.0 == other) (w.processors q).mail.grants (record { turn = take; lock = lock; mode = mode; version = version; lines = lines } ∷ []);
      }
  delivered_reached q from to (Body.Arrive bar epoch lines) ne oldest = arrive_reached q from to bar epoch lines ne oldest
  delivered_reached q from to (Body.Opened bar epoch lines) ne oldest =
      taken_reached q from to (Body.Opened bar epoch lines) (with_opening (heard q) bar epoch lines) ne oldest refl record {
        own = refl;
        peers = refl;
        locks = refl;
        mail = λ lock. sym (append-nil (mail_for lock (w.processors q).mail.grants));
      }
  delivered_reached q from to body ne oldest = taken_reached q from to body (heard q) ne oldest refl (heard_taking q body (λ lock. refl))

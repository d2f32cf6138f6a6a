-- What holds of all that units reach, and what carries it over a turn or a delivery.
use Rattle.std.specs.Prelude.{◌≡◌, ℕ, ◌+◌, ◌≤◌, ◌<◌, Bool, true, false, ◌==◌, not, List, [], ◌∷◌, ◌++◌, length, filter, map}
use Rattle.std.proofs.Common.{arith, refl, sym, ap, ap₂, ◌∙◌, subst, inl, inr, append-nil, true≢false}
use Rattle.std.proofs.lemmas.Bool.Decides.{eqb_tells}
use Rattle.dsm_base.specs.declared.names.Lock.{Lock}
use Rattle.dsm_base.specs.declared.label.Label.{Label}
use Rattle.dsm_base.specs.declared.setup.Setup.{Setup}
use Rattle.dsm_base.specs.Family.{update, update_at}
use Rattle.dsm_base.specs.Threads.{Semantics}
use Rattle.dsm_msg.specs.declared.message.Body.{Body}
use Rattle.dsm_msg.specs.declared.message.Msg.{Msg}
use Rattle.dsm_home.specs.declared.waiting.Waiting.{Waiting}
use Rattle.dsm_home.specs.LockStates.{grants_of}
use Rattle.dsm_net.specs.Processor.{Processor}
use Rattle.dsm_net.specs.Messages.{home_of}
use Rattle.dsm_net.specs.Effects.{may_bring}
use Rattle.dsm_net.specs.Grants.{grant_message, is_of, grant_messages}
use Rattle.dsm_laws_protocol.specs.Flows.{IsFlow}
use Rattle.dsm_laws_protocol.specs.Worlds.{World, grants_in, AreLawful}
use Rattle.dsm_laws_protocol.proofs.Channels.{goes}
use Rattle.dsm_laws_protocol.proofs.Families.{same_number}
use Rattle.dsm_laws_protocol.proofs.Flows.{AreQuiet, quiet_filter, others_sent}
use Rattle.dsm_laws_protocol.proofs.Own.{IsOwn}

-- What is sent.

-- a shared release has no lines
abbrev pub IsFit : Body → Type 0
IsFit (Body.Release lock mode version lines) = may_bring mode lines ≡ true
IsFit _ = Unit {0}

-- a message of p; grants are sent by the home of their lock alone
pub record IsSent (setup : Setup) (p : ℕ) (msg : Msg) : Type 0 where
  pub from : msg.from.0 ≡ p
  pub fits : IsFit msg.body
  pub from_home : (lock : ℕ) → (home_of setup lock == p) ≡ false → grants_in lock msg.body ≡ []

abbrev pub AreSent : Setup → ℕ → List Msg → Type 0
AreSent setup p [] = Unit {0}
AreSent setup p (msg ∷ msgs) = IsSent setup p msg × AreSent setup p msgs

pub sent_append : (setup : Setup) (p : ℕ) (xs ys : List Msg) → AreSent setup p xs → AreSent setup p ys → AreSent setup p (xs ++ ys)
sent_append setup p [] ys h g = g
sent_append setup p (x ∷ xs) ys h g = (h.0, sent_append setup p xs ys h.1 g)

pub sent_filter : (setup : Setup) (p : ℕ) (test : Msg → Bool) (msgs : List Msg) → AreSent setup p msgs → AreSent setup p (filter test msgs)
sent_filter setup p test [] h = tt
sent_filter setup p test (msg ∷ msgs) h = go (test msg) refl (sent_filter setup p test msgs h.1)
  where
    go : (b : Bool) → test msg ≡ b → AreSent setup p (filter test msgs) → AreSent setup p (filter test (msg ∷ msgs))
    go true e more = rw e (h.0, more)
    go false e more = rw e more

-- nobody else sends them
pub none_of_other : (setup : Setup) (p a b : ℕ) (msgs : List Msg) → (a == p) ≡ false → AreSent setup p msgs → filter (goes a b) msgs ≡ []
none_of_other setup p a b [] ne h = refl
none_of_other setup p a b (msg ∷ msgs) ne h =
    let apart : (a == msg.from.0) ≡ false = rw h.0.from ne in
    rw apart (none_of_other setup p a b msgs ne h.1)

-- Grants.

grants_home : (lock : Lock) (other home : ℕ) (setup : Setup) → home_of setup lock.0 ≡ home → (home_of setup other == home) ≡ false → (lock.0 == other) ≡ false
grants_home lock other home setup i ne =
    elim (eqb_tells lock.0 other) [
      | inl (t, e) ↦ absurd (true≢false (sym (rw (sym i) (same_number (home_of setup lock.0))) ∙ ap (λ l. home_of setup l == home) e ∙ ne))
      | inr (t, _) ↦ t
    ]

module _ {S : Type 0} (setup : Setup) (me : ℕ) (s : Processor S) (lock : Lock) where
  all_quiet : (ones : List Waiting) → AreQuiet s.own.turns (map (grant_message setup me s lock) ones)
  all_quiet [] = tt
  all_quiet (one ∷ ones) = (refl, refl, all_quiet ones)

  all_sent : home_of setup lock.0 ≡ me → (ones : List Waiting) → AreSent setup me (map (grant_message setup me s lock) ones)
  all_sent i [] = tt
  all_sent i (one ∷ ones) = (record { from = refl; fits = tt; from_home = λ other ne. rw (grants_home lock other me setup i ne) refl }, all_sent i ones)

  pub grants_quiet : AreQuiet s.own.turns (grant_messages setup me s lock)
  grants_quiet = all_quiet (filter (λ one. not (is_of me one)) (grants_of (s.locks lock.0)))

  pub grants_sent : home_of setup lock.0 ≡ me → AreSent setup me (grant_messages setup me s lock)
  grants_sent i = all_sent i (filter (λ one. not (is_of me one)) (grants_of (s.locks lock.0)))

-- What is reached.

pub record IsReached {S : Type 0} (setup : Setup) (first : ℕ → S) (threads : Semantics S) (w : World S) : Type 0 where
  pub lawful : AreLawful setup w
  pub none : (p : ℕ) → w.channels p p ≡ []
  pub flows : (p q : ℕ) → (p == q) ≡ false → IsFlow setup q (w.courses p) (w.handled q p) (w.channels p q)
  pub sent : (p q : ℕ) → AreSent setup p (w.channels p q)
  pub own_handled : (p : ℕ) → w.handled p p ≡ length (w.courses p)
  pub last : (p q : ℕ) → ((w.processors q).peers p).last ≤ w.handled q p
  pub owns : (p : ℕ) → IsOwn threads (first p) (w.processors p).own (w.courses p)
  pub is_in : (p : ℕ) → 0 < length (w.courses p) → p < setup.procs

-- A delivery.

module _ {S : Type 0} (setup : Setup) (first : ℕ → S) (threads : Semantics S) (w : World S) (h : IsReached setup first threads w) (p q turn : ℕ) (others : List Msg) (now : Processor S) (sends : List Msg) where
  abbrev pub after_delivery : World S
  after_delivery = record {
    processors = update w.processors q now;
    channels = λ a b. update_at w.channels p q others a b ++ filter (goes a b) sends;
    courses = w.courses;
    handled = update_at w.handled q p turn;
  }

  pub record IsDelivered : Type 0 where
    pub apart : (p == q) ≡ false
    pub own : now.own ≡ (w.processors q).own
    pub later : w.handled q p ≤ turn
    pub last_now : (now.peers p).last ≤ turn
    pub last_same : (a : ℕ) → (a == p) ≡ false → (now.peers a).last ≤ w.handled q a
    pub flow : IsFlow setup q (w.courses p) turn others
    pub left : AreSent setup p others
    pub quiet : AreQuiet (length (w.courses q)) sends
    pub sent : AreSent setup q sends
    pub no_self : filter (goes q q) sends ≡ []
    pub lawful : AreLawful setup after_delivery

  module _ (is : IsDelivered) where
    other_pair : (r : ℕ) → update_at w.channels p q others r r ≡ w.channels r r
    other_pair r =
        elim (eqb_tells r p) [
          | inl (t, i) ↦ elim (eqb_tells r q) [
            | inl (u, j) ↦ absurd (true≢false (sym (rw i at u) ∙ is.apart))
            | inr (u, _) ↦ rw (t, u) (ap (λ a. w.channels a r) (sym i))
          ]
          | inr (t, _) ↦ rw t refl
        ]

    none_now : (r : ℕ) → after_delivery.channels r r ≡ []
    none_now r =
        elim (eqb_tells r q) [
          | inl (u, j) ↦ ap₂ (λ xs ys. xs ++ ys) (other_pair r ∙ h.none r) (ap (λ a. filter (goes a a) sends) j ∙ is.no_self)
          | inr (u, _) ↦ ap₂ (λ xs ys. xs ++ ys) (other_pair r ∙ h.none r) (none_of_other setup q r r sends u is.sent)
        ]

    flow_left : (a b : ℕ) → (a == b) ≡ false → IsFlow setup b (w.courses a) (update_at w.handled q p turn b a) (update_at w.channels p q others a b)
    flow_left a b ne =
        elim (eqb_tells a p) [
          | inl (t, i) ↦ elim (eqb_tells b q) [
            | inl (u, j) ↦ rw (t, u, t) (subst (λ x. IsFlow setup x (w.courses a) turn others) (sym j) (subst (λ x. IsFlow setup q (w.courses x) turn others) (sym i) is.flow))
            | inr (u, _) ↦ rw (t, u) (subst (λ x. IsFlow setup b (w.courses a) (w.handled b a) (w.channels x b)) i (h.flows a b ne))
          ]
          | inr (t, _) ↦ elim (eqb_tells b q) [
            | inl (u, j) ↦ rw (t, u, t) (subst (λ x. IsFlow setup b (w.courses a) (w.handled x a) (w.channels a b)) j (h.flows a b ne))
            | inr (u, _) ↦ rw (t, u) (h.flows a b ne)
          ]
        ]

    flows_now : (a b : ℕ) → (a == b) ≡ false → IsFlow setup b (w.courses a) (update_at w.handled q p turn b a) (update_at w.channels p q others a b ++ filter (goes a b) sends)
    flows_now a b ne =
        elim (eqb_tells a q) [
          | inl (u, j) ↦ others_sent setup b (w.courses a) (update_at w.handled q p turn b a) (filter (goes a b) sends) (update_at w.channels p q others a b) (flow_left a b ne)
              (quiet_filter (goes a b) (length (w.courses a)) sends (subst (λ r. AreQuiet (length (w.courses r)) sends) (sym j) is.quiet))
          | inr (u, _) ↦ subst (IsFlow setup b (w.courses a) (update_at w.handled q p turn b a)) (sym (append-nil (update_at w.channels p q others a b)) ∙ ap (λ xs. update_at w.channels p q others a b ++ xs) (sym (none_of_other setup q a b sends u is.sent))) (flow_left a b ne)
        ]

    sent_left : (a b : ℕ) → AreSent setup a (update_at w.channels p q others a b)
    sent_left a b =
        elim (eqb_tells a p) [
          | inl (t, i) ↦ elim (eqb_tells b q) [
            | inl (u, j) ↦ rw (t, u) (subst (λ x. AreSent setup x others) (sym i) is.left)
            | inr (u, _) ↦ rw (t, u) (subst (λ x. AreSent setup a (w.channels x b)) i (h.sent a b))
          ]
          | inr (t, _) ↦ rw t (h.sent a b)
        ]

    sent_now : (a b : ℕ) → AreSent setup a (after_delivery.channels a b)
    sent_now a b =
        elim (eqb_tells a q) [
          | inl (u, j) ↦ sent_append setup a _ (filter (goes a b) sends) (sent_left a b) (sent_filter setup a (goes a b) sends (subst (λ r. AreSent setup r sends) (sym j) is.sent))
          | inr (u, _) ↦ sent_append setup a _ (filter (goes a b) sends) (sent_left a b) (subst (AreSent setup a) (sym (none_of_other setup q a b sends u is.sent)) tt)
        ]

    own_handled_now : (r : ℕ) → update_at w.handled q p turn r r ≡ length (w.courses r)
    own_handled_now r =
        elim (eqb_tells r q) [
          | inl (u, j) ↦ elim (eqb_tells r p) [
            | inl (t, i) ↦ absurd (true≢false (sym (rw i at u) ∙ is.apart))
            | inr (t, _) ↦ rw (u, t) (ap (λ x. w.handled x r) (sym j) ∙ h.own_handled r)
          ]
          | inr (u, _) ↦ rw u (h.own_handled r)
        ]

    last_now_at : (a b : ℕ) → ((update w.processors q now b).peers a).last ≤ update_at w.handled q p turn b a
    last_now_at a b =
        elim (eqb_tells b q) [
          | inl (u, j) ↦ elim (eqb_tells a p) [
            | inl (t, i) ↦ rw (u, t) (subst (λ x. (now.peers x).last ≤ turn) (sym i) is.last_now)
            | inr (t, _) ↦ rw (u, t) (is.last_same a t)
          ]
          | inr (u, _) ↦ rw u (h.last a b)
        ]

    owns_now : (r : ℕ) → IsOwn threads (first r) (update w.processors q now r).own (w.courses r)
    owns_now r =
        elim (eqb_tells r q) [
          | inl (u, j) ↦ rw u (subst (λ own. IsOwn threads (first r) own (w.courses r)) (ap (λ x. (w.processors x).own) j ∙ sym is.own) (h.owns r))
          | inr (u, _) ↦ rw u (h.owns r)
        ]

    pub delivery_reached : IsReached setup first threads after_delivery
    delivery_reached = record {
      lawful = is.lawful;
      none = none_now;
      flows = flows_now;
      sent = sent_now;
      own_handled = own_handled_now;
      last = last_now_at;
      owns = owns_now;
      is_in = h.is_in;
    }

-- A turn.

module _ {S : Type 0} (setup : Setup) (first : ℕ → S) (threads : Semantics S) (w : World S) (h : IsReached setup first threads w) (p : ℕ) (label : Label) (now : Processor S) (sends : List Msg) where
  abbrev pub after_turn : World S
  after_turn = record {
    processors = update w.processors p now;
    channels = λ a b. w.channels a b ++ filter (goes a b) sends;
    courses = update w.courses p (label ∷ w.courses p);
    handled = update_at w.handled p p (length (w.courses p) + 1);
  }

  pub record IsTurned : Type 0 where
    pub is_processor : p < setup.procs
    pub own : IsOwn threads (first p) now.own (label ∷ w.courses p)
    pub last_own : (now.peers p).last ≤ length (w.courses p) + 1
    pub last_same : (a : ℕ) → (a == p) ≡ false → (now.peers a).last ≤ w.handled p a
    pub flow : (b : ℕ) → (p == b) ≡ false → IsFlow setup b (label ∷ w.courses p) (w.handled b p) (w.channels p b ++ filter (goes p b) sends)
    pub sent : AreSent setup p sends
    pub no_self : filter (goes p p) sends ≡ []
    pub lawful : AreLawful setup after_turn

  module _ (is : IsTurned) where
    none_turned : (r : ℕ) → after_turn.channels r r ≡ []
    none_turned r =
        elim (eqb_tells r p) [
          | inl (u, j) ↦ ap₂ (λ xs ys. xs ++ ys) (h.none r) (ap (λ a. filter (goes a a) sends) j ∙ is.no_self)
          | inr (u, _) ↦ ap₂ (λ xs ys. xs ++ ys) (h.none r) (none_of_other setup p r r sends u is.sent)
        ]

    handled_other : (a b : ℕ) → (a == b) ≡ false → update_at w.handled p p (length (w.courses p) + 1) b a ≡ w.handled b a
    handled_other a b ne =
        elim (eqb_tells b p) [
          | inl (u, j) ↦ elim (eqb_tells a p) [
            | inl (t, i) ↦ absurd (true≢false (sym (rw (i, j) (same_number p)) ∙ ne))
            | inr (t, _) ↦ rw (u, t) (ap (λ x. w.handled x a) (sym j))
          ]
          | inr (u, _) ↦ rw u refl
        ]

    flows_turned : (a b : ℕ) → (a == b) ≡ false → IsFlow setup b (after_turn.courses a) (after_turn.handled b a) (after_turn.channels a b)
    flows_turned a b ne =
        subst (λ k. IsFlow setup b (after_turn.courses a) k (after_turn.channels a b)) (sym (handled_other a b ne)) (elim (eqb_tells a p) [
          | inl (t, i) ↦ rw t (subst (λ x. IsFlow setup b (label ∷ w.courses p) (w.handled b x) (w.channels x b ++ filter (goes x b) sends)) (sym i) (is.flow b (rw i at ne)))
          | inr (t, _) ↦ rw t (subst (IsFlow setup b (w.courses a) (w.handled b a)) (sym (append-nil (w.channels a b)) ∙ ap (λ xs. w.channels a b ++ xs) (sym (none_of_other setup p a b sends t is.sent))) (h.flows a b ne))
        ])

    sent_turned : (a b : ℕ) → AreSent setup a (after_turn.channels a b)
    sent_turned a b =
        elim (eqb_tells a p) [
          | inl (u, j) ↦ sent_append setup a (w.channels a b) (filter (goes a b) sends) (h.sent a b) (sent_filter setup a (goes a b) sends (subst (λ r. AreSent setup r sends) (sym j) is.sent))
          | inr (u, _) ↦ sent_append setup a (w.channels a b) (filter (goes a b) sends) (h.sent a b) (subst (AreSent setup a) (sym (none_of_other setup p a b sends u is.sent)) tt)
        ]

    own_handled_turned : (r : ℕ) → after_turn.handled r r ≡ length (after_turn.courses r)
    own_handled_turned r = elim (eqb_tells r p) [ inl (u, j) ↦ rw (u, u) (omega arith) | inr (u, _) ↦ rw u (h.own_handled r) ]

    last_turned : (a b : ℕ) → ((update w.processors p now b).peers a).last ≤ after_turn.handled b a
    last_turned a b =
        elim (eqb_tells b p) [
          | inl (u, j) ↦ elim (eqb_tells a p) [
            | inl (t, i) ↦ rw (u, t) (subst (λ x. (now.peers x).last ≤ length (w.courses p) + 1) (sym i) is.last_own)
            | inr (t, _) ↦ rw (u, t) (is.last_same a t)
          ]
          | inr (u, _) ↦ rw u (h.last a b)
        ]

    owns_turned : (r : ℕ) → IsOwn threads (first r) (update w.processors p now r).own (after_turn.courses r)
    owns_turned r =
        elim (eqb_tells r p) [
          | inl (u, j) ↦ rw u (subst (λ x. IsOwn threads (first x) now.own (label ∷ w.courses p)) (sym j) is.own)
          | inr (u, _) ↦ rw u (h.owns r)
        ]

    is_in_turned : (r : ℕ) → 0 < length (after_turn.courses r) → r < setup.procs
    is_in_turned r lt = elim (eqb_tells r p) [ inl (u, j) ↦ rw j is.is_processor | inr (u, _) ↦ h.is_in r (rw u at lt) ]

    pub turn_reached : IsReached setup first threads after_turn
    turn_reached = record {
      lawful = is.lawful;
      none = none_turned;
      flows = flows_turned;
      sent = sent_turned;
      own_handled = own_handled_turned;
      last = last_turned;
      owns = owns_turned;
      is_in = is_in_turned;
    }

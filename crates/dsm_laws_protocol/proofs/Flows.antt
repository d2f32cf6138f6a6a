-- Messages come and go, and what is under way stays in order.
use Rattle.std.specs.Prelude.{◌≡◌, ℕ, ◌+◌, ◌≤◌, Bool, true, false, List, [], ◌∷◌, ◌++◌, length, filter, Some, None}
use Rattle.std.proofs.Common.{arith, refl, sym, ap, ap₂, ◌∙◌, subst, append_assoc, append-nil}
use Rattle.dsm_base.specs.declared.label.Label.{Label}
use Rattle.dsm_base.specs.declared.setup.Setup.{Setup}
use Rattle.dsm_msg.specs.declared.message.Msg.{Msg}
use Rattle.dsm_laws_protocol.specs.Courses.{upto}
use Rattle.dsm_laws_protocol.specs.Due.{Item, items, due, AreOver, IsFirstDue, Word, word_for}
use Rattle.dsm_laws_protocol.specs.Flows.{words_in, words, IsInOrder, IsFlow}
use Rattle.dsm_laws_protocol.proofs.Due.{due_grown, due_later, first_due}

words_append : (xs ys : List Msg) → words (xs ++ ys) ≡ words xs ++ words ys
words_append [] ys = refl
words_append (x ∷ xs) ys = ap (λ zs. words_in x.carry.turn x.body ++ zs) (words_append xs ys) ∙ sym (append_assoc (words_in x.carry.turn x.body) (words xs) (words ys))

over_append : (k : ℕ) (xs ys : List (Item Word)) → AreOver k xs → AreOver k ys → AreOver k (xs ++ ys)
over_append k [] ys h g = g
over_append k (x ∷ xs) ys h g = (h.0, over_append k xs ys h.1 g)

over_less : (j k : ℕ) (xs : List (Item Word)) → j ≤ k → AreOver k xs → AreOver j xs
over_less j k [] le h = tt
over_less j k (x ∷ xs) le h = (let a = h.0 in omega arith, over_less j k xs le h.1)

pub order_within : (k n : ℕ) (msgs : List Msg) → IsInOrder k n msgs → k ≤ n
order_within k n [] h = h
order_within k n (msg ∷ msgs) h = let a = h.0 in let b = order_within msg.carry.turn n msgs h.2 in omega arith

pub order_grown : (k n m : ℕ) (msgs : List Msg) → n ≤ m → IsInOrder k n msgs → IsInOrder k m msgs
order_grown k n m [] le h = let a : k ≤ n = h in omega arith
order_grown k n m (msg ∷ msgs) le h = (h.0, h.1, order_grown msg.carry.turn n m msgs le h.2)

-- one more message, which tells of a later turn if it tells anything
order_sent : (k n m : ℕ) (msgs : List Msg) (msg : Msg) → IsInOrder k n msgs → n ≤ m → msg.carry.turn ≡ m → AreOver n (words_in msg.carry.turn msg.body) → IsInOrder k m (msgs ++ msg ∷ [])
order_sent k n m [] msg h le t over = (let a : k ≤ n = h in omega arith, tt, omega arith)
order_sent k n m (first ∷ msgs) msg h le t over = (
  h.0,
  subst (AreOver first.carry.turn) (sym (words_append msgs (msg ∷ []))) (over_append first.carry.turn (words msgs) (words (msg ∷ [])) h.1
      (subst (AreOver first.carry.turn) (sym (append-nil (words_in msg.carry.turn msg.body))) (over_less first.carry.turn n (words_in msg.carry.turn msg.body) (order_within first.carry.turn n msgs h.2) over))),
  order_sent first.carry.turn n m msgs msg h.2 le t over,
)

module _ (setup : Setup) (q : ℕ) where
  -- a message that tells nothing is sent
  pub other_sent : (course : List Label) (known : ℕ) (msgs : List Msg) (msg : Msg) → IsFlow setup q course known msgs → msg.carry.turn ≡ length course → words_in msg.carry.turn msg.body ≡ [] → IsFlow setup q course known (msgs ++ msg ∷ [])
  other_sent course known msgs msg flow t none = record {
    in_order = order_sent known (length course) (length course) msgs msg flow.in_order (omega arith) t (rw none tt);
    is_due = words_append msgs (msg ∷ []) ∙ ap (λ ws. words msgs ++ (ws ++ [])) none ∙ append-nil (words msgs) ∙ flow.is_due;
  }

  -- a turn that tells nothing
  pub turn_kept : (course : List Label) (known : ℕ) (msgs : List Msg) (label : Label) → IsFlow setup q course known msgs → word_for setup q course label ≡ None → IsFlow setup q (label ∷ course) known msgs
  turn_kept course known msgs label flow none = record {
    in_order = order_grown known (length course) (length (label ∷ course)) msgs (omega arith) flow.in_order;
    is_due = flow.is_due ∙ sym (due_grown (word_for setup q) known label course (order_within known (length course) msgs flow.in_order)
        ∙ ap (λ o. due (word_for setup q) known course ++ items (length course + 1) o) none ∙ append-nil (due (word_for setup q) known course));
  }

  -- a turn, and the message that it sends
  pub turn_sent : (course : List Label) (known : ℕ) (msgs : List Msg) (label : Label) (msg : Msg) (word : Word) → IsFlow setup q course known msgs → word_for setup q course label ≡ Some word →
      msg.carry.turn ≡ length course + 1 → words_in msg.carry.turn msg.body ≡ record { turn = length course + 1; body = word } ∷ [] → IsFlow setup q (label ∷ course) known (msgs ++ msg ∷ [])
  turn_sent course known msgs label msg word flow makes t tells = record {
    in_order = order_sent known (length course) (length (label ∷ course)) msgs msg flow.in_order (omega arith) (omega arith) (rw tells (omega arith, tt));
    is_due = words_append msgs (msg ∷ []) ∙ ap₂ (λ xs ws. xs ++ (ws ++ [])) flow.is_due tells
        ∙ sym (due_grown (word_for setup q) known label course (order_within known (length course) msgs flow.in_order) ∙ ap (λ o. due (word_for setup q) known course ++ items (length course + 1) o) makes);
  }

  -- the oldest message that tells something comes
  pub record IsTold (course : List Label) (known : ℕ) (msg : Msg) (word : Word) (others : List Msg) : Type 0 where
    pub first : IsFirstDue (word_for setup q) known course record { turn = msg.carry.turn; body = word } (words others)
    pub flow : IsFlow setup q course msg.carry.turn others

  pub told_came : (course : List Label) (known : ℕ) (msg : Msg) (word : Word) (others : List Msg) → IsFlow setup q course known (msg ∷ others) → words_in msg.carry.turn msg.body ≡ record { turn = msg.carry.turn; body = word } ∷ [] →
      IsTold course known msg word others
  told_came course known msg word others flow tells =
      let k : known ≤ length course = order_within known (length course) (msg ∷ others) flow.in_order in
      let first : IsFirstDue (word_for setup q) known course record { turn = msg.carry.turn; body = word } (words others) =
      first_due (word_for setup q) known course record { turn = msg.carry.turn; body = word } (words others) k (sym flow.is_due ∙ ap (λ ws. ws ++ words others) tells) in
      record { first = first; flow = record { in_order = flow.in_order.2; is_due = sym first.is_rest } }

  -- another message comes: nothing that the home handles was done up to its turn
  pub record IsPassed (course : List Label) (known : ℕ) (msg : Msg) (others : List Msg) : Type 0 where
    pub is_quiet : due (word_for setup q) known (upto msg.carry.turn course) ≡ []
    pub flow : IsFlow setup q course msg.carry.turn others

  pub other_came : (course : List Label) (known : ℕ) (msg : Msg) (others : List Msg) → IsFlow setup q course known (msg ∷ others) → words_in msg.carry.turn msg.body ≡ [] → IsPassed course known msg others
  other_came course known msg others flow none =
      let all : words others ≡ due (word_for setup q) known course = ap (λ ws. ws ++ words others) (sym none) ∙ flow.is_due in
      let parts : (due (word_for setup q) known (upto msg.carry.turn course) ≡ []) × (due (word_for setup q) msg.carry.turn course ≡ due (word_for setup q) known course) =
      due_later (word_for setup q) known msg.carry.turn course flow.in_order.0 (order_within msg.carry.turn (length course) others flow.in_order.2) (subst (AreOver msg.carry.turn) all flow.in_order.1) in
      record { is_quiet = parts.0; flow = record { in_order = flow.in_order.2; is_due = all ∙ sym parts.1 } }

-- Several messages.

-- messages that are sent after this many turns and tell nothing
abbrev pub AreQuiet : ℕ → List Msg → Type 0
AreQuiet turns [] = Unit {0}
AreQuiet turns (msg ∷ msgs) = (msg.carry.turn ≡ turns) × (words_in msg.carry.turn msg.body ≡ []) × AreQuiet turns msgs

pub quiet_filter : (test : Msg → Bool) (turns : ℕ) (msgs : List Msg) → AreQuiet turns msgs → AreQuiet turns (filter test msgs)
quiet_filter test turns [] h = tt
quiet_filter test turns (msg ∷ msgs) h = go (test msg) refl (quiet_filter test turns msgs h.2)
  where
    go : (b : Bool) → test msg ≡ b → AreQuiet turns (filter test msgs) → AreQuiet turns (filter test (msg ∷ msgs))
    go true e more = rw e (h.0, h.1, more)
    go false e more = rw e more

pub others_sent : (setup : Setup) (q : ℕ) (course : List Label) (known : ℕ) (news msgs : List Msg) → IsFlow setup q course known msgs → AreQuiet (length course) news → IsFlow setup q course known (msgs ++ news)
others_sent setup q course known [] msgs flow h = subst (IsFlow setup q course known) (sym (append-nil msgs)) flow
others_sent setup q course known (msg ∷ news) msgs flow h =
    subst (IsFlow setup q course known) (append_assoc msgs (msg ∷ []) news)
    (others_sent setup q course known news (msgs ++ msg ∷ []) (other_sent setup q course known msgs msg flow h.0 h.1) h.2)

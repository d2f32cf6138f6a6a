-- Whoever waits for a lock waits in the order in which the requests came to its home.
use Rattle.std.specs.Prelude.{◌≡◌, ℕ, ◌+◌, ◌≤◌, Bool, true, false, ◌&&◌, ◌==◌, List, [], ◌∷◌, ◌++◌, length, nat_lt, Option, Some, None}
use Rattle.std.specs.List.{AllByRecursion}
use Rattle.std.proofs.Common.{arith, refl, sym, ap, ap₂, ◌∙◌, subst, inl, inr, append_assoc, append-nil}
use Rattle.std.proofs.lemmas.Bool.Decides.{eqb_tells}
use Rattle.std.proofs.lemmas.List.{map-append}
use Rattle.dsm_base.specs.declared.act.Act.{Act}
use Rattle.dsm_base.specs.declared.holders.Holder.{Holder}
use Rattle.dsm_base.specs.declared.lists.PendingLine.{PendingLine}
use Rattle.dsm_base.specs.declared.names.Bar.{Bar}
use Rattle.dsm_base.specs.declared.names.Lock.{Lock}
use Rattle.dsm_base.specs.declared.names.Mode.{Mode}
use Rattle.dsm_base.specs.declared.label.Label.{Label}
use Rattle.dsm_base.specs.declared.setup.Object.{Object}
use Rattle.dsm_base.specs.declared.setup.Setup.{Setup}
use Rattle.dsm_base.specs.Family.{update, update_at}
use Rattle.dsm_base.specs.Threads.{Semantics}
use Rattle.dsm_base.proofs.Families.{update_same}
use Rattle.dsm_lines.specs.declared.list.Line.{Line}
use Rattle.dsm_msg.specs.declared.message.Body.{Body}
use Rattle.dsm_msg.specs.declared.message.Msg.{Msg}
use Rattle.dsm_home.specs.declared.waiting.Waiting.{Waiting}
use Rattle.dsm_home.specs.LockStates.{LockState, fits_beside, holder_of, behind_front, lock_after_grants, lock_with_request, lock_after_release}
use Rattle.dsm_net.specs.declared.trace.Letter.{Letter}
use Rattle.dsm_net.specs.declared.trace.Rec.{Rec}
use Rattle.dsm_net.specs.declared.trace.Group.{Group}
use Rattle.dsm_net.specs.Processor.{Own, Processor, start_processor}
use Rattle.dsm_net.specs.Turns.{OwnTurn, own_turn, dirty_lines}
use Rattle.dsm_net.specs.Messages.{home_of, manager_of, with_carry}
use Rattle.dsm_net.specs.Effects.{Effect, counts, waiting_of, with_request, with_release, effect_of, effect_of_body, effect_of_message, release_of, body_of, processor_after, effect_of_telling, effect_of_turn}
use Rattle.dsm_net.specs.Net.{Net}
use Rattle.dsm_net.specs.Units.{Outcome, Made, with_letter, with_message, with_message_to, with_messages, with_lines_out, with_line_out, with_processor, with_effect, step_with, step_of, delivery_of, unit_of}
use Rattle.dsm_net.specs.Fits.{Done, FitsUnits, with_unit, run_of}
use Rattle.dsm_laws_protocol.proofs.Channels.{IsPlain}
use Rattle.dsm_laws_protocol.proofs.Kept.{effect_kept}
use Rattle.dsm_laws_protocol.proofs.Reaching.{body_plain, telling_plain}
use Rattle.dsm_laws_history.specs.Order.{Request, sent_onto, sent_in, request_if, request_in_body, request_in_message, request_in_turn, requests_in, requests_of, AreAmong, requests_waiting, AllWaitInOrder}
use Rattle.dsm_laws_history.proofs.Truth.{all_append, all_weaker}

-- Some of a list.

module _ {A : Type 0} where
  among_more : (xs ys more : List A) → AreAmong xs ys → AreAmong xs (ys ++ more)
  among_more [] ys more h = tt
  among_more (x ∷ xs) [] more h = absurd h
  among_more (x ∷ xs) (y ∷ ys) more (inl h) = inl (h.0, among_more xs ys more h.1)
  among_more (x ∷ xs) (y ∷ ys) more (inr h) = inr (among_more (x ∷ xs) ys more h)

  among_last : (xs ys : List A) (last : A) → AreAmong xs ys → AreAmong (xs ++ last ∷ []) (ys ++ last ∷ [])
  among_last [] ys last h = alone ys
    where
      alone : (ys : List A) → AreAmong (last ∷ []) (ys ++ last ∷ [])
      alone [] = inl (refl, tt)
      alone (y ∷ ys) = inr (alone ys)
  among_last (x ∷ xs) [] last h = absurd h
  among_last (x ∷ xs) (y ∷ ys) last (inl h) = inl (h.0, among_last xs ys last h.1)
  among_last (x ∷ xs) (y ∷ ys) last (inr h) = inr (among_last (x ∷ xs) ys last h)

  among_rest : (x : A) (xs ys : List A) → AreAmong (x ∷ xs) ys → AreAmong xs ys
  among_rest x xs [] h = absurd h
  among_rest x [] (y ∷ ys) h = tt
  among_rest x (z ∷ xs) (y ∷ ys) (inl h) = inr h.1
  among_rest x (z ∷ xs) (y ∷ ys) (inr h) = inr (among_rest x (z ∷ xs) ys h)

-- who waits behind the front waits in the same order
behind_among : (holders : List Holder) (queue : List Waiting) (all : List Request) → AreAmong (requests_waiting queue) all → AreAmong (requests_waiting (behind_front holders queue)) all
behind_among holders [] all h = tt
behind_among holders (one ∷ others) all h =
    go (fits_beside holders one.mode) refl
    (behind_among (holders ++ holder_of one ∷ []) others all (among_rest (record { proc = one.proc.0; take = one.turn }) (requests_waiting others) all h))
  where
    go : (b : Bool) → fits_beside holders one.mode ≡ b → AreAmong (requests_waiting (behind_front (holders ++ holder_of one ∷ []) others)) all → AreAmong (requests_waiting (behind_front holders (one ∷ others))) all
    go true e more = rw e more
    go false e more = rw e h

-- Effects.

module _ (setup : Setup) (me : ℕ) where
  -- who waits at a home of me, in this order
  abbrev InOrder : (ℕ → List Request) → (ℕ → LockState) → Type 0
  InOrder requests locks = (lock : ℕ) → home_of setup lock ≡ me → AreAmong (requests_waiting (locks lock).queue) (requests lock)

  in_order_more : (requests more : ℕ → List Request) (locks : ℕ → LockState) → InOrder requests locks → InOrder (λ lock. requests lock ++ more lock) locks
  in_order_more requests more locks h lock home = among_more (requests_waiting (locks lock).queue) (requests lock) (more lock) (h lock home)

  changed : (requests : ℕ → List Request) (locks : ℕ → LockState) (k : ℕ) (state : LockState) → InOrder requests locks → (home_of setup k ≡ me → AreAmong (requests_waiting state.queue) (requests k)) → InOrder requests (update locks k state)
  changed requests locks k state h now lock home = elim (eqb_tells lock k) [
    | inl (t, i) ↦ rw t (subst (λ l. AreAmong (requests_waiting state.queue) (requests l)) (sym i) (now (ap (home_of setup) (sym i) ∙ home)))
    | inr (t, _) ↦ rw t (h lock home)
  ]

  granted_order : (requests : ℕ → List Request) (locks : ℕ → LockState) (k : ℕ) → InOrder requests locks → InOrder requests (update locks k (lock_after_grants (locks k)))
  granted_order requests locks k h = changed requests locks k (lock_after_grants (locks k)) h (λ home. behind_among (locks k).holders (locks k).queue (requests k) (h k home))

  same_tests : (n : ℕ) → (n == n) ≡ true
  same_tests n = grind arith

  requested : {S : Type 0} (requests : ℕ → List Request) (s : Processor S) (from turn : ℕ) (lock : Lock) (mode : Mode) (version : ℕ) → InOrder requests s.locks →
      InOrder (λ l. requests l ++ request_in_body setup l from me turn (Body.Req lock mode version)) (with_request s from turn lock mode version).locks
  requested requests s from turn lock mode version h =
      let all : ℕ → List Request = λ l. requests l ++ request_in_body setup l from me turn (Body.Req lock mode version) in
      let one : Waiting = waiting_of from turn mode version in
      changed all s.locks lock.0 (lock_with_request (s.locks lock.0) one)
      (in_order_more requests (λ l. request_in_body setup l from me turn (Body.Req lock mode version)) s.locks h)
      (λ home. subst (λ asks. AreAmong (requests_waiting ((s.locks lock.0).queue ++ one ∷ [])) (requests lock.0 ++ request_if asks from turn))
      (sym (ap₂ (λ a b. a && b) (same_tests lock.0) (ap (λ n. n == me) home ∙ same_tests me)))
      (subst (λ waits. AreAmong waits (requests lock.0 ++ record { proc = from; take = turn + 1 } ∷ []))
      (sym (map-append (λ (w : Waiting). record { proc = w.proc.0; take = w.turn }) (s.locks lock.0).queue (one ∷ [])))
      (among_last (requests_waiting (s.locks lock.0).queue) (requests lock.0) record { proc = from; take = turn + 1 } (h lock.0 home))))

  module _ {S : Type 0} (requests : ℕ → List Request) (s : Processor S) (h : InOrder requests s.locks) (from turn : ℕ) where
    abbrev Comes : Body → (ℕ → LockState) → Type 0
    Comes body locks = InOrder (λ lock. requests lock ++ request_in_body setup lock from me turn body) locks

    none_more : (body : Body) → Comes body s.locks
    none_more body = in_order_more requests (λ lock. request_in_body setup lock from me turn body) s.locks h

    counted_order : (body : Body) → Comes body (effect_of setup me s from turn body).processor.locks
    counted_order (Body.Req lock mode version) =
        let queued : Processor S = with_request s from turn lock mode version in
        granted_order (λ l. requests l ++ request_in_body setup l from me turn (Body.Req lock mode version)) queued.locks lock.0 (requested requests s from turn lock mode version h)
    counted_order (Body.Release lock mode version lines) =
        let released : Processor S = with_release setup s from turn lock mode version lines in
        let all : ℕ → List Request = λ l. requests l ++ request_in_body setup l from me turn (Body.Release lock mode version lines) in
        let more : InOrder all s.locks = none_more (Body.Release lock mode version lines) in
        granted_order all released.locks lock.0 (changed all s.locks lock.0 (lock_after_release (s.locks lock.0) from mode) more (λ home. more lock.0 home))
    counted_order body = none_more body

    body_order : (body : Body) → Comes body (effect_of_body setup me s from turn body).processor.locks
    body_order body = go (counts s from turn body) refl
      where
        go : (b : Bool) → counts s from turn body ≡ b → Comes body (effect_of_body setup me s from turn body).processor.locks
        go true c = rw c (counted_order body)
        go false c = rw c (none_more body)

  -- what a turn tells, where its processor has made so many
  module _ {S : Type 0} (requests : ℕ → List Request) (s : Processor S) (h : InOrder requests s.locks) where
    abbrev Tells : Label → (ℕ → LockState) → Type 0
    Tells label locks = InOrder (λ lock. requests lock ++ request_in_turn setup lock me s.own.turns label) locks

    nothing_told : (label : Label) → Tells label s.locks
    nothing_told label = in_order_more requests (λ lock. request_in_turn setup lock me s.own.turns label) s.locks h

    asked_order : (lock : Lock) (mode : Mode) (version : ℕ) → Tells (Label.Ask lock mode) (effect_of_telling setup me s (Some (Body.Req lock mode version))).processor.locks
    asked_order lock mode version = elim (eqb_tells (home_of setup lock.0) me) [
      | inl (t, i) ↦ rw t (body_order requests s h me s.own.turns (Body.Req lock mode version))
      | inr (t, _) ↦ rw t (nothing_told (Label.Ask lock mode))
    ]

    released_order : (lock other : Lock) (mode : Mode) (version : ℕ) (lines : List Line) → Tells (Label.Give lock) (effect_of_telling setup me s (Some (Body.Release other mode version lines))).processor.locks
    released_order lock other mode version lines = elim (eqb_tells (home_of setup other.0) me) [
      | inl (t, i) ↦ rw t (body_order requests s h me s.own.turns (Body.Release other mode version lines))
      | inr (t, _) ↦ rw t (nothing_told (Label.Give lock))
    ]

    arrived_order : (bar : Bar) (epoch : ℕ) (lines : List Line) → Tells (Label.Arrive bar) (effect_of_telling setup me s (Some (Body.Arrive bar epoch lines))).processor.locks
    arrived_order bar epoch lines = elim (eqb_tells (manager_of setup bar.0) me) [
      | inl (t, i) ↦ rw t (body_order requests s h me s.own.turns (Body.Arrive bar epoch lines))
      | inr (t, _) ↦ rw t (nothing_told (Label.Arrive bar))
    ]

    told_order : (own : Own S) (label : Label) → Tells label (effect_of_telling setup me s (body_of setup own label)).processor.locks
    told_order own (Label.Ask lock mode) = asked_order lock mode (own.versions lock.0)
    told_order own (Label.Give lock) = gives (own.held lock.0)
      where
        gives : (held : Option Mode) → Tells (Label.Give lock) (effect_of_telling setup me s (release_of setup own lock held)).processor.locks
        gives None = nothing_told (Label.Give lock)
        gives (Some Mode.Shared) = released_order lock lock Mode.Shared (own.versions lock.0) []
        gives (Some Mode.Excl) = released_order lock lock Mode.Excl (own.versions lock.0 + 1) (dirty_lines setup own (Object.Lock lock))
    told_order own Label.Quiet = nothing_told Label.Quiet
    told_order own (Label.Load cell value) = nothing_told (Label.Load cell value)
    told_order own (Label.Store cell value) = nothing_told (Label.Store cell value)
    told_order own (Label.Take lock mode version) = nothing_told (Label.Take lock mode version)
    told_order own (Label.Arrive bar) = arrived_order bar (own.crossed bar.0) (dirty_lines setup own (Object.Bar bar))
    told_order own (Label.Cross bar epoch) = nothing_told (Label.Cross bar epoch)
    told_order own (Label.Line text) = nothing_told (Label.Line text)
    told_order own Label.End = nothing_told Label.End
    told_order own (Label.Stop fault line) = nothing_told (Label.Stop fault line)

-- Records.

sent_append : (sent : ℕ → Option Msg) (xs ys : List Rec) → sent_onto sent (xs ++ ys) ≡ sent_onto (sent_onto sent xs) ys
sent_append sent [] ys = refl
sent_append sent (Rec.Sent number msg ∷ xs) ys = sent_append (update sent number (Some msg)) xs ys
sent_append sent (one ∷ xs) ys = sent_append sent xs ys

requests_append : (setup : Setup) (sent : ℕ → Option Msg) (lock : ℕ) (xs ys : List Rec) → requests_in setup sent lock (xs ++ ys) ≡ requests_in setup sent lock xs ++ requests_in setup sent lock ys
requests_append setup sent lock [] ys = refl
requests_append setup sent lock (Rec.Delivered number ∷ xs) ys =
    ap (λ more. request_in_message setup lock (sent number) ++ more) (requests_append setup sent lock xs ys)
    ∙ sym (append_assoc (request_in_message setup lock (sent number)) (requests_in setup sent lock xs) (requests_in setup sent lock ys))
requests_append setup sent lock (Rec.Turn p turn label lines ∷ xs) ys =
    ap (λ more. request_in_turn setup lock p.0 turn label ++ more) (requests_append setup sent lock xs ys)
    ∙ sym (append_assoc (request_in_turn setup lock p.0 turn label) (requests_in setup sent lock xs) (requests_in setup sent lock ys))
requests_append setup sent lock (one ∷ xs) ys = requests_append setup sent lock xs ys

-- Parts of a unit.

-- a letter that was sent, to this processor
record IsLetter (sent : ℕ → Option Msg) (count to : ℕ) (letter : Letter) : Type 0 where
  is_sent : sent letter.number ≡ Some letter.msg
  within : letter.number ≤ count
  is_to : letter.msg.to.0 ≡ to

abbrev AreLetters : {S : Type 0} → (ℕ → Option Msg) → Net S → Type 0
AreLetters sent net = (a b : ℕ) → AllByRecursion (IsLetter sent net.sent b) (net.channels a b)

letter_later : (sent : ℕ → Option Msg) (count : ℕ) (msg : Msg) (to : ℕ) (letter : Letter) → IsLetter sent count to letter → IsLetter (update sent (count + 1) (Some msg)) (count + 1) to letter
letter_later sent count msg to letter h = record {
  is_sent = elim (eqb_tells letter.number (count + 1)) [
    | inl (t, i) ↦ absurd (let l = h.within in omega (arith, i))
    | inr (t, _) ↦ rw t h.is_sent
  ];
  within = let l = h.within in omega arith;
  is_to = h.is_to;
}

module _ {S : Type 0} (setup : Setup) (sent : ℕ → Option Msg) where
  -- letters stay what they are, and no request comes
  record Grows (made now : Made S) : Type 0 where
    letters : AreLetters (sent_onto sent made.records) made.net → AreLetters (sent_onto sent now.records) now.net
    requests : (lock : ℕ) → requests_in setup sent lock now.records ≡ requests_in setup sent lock made.records

  grows_same : (made : Made S) → Grows made made
  grows_same made = record { letters = λ l. l; requests = λ lock. refl }

  grows_both : (a b c : Made S) → Grows a b → Grows b c → Grows a c
  grows_both a b c h g = record { letters = λ l. g.letters (h.letters l); requests = λ lock. g.requests lock ∙ h.requests lock }

  no_request : (made : Made S) (more : List Rec) → ((lock : ℕ) → requests_in setup sent lock more ≡ []) → (lock : ℕ) → requests_in setup sent lock (made.records ++ more) ≡ requests_in setup sent lock made.records
  no_request made more none lock =
      requests_append setup sent lock made.records more
      ∙ ap (λ one. requests_in setup sent lock made.records ++ one) (none lock)
      ∙ append-nil (requests_in setup sent lock made.records)

  line_grows : (made : Made S) (p : ℕ) (line : PendingLine) → Grows made (with_line_out made p line)
  line_grows made p line = go (nat_lt (made.net.out p) line.turn) refl
    where
      go : (b : Bool) → nat_lt (made.net.out p) line.turn ≡ b → Grows made (with_line_out made p line)
      go true e = rw e record {
        letters = λ l. subst (λ now. AreLetters now made.net) (sym (sent_append sent made.records (Rec.Out record { 0 = p } line.turn line.text ∷ []))) l;
        requests = no_request made (Rec.Out record { 0 = p } line.turn line.text ∷ []) (λ lock. refl);
      }
      go false e = rw e (grows_same made)

  lines_grow : (lines : List PendingLine) (made : Made S) (p : ℕ) → Grows made (with_lines_out made p lines)
  lines_grow [] made p = grows_same made
  lines_grow (line ∷ lines) made p = grows_both made (with_line_out made p line) (with_lines_out made p (line ∷ lines)) (line_grows made p line) (lines_grow lines (with_line_out made p line) p)

  later : (net : Net S) (known : ℕ → Option Msg) (msg : Msg) → AreLetters known net → (a b : ℕ) → AllByRecursion (IsLetter (update known (net.sent + 1) (Some msg)) (net.sent + 1) b) (net.channels a b)
  later net known msg l a b = all_weaker _ _ (λ (letter : Letter) k. letter_later known net.sent msg b letter k) (net.channels a b) (l a b)

  with_one : (net : Net S) (known : ℕ → Option Msg) (msg : Msg) → AreLetters known net → AreLetters (update known (net.sent + 1) (Some msg)) (with_letter net msg)
  with_one net known msg l a b = elim (eqb_tells a msg.from.0) [
    | inl (t, i) ↦ elim (eqb_tells b msg.to.0) [
      | inl (u, j) ↦ rw (t, u) (subst (λ to. AllByRecursion (IsLetter (update known (net.sent + 1) (Some msg)) (net.sent + 1) to) (net.channels msg.from.0 msg.to.0 ++ record { number = net.sent + 1; msg = msg } ∷ [])) (sym j)
          (all_append _ (net.channels msg.from.0 msg.to.0) (record { number = net.sent + 1; msg = msg } ∷ []) (later net known msg l msg.from.0 msg.to.0)
          (record { is_sent = update_same known (net.sent + 1) (Some msg); within = omega arith; is_to = refl }, tt)))
      | inr (u, _) ↦ rw (t, u) (later net known msg l msg.from.0 b)
    ]
    | inr (t, _) ↦ rw t (later net known msg l a b)
  ]

  message_grows : (made : Made S) (msg : Msg) (receiver : Option (Processor S)) → Grows made (with_message_to made msg receiver)
  message_grows made msg None = record {
    letters = λ l. subst (λ now. AreLetters now (record made.net { sent = made.net.sent + 1 })) (sym (sent_append sent made.records (Rec.Sent (made.net.sent + 1) msg ∷ Rec.Dropped (made.net.sent + 1) ∷ []))) (later made.net (sent_onto sent made.records) msg l);
    requests = no_request made (Rec.Sent (made.net.sent + 1) msg ∷ Rec.Dropped (made.net.sent + 1) ∷ []) (λ lock. refl);
  }
  message_grows made msg (Some receiver) = record {
    letters = λ l. subst (λ now. AreLetters now (with_letter made.net msg)) (sym (sent_append sent made.records (Rec.Sent (made.net.sent + 1) msg ∷ []))) (with_one made.net (sent_onto sent made.records) msg l);
    requests = no_request made (Rec.Sent (made.net.sent + 1) msg ∷ []) (λ lock. refl);
  }

  messages_grow : (msgs : List Msg) (made : Made S) → Grows made (with_messages made msgs)
  messages_grow [] made = grows_same made
  messages_grow (msg ∷ msgs) made =
      grows_both made (with_message made msg) (with_messages made (msg ∷ msgs)) (message_grows made msg (made.net.processors msg.to.0)) (messages_grow msgs (with_message made msg))

  effect_grows : (made : Made S) (from p : ℕ) (effect : Effect S) → IsPlain effect → Grows (with_processor made p effect.processor) (with_effect made from p effect)
  effect_grows made from p effect plain =
      let first : Made S = with_processor made p effect.processor in
      let came : Made S = with_lines_out first from effect.carried in
      let told : Made S = with_messages came effect.sends in
      rw (plain.no_replay, plain.no_note) (grows_both first came (with_lines_out told p effect.outs) (lines_grow effect.carried first from)
      (grows_both came told (with_lines_out told p effect.outs) (messages_grow effect.sends came) (lines_grow effect.outs told p)))

-- Units.

requests_of_unit : (setup : Setup) (lock unit : ℕ) (records : List Rec) (before : List Group) →
    requests_of setup lock (with_unit unit records before) ≡ requests_of setup lock before ++ requests_in setup (sent_in before) lock records
requests_of_unit setup lock unit [] before = sym (append-nil (requests_of setup lock before))
requests_of_unit setup lock unit (one ∷ records) before = refl

sent_in_unit : (unit : ℕ) (records : List Rec) (before : List Group) → sent_in (with_unit unit records before) ≡ sent_onto (sent_in before) records
sent_in_unit unit [] before = refl
sent_in_unit unit (one ∷ records) before = refl

module _ {S : Type 0} (setup : Setup) (first : ℕ → S) (threads : Semantics S) where
  -- what is sent is known, and who waits does so in order
  record Has (sent : ℕ → Option Msg) (requests : ℕ → List Request) (net : Net S) : Type 0 where
    letters : AreLetters sent net
    queues : (p : ℕ) (s : Processor S) → net.processors p ≡ Some s → InOrder setup p requests s.locks

  abbrev HasUnit : List Group → Made S → Type 0
  HasUnit before made = Has (sent_onto (sent_in before) made.records) (λ lock. requests_of setup lock before ++ requests_in setup (sent_in before) lock made.records) made.net

  some_same : (a b : Processor S) → Some a ≡ Some b → a ≡ b
  some_same a b e = cc

  module _ (before : List Group) (net : Net S) (h : Has (sent_in before) (λ lock. requests_of setup lock before) net) where
    abbrev was : ℕ → List Request
    was lock = requests_of setup lock before

    unchanged_has : HasUnit before record { net = net; records = [] }
    unchanged_has = record {
      letters = h.letters;
      queues = λ p s e. in_order_more setup p was (λ lock. []) s.locks (h.queues p s e);
    }

    -- a unit of p with one record and then an effect
    effect_has : (made : Made S) (from p : ℕ) (effect : Effect S) → IsPlain effect → made.net.processors ≡ net.processors → AreLetters (sent_onto (sent_in before) made.records) made.net →
        InOrder setup p (λ lock. was lock ++ requests_in setup (sent_in before) lock made.records) effect.processor.locks → HasUnit before (with_effect made from p effect)
    effect_has made from p effect plain same letters order =
        let first : Made S = with_processor made p effect.processor in
        let now : Made S = with_effect made from p effect in
        let grows : Grows setup (sent_in before) first now = effect_grows setup (sent_in before) made from p effect plain in
        let none : first.records ≡ made.records = append-nil made.records in
        record {
          letters = grows.letters (subst (λ records. AreLetters (sent_onto (sent_in before) records) first.net) (sym none) letters);
          queues = λ q s e lock home. subst (λ more. AreAmong (requests_waiting (s.locks lock).queue) (was lock ++ more)) (sym (grows.requests lock ∙ ap (requests_in setup (sent_in before) lock) none))
              (at q s (sym (ap (λ f. f q) (effect_kept made from p effect).processors) ∙ e) lock home);
        }
      where
        at : (q : ℕ) (s : Processor S) → update made.net.processors p (Some effect.processor) q ≡ Some s → InOrder setup q (λ lock. was lock ++ requests_in setup (sent_in before) lock made.records) s.locks
        at q s e = elim (eqb_tells q p) [
          | inl (t, i) ↦ subst (λ (x : Processor S). InOrder setup q (λ lock. was lock ++ requests_in setup (sent_in before) lock made.records) x.locks) (some_same effect.processor s (rw t at e))
              (subst (λ r. InOrder setup r (λ lock. was lock ++ requests_in setup (sent_in before) lock made.records) effect.processor.locks) (sym i) order)
          | inr (t, _) ↦ in_order_more setup q was (λ lock. requests_in setup (sent_in before) lock made.records) s.locks (h.queues q s (ap (λ f. f q) (sym same) ∙ rw t at e))
        ]

    turn_has : (p : ℕ) (s : Processor S) → net.processors p ≡ Some s → (turn : Option OwnTurn) → HasUnit before (step_with setup threads net p s turn)
    turn_has p s e None = unchanged_has
    turn_has p s e (Some turn) =
        let moved : Processor S = processor_after setup threads s turn in
        let made : Made S = record { net = net; records = Rec.Turn record { 0 = p } (s.own.turns + 1) turn.label turn.lines ∷ [] } in
        let plain = telling_plain setup p moved (body_of setup s.own turn.label) in
        effect_has made p p (effect_of_turn setup threads p s turn) record { no_replay = plain.no_replay; no_note = plain.no_note } refl h.letters
        (λ lock home. subst (λ more. AreAmong (requests_waiting ((effect_of_telling setup p moved (body_of setup s.own turn.label)).processor.locks lock).queue) (was lock ++ more))
        (sym (append-nil (request_in_turn setup lock p (s.own.turns + 1) turn.label)))
        (told_order setup p was moved (h.queues p s e) s.own turn.label lock home))

    step_has : (p : ℕ) (o : Option (Processor S)) → net.processors p ≡ o → HasUnit before (step_of setup threads net p o)
    step_has p None e = unchanged_has
    step_has p (Some s) e = turn_has p s e (own_turn setup threads p s)

    popped : (p q : ℕ) (others : List Letter) → AllByRecursion (IsLetter (sent_in before) net.sent q) others → (a b : ℕ) → AllByRecursion (IsLetter (sent_in before) net.sent b) (update_at net.channels p q others a b)
    popped p q others all a b = elim (eqb_tells a p) [
      | inl (t, i) ↦ elim (eqb_tells b q) [
        | inl (u, j) ↦ rw (t, u) (subst (λ y. AllByRecursion (IsLetter (sent_in before) net.sent y) others) (sym j) all)
        | inr (u, _) ↦ rw (t, u) (h.letters p b)
      ]
      | inr (t, _) ↦ rw t (h.letters a b)
    ]

    delivery_has : (p q : ℕ) (letters : List Letter) → net.channels p q ≡ letters → (o : Option (Processor S)) → net.processors q ≡ o → HasUnit before (delivery_of setup net p q letters o)
    delivery_has p q [] c o e = unchanged_has
    delivery_has p q (letter ∷ others) c None e = unchanged_has
    delivery_has p q (letter ∷ others) c (Some s) e =
        let all : AllByRecursion (IsLetter (sent_in before) net.sent q) (letter ∷ others) = subst (AllByRecursion (IsLetter (sent_in before) net.sent q)) c (h.letters p q) in
        let heard : Processor S = with_carry s letter.msg.from.0 letter.msg.carry in
        let made : Made S = record { net = record net { channels = update_at net.channels p q others }; records = Rec.Delivered letter.number ∷ [] } in
        let plain = body_plain setup q heard letter.msg.from.0 letter.msg.carry.turn letter.msg.body in
        let come : (lock : ℕ) → request_in_body setup lock letter.msg.from.0 q letter.msg.carry.turn letter.msg.body ≡ request_in_message setup lock (sent_in before letter.number) ++ [] =
        λ lock. ap (λ to. request_in_body setup lock letter.msg.from.0 to letter.msg.carry.turn letter.msg.body) (sym all.0.is_to)
        ∙ ap (request_in_message setup lock) (sym all.0.is_sent)
        ∙ sym (append-nil (request_in_message setup lock (sent_in before letter.number))) in
        effect_has made p q (effect_of_message setup q s letter.msg) record { no_replay = plain.no_replay; no_note = plain.no_note } refl (popped p q others all.1)
        (λ lock home. subst (λ more. AreAmong (requests_waiting ((effect_of_body setup q heard letter.msg.from.0 letter.msg.carry.turn letter.msg.body).processor.locks lock).queue) (was lock ++ more)) (come lock)
        (body_order setup q was heard (h.queues q s e) letter.msg.from.0 letter.msg.carry.turn letter.msg.body lock home))

    unit_has : (act : Act) (outcome : Outcome) → HasUnit before (unit_of setup threads net act outcome)
    unit_has (Act.Step p) outcome = step_has p.0 (net.processors p.0) refl
    unit_has (Act.Deliver p q) outcome = delivery_has p.0 q.0 (net.channels p.0 q.0) refl (net.processors q.0) refl
    unit_has _ outcome = unchanged_has

  -- After all units.

  run_has : (past : List Done) → Has (sent_in (run_of setup first threads past).groups) (λ lock. requests_of setup lock (run_of setup first threads past).groups) (run_of setup first threads past).net
  run_has [] = record {
    letters = λ a b. tt;
    queues = λ p s e. subst (λ (x : Processor S). InOrder setup p (λ lock. []) x.locks) (some_same (start_processor (first p)) s e) (λ lock home. tt);
  }
  run_has (done ∷ past) =
      let ran = run_of setup first threads past in
      let made : Made S = unit_of setup threads ran.net done.act done.outcome in
      let unit : HasUnit ran.groups made = unit_has ran.groups ran.net (run_has past) done.act done.outcome in
      record {
        letters = subst (λ sent. AreLetters sent made.net) (sym (sent_in_unit (length past + 1) made.records ran.groups)) unit.letters;
        queues = λ p s e lock home. subst (AreAmong (requests_waiting (s.locks lock).queue)) (sym (requests_of_unit setup lock (length past + 1) made.records ran.groups)) (unit.queues p s e lock home);
      }

  pub waits_in_order : (acts : List Act) (trace : List Group) (fits : FitsUnits setup first threads acts trace) → AllWaitInOrder setup trace (run_of setup first threads fits.done).net
  waits_in_order acts trace fits p lock s e home =
      subst (λ groups. AreAmong (requests_waiting (s.locks lock).queue) (requests_of setup lock groups)) fits.is_trace ((run_has fits.done).queues p s e lock home)

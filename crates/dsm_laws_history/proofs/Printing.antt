-- What goes out in a trace are the lines of its history, each right in its turn.
use Rattle.std.specs.Prelude.{◌≡◌, ℕ, ◌+◌, ◌<◌, ◌≤◌, Bool, true, false, ◌==◌, not, if◌then◌else◌, nat_lt, List, [], ◌∷◌, ◌++◌, map, filter, length, Option, Some, None}
use Rattle.std.specs.List.{AllByRecursion}
use Rattle.std.proofs.Common.{arith, refl, sym, ap, ◌∙◌, subst, inl, inr, append-nil}
use Rattle.std.proofs.lemmas.Bool.Decides.{eqb_tells}
use Rattle.dsm_base.specs.declared.act.Act.{Act}
use Rattle.dsm_base.specs.declared.lists.PendingLine.{PendingLine}
use Rattle.dsm_base.specs.declared.names.Lock.{Lock}
use Rattle.dsm_base.specs.declared.setup.Setup.{Setup}
use Rattle.dsm_base.specs.Family.{update, update_at}
use Rattle.dsm_base.specs.Output.{line_text, printed_line, printed_of, printed_lines}
use Rattle.dsm_base.specs.Threads.{Semantics}
use Rattle.dsm_lines.specs.declared.of_objects.Opening.{Opening}
use Rattle.dsm_msg.specs.declared.message.Body.{Body}
use Rattle.dsm_msg.specs.declared.message.Msg.{Msg}
use Rattle.dsm_home.specs.declared.waiting.Waiting.{Waiting}
use Rattle.dsm_home.specs.LockStates.{grants_of}
use Rattle.dsm_net.specs.declared.trace.Letter.{Letter}
use Rattle.dsm_net.specs.declared.trace.Rec.{Rec}
use Rattle.dsm_net.specs.declared.trace.Group.{Group}
use Rattle.dsm_net.specs.Processor.{Own, Processor, start_processor}
use Rattle.dsm_net.specs.Turns.{OwnTurn, own_turn}
use Rattle.dsm_net.specs.Messages.{keeper_of, with_carry}
use Rattle.dsm_net.specs.Grants.{grant_message, is_of}
use Rattle.dsm_net.specs.Openings.{opening_message, is_to, openings_now}
use Rattle.dsm_net.specs.Effects.{Effect, counts, with_request, with_release, with_arrived, effect_of, effect_of_body, effect_of_message, body_of, processor_after, printed_by, effect_of_telling_to, effect_of_telling, effect_of_turn}
use Rattle.dsm_net.specs.Net.{Net, start_net}
use Rattle.dsm_net.specs.Units.{Outcome, Made, with_letter, with_message, with_message_to, with_messages, with_lines_out, with_processor, with_effect, step_with, step_of, delivery_of, unit_of}
use Rattle.dsm_net.specs.Fits.{Done, FitsUnits, with_unit, run_of}
use Rattle.dsm_net.specs.Story.{history}
use Rattle.dsm_laws_protocol.specs.Steps.{Step, steps_onto, steps_of, turns_of}
use Rattle.dsm_laws_protocol.proofs.Channels.{IsPlain}
use Rattle.dsm_laws_protocol.proofs.Kept.{steps_of_unit, effect_kept}
use Rattle.dsm_laws_protocol.proofs.OwnParts.{body_own, telling_own}
use Rattle.dsm_laws_protocol.proofs.Reaching.{body_plain, telling_plain}
use Rattle.dsm_laws_history.specs.Output.{output_onto, output_of}
use Rattle.dsm_laws_history.proofs.Truth.{all_append}
use Rattle.dsm_laws_history.proofs.Agreement.{steps_are}

-- No message carries lines.

abbrev HasNoLines : Msg → Type 0
HasNoLines msg = msg.carry.lines ≡ []

-- an effect that puts these lines out, and carries none
record PutsOut {S : Type 0} (outs : List PendingLine) (effect : Effect S) : Type 0 where
  carried : effect.carried ≡ []
  sends : AllByRecursion HasNoLines effect.sends
  outs_are : effect.outs ≡ outs
  tail : effect.processor.tail.lines ≡ []

grants_have_none : {S : Type 0} (setup : Setup) (me : ℕ) (s : Processor S) (lock : Lock) (ones : List Waiting) → s.tail.lines ≡ [] → AllByRecursion HasNoLines (map (grant_message setup me s lock) ones)
grants_have_none setup me s lock [] e = tt
grants_have_none setup me s lock (one ∷ ones) e = (e, grants_have_none setup me s lock ones e)

openings_have_none : {S : Type 0} (me : ℕ) (s : Processor S) (ones : List Opening) → s.tail.lines ≡ [] → AllByRecursion HasNoLines (map (opening_message me s) ones)
openings_have_none me s [] e = tt
openings_have_none me s (one ∷ ones) e = (e, openings_have_none me s ones e)

module _ {S : Type 0} (setup : Setup) (me : ℕ) (s : Processor S) (e : s.tail.lines ≡ []) (from turn : ℕ) where
  counted_puts : (body : Body) → PutsOut [] (effect_of setup me s from turn body)
  counted_puts (Body.Req lock mode own) = record { carried = refl; sends = grants_have_none setup me (with_request s from turn lock mode own) lock (filter (λ one. not (is_of me one)) (grants_of ((with_request s from turn lock mode own).locks lock.0))) e; outs_are = refl; tail = e }
  counted_puts (Body.Release lock mode version lines) = record { carried = refl; sends = grants_have_none setup me (with_release setup s from turn lock mode version lines) lock (filter (λ one. not (is_of me one)) (grants_of ((with_release setup s from turn lock mode version lines).locks lock.0))) e; outs_are = refl; tail = e }
  counted_puts (Body.Arrive bar epoch lines) = record {
    carried = refl;
    sends = openings_have_none me (with_arrived s from turn bar lines) (filter (λ one. not (is_to me one)) (openings_now setup (with_arrived s from turn bar lines) bar)) e;
    outs_are = refl;
    tail = e;
  }
  counted_puts _ = record { carried = refl; sends = tt; outs_are = refl; tail = e }

  body_puts : (body : Body) → PutsOut [] (effect_of_body setup me s from turn body)
  body_puts body = go (counts s from turn body) refl
    where
      go : (b : Bool) → counts s from turn body ≡ b → PutsOut [] (effect_of_body setup me s from turn body)
      go true c = rw c (counted_puts body)
      go false c = rw c record { carried = refl; sends = tt; outs_are = refl; tail = e }

telling_puts : {S : Type 0} (setup : Setup) (p : ℕ) (s : Processor S) (body : Option Body) → s.tail.lines ≡ [] → PutsOut [] (effect_of_telling setup p s body)
telling_puts setup p s None e = record { carried = refl; sends = tt; outs_are = refl; tail = e }
telling_puts setup p s (Some body) e = to_keeper (keeper_of setup body)
  where
    to_keeper : (keeper : Option ℕ) → PutsOut [] (effect_of_telling_to setup p s body keeper)
    to_keeper None = record { carried = refl; sends = tt; outs_are = refl; tail = e }
    to_keeper (Some keeper) = go (keeper == p) refl
      where
        go : (b : Bool) → (keeper == p) ≡ b → PutsOut [] (effect_of_telling_to setup p s body (Some keeper))
        go true t = rw t (body_puts setup p s e p s.own.turns body)
        go false t = rw t record { carried = refl; sends = (e, tt); outs_are = refl; tail = e }

-- What a net has put out.

abbrev AreBare : List Letter → Type 0
AreBare letters = AllByRecursion (λ (letter : Letter). HasNoLines letter.msg) letters

record IsBare {S : Type 0} (net : Net S) : Type 0 where
  out : (p : ℕ) (s : Processor S) → net.processors p ≡ Some s → net.out p ≤ s.own.turns
  tails : (p : ℕ) (s : Processor S) → net.processors p ≡ Some s → s.tail.lines ≡ []
  letters : (p q : ℕ) → AreBare (net.channels p q)

output_append : (before : List ℕ) (xs ys : List Rec) → output_onto before (xs ++ ys) ≡ output_onto (output_onto before xs) ys
output_append before [] ys = refl
output_append before (Rec.Out p turn text ∷ xs) ys = output_append (before ++ printed_line p.0 text) xs ys
output_append before (one ∷ xs) ys = output_append before xs ys

-- messages put nothing out
record IsSending {S : Type 0} (made now : Made S) : Type 0 where
  out : now.net.out ≡ made.net.out
  output : (before : List ℕ) → output_onto before now.records ≡ output_onto before made.records
  letters : (p q : ℕ) → AreBare (now.net.channels p q)

bare_letter : {S : Type 0} (net : Net S) (msg : Msg) → HasNoLines msg → ((p q : ℕ) → AreBare (net.channels p q)) → (p q : ℕ) → AreBare ((with_letter net msg).channels p q)
bare_letter net msg e bare p q = elim (eqb_tells p msg.from.0) [
  | inl (t, i) ↦ elim (eqb_tells q msg.to.0) [
    | inl (u, j) ↦ rw (t, u) (all_append _ (net.channels msg.from.0 msg.to.0) (record { number = net.sent + 1; msg = msg } ∷ []) (bare msg.from.0 msg.to.0) (e, tt))
    | inr (u, _) ↦ rw (t, u) (bare msg.from.0 q)
  ]
  | inr (t, _) ↦ rw t (bare p q)
]

message_sends : {S : Type 0} (made : Made S) (msg : Msg) (receiver : Option (Processor S)) → HasNoLines msg → ((p q : ℕ) → AreBare (made.net.channels p q)) → IsSending made (with_message_to made msg receiver)
message_sends made msg None e bare = record {
  out = refl;
  output = λ before. output_append before made.records (Rec.Sent (made.net.sent + 1) msg ∷ Rec.Dropped (made.net.sent + 1) ∷ []);
  letters = bare;
}
message_sends made msg (Some receiver) e bare = record {
  out = refl;
  output = λ before. output_append before made.records (Rec.Sent (made.net.sent + 1) msg ∷ []);
  letters = bare_letter made.net msg e bare;
}

messages_send : {S : Type 0} (msgs : List Msg) (made : Made S) → AllByRecursion HasNoLines msgs → ((p q : ℕ) → AreBare (made.net.channels p q)) → IsSending made (with_messages made msgs)
messages_send [] made all bare = record { out = refl; output = λ before. refl; letters = bare }
messages_send (msg ∷ msgs) made all bare =
    let one : IsSending made (with_message made msg) = message_sends made msg (made.net.processors msg.to.0) all.0 bare in
    let more : IsSending (with_message made msg) (with_messages (with_message made msg) msgs) = messages_send msgs (with_message made msg) all.1 one.letters in
    record { out = more.out ∙ one.out; output = λ before. more.output before ∙ one.output before; letters = more.letters }

-- a line of a turn that comes behind all that is out
record HasPrinted {S : Type 0} (made now : Made S) (p turn : ℕ) (text : Option (List ℕ)) : Type 0 where
  out : (q : ℕ) → now.net.out q ≤ (if q == p then turn else made.net.out q)
  output : (before : List ℕ) → output_onto before now.records ≡ output_onto before made.records ++ printed_of p text
  channels : now.net.channels ≡ made.net.channels

-- a line goes out where none of that turn or a later one has
abbrev IsLate : ℕ → ℕ → Option (List ℕ) → Type 0
IsLate out turn None = out ≤ turn
IsLate out turn (Some text) = out < turn

always_late : (out turn : ℕ) (text : Option (List ℕ)) → out < turn → IsLate out turn text
always_late out turn None lt = omega arith
always_late out turn (Some text) lt = lt

line_printed : {S : Type 0} (made : Made S) (p turn : ℕ) (text : Option (List ℕ)) → IsLate (made.net.out p) turn text → HasPrinted made (with_lines_out made p (printed_by turn text)) p turn text
line_printed made p turn None lt = record {
  out = λ q. elim (eqb_tells q p) [ inl (t, i) ↦ rw t (subst (λ r. made.net.out r ≤ turn) (sym i) lt) | inr (t, _) ↦ rw t (omega arith) ];
  output = λ before. sym (append-nil (output_onto before made.records));
  channels = refl;
}
line_printed made p turn (Some text) lt = rw (later (made.net.out p) turn lt) record {
  out = λ q. elim (eqb_tells q p) [ inl (t, _) ↦ rw t (omega arith) | inr (t, _) ↦ rw t (omega arith) ];
  output = λ before. output_append before made.records (Rec.Out record { 0 = p } turn text ∷ []);
  channels = refl;
}
  where
    later : (m n : ℕ) → m < n → nat_lt m n ≡ true
    later m n lt = grind arith

effect_parts : {S : Type 0} (made : Made S) (from p : ℕ) (effect : Effect S) → IsPlain effect → effect.carried ≡ [] →
    with_effect made from p effect ≡ with_lines_out (with_messages (with_processor made p effect.processor) effect.sends) p effect.outs
effect_parts made from p effect plain none = rw (none, plain.no_replay, plain.no_note) refl

module _ {S : Type 0} (setup : Setup) (first : ℕ → S) (threads : Semantics S) where
  -- a unit puts out the lines of its turns
  record Prints (made : Made S) : Type 0 where
    bare : IsBare made.net
    output : (steps : List Step) → output_onto (printed_lines (turns_of steps)) made.records ≡ printed_lines (turns_of (steps_onto steps made.records))

  module _ (net : Net S) (bare : IsBare net) (p from turn : ℕ) (text : Option (List ℕ)) (effect : Effect S) (plain : IsPlain effect) (puts : PutsOut (printed_by turn text) effect) (late : IsLate (net.out p) turn text)
      (turns : turn ≤ effect.processor.own.turns) (made : Made S) (same_out : made.net.out ≡ net.out) (same_processors : made.net.processors ≡ net.processors) (letters : (a b : ℕ) → AreBare (made.net.channels a b)) where
    abbrev now : Made S
    now = with_effect made from p effect

    sent : IsSending (with_processor made p effect.processor) (with_messages (with_processor made p effect.processor) effect.sends)
    sent = messages_send effect.sends (with_processor made p effect.processor) puts.sends letters

    printed : HasPrinted (with_messages (with_processor made p effect.processor) effect.sends) (with_lines_out (with_messages (with_processor made p effect.processor) effect.sends) p (printed_by turn text)) p turn text
    printed = line_printed (with_messages (with_processor made p effect.processor) effect.sends) p turn text (subst (λ f. IsLate (f p) turn text) (sym (sent.out ∙ same_out)) late)

    parts : now ≡ with_lines_out (with_messages (with_processor made p effect.processor) effect.sends) p (printed_by turn text)
    parts = effect_parts made from p effect plain puts.carried ∙ ap (with_lines_out (with_messages (with_processor made p effect.processor) effect.sends) p) puts.outs_are

    processors_now : (q : ℕ) → now.net.processors q ≡ update net.processors p (Some effect.processor) q
    processors_now q = ap (λ f. f q) (effect_kept made from p effect).processors ∙ ap (λ f. update f p (Some effect.processor) q) same_processors

    out_now : (q : ℕ) → now.net.out q ≤ (if q == p then turn else net.out q)
    out_now q = subst (λ (m : Made S). m.net.out q ≤ (if q == p then turn else net.out q)) (sym parts) (subst (λ f. (with_lines_out (with_messages (with_processor made p effect.processor) effect.sends) p (printed_by turn text)).net.out q ≤ (if q == p then turn else f q)) (sent.out ∙ same_out) (printed.out q))

    some_same : (a b : Processor S) → Some a ≡ Some b → a ≡ b
    some_same a b e = cc

    now_bare : IsBare now.net
    now_bare = record {
      out = λ q s e. elim (eqb_tells q p) [
        | inl (t, _) ↦ (let o : now.net.out q ≤ turn = rw t at (out_now q) in let k : effect.processor ≡ s = some_same effect.processor s (rw t at (sym (processors_now q) ∙ e)) in let n : effect.processor.own.turns ≡ s.own.turns = ap (λ (x : Processor S). x.own.turns) k in omega arith)
        | inr (t, _) ↦ (let o : now.net.out q ≤ net.out q = rw t at (out_now q) in let n : net.out q ≤ s.own.turns = bare.out q s (rw t at (sym (processors_now q) ∙ e)) in omega arith)
      ];
      tails = λ q s e. elim (eqb_tells q p) [
        | inl (t, _) ↦ subst (λ (x : Processor S). x.tail.lines ≡ []) (some_same effect.processor s (rw t at (sym (processors_now q) ∙ e))) puts.tail
        | inr (t, _) ↦ bare.tails q s (rw t at (sym (processors_now q) ∙ e))
      ];
      letters = λ a b. subst (λ (m : Made S). AreBare (m.net.channels a b)) (sym parts) (subst (λ f. AreBare (f a b)) (sym printed.channels) (sent.letters a b));
    }

    output_now : (before : List ℕ) → output_onto before now.records ≡ output_onto before made.records ++ printed_of p text
    output_now before =
        ap (λ (m : Made S). output_onto before m.records) parts ∙ printed.output before
        ∙ ap (λ xs. xs ++ printed_of p text) (sent.output before ∙ output_append before made.records [])

  module _ (net : Net S) (bare : IsBare net) where
    turn_prints : (p : ℕ) (s : Processor S) → net.processors p ≡ Some s → (turn : Option OwnTurn) → Prints (step_with setup threads net p s turn)
    turn_prints p s e None = record { bare = bare; output = λ steps. refl }
    turn_prints p s e (Some turn) =
        let moved : Processor S = processor_after setup threads s turn in
        let effect : Effect S = effect_of_turn setup threads p s turn in
        let made : Made S = record { net = net; records = Rec.Turn record { 0 = p } (s.own.turns + 1) turn.label turn.lines ∷ [] } in
        let plain : IsPlain (effect_of_telling setup p moved (body_of setup s.own turn.label)) = telling_plain setup p moved (body_of setup s.own turn.label) in
        let puts : PutsOut [] (effect_of_telling setup p moved (body_of setup s.own turn.label)) = telling_puts setup p moved (body_of setup s.own turn.label) (bare.tails p s e) in
        let is_plain : IsPlain effect = record { no_replay = plain.no_replay; no_note = plain.no_note } in
        let puts_out : PutsOut (printed_by (s.own.turns + 1) (line_text turn.label)) effect = record { carried = puts.carried; sends = puts.sends; outs_are = refl; tail = puts.tail } in
        let late : IsLate (net.out p) (s.own.turns + 1) (line_text turn.label) = always_late (net.out p) (s.own.turns + 1) (line_text turn.label) (let k = bare.out p s e in omega arith) in
        let turns : s.own.turns + 1 ≤ effect.processor.own.turns = (let k : effect.processor.own.turns ≡ s.own.turns + 1 = ap (λ (own : Own S). own.turns) (telling_own setup p moved (body_of setup s.own turn.label)) in omega arith) in
        record {
          bare = now_bare net bare p p (s.own.turns + 1) (line_text turn.label) effect is_plain puts_out late turns made refl refl bare.letters;
          output = λ steps. output_now net bare p p (s.own.turns + 1) (line_text turn.label) effect is_plain puts_out late turns made refl refl bare.letters (printed_lines (turns_of steps))
              ∙ ap (λ xs. printed_lines (turns_of xs)) (sym ((effect_kept made p p effect).steps steps));
        }

    step_prints : (p : ℕ) (o : Option (Processor S)) → net.processors p ≡ o → Prints (step_of setup threads net p o)
    step_prints p None e = record { bare = bare; output = λ steps. refl }
    step_prints p (Some s) e = turn_prints p s e (own_turn setup threads p s)

    popped : (p q : ℕ) (others : List Letter) → AreBare others → (a b : ℕ) → AreBare (update_at net.channels p q others a b)
    popped p q others all a b = elim (eqb_tells a p) [
      | inl (t, i) ↦ elim (eqb_tells b q) [
        | inl (u, _) ↦ rw (t, u) all
        | inr (u, _) ↦ rw (t, u) (bare.letters p b)
      ]
      | inr (t, _) ↦ rw t (bare.letters a b)
    ]

    delivery_prints : (p q : ℕ) (letters : List Letter) → net.channels p q ≡ letters → (o : Option (Processor S)) → net.processors q ≡ o → Prints (delivery_of setup net p q letters o)
    delivery_prints p q [] c o e = record { bare = bare; output = λ steps. refl }
    delivery_prints p q (letter ∷ others) c None e = record { bare = bare; output = λ steps. refl }
    delivery_prints p q (letter ∷ others) c (Some s) e =
        let msg : Msg = letter.msg in
        let all : AreBare (letter ∷ others) = subst AreBare c (bare.letters p q) in
        let heard : Processor S = with_carry s msg.from.0 msg.carry in
        let effect : Effect S = effect_of_message setup q s msg in
        let made : Made S = record { net = record net { channels = update_at net.channels p q others }; records = Rec.Delivered letter.number ∷ [] } in
        let plain = body_plain setup q heard msg.from.0 msg.carry.turn msg.body in
        let puts : PutsOut [] (effect_of_body setup q heard msg.from.0 msg.carry.turn msg.body) = body_puts setup q heard (bare.tails q s e) msg.from.0 msg.carry.turn msg.body in
        let is_plain : IsPlain effect = record { no_replay = plain.no_replay; no_note = plain.no_note } in
        let puts_out : PutsOut [] effect = record { carried = all.0; sends = puts.sends; outs_are = puts.outs_are; tail = puts.tail } in
        let own : effect.processor.own.turns ≡ s.own.turns = ap (λ (own : Own S). own.turns) (body_own setup q heard msg.from.0 msg.carry.turn msg.body) in
        let turns : s.own.turns ≤ effect.processor.own.turns = omega arith in
        record {
          bare = now_bare net bare q p s.own.turns None effect is_plain puts_out (bare.out q s e) turns made refl refl (popped p q others all.1);
          output = λ steps. output_now net bare q p s.own.turns None effect is_plain puts_out (bare.out q s e) turns made refl refl (popped p q others all.1) (printed_lines (turns_of steps))
              ∙ append-nil (printed_lines (turns_of steps)) ∙ ap (λ xs. printed_lines (turns_of xs)) (sym ((effect_kept made p q effect).steps steps));
        }

    unit_prints : (act : Act) (outcome : Outcome) → Prints (unit_of setup threads net act outcome)
    unit_prints (Act.Step p) outcome = step_prints p.0 (net.processors p.0) refl
    unit_prints (Act.Deliver p q) outcome = delivery_prints p.0 q.0 (net.channels p.0 q.0) refl (net.processors q.0) refl
    unit_prints _ outcome = record { bare = bare; output = λ steps. refl }

  start_bare : IsBare (start_net first)
  start_bare = record {
    out = λ p s e. omega arith;
    tails = λ p s e. subst (λ (x : Processor S). x.tail.lines ≡ []) (same_start (start_processor (first p)) s e) refl;
    letters = λ p q. tt;
  }
    where
      same_start : (a b : Processor S) → Some a ≡ Some b → a ≡ b
      same_start a b e = cc

  output_of_unit : (unit : ℕ) (records : List Rec) (before : List Group) → output_of (with_unit unit records before) ≡ output_onto (output_of before) records
  output_of_unit unit [] before = refl
  output_of_unit unit (one ∷ records) before = refl

  -- after all units
  record HasPut (past : List Done) : Type 0 where
    bare : IsBare (run_of setup first threads past).net
    output : output_of (run_of setup first threads past).groups ≡ printed_lines (turns_of (steps_of (run_of setup first threads past).groups))

  run_puts : (past : List Done) → HasPut past
  run_puts [] = record { bare = start_bare; output = refl }
  run_puts (done ∷ past) =
      let ran = run_of setup first threads past in
      let was : HasPut past = run_puts past in
      let unit : Made S = unit_of setup threads ran.net done.act done.outcome in
      let prints : Prints unit = unit_prints ran.net was.bare done.act done.outcome in
      record {
        bare = prints.bare;
        output = output_of_unit (length past + 1) unit.records ran.groups ∙ ap (λ before. output_onto before unit.records) was.output
            ∙ prints.output (steps_of ran.groups) ∙ ap (λ xs. printed_lines (turns_of xs)) (sym (steps_of_unit (length past + 1) unit.records ran.groups));
      }

  -- what goes out is what the history prints
  pub output_is : (acts : List Act) (trace : List Group) → FitsUnits setup first threads acts trace → output_of trace ≡ printed_lines (history trace)
  output_is acts trace fits =
      subst (λ groups. output_of groups ≡ printed_lines (turns_of (steps_of groups))) fits.is_trace (run_puts fits.done).output
      ∙ ap printed_lines (steps_are trace)

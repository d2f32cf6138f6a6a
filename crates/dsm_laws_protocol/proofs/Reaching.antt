-- What holds of all that units reach, after every run; and who holds a lock then.
use Rattle.std.specs.Prelude.{◌≡◌, ℕ, ◌+◌, ◌<◌, Bool, true, false, ◌==◌, List, [], ◌∷◌, ◌++◌, length, filter, Option, Some, None}
use Rattle.std.proofs.Common.{arith, refl, sym, ap, ◌∙◌, subst, inl, inr}
use Rattle.std.proofs.lemmas.Bool.Decides.{eqb_tells}
use Rattle.dsm_base.specs.declared.names.Mode.{Mode}
use Rattle.dsm_base.specs.declared.act.Act.{Act}
use Rattle.dsm_base.specs.declared.setup.Setup.{Setup}
use Rattle.dsm_base.specs.Family.{update_at}
use Rattle.dsm_base.specs.Holders.{are_compatible}
use Rattle.dsm_base.specs.Threads.{Semantics}
use Rattle.dsm_laws_runs.specs.Versions.{AllAskFirst}
use Rattle.dsm_msg.specs.declared.message.Body.{Body}
use Rattle.dsm_msg.specs.declared.message.Msg.{Msg}
use Rattle.dsm_net.specs.declared.trace.Letter.{Letter}
use Rattle.dsm_net.specs.declared.trace.Rec.{Rec}
use Rattle.dsm_net.specs.declared.trace.Group.{Group}
use Rattle.dsm_net.specs.Processor.{Processor, start_processor}
use Rattle.dsm_net.specs.Turns.{OwnTurn, own_turn}
use Rattle.dsm_net.specs.Messages.{keeper_of, with_carry}
use Rattle.dsm_net.specs.Effects.{Effect, counts, effect_of, effect_of_body, body_of, processor_after, effect_of_telling_to, effect_of_telling, effect_of_turn}
use Rattle.dsm_net.specs.Net.{Net, start_net}
use Rattle.dsm_net.specs.Units.{Outcome, Made, with_effect, step_with, step_of, delivery_of, unit_of}
use Rattle.dsm_net.specs.Fits.{Done, FitsUnits, IsWithin, acts_of, run_of}
use Rattle.dsm_laws_protocol.specs.Holding.{AreWithin, HoldTogether}
use Rattle.dsm_laws_protocol.specs.Courses.{moves_of}
use Rattle.dsm_laws_protocol.specs.Steps.{Step, steps_onto, steps_of}
use Rattle.dsm_laws_protocol.specs.Worlds.{World, said, IsNet, situation_at}
use Rattle.dsm_laws_protocol.proofs.Families.{turned_false, apart_false}
use Rattle.dsm_laws_protocol.proofs.Courses.{HasLock, held_has}
use Rattle.dsm_laws_protocol.proofs.Holders.{both_shared}
use Rattle.dsm_laws_protocol.proofs.Rights.{holder}
use Rattle.dsm_laws_protocol.proofs.Turns.{start_rights}
use Rattle.dsm_laws_protocol.proofs.Channels.{goes, IsAfter, IsPlain, effect_after}
use Rattle.dsm_laws_protocol.proofs.Kept.{steps_of_unit, effect_kept}
use Rattle.dsm_laws_protocol.proofs.Own.{IsOwnTurn, own_turn_is}
use Rattle.dsm_laws_protocol.proofs.Reached.{AreSent, IsReached, after_turn, after_delivery}
use Rattle.dsm_laws_protocol.proofs.Deliveries.{delivered_reached}
use Rattle.dsm_laws_protocol.proofs.Making.{making}
use Rattle.dsm_laws_protocol.proofs.Telling.{made_reached}

-- No effect ends a replay or sends a Note.

pub body_plain : {S : Type 0} (setup : Setup) (me : ℕ) (s : Processor S) (from turn : ℕ) (body : Body) → IsPlain (effect_of_body setup me s from turn body)
body_plain setup me s from turn body = go (counts s from turn body) refl
  where
    counted : (body : Body) → IsPlain (effect_of setup me s from turn body)
    counted (Body.Req lock mode own) = record { no_replay = refl; no_note = refl }
    counted (Body.Release lock mode version lines) = record { no_replay = refl; no_note = refl }
    counted _ = record { no_replay = refl; no_note = refl }

    go : (b : Bool) → counts s from turn body ≡ b → IsPlain (effect_of_body setup me s from turn body)
    go true e = rw e (counted body)
    go false e = rw e record { no_replay = refl; no_note = refl }

pub telling_plain : {S : Type 0} (setup : Setup) (p : ℕ) (s : Processor S) (body : Option Body) → IsPlain (effect_of_telling setup p s body)
telling_plain setup p s None = record { no_replay = refl; no_note = refl }
telling_plain setup p s (Some body) = to_keeper (keeper_of setup body)
  where
    to_keeper : (keeper : Option ℕ) → IsPlain (effect_of_telling_to setup p s body keeper)
    to_keeper None = record { no_replay = refl; no_note = refl }
    to_keeper (Some keeper) = go (keeper == p) refl
      where
        go : (b : Bool) → (keeper == p) ≡ b → IsPlain (effect_of_telling_to setup p s body (Some keeper))
        go true e = rw e (body_plain setup p s p s.own.turns body)
        go false e = rw e record { no_replay = refl; no_note = refl }

-- Units.

module _ {S : Type 0} (setup : Setup) (first : ℕ → S) (threads : Semantics S) (ask_first : AllAskFirst setup first threads) (P : World S → List Step → Type 0) where
  abbrev pub start_world : World S
  start_world = record {
    processors = λ p. start_processor (first p);
    channels = λ p q. [];
    courses = λ p. [];
    handled = λ p q. 0;
  }

  -- what holds beside of a world and the steps that led to it, where turns and deliveries keep it
  pub record Keeps : Type 0 where
    pub start : P start_world []
    pub turn : (w : World S) (steps : List Step) (h : IsReached setup first threads w) (p : ℕ) → p < setup.procs → (turn : OwnTurn) → IsOwnTurn setup threads p (w.processors p) turn → P w steps →
        P (after_turn setup first threads w h p turn.label (effect_of_turn setup threads p (w.processors p) turn).processor (effect_of_turn setup threads p (w.processors p) turn).sends) (record { proc = p; turn = turn } ∷ steps)
    pub delivery : (w : World S) (steps : List Step) (h : IsReached setup first threads w) (p q : ℕ) → (p == q) ≡ false → (msg : Msg) (others : List Msg) → w.channels p q ≡ msg ∷ others → P w steps →
        P (after_delivery setup first threads w h p q msg.carry.turn others (effect_of_body setup q (with_carry (w.processors q) p msg.carry) p msg.carry.turn msg.body).processor
        (effect_of_body setup q (with_carry (w.processors q) p msg.carry) p msg.carry.turn msg.body).sends) steps

  -- a net that is reached by these steps
  pub record Holds (net : Net S) (steps : List Step) : Type 0 where
    pub world : World S
    pub is_net : IsNet world net
    pub reached : IsReached setup first threads world
    pub kept : P world steps

  module _ (keep : Keeps) where
    start_holds : Holds (start_net first) []
    start_holds = record {
      world = start_world;
      is_net = record { up = λ p. refl; under_way = λ p q. refl };
      reached = record {
        lawful = λ lock. start_rights setup.procs;
        none = λ p. refl;
        flows = λ p q ne. record { in_order = omega arith; is_due = refl };
        sent = λ p q. tt;
        own_handled = λ p. refl;
        last = λ p q. omega arith;
        owns = λ p. record { thread = refl; turns = refl; held = λ lock. refl; versions = λ lock. refl; made = tt };
        is_in = λ p lt. absurd (omega arith);
      };
      kept = keep.start;
    }

    module _ (net : Net S) (steps : List Step) (h : Holds net steps) where
      abbrev w : World S
      w = h.world

      turn_holds : (p : ℕ) → p < setup.procs → (turn : Option OwnTurn) → own_turn setup threads p (w.processors p) ≡ turn →
          Holds (step_with setup threads net p (w.processors p) turn).net (steps_onto steps (step_with setup threads net p (w.processors p) turn).records)
      turn_holds p lt None e = h
      turn_holds p lt (Some turn) e =
          let s : Processor S = w.processors p in
          let now : Processor S = processor_after setup threads s turn in
          let effect : Effect S = effect_of_turn setup threads p s turn in
          let made : Made S = record { net = net; records = Rec.Turn record { 0 = p } (s.own.turns + 1) turn.label turn.lines ∷ [] } in
          let plain : IsPlain (effect_of_telling setup p now (body_of setup s.own turn.label)) = telling_plain setup p now (body_of setup s.own turn.label) in
          let after : IsAfter w.processors net.channels p effect (with_effect made p p effect).net = effect_after made w.processors h.is_net.up p p effect record { no_replay = plain.no_replay; no_note = plain.no_note } in
          let is : IsOwnTurn setup threads p s turn = own_turn_is setup threads p s turn e in
          record {
            world = after_turn setup first threads w h.reached p turn.label effect.processor effect.sends;
            is_net = record {
              up = after.up;
              under_way = λ a b. after.under_way a b ∙ ap (λ xs. xs ++ filter (goes a b) effect.sends) (h.is_net.under_way a b);
            };
            reached = made_reached setup first threads w h.reached p turn.label now (making setup first threads w h.reached p turn lt (ask_first.asks p lt) is);
            kept = subst (P (after_turn setup first threads w h.reached p turn.label effect.processor effect.sends)) (sym ((effect_kept made p p effect).steps steps))
                (keep.turn w steps h.reached p lt turn is h.kept);
          }

      step_holds : (p : ℕ) → p < setup.procs → Holds (step_of setup threads net p (net.processors p)).net (steps_onto steps (step_of setup threads net p (net.processors p)).records)
      step_holds p lt = subst (λ o. Holds (step_of setup threads net p o).net (steps_onto steps (step_of setup threads net p o).records)) (sym (h.is_net.up p)) (turn_holds p lt (own_turn setup threads p (w.processors p)) refl)

      popped_said : (p q : ℕ) (others : List Letter) (a b : ℕ) → said (update_at net.channels p q others a b) ≡ update_at w.channels p q (said others) a b
      popped_said p q others a b =
          elim (eqb_tells a p) [
            | inl (t, i) ↦ elim (eqb_tells b q) [
              | inl (u, j) ↦ rw (t, u) refl
              | inr (u, _) ↦ rw (t, u) (h.is_net.under_way p b)
            ]
            | inr (t, _) ↦ rw t (h.is_net.under_way a b)
          ]

      -- what a receiver does with a message of f
      abbrev effect_from : ℕ → Letter → ℕ → Effect S
      effect_from q letter f =
          record (effect_of_body setup q (with_carry (w.processors q) f letter.msg.carry) f letter.msg.carry.turn letter.msg.body) { carried = letter.msg.carry.lines }

      -- before that the message is gone
      abbrev without_letter : ℕ → ℕ → Letter → List Letter → Made S
      without_letter p q letter others = record { net = record net { channels = update_at net.channels p q others }; records = Rec.Delivered letter.number ∷ [] }

      received : (p q : ℕ) (letter : Letter) (others : List Letter) → IsAfter w.processors (update_at net.channels p q others) q (effect_from q letter p) (with_effect (without_letter p q letter others) p q (effect_from q letter p)).net
      received p q letter others =
          let plain = body_plain setup q (with_carry (w.processors q) p letter.msg.carry) p letter.msg.carry.turn letter.msg.body in
          effect_after (without_letter p q letter others) w.processors h.is_net.up p q (effect_from q letter p) record { no_replay = plain.no_replay; no_note = plain.no_note }

      message_holds : (p q : ℕ) → (p == q) ≡ false → (letters : List Letter) → said letters ≡ w.channels p q →
          Holds (delivery_of setup net p q letters (Some (w.processors q))).net (steps_onto steps (delivery_of setup net p q letters (Some (w.processors q))).records)
      message_holds p q ne [] e = h
      message_holds p q ne (letter ∷ others) e =
          let from : letter.msg.from.0 ≡ p = (subst (AreSent setup p) (sym e) (h.reached.sent p q)).0.from in
          let after = received p q letter others in
          let effect : Effect S = effect_from q letter p in
          subst (λ f. Holds (with_effect (without_letter p q letter others) p q (effect_from q letter f)).net (steps_onto steps (with_effect (without_letter p q letter others) p q (effect_from q letter f)).records)) (sym from) record {
            world = after_delivery setup first threads w h.reached p q letter.msg.carry.turn (said others) effect.processor effect.sends;
            is_net = record {
              up = after.up;
              under_way = λ a b. after.under_way a b ∙ ap (λ xs. xs ++ filter (goes a b) effect.sends) (popped_said p q others a b);
            };
            reached = delivered_reached setup first threads w h.reached p letter.msg.carry (said others) q letter.msg.from letter.msg.to letter.msg.body ne (sym e);
            kept = subst (P (after_delivery setup first threads w h.reached p q letter.msg.carry.turn (said others) effect.processor effect.sends)) (sym ((effect_kept (without_letter p q letter others) p q effect).steps steps))
                (keep.delivery w steps h.reached p q ne letter.msg (said others) (sym e) h.kept);
          }

      unit_holds : (act : Act) (outcome : Outcome) → IsWithin setup act → Holds (unit_of setup threads net act outcome).net (steps_onto steps (unit_of setup threads net act outcome).records)
      unit_holds (Act.Step p) outcome within = step_holds p.0 within
      unit_holds (Act.Deliver p q) outcome within =
          subst (λ o. Holds (delivery_of setup net p.0 q.0 (net.channels p.0 q.0) o).net (steps_onto steps (delivery_of setup net p.0 q.0 (net.channels p.0 q.0) o).records)) (sym (h.is_net.up q.0))
          (message_holds p.0 q.0 (turned_false p.0 q.0 (apart_false p.0 q.0 within.2)) (net.channels p.0 q.0) (h.is_net.under_way p.0 q.0))
      unit_holds _ outcome within = h

    pub run_holds : (past : List Done) → AreWithin setup (acts_of past) → Holds (run_of setup first threads past).net (steps_of (run_of setup first threads past).groups)
    run_holds [] within = start_holds
    run_holds (done ∷ past) within =
        let ran = run_of setup first threads past in
        let unit : Made S = unit_of setup threads ran.net done.act done.outcome in
        subst (Holds unit.net) (sym (steps_of_unit (length past + 1) unit.records ran.groups)) (unit_holds ran.net (steps_of ran.groups) (run_holds past within.1) done.act done.outcome within.0)

    pub trace_holds : (acts : List Act) (trace : List Group) (fits : FitsUnits setup first threads acts trace) → AreWithin setup acts → Holds (run_of setup first threads fits.done).net (steps_of trace)
    trace_holds acts trace fits within =
        subst (λ groups. Holds (run_of setup first threads fits.done).net (steps_of groups)) fits.is_trace (run_holds fits.done (subst (AreWithin setup) (sym fits.same_acts) within))

shared_both : (one other : Mode) → are_compatible one other ≡ true → (one ≡ Mode.Shared) × (other ≡ Mode.Shared)
shared_both Mode.Shared Mode.Shared e = (refl, refl)
shared_both Mode.Shared Mode.Excl e = cc
shared_both Mode.Excl other e = cc

-- who holds a lock has it at its home too, and there only shared holds go together
pub hold_together : {S : Type 0} (setup : Setup) (first : ℕ → S) (threads : Semantics S) → AllAskFirst setup first threads → (acts : List Act) (trace : List Group) (fits : FitsUnits setup first threads acts trace) → AreWithin setup acts →
    HoldTogether (run_of setup first threads fits.done).net
hold_together {S} setup first threads ask_first acts trace fits within p q lock s t one other ne at_p at_q holds_p holds_q =
    let h = trace_holds setup first threads ask_first (λ w steps. Unit {0}) record { start = tt; turn = λ w steps h p lt turn is k. tt; delivery = λ w steps h p q ne msg others e k. tt } acts trace fits within in
    let w : World S = h.world in
    let lawful = h.reached.lawful lock in
    let has : (r : ℕ) (x : Processor S) (mode : Mode) → (run_of setup first threads fits.done).net.processors r ≡ Some x → x.own.held lock ≡ Some mode → HasLock (moves_of lock (w.courses r)) mode =
    λ r x mode at held. held_has (moves_of lock (w.courses r)) mode (lawful.courses r)
    (sym ((h.reached.owns r).held lock) ∙ ap (λ (y : Processor S). y.own.held lock) (same_processor (w.processors r) x (sym (h.is_net.up r) ∙ at)) ∙ held) in
    shared_both one other (both_shared p q (situation_at setup w lock).state.holders one other [] [] lawful.together
    (turned_false p q (apart_false p q ne))
    (holder setup.procs (situation_at setup w lock) lawful p one (has p s one at_p holds_p)).is_alone
    (holder setup.procs (situation_at setup w lock) lawful q other (has q t other at_q holds_q)).is_alone)
  where
    same_processor : (x y : Processor S) → Some x ≡ Some y → x ≡ y
    same_processor x y e = cc

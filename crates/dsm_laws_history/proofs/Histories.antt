-- Every run of units has a history over one memory: what holds after a unit, by the history up to it.
use Rattle.std.specs.Prelude.{◌≡◌, ◌≢◌, ℕ, ◌+◌, ◌<◌, Bool, true, false, ◌==◌, nat_lt, List, [], ◌∷◌, filter}
use Rattle.std.specs.List.{AllByRecursion}
use Rattle.std.proofs.Common.{arith, refl, sym, ap, ◌∙◌, subst, inl, inr}
use Rattle.std.proofs.lemmas.Bool.Decides.{eqb_tells}
use Rattle.dsm_base.specs.declared.act.Act.{Act}
use Rattle.dsm_base.specs.declared.setup.Setup.{Setup}
use Rattle.dsm_base.specs.Family.{update, update_at}
use Rattle.dsm_base.specs.Threads.{Semantics}
use Rattle.dsm_base.specs.Plain.{Turn, IsPlainTurn, after_run, labels_of}
use Rattle.dsm_lines.specs.declared.of_objects.MailGrant.{MailGrant}
use Rattle.dsm_lines.specs.declared.of_objects.MailOpening.{MailOpening}
use Rattle.dsm_msg.specs.declared.message.Msg.{Msg}
use Rattle.dsm_net.specs.declared.trace.Group.{Group}
use Rattle.dsm_net.specs.Processor.{Own, Processor}
use Rattle.dsm_net.specs.Turns.{OwnTurn, own_after}
use Rattle.dsm_net.specs.Messages.{with_carry}
use Rattle.dsm_net.specs.Effects.{Effect, effect_of_body, body_of, processor_after, effect_of_telling, effect_of_turn}
use Rattle.dsm_net.specs.Fits.{FitsUnits, run_of}
use Rattle.dsm_laws_runs.specs.Versions.{AllAskFirst}
use Rattle.dsm_laws_runs.proofs.OwnPart.{labels_mine, labels_other}
use Rattle.dsm_laws_runs.proofs.CopiesKept.{copies_other}
use Rattle.dsm_laws_protocol.specs.Holding.{AreWithin}
use Rattle.dsm_laws_protocol.specs.Steps.{Step, turns_of, steps_of}
use Rattle.dsm_laws_protocol.specs.Worlds.{World}
use Rattle.dsm_laws_protocol.proofs.Channels.{goes}
use Rattle.dsm_laws_protocol.proofs.Own.{IsOwnTurn}
use Rattle.dsm_laws_protocol.proofs.OwnParts.{body_own, telling_own}
use Rattle.dsm_laws_protocol.proofs.Reached.{IsReached, after_turn, after_delivery}
use Rattle.dsm_laws_protocol.proofs.Reaching.{start_world, Keeps, Holds, trace_holds}
use Rattle.dsm_laws_history.specs.NewerLines.{IsTrue}
use Rattle.dsm_laws_history.proofs.OwnParts.{IsOwnPart, own_part_after}
use Rattle.dsm_laws_history.proofs.Truth.{all_weaker, all_append, all_filter, IsTrueOf, IsTrueMessage, truth_grows, body_grows}
use Rattle.dsm_laws_history.proofs.Effects.{IsTrueEffect, body_true, told_true, same_numbers, both_are}
use Rattle.dsm_laws_history.proofs.Reached.{HasCopy, HasHistory}
use Rattle.dsm_laws_history.proofs.PlainTurns.{is_turn, brings, copy_now}
use Rattle.dsm_laws_history.proofs.Told.{turn_told}

-- what holds of a changed member and of the others holds of all
changed : {A : Type 0} (P : ℕ → A → Type 0) (f : ℕ → A) (p : ℕ) (now : A) → P p now → ((q : ℕ) → p ≢ q → P q (f q)) → (q : ℕ) → P q (update f p now q)
changed P f p now mine others q = elim (eqb_tells q p) [
  | inl (t, i) ↦ rw t (subst (λ r. P r now) (sym i) mine)
  | inr (t, n) ↦ rw t (others q (λ e. n (sym e)))
]

module _ {S : Type 0} (setup : Setup) (first : ℕ → S) (threads : Semantics S) where
  -- messages that go from one processor to another, among those that are true
  pub sent_true : (run : List Turn) (a b : ℕ) (msgs : List Msg) → AllByRecursion (IsTrueMessage setup first threads run) msgs →
      AllByRecursion (λ (msg : Msg). IsTrue setup first threads run a b msg.carry.turn msg.body) (filter (goes a b) msgs)
  sent_true run a b [] all = tt
  sent_true run a b (msg ∷ msgs) all = go (goes a b msg) refl (sent_true run a b msgs all.1)
    where
      go : (t : Bool) → goes a b msg ≡ t → AllByRecursion (λ (msg : Msg). IsTrue setup first threads run a b msg.carry.turn msg.body) (filter (goes a b) msgs) →
          AllByRecursion (λ (msg : Msg). IsTrue setup first threads run a b msg.carry.turn msg.body) (filter (goes a b) (msg ∷ msgs))
      go true e more =
          let both = both_are (a == msg.from.0) (b == msg.to.0) e in
          let is_from : msg.from.0 ≡ a = sym (same_numbers a msg.from.0 both.0) in
          let is_to : msg.to.0 ≡ b = sym (same_numbers b msg.to.0 both.1) in
          rw e (subst (λ to. IsTrue setup first threads run a to msg.carry.turn msg.body) is_to (subst (λ from. IsTrue setup first threads run from msg.to.0 msg.carry.turn msg.body) is_from all.0), more)
      go false e more = rw e more

  module _ (ask_first : AllAskFirst setup first threads) where
    abbrev Has : World S → List Step → Type 0
    Has = HasHistory setup first threads

    start_has : Has (start_world setup first threads ask_first Has) []
    start_has = record {
      courses = λ p. refl;
      is_run = tt;
      owns = λ p. record { turns = refl; held = refl; crossed = refl; versions = refl; dirty = refl };
      copies = λ p lt. record {
        turns = [];
        has = record { ask_first = ask_first; is_run = tt; is_processor = lt; same_labels = refl; adequate = tt };
        is_copy = refl;
      };
      truths = λ p. record {
        mail = tt;
        waits = λ lock. tt;
        homes = λ lock. record { is_made = omega arith; values = λ cell is. refl; stamps = λ cell is. refl };
        openings = tt;
        barriers = λ bar. record { no_early = λ q lt. omega arith; waiting = λ q. tt };
      };
      under_way = λ p q. tt;
      brings = tt;
    }

    module _ (w : World S) (steps : List Step) (h : IsReached setup first threads w) (is : Has w steps) where
      abbrev run : List Turn
      run = turns_of steps

      -- A turn.

      module _ (p : ℕ) (lt : p < setup.procs) (turn : OwnTurn) (own : IsOwnTurn setup threads p (w.processors p) turn) where
        abbrev s : Processor S
        s = w.processors p

        abbrev step : Step
        step = record { proc = p; turn = turn }

        abbrev now : List Turn
        now = record { proc = p; label = turn.label } ∷ run

        abbrev moved : Processor S
        moved = processor_after setup threads s turn

        abbrev effect : Effect S
        effect = effect_of_turn setup threads p s turn

        abbrev after : World S
        after = after_turn setup first threads w h p turn.label effect.processor effect.sends

        plain : IsPlainTurn setup threads (after_run first threads run) record { proc = p; label = turn.label }
        plain = is_turn setup first threads ask_first w steps h is p lt turn own

        own_now : effect.processor.own ≡ own_after setup threads s.own turn
        own_now = telling_own setup p moved (body_of setup s.own turn.label)

        moved_true : IsTrueOf setup first threads now p moved
        moved_true =
            let grown : IsTrueOf setup first threads now p s = truth_grows setup first threads record { proc = p; label = turn.label } run ask_first (is.is_run, plain) p s (is.truths p) in
            record {
              mail = all_filter _ (λ (grant : MailGrant). nat_lt (s.own.turns + 1) grant.turn) s.mail.grants grown.mail;
              waits = grown.waits;
              homes = grown.homes;
              openings = all_filter _ (λ (opening : MailOpening). nat_lt (s.own.turns + 1) opening.turn) s.mail.openings grown.openings;
              barriers = grown.barriers;
            }

        told : IsTrueEffect setup first threads now p (effect_of_telling setup p moved (body_of setup s.own turn.label))
        told = told_true setup first threads now p moved (body_of setup s.own turn.label) moved_true (turn_told setup first threads ask_first w steps is p lt turn.label plain turn.label refl)

        courses_now : (q : ℕ) → after.courses q ≡ labels_of q now
        courses_now q = elim (eqb_tells q p) [
          | inl (t, i) ↦ rw t (ap (λ ls. turn.label ∷ ls) (is.courses p) ∙ sym (labels_mine p record { proc = p; label = turn.label } run refl) ∙ ap (λ r. labels_of r now) (sym i))
          | inr (t, _) ↦ rw t (is.courses q ∙ sym (labels_other q record { proc = p; label = turn.label } run (λ e. apart q e t)))
        ]
          where
            apart : (q : ℕ) → p ≡ q → (q == p) ≡ false → ⊥
            apart q e t = grind arith

        -- what holds of p as it is now, and of the others as they were, holds of all
        each_now : (P : ℕ → Processor S → Type 0) → P p effect.processor → ((q : ℕ) → p ≢ q → P q (w.processors q)) → (q : ℕ) → P q (after.processors q)
        each_now P mine others q = changed P w.processors p effect.processor mine others q

        owns_now : (q : ℕ) → IsOwnPart setup.bindings (after.processors q).own (labels_of q now)
        owns_now = each_now (λ q x. IsOwnPart setup.bindings x.own (labels_of q now))
            (subst (λ o. IsOwnPart setup.bindings o (labels_of p now)) (sym own_now) (subst (IsOwnPart setup.bindings (own_after setup threads s.own turn)) (sym (labels_mine p record { proc = p; label = turn.label } run refl))
            (own_part_after setup threads s.own (labels_of p run) turn (is.owns p))))
            (λ q ne. subst (IsOwnPart setup.bindings (w.processors q).own) (sym (labels_other q record { proc = p; label = turn.label } run ne)) (is.owns q))

        copies_now : (q : ℕ) → q < setup.procs → HasCopy setup first threads now q (after.processors q).own.copy
        copies_now = each_now (λ q x. q < setup.procs → HasCopy setup first threads now q x.own.copy)
            (λ less. subst (λ (o : Own S). HasCopy setup first threads now p o.copy) (sym own_now) (copy_now setup first threads ask_first w steps h is p lt turn own))
            (λ q ne less. record {
              turns = (is.copies q less).turns;
              has = copies_other setup first threads q record { proc = p; label = turn.label } run (is.copies q less).turns (is.copies q less).has plain ne;
              is_copy = (is.copies q less).is_copy;
            })

        pub turn_has : Has after (step ∷ steps)
        turn_has = record {
          courses = courses_now;
          is_run = (is.is_run, plain);
          owns = owns_now;
          copies = copies_now;
          truths = each_now (λ q x. IsTrueOf setup first threads now q x) told.processor (λ q ne. truth_grows setup first threads record { proc = p; label = turn.label } run ask_first (is.is_run, plain) q (w.processors q) (is.truths q));
          under_way = λ a b. all_append _ (w.channels a b) (filter (goes a b) effect.sends)
              (all_weaker _ _ (λ (msg : Msg) m. body_grows setup first threads record { proc = p; label = turn.label } run ask_first (is.is_run, plain) a b msg.carry.turn msg.body m) (w.channels a b) (is.under_way a b))
              (sent_true now a b effect.sends told.sends);
          brings = (is.brings, brings setup first threads ask_first w steps h is p lt turn own);
        }

      -- A delivery.

      module _ (p q : ℕ) (msg : Msg) (others : List Msg) (oldest : w.channels p q ≡ msg ∷ others) where
        abbrev heard : Processor S
        heard = with_carry (w.processors q) p msg.carry

        abbrev done : Effect S
        done = effect_of_body setup q heard p msg.carry.turn msg.body

        abbrev left : World S
        left = after_delivery setup first threads w h p q msg.carry.turn others done.processor done.sends

        come : AllByRecursion (λ (msg : Msg). IsTrue setup first threads run p q msg.carry.turn msg.body) (msg ∷ others)
        come = subst (AllByRecursion (λ (msg : Msg). IsTrue setup first threads run p q msg.carry.turn msg.body)) oldest (is.under_way p q)

        heard_true : IsTrueOf setup first threads run q heard
        heard_true = record { mail = (is.truths q).mail; waits = (is.truths q).waits; homes = (is.truths q).homes; openings = (is.truths q).openings; barriers = (is.truths q).barriers }

        done_true : IsTrueEffect setup first threads run q done
        done_true = body_true setup first threads run q heard heard_true p msg.carry.turn msg.body come.0

        done_own : done.processor.own ≡ (w.processors q).own
        done_own = body_own setup q heard p msg.carry.turn msg.body

        left_true : (a b : ℕ) → AllByRecursion (λ (msg : Msg). IsTrue setup first threads run a b msg.carry.turn msg.body) (update_at w.channels p q others a b)
        left_true a b = elim (eqb_tells a p) [
          | inl (t, i) ↦ elim (eqb_tells b q) [
            | inl (u, j) ↦ rw (t, u) (subst (λ x. AllByRecursion (λ (msg : Msg). IsTrue setup first threads run x b msg.carry.turn msg.body) others) (sym i)
                (subst (λ y. AllByRecursion (λ (msg : Msg). IsTrue setup first threads run p y msg.carry.turn msg.body) others) (sym j) come.1))
            | inr (u, _) ↦ rw (t, u) (subst (λ x. AllByRecursion (λ (msg : Msg). IsTrue setup first threads run a b msg.carry.turn msg.body) (w.channels x b)) i (is.under_way a b))
          ]
          | inr (t, _) ↦ rw t (is.under_way a b)
        ]

        pub delivery_has : Has left steps
        delivery_has = record {
          courses = is.courses;
          is_run = is.is_run;
          owns = changed (λ r x. IsOwnPart setup.bindings x.own (labels_of r run)) w.processors q done.processor (subst (λ o. IsOwnPart setup.bindings o (labels_of q run)) (sym done_own) (is.owns q)) (λ r ne. is.owns r);
          copies = changed (λ r x. r < setup.procs → HasCopy setup first threads run r x.own.copy) w.processors q done.processor
              (λ less. subst (λ (o : Own S). HasCopy setup first threads run q o.copy) (sym done_own) (is.copies q less)) (λ r ne. is.copies r);
          truths = changed (λ r x. IsTrueOf setup first threads run r x) w.processors q done.processor done_true.processor (λ r ne. is.truths r);
          under_way = λ a b. all_append _ (update_at w.channels p q others a b) (filter (goes a b) done.sends) (left_true a b) (sent_true run a b done.sends done_true.sends);
          brings = is.brings;
        }

    pub has_history : Keeps setup first threads ask_first Has
    has_history = record {
      start = start_has;
      turn = λ w steps h p lt turn own is. turn_has w steps h is p lt turn own;
      delivery = λ w steps h p q ne msg others oldest is. delivery_has w steps h is p q msg others oldest;
    }

    -- after all units of a trace
    pub history_holds : (acts : List Act) (trace : List Group) (fits : FitsUnits setup first threads acts trace) → AreWithin setup acts →
        Holds setup first threads ask_first Has (run_of setup first threads fits.done).net (steps_of trace)
    history_holds acts trace fits within = trace_holds setup first threads ask_first Has has_history acts trace fits within

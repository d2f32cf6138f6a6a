-- Runs without a common memory.
use Rattle.std.specs.Prelude.{◌≡◌, ℕ, ◌+◌, Bool, true, false, ◌==◌, if◌then◌else◌, List, [], ◌∷◌, length, Option, Some, None, option_map}
use Rattle.std.proofs.Common.{refl, sym, ap, ◌∙◌, subst}
use Rattle.dsm_base.specs.declared.act.Act.{Act}
use Rattle.dsm_base.specs.declared.label.Label.{Label}
use Rattle.dsm_base.specs.declared.setup.Setup.{Setup}
use Rattle.dsm_base.specs.Family.{update, update_at}
use Rattle.dsm_base.specs.Plain.{label_of}
use Rattle.dsm_base.specs.Threads.{Semantics, AnswersTo}
use Rattle.dsm_net.specs.declared.trace.Letter.{Letter}
use Rattle.dsm_net.specs.declared.trace.Rec.{Rec}
use Rattle.dsm_net.specs.declared.trace.Group.{Group}
use Rattle.dsm_net.specs.Processor.{Own, Processor}
use Rattle.dsm_net.specs.Inputs.{Input, input_for}
use Rattle.dsm_net.specs.Messages.{processor_named, with_carry}
use Rattle.dsm_net.specs.Turns.{OwnTurn, own_view, turn_with, own_turn}
use Rattle.dsm_net.specs.Effects.{body_of, processor_after, effect_of_message, effect_of_turn}
use Rattle.dsm_net.specs.Net.{Begun, Net}
use Rattle.dsm_net.specs.Units.{Outcome, Made, with_effect, step_with, step_of, delivery_of, unit_of}
use Rattle.dsm_net.specs.Fits.{Done, Ran, FitsUnits, ran_after, run_of}
use Rattle.dsm_laws_protocol.proofs.Kept.{effect_kept}
use Rattle.dsm_laws_protocol.proofs.OwnParts.{body_own, telling_own}
use Rattle.dsm_laws_code.specs.Runs.{RunsAs}
use Rattle.dsm_laws_same.proofs.Beside.{both, both_first, AreBeside, beside_first, beside_on, same_want, same_text, answers}
use Rattle.dsm_laws_same.specs.Images.{up_by, begun_by, ran_by, without_threads}
use Rattle.dsm_laws_same.proofs.Units.{WantTheSame, unit_same}

-- a turn has a label that answers what the thread wants
answers_turn : {S : Type 0} (setup : Setup) (threads : Semantics S) (p : ℕ) (own : Own S) (input : Option Input) (turn : OwnTurn) → turn_with setup threads p own input ≡ Some turn → AnswersTo (threads.want own.thread) turn.label
answers_turn setup threads p own None turn is = absurd cc
answers_turn setup threads p own (Some input) turn is = go (label_of setup.bindings p (own_view own input.number) (threads.text own.thread) (threads.want own.thread)) refl is
  where
    go : (label : Option Label) → label_of setup.bindings p (own_view own input.number) (threads.text own.thread) (threads.want own.thread) ≡ label
        → option_map (λ one. record { label = one; lines = input.lines }) label ≡ Some turn → AnswersTo (threads.want own.thread) turn.label
    go None e found = absurd cc
    go (Some label) e found =
        let same : label ≡ turn.label = ap labelled found in
        subst (AnswersTo (threads.want own.thread)) same (answers setup.bindings p (own_view own input.number) (threads.text own.thread) (threads.want own.thread) label e)
      where
        labelled : Option OwnTurn → Label
        labelled None = label
        labelled (Some one) = one.label

-- without the states of threads it doesn't matter what they were
module _ {P S : Type 0} (g : P → S) where
  no_thread : (s : Option (Processor P)) → up_by {S = Unit {0}} (λ state. tt) (up_by g s) ≡ up_by {S = Unit {0}} (λ state. tt) s
  no_thread None = refl
  no_thread (Some s) = refl

  no_begun : (begun : Option (Begun P)) → begun_by {S = Unit {0}} (λ state. tt) (begun_by g begun) ≡ begun_by {S = Unit {0}} (λ state. tt) begun
  no_begun None = refl
  no_begun (Some begun) = refl

  no_threads : (ran : Ran P) → without_threads (ran_by g ran) ≡ without_threads ran
  no_threads ran = λ i. record (without_threads ran) {
    net = record (without_threads ran).net {
      processors = λ p. no_thread (ran.net.processors p) i;
      images = λ p. record { marked = no_thread (ran.net.images p).marked i; begun = no_begun (ran.net.images p).begun i };
    };
  }

module _ {S T : Type 0} (setup : Setup) (threads : Semantics S) (others : Semantics T) where
  -- the threads of all processors are beside each other
  abbrev pub AllBeside : Net (S × T) → Type 0
  AllBeside net = (p : ℕ) (s : Processor (S × T)) → net.processors p ≡ Some s → AreBeside threads others s.own.thread

  changed : (net : Net (S × T)) (processors : ℕ → Option (Processor (S × T))) (p : ℕ) (now : Processor (S × T)) → processors ≡ update net.processors p (Some now)
      → AreBeside threads others now.own.thread → AllBeside net → (q : ℕ) (s : Processor (S × T)) → processors q ≡ Some s → AreBeside threads others s.own.thread
  changed net processors p now is mine rest q s e = go (q == p) (sym (ap (λ f. f q) is) ∙ e)
    where
      threads_in : Option (Processor (S × T)) → S × T
      threads_in None = now.own.thread
      threads_in (Some one) = one.own.thread

      go : (test : Bool) → (if test then Some now else net.processors q) ≡ Some s → AreBeside threads others s.own.thread
      go true found = subst (AreBeside threads others) (ap threads_in found) mine
      go false found = rest q s found

  after_turn : (net : Net (S × T)) (p : ℕ) (s : Processor (S × T)) (turn : Option OwnTurn) → net.processors p ≡ Some s → own_turn setup (both threads others) p s ≡ turn → AllBeside net
      → AllBeside (step_with setup (both threads others) net p s turn).net
  after_turn net p s None here is all = all
  after_turn net p s (Some turn) here is all =
      let made : Made (S × T) = record { net = net; records = Rec.Turn (processor_named p) (s.own.turns + 1) turn.label turn.lines ∷ [] } in
      let effect = effect_of_turn setup (both threads others) p s turn in
      let label = answers_turn setup (both threads others) p s.own (input_for s (others.want s.own.thread.1)) turn is in
      let next = beside_on threads others s.own.thread turn.label (all p s here) label in
      let same = telling_own setup p (processor_after setup (both threads others) s turn) (body_of setup s.own turn.label) in
      changed net (with_effect made p p effect).net.processors p effect.processor (effect_kept made p p effect).processors
      (subst (λ (own : Own (S × T)). AreBeside threads others own.thread) (sym same) next) all

  after_delivery : (net : Net (S × T)) (from to : ℕ) (letters : List Letter) (receiver : Option (Processor (S × T))) → net.processors to ≡ receiver → AllBeside net
      → AllBeside (delivery_of setup net from to letters receiver).net
  after_delivery net from to [] receiver here all = all
  after_delivery net from to (letter ∷ rest) None here all = all
  after_delivery net from to (letter ∷ rest) (Some s) here all =
      let without : Net (S × T) = record net { channels = update_at net.channels from to rest } in
      let made : Made (S × T) = record { net = without; records = Rec.Delivered letter.number ∷ [] } in
      let effect = effect_of_message setup to s letter.msg in
      let same = body_own setup to (with_carry s letter.msg.from.0 letter.msg.carry) letter.msg.from.0 letter.msg.carry.turn letter.msg.body in
      changed without (with_effect made from to effect).net.processors to effect.processor (effect_kept made from to effect).processors
      (subst (λ (own : Own (S × T)). AreBeside threads others own.thread) (sym same) (all to s here)) all

  after_step : (net : Net (S × T)) (p : ℕ) (stepper : Option (Processor (S × T))) → net.processors p ≡ stepper → AllBeside net → AllBeside (step_of setup (both threads others) net p stepper).net
  after_step net p None here all = all
  after_step net p (Some s) here all = after_turn net p s (own_turn setup (both threads others) p s) here refl all

  after_unit : (net : Net (S × T)) (act : Act) (outcome : Outcome) → AllBeside net → AllBeside (unit_of setup (both threads others) net act outcome).net
  after_unit net (Act.Step p) outcome all = after_step net p.0 (net.processors p.0) refl all
  after_unit net (Act.Deliver p q) outcome all = after_delivery net p.0 q.0 (net.channels p.0 q.0) (net.processors q.0) refl all
  after_unit net _ outcome all = all

  module _ (first : ℕ → S) (start : ℕ → T) (like : (p : ℕ) → RunsAs threads (first p) others (start p)) where
    abbrev pub beside_of : List Done → Ran (S × T)
    beside_of done = run_of setup (both_first first start) (both threads others) done

    pub all_beside : (done : List Done) → AllBeside (beside_of done).net
    all_beside [] = λ p s e. subst (AreBeside threads others) (ap (thread_in p) e) (beside_first threads others (first p) (start p) (like p))
      where
        thread_in : ℕ → Option (Processor (S × T)) → S × T
        thread_in p None = (first p, start p)
        thread_in p (Some one) = one.own.thread
    all_beside (done ∷ before) = after_unit (beside_of before).net done.act done.outcome (all_beside before)

    first_wants : (net : Net (S × T)) → AllBeside net → WantTheSame (λ s. s.0) setup (both threads others) threads (λ x label. refl) net
    first_wants net all = record {
      wants = λ p s e. same_want threads others s.own.thread (all p s e);
      texts = λ p s e. same_text threads others s.own.thread (all p s e);
    }

    second_wants : (net : Net (S × T)) → WantTheSame (λ s. s.1) setup (both threads others) others (λ x label. refl) net
    second_wants net = record { wants = λ p s e. refl; texts = λ p s e. refl }

    pub first_ran : (done : List Done) → run_of setup first threads done ≡ ran_by (λ s. s.0) (beside_of done)
    first_ran [] = refl
    first_ran (done ∷ before) =
        let ran = beside_of before in
        ap (λ one. ran_after one (length before + 1) (unit_of setup threads one.net done.act done.outcome)) (first_ran before)
        ∙ ap (ran_after (ran_by (λ s. s.0) ran) (length before + 1))
        (unit_same (λ s. s.0) setup (both threads others) threads (λ x label. refl) ran.net done.act done.outcome (first_wants ran.net (all_beside before)))

    pub second_ran : (done : List Done) → run_of setup start others done ≡ ran_by (λ s. s.1) (beside_of done)
    second_ran [] = refl
    second_ran (done ∷ before) =
        let ran = beside_of before in
        ap (λ one. ran_after one (length before + 1) (unit_of setup others one.net done.act done.outcome)) (second_ran before)
        ∙ ap (ran_after (ran_by (λ s. s.1) ran) (length before + 1))
        (unit_same (λ s. s.1) setup (both threads others) others (λ x label. refl) ran.net done.act done.outcome (second_wants ran.net))

    -- the same units make the same but for the states of threads
    pub same_units : (done : List Done) → without_threads (run_of setup first threads done) ≡ without_threads (run_of setup start others done)
    same_units done =
        ap without_threads (first_ran done) ∙ (no_threads (λ s. s.0) (beside_of done) ∙ (sym (no_threads (λ s. s.1) (beside_of done)) ∙ sym (ap without_threads (second_ran done))))

    -- the same units make the same trace
    pub fits : (acts : List Act) (trace : List Group) → FitsUnits setup first threads acts trace → FitsUnits setup start others acts trace
    fits acts trace h = record {
      done = h.done;
      same_acts = h.same_acts;
      is_trace = ap (λ ran. ran.groups) (second_ran h.done) ∙ (sym (ap (λ ran. ran.groups) (first_ran h.done)) ∙ h.is_trace);
    }

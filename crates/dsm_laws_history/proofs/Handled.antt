-- What a home knows of its locks is what the processors have done up to the turns that it has handled.
use Rattle.std.specs.Prelude.{◌≡◌, ℕ, ◌≤◌, ◌==◌, Bool, true, false, List, [], ◌∷◌, length, Some}
use Rattle.std.specs.List.{AllByRecursion}
use Rattle.std.proofs.Common.{arith, refl, sym, ap, ◌∙◌, subst, inl, inr}
use Rattle.std.proofs.lemmas.Bool.Decides.{eqb_tells}
use Rattle.dsm_base.specs.declared.act.Act.{Act}
use Rattle.dsm_base.specs.declared.setup.Setup.{Setup}
use Rattle.dsm_base.specs.Threads.{Semantics}
use Rattle.dsm_base.specs.Plain.{Turn, labels_of}
use Rattle.dsm_home.specs.declared.waiting.Waiting.{Waiting}
use Rattle.dsm_net.specs.declared.trace.Group.{Group}
use Rattle.dsm_net.specs.Processor.{Processor}
use Rattle.dsm_net.specs.Messages.{home_of}
use Rattle.dsm_net.specs.Net.{Net}
use Rattle.dsm_net.specs.Fits.{FitsUnits, run_of}
use Rattle.dsm_net.specs.Story.{history}
use Rattle.dsm_laws_runs.specs.Versions.{AllAskFirst}
use Rattle.dsm_laws_protocol.specs.Courses.{upto, moves_of, claim_of, made_by}
use Rattle.dsm_laws_protocol.specs.Due.{due, word_for}
use Rattle.dsm_laws_protocol.specs.Flows.{words}
use Rattle.dsm_laws_protocol.specs.Situations.{is_apart, is_waiting, is_granted, has_taken, Stands, Situation, IsLawful, modes_of, waits_of, waiting_for}
use Rattle.dsm_laws_protocol.specs.Holding.{AreWithin}
use Rattle.dsm_laws_protocol.specs.Steps.{steps_of, turns_of}
use Rattle.dsm_laws_protocol.specs.Worlds.{World, situation_at}
use Rattle.dsm_laws_protocol.proofs.Families.{total_same}
use Rattle.dsm_laws_protocol.proofs.Flows.{order_within}
use Rattle.dsm_laws_protocol.proofs.Reaching.{Holds}
use Rattle.dsm_laws_history.specs.NewerLines.{IsVersion}
use Rattle.dsm_laws_history.specs.Desks.{IsAsClaimed, IsKnown, RestIsUnderWay, HasHandled, AllHaveHandled}
use Rattle.dsm_laws_history.proofs.Reached.{HasHistory}
use Rattle.dsm_laws_history.proofs.Histories.{history_holds}
use Rattle.dsm_laws_history.proofs.Agreement.{steps_are}

waits_all : (P : Waiting → Type 0) (q : ℕ) (queue : List Waiting) → AllByRecursion P queue → AllByRecursion P (waits_of q queue)
waits_all P q [] h = tt
waits_all P q (one ∷ others) h = go (one.proc.0 == q) refl (waits_all P q others h.1)
  where
    go : (b : Bool) → (one.proc.0 == q) ≡ b → AllByRecursion P (waits_of q others) → AllByRecursion P (waits_of q (one ∷ others))
    go true e more = rw e (h.0, more)
    go false e more = rw e more

module _ {S : Type 0} (setup : Setup) (first : ℕ → S) (threads : Semantics S) (ask_first : AllAskFirst setup first threads) (acts : List Act) (trace : List Group) (fits : FitsUnits setup first threads acts trace) (within : AreWithin setup acts) where
  abbrev net : Net S
  net = (run_of setup first threads fits.done).net

  holds : Holds setup first threads ask_first (HasHistory setup first threads) net (steps_of trace)
  holds = history_holds setup first threads ask_first acts trace fits within

  abbrev w : World S
  w = holds.world

  abbrev run : List Turn
  run = turns_of (steps_of trace)

  module _ (lock : ℕ) where
    abbrev home : ℕ
    home = home_of setup lock

    abbrev situation : Situation
    situation = situation_at setup w lock

    lawful : IsLawful setup.procs situation
    lawful = holds.reached.lawful lock

    waits_true : (q : ℕ) → AllByRecursion (λ (one : Waiting). IsVersion run one.proc.0 one.turn lock one.«have») (waits_of q situation.state.queue)
    waits_true q = waits_all (λ (one : Waiting). IsVersion run one.proc.0 one.turn lock one.«have») q situation.state.queue ((holds.kept.truths home).waits lock)

    claimed : (q : ℕ) → IsAsClaimed run lock q (claim_of (upto (situation.handled q) (situation.moves q))) (modes_of q situation.state.holders) (waits_of q situation.state.queue)
    claimed q = go (lawful.stands q)
      where
        go : Stands q (situation.moves q) (situation.handled q) situation.state.version (modes_of q situation.state.holders) (waits_of q situation.state.queue) (situation.grants q) →
            IsAsClaimed run lock q (claim_of (upto (situation.handled q) (situation.moves q))) (modes_of q situation.state.holders) (waits_of q situation.state.queue)
        go (is_apart c m e f) = rw c (m, e)
        go (is_waiting claim own c m e l f) =
            let all : AllByRecursion (λ (one : Waiting). IsVersion run one.proc.0 one.turn lock one.«have») (waiting_for q claim own ∷ []) = subst (AllByRecursion (λ (one : Waiting). IsVersion run one.proc.0 one.turn lock one.«have»)) e (waits_true q) in
            rw c (inr (m, e ∙ ap (λ v. waiting_for q claim v ∷ []) all.0.is_version))
        go (is_granted claim c m e l f) = rw c (inl (m, e))
        go (has_taken claim c m e g t f) = rw c (inl (m, e))

    known : IsKnown setup run lock (w.handled home) situation.state
    known = record {
      claims = λ q. subst (λ labels. IsAsClaimed run lock q (claim_of (upto (situation.handled q) (moves_of lock labels))) (modes_of q situation.state.holders) (waits_of q situation.state.queue)) (holds.kept.courses q) (claimed q);
      version = lawful.is_version ∙ total_same setup.procs _ _ (λ q. ap (λ labels. made_by (upto (situation.handled q) (moves_of lock labels))) (holds.kept.courses q));
    }

  module _ (p : ℕ) where
    own_handled : w.handled p p ≡ length (labels_of p run)
    own_handled = holds.reached.own_handled p ∙ ap length (holds.kept.courses p)

    in_course : (q : ℕ) → w.handled p q ≤ length (labels_of q run)
    in_course q = elim (eqb_tells q p) [
      | inl (_, i) ↦ subst (λ r. w.handled p r ≤ length (labels_of r run)) (sym i) (let k = own_handled in omega arith)
      | inr (t, _) ↦ subst (λ labels. w.handled p q ≤ length labels) (holds.kept.courses q) (order_within (w.handled p q) (length (w.courses q)) (w.channels q p) (holds.reached.flows q p t).in_order)
    ]

    rest : RestIsUnderWay setup run p (w.handled p) net.channels
    rest q other = elim (eqb_tells q p) [
      | inl (_, i) ↦ absurd (other i)
      | inr (t, _) ↦ ap words (holds.is_net.under_way q p) ∙ ((holds.reached.flows q p t).is_due ∙ ap (due (word_for setup p) (w.handled p q)) (holds.kept.courses q))
    ]

    has_handled : HasHandled setup run p (w.processors p).locks net.channels
    has_handled = record {
      handled = w.handled p;
      in_course = in_course;
      own = own_handled;
      rest = rest;
      locks_are = λ lock e. subst (λ h. IsKnown setup run lock (w.handled h) ((w.processors h).locks lock)) e (known lock);
    }

  same_some : (a b : Processor S) → Some a ≡ Some b → a ≡ b
  same_some a b e = cc

  pub desks : AllHaveHandled setup (history trace) net
  desks p s e = subst (λ r. HasHandled setup r p s.locks net.channels) (steps_are trace) (subst (λ (x : Processor S). HasHandled setup run p x.locks net.channels) (same_some (w.processors p) s (sym (holds.is_net.up p) ∙ e)) (has_handled p))

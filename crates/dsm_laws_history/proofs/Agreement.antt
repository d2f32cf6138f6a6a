-- The history of a trace that fits its units is a run over one memory, with which each processor agrees, and all have the lines that they should.
use Rattle.std.specs.Prelude.{◌≡◌, ℕ, ◌<◌, List, [], ◌∷◌, map, Some}
use Rattle.std.specs.List.{AllByRecursion}
use Rattle.std.proofs.Common.{refl, sym, ap, ◌∙◌, subst}
use Rattle.dsm_base.specs.declared.act.Act.{Act}
use Rattle.dsm_base.specs.declared.setup.Setup.{Setup}
use Rattle.dsm_base.specs.Threads.{Semantics}
use Rattle.dsm_base.specs.Plain.{Turn, IsPlainRun, after_run}
use Rattle.dsm_base.specs.Agrees.{HasMemory, AgreesWith}
use Rattle.dsm_msg.specs.declared.message.Msg.{Msg}
use Rattle.dsm_net.specs.declared.trace.Letter.{Letter}
use Rattle.dsm_net.specs.declared.trace.Rec.{Rec}
use Rattle.dsm_net.specs.declared.trace.Group.{Group}
use Rattle.dsm_net.specs.Processor.{Own, Processor}
use Rattle.dsm_net.specs.Net.{Net}
use Rattle.dsm_net.specs.Fits.{FitsUnits, run_of}
use Rattle.dsm_net.specs.Story.{turns_onto, history, own_turns_of, own_of, labels_of_turns}
use Rattle.dsm_laws_runs.specs.Versions.{AllAskFirst}
use Rattle.dsm_laws_runs.proofs.Agreements.{agrees_with}
use Rattle.dsm_laws_protocol.specs.Holding.{AreWithin}
use Rattle.dsm_laws_protocol.specs.Steps.{Step, steps_onto, steps_of, turns_of}
use Rattle.dsm_laws_protocol.proofs.OwnParts.{own_parts, own_labels}
use Rattle.dsm_laws_protocol.proofs.Reaching.{Holds}
use Rattle.dsm_laws_history.specs.NewerLines.{IsTrue, HasNewerLines}
use Rattle.dsm_laws_history.specs.BarrierLines.{HasBarrierLines}
use Rattle.dsm_laws_history.specs.OneMemory.{IsOneMemory}
use Rattle.dsm_laws_history.proofs.Truth.{IsTrueOf}
use Rattle.dsm_laws_history.proofs.Reached.{HasCopy, HasHistory}
use Rattle.dsm_laws_history.proofs.Histories.{history_holds}

turns_of_onto : (before : List Step) (records : List Rec) → turns_of (steps_onto before records) ≡ turns_onto (turns_of before) records
turns_of_onto before [] = refl
turns_of_onto before (Rec.Turn p turn label lines ∷ others) = turns_of_onto (record { proc = p.0; turn = record { label = label; lines = lines } } ∷ before) others
turns_of_onto before (one ∷ others) = turns_of_onto before others

-- the steps of a trace are its history
pub steps_are : (trace : List Group) → turns_of (steps_of trace) ≡ history trace
steps_are [] = refl
steps_are (group ∷ before) = turns_of_onto (steps_of before) group.records ∙ ap (λ run. turns_onto run group.records) (steps_are before)

all_mapped : {X Y : Type 0} (P : Y → Type 0) (f : X → Y) (xs : List X) → AllByRecursion P (map f xs) → AllByRecursion (λ x. P (f x)) xs
all_mapped P f [] h = tt
all_mapped P f (x ∷ xs) h = (h.0, all_mapped P f xs h.1)

same_some : {A : Type 0} (a b : A) → Some a ≡ Some b → a ≡ b
same_some a b e = cc

module _ {S : Type 0} (setup : Setup) (first : ℕ → S) (threads : Semantics S) (ask_first : AllAskFirst setup first threads) (acts : List Act) (trace : List Group) (fits : FitsUnits setup first threads acts trace) (within : AreWithin setup acts) where
  abbrev net : Net S
  net = (run_of setup first threads fits.done).net

  holds : Holds setup first threads ask_first (HasHistory setup first threads) net (steps_of trace)
  holds = history_holds setup first threads ask_first acts trace fits within

  abbrev run : List Turn
  run = turns_of (steps_of trace)

  copy_is : (p : ℕ) → (holds.world.processors p).own.copy ≡ (own_of setup threads (first p) (own_turns_of p trace)).copy
  copy_is p = ap (λ (own : Own S). own.copy) (own_parts setup first threads acts trace fits p (holds.world.processors p) (holds.is_net.up p))

  agrees : (p : ℕ) → p < setup.procs → AgreesWith setup first threads (history trace) p (labels_of_turns (own_turns_of p trace)) (own_of setup threads (first p) (own_turns_of p trace)).copy
  agrees p lt =
      let copy : HasCopy setup first threads run p (holds.world.processors p).own.copy = holds.kept.copies p lt in
      record {
        same_labels = sym (own_labels p trace);
        same_copy = subst (λ r. HasMemory setup.bindings (after_run first threads r) p (own_of setup threads (first p) (own_turns_of p trace)).copy) (steps_are trace)
            (subst (HasMemory setup.bindings (after_run first threads run) p) (sym copy.is_copy ∙ copy_is p) (agrees_with setup first threads run p copy.turns copy.has).same_copy);
      }

  pub one_memory : IsOneMemory setup first threads trace
  one_memory = record { is_run = subst (IsPlainRun setup first threads) (steps_are trace) holds.kept.is_run; agrees = agrees }

  truth : (p : ℕ) (s : Processor S) → net.processors p ≡ Some s → IsTrueOf setup first threads (history trace) p s
  truth p s e = subst (λ r. IsTrueOf setup first threads r p s) (steps_are trace)
      (subst (IsTrueOf setup first threads run p) (same_some (holds.world.processors p) s (sym (holds.is_net.up p) ∙ e)) (holds.kept.truths p))

  under_way_true : (p q : ℕ) → AllByRecursion (λ (letter : Letter). IsTrue setup first threads (history trace) p q letter.msg.carry.turn letter.msg.body) (net.channels p q)
  under_way_true p q = subst (λ r. AllByRecursion (λ (letter : Letter). IsTrue setup first threads r p q letter.msg.carry.turn letter.msg.body) (net.channels p q)) (steps_are trace)
      (all_mapped (λ (msg : Msg). IsTrue setup first threads run p q msg.carry.turn msg.body) (λ (letter : Letter). letter.msg) (net.channels p q)
      (subst (AllByRecursion (λ (msg : Msg). IsTrue setup first threads run p q msg.carry.turn msg.body)) (sym (holds.is_net.under_way p q)) (holds.kept.under_way p q)))

  pub barrier_lines : HasBarrierLines setup first threads net trace
  barrier_lines = record {
    turns = holds.kept.brings;
    under_way = under_way_true;
    mail = λ p s e. (truth p s e).openings;
    managers = λ p bar s e. (truth p s e).barriers bar;
  }

  pub newer_lines : HasNewerLines setup first threads net trace
  newer_lines = record {
    turns = holds.kept.brings;
    under_way = under_way_true;
    mail = λ p s e. (truth p s e).mail;
    homes = λ p lock s e. (truth p s e).homes lock;
  }

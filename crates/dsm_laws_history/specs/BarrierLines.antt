-- Which lines barriers have, at their managers and in mailboxes, by the history.
use Rattle.std.specs.Prelude.{◌≡◌, ℕ, ◌+◌, ◌<◌, ◌≤◌, List, [], ◌∷◌, Some}
use Rattle.std.specs.List.{AllByRecursion}
use Rattle.dsm_base.specs.declared.setup.Setup.{Setup}
use Rattle.dsm_base.specs.Threads.{Semantics}
use Rattle.dsm_base.specs.Plain.{Turn, labels_of}
use Rattle.dsm_lines.specs.declared.of_objects.MailOpening.{MailOpening}
use Rattle.dsm_barrier.specs.declared.arrived.Arrived.{Arrived}
use Rattle.dsm_barrier.specs.BarrierStates.{BarrierState}
use Rattle.dsm_net.specs.declared.trace.Letter.{Letter}
use Rattle.dsm_net.specs.declared.trace.Group.{Group}
use Rattle.dsm_net.specs.Processor.{Processor}
use Rattle.dsm_net.specs.Net.{Net}
use Rattle.dsm_net.specs.Story.{history}
use Rattle.dsm_laws_runs.specs.OwnPart.{arrived_of}
use Rattle.dsm_laws_protocol.specs.Steps.{steps_of}
use Rattle.dsm_laws_history.specs.NewerLines.{AllBring, IsArrival, IsOpening, IsTrue}

-- what waits of p at a barrier are its arrivals, from that of this epoch on, one for each epoch
abbrev pub AreArrivals : Setup → List Turn → ℕ → ℕ → ℕ → List Arrived → Type 0
AreArrivals setup run p bar epoch [] = Unit {0}
AreArrivals setup run p bar epoch (one ∷ others) =
    IsArrival setup run p bar epoch one.lines × AreArrivals setup run p bar (epoch + 1) others

-- a barrier has opened no more often than each processor has come to it, and has the arrivals since then
pub record IsOfArrivals (setup : Setup) (run : List Turn) (bar : ℕ) (barrier : BarrierState) : Type 0 where
  pub no_early : (q : ℕ) → q < setup.procs → barrier.opened ≤ arrived_of (labels_of q run) bar
  pub waiting : (q : ℕ) → AreArrivals setup run q bar barrier.opened (barrier.waiting q)

-- turns, messages under way, mailboxes and managers have the lines of barriers that they should, by the history
pub record HasBarrierLines {S : Type 0} (setup : Setup) (first : ℕ → S) (threads : Semantics S) (net : Net S) (trace : List Group) : Type 0 where
  pub turns : AllBring setup first threads (steps_of trace)
  pub under_way : (p q : ℕ) →
      AllByRecursion (λ (letter : Letter). IsTrue setup first threads (history trace) p q letter.msg.carry.turn letter.msg.body) (net.channels p q)
  pub mail : (p : ℕ) (s : Processor S) → net.processors p ≡ Some s →
      AllByRecursion (λ (opening : MailOpening). IsOpening setup (history trace) p opening.bar.0 opening.epoch opening.lines) s.mail.openings
  pub managers : (p bar : ℕ) (s : Processor S) → net.processors p ≡ Some s →
      IsOfArrivals setup (history trace) bar (s.barriers bar)

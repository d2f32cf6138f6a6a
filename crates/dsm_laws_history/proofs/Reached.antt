-- What holds after every unit, by the history.
use Rattle.std.specs.Prelude.{◌≡◌, ℕ, ℤ, ◌<◌, List}
use Rattle.std.specs.List.{AllByRecursion}
use Rattle.dsm_base.specs.declared.setup.Setup.{Setup}
use Rattle.dsm_base.specs.Threads.{Semantics}
use Rattle.dsm_base.specs.Plain.{Turn, IsPlainRun, labels_of}
use Rattle.dsm_msg.specs.declared.message.Msg.{Msg}
use Rattle.dsm_laws_runs.specs.Copies.{OwnTurn, newest_copy, HasCopies}
use Rattle.dsm_laws_protocol.specs.Steps.{Step, turns_of}
use Rattle.dsm_laws_protocol.specs.Worlds.{World}
use Rattle.dsm_laws_history.specs.NewerLines.{AllBring, IsTrue}
use Rattle.dsm_laws_history.proofs.OwnParts.{IsOwnPart}
use Rattle.dsm_laws_history.proofs.Truth.{IsTrueOf}

-- a copy that its processor's turns have left as they should
pub record HasCopy {S : Type 0} (setup : Setup) (first : ℕ → S) (threads : Semantics S) (run : List Turn) (p : ℕ) (copy : ℕ → ℤ) : Type 0 where
  pub turns : List OwnTurn
  pub has : HasCopies setup first threads run p turns
  pub is_copy : copy ≡ newest_copy turns

pub record HasHistory {S : Type 0} (setup : Setup) (first : ℕ → S) (threads : Semantics S) (w : World S) (steps : List Step) : Type 0 where
  pub courses : (p : ℕ) → w.courses p ≡ labels_of p (turns_of steps)
  pub is_run : IsPlainRun setup first threads (turns_of steps)
  pub owns : (p : ℕ) → IsOwnPart setup.bindings (w.processors p).own (labels_of p (turns_of steps))
  pub copies : (p : ℕ) → p < setup.procs → HasCopy setup first threads (turns_of steps) p (w.processors p).own.copy
  pub truths : (p : ℕ) → IsTrueOf setup first threads (turns_of steps) p (w.processors p)
  pub under_way : (p q : ℕ) → AllByRecursion (λ (msg : Msg). IsTrue setup first threads (turns_of steps) p q msg.carry.turn msg.body) (w.channels p q)
  pub brings : AllBring setup first threads steps

-- What is claimed of a trace that fits its units: its history is a run over one memory, with which each processor agrees.
use Rattle.std.specs.Prelude.{ℕ, ◌<◌, List}
use Rattle.dsm_base.specs.declared.setup.Setup.{Setup}
use Rattle.dsm_base.specs.Threads.{Semantics}
use Rattle.dsm_base.specs.Plain.{IsPlainRun}
use Rattle.dsm_base.specs.Agrees.{AgreesWith}
use Rattle.dsm_net.specs.declared.trace.Group.{Group}
use Rattle.dsm_net.specs.Story.{history, own_turns_of, own_of, labels_of_turns}

-- the turns of the trace are a run of the threads over one memory; each processor's turns are its turns in that run, and its own copy is that memory where it may load
pub record IsOneMemory {S : Type 0} (setup : Setup) (first : ℕ → S) (threads : Semantics S) (trace : List Group) : Type 0 where
  pub is_run : IsPlainRun setup first threads (history trace)
  pub agrees : (p : ℕ) → p < setup.procs →
      AgreesWith setup first threads (history trace) p (labels_of_turns (own_turns_of p trace))
      (own_of setup threads (first p) (own_turns_of p trace)).copy

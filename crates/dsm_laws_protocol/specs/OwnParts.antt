-- What processors have of their own, by a trace.
use Rattle.std.specs.Prelude.{◌≡◌, ℕ, List, Some}
use Rattle.dsm_base.specs.declared.setup.Setup.{Setup}
use Rattle.dsm_base.specs.Threads.{Semantics}
use Rattle.dsm_net.specs.declared.trace.Group.{Group}
use Rattle.dsm_net.specs.Processor.{Processor}
use Rattle.dsm_net.specs.Net.{Net}
use Rattle.dsm_net.specs.Story.{own_of, own_turns_of}

-- each processor that is up has what its turns in the trace leave
abbrev pub HasOwnParts : {S : Type 0} → Setup → (ℕ → S) → Semantics S → Net S → List Group → Type 0
HasOwnParts setup first threads net trace =
    (p : ℕ) (s : Processor _) → net.processors p ≡ Some s →
    s.own ≡ own_of setup threads (first p) (own_turns_of p trace)

-- Runs whose newest turns are put into another order, each processor's own in its order. All lists have the newest first; a tail is a list of labels of one processor.
use Rattle.std.specs.Prelude.{◌≡◌, ◌≢◌, ℕ, ◌<◌, ◌≤◌, false, List, ◌∷◌, ◌++◌, Some}
use Rattle.dsm_base.specs.declared.names.Lock.{Lock}
use Rattle.dsm_base.specs.declared.names.Bar.{Bar}
use Rattle.dsm_base.specs.declared.names.Mode.{Mode}
use Rattle.dsm_base.specs.declared.label.Label.{Label}
use Rattle.dsm_base.specs.declared.setup.Setup.{Setup}
use Rattle.dsm_base.specs.Threads.{Semantics}
use Rattle.dsm_base.specs.Plain.{Turn, IsPlainRun, labels_of}
use Rattle.dsm_laws_runs.specs.OwnPart.{held_of, arrived_of}
use Rattle.dsm_laws_runs.specs.Versions.{AllAskFirst}
use Rattle.dsm_laws_runs.specs.Swap.{rests_on}

-- the turns of the tails in some order, each tail in its own
abbrev pub IsShuffle : (ℕ → List Label) → List Turn → Type 0
IsShuffle tails turns = (p : ℕ) → labels_of p turns ≡ tails p

-- a label at its place in a list, with those before it
pub record HasLabel (labels : List Label) (label : Label) (before : List Label) : Type 0 where
  pub newer : List Label
  pub is : labels ≡ newer ++ (label ∷ before)

-- no label of a tail rests on one of another's, where the tails come after settled turns
abbrev pub AreIndependent : Setup → List Turn → (ℕ → List Label) → Type 0
AreIndependent setup settled tails =
    (p q : ℕ) → p < setup.procs → p ≢ q → (one other : Label) (older others : List Label) → HasLabel (tails p) one older → HasLabel (tails q) other others →
    rests_on (held_of (older ++ labels_of p settled)) (arrived_of (older ++ labels_of p settled)) one other ≡ false

-- what makes tails independent: where one gives a lock back that another takes both hold it shared, and where one crosses a barrier each other has come to it for that
-- epoch in its settled turns
pub record AreApart (setup : Setup) (settled : List Turn) (tails : ℕ → List Label) : Type 0 where
  pub locks : (p q : ℕ) → p < setup.procs → p ≢ q → (given taken : Lock) (mode : Mode) (version : ℕ) (older others : List Label) → HasLabel (tails p) (Label.Give given) older →
      HasLabel (tails q) (Label.Take taken mode version) others → given.0 ≡ taken.0 → (held_of (older ++ labels_of p settled) given.0 ≡ Some Mode.Shared) × (mode ≡ Mode.Shared)
  pub bars : (p q : ℕ) → p < setup.procs → p ≢ q → (bar : Bar) (epoch : ℕ) (others : List Label) → HasLabel (tails q) (Label.Cross bar epoch) others →
      epoch ≤ arrived_of (labels_of p settled) bar.0

-- independent tails, of which one order comes to a plain run after the settled turns
pub record CanShuffle {S : Type 0} (setup : Setup) (first : ℕ → S) (threads : Semantics S) (settled : List Turn) (tails : ℕ → List Label) (turns : List Turn) : Type 0 where
  pub ask_first : AllAskFirst setup first threads
  pub independent : AreIndependent setup settled tails
  pub is_shuffle : IsShuffle tails turns
  pub is_run : IsPlainRun setup first threads (turns ++ settled)

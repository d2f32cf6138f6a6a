-- What a home knows of its locks, by the history: how far it has handled each processor's asks and gives, and what they come to.
use Rattle.std.specs.Prelude.{◌≡◌, ◌≢◌, ◌⊎◌, ℕ, ◌+◌, ◌≤◌, List, [], ◌∷◌, length, Option, Some, None}
use Rattle.dsm_base.specs.declared.names.Mode.{Mode}
use Rattle.dsm_base.specs.declared.setup.Setup.{Setup}
use Rattle.dsm_base.specs.Plain.{Turn, labels_of}
use Rattle.dsm_home.specs.declared.waiting.Waiting.{Waiting}
use Rattle.dsm_home.specs.LockStates.{LockState}
use Rattle.dsm_net.specs.declared.trace.Letter.{Letter}
use Rattle.dsm_net.specs.Processor.{Processor}
use Rattle.dsm_net.specs.Messages.{home_of}
use Rattle.dsm_net.specs.Net.{Net}
use Rattle.dsm_laws_protocol.specs.Courses.{upto, Move, moves_of, Claim, claim_of, made_by}
use Rattle.dsm_laws_protocol.specs.Due.{due, word_for}
use Rattle.dsm_laws_protocol.specs.Flows.{words}
use Rattle.dsm_laws_protocol.specs.Situations.{modes_of, waits_of, waiting_for, total}
use Rattle.dsm_laws_protocol.specs.Worlds.{said}
use Rattle.dsm_laws_history.specs.NewerLines.{version_before}

-- who has asked for a lock and not given it back holds it once, or waits once, with the version that its copy had; nobody else does
abbrev pub IsAsClaimed : List Turn → ℕ → ℕ → Option Claim → List Mode → List Waiting → Type 0
IsAsClaimed run lock q None modes waits = (modes ≡ []) × (waits ≡ [])
IsAsClaimed run lock q (Some claim) modes waits =
    ((modes ≡ claim.mode ∷ []) × (waits ≡ []))
    ⊎ ((modes ≡ []) × (waits ≡ waiting_for q claim (version_before run q (claim.turn + 1) lock) ∷ []))

-- what a processor has done to a lock up to a turn
abbrev pub done_to : List Turn → ℕ → ℕ → ℕ → List Move
done_to run lock q turn = upto turn (moves_of lock (labels_of q run))

-- the state of a lock, where each processor's turns are handled so far: its holders and who waits, and how many exclusive holds were given back
pub record IsKnown (setup : Setup) (run : List Turn) (lock : ℕ) (handled : ℕ → ℕ) (state : LockState) : Type 0 where
  pub claims : (q : ℕ) →
      IsAsClaimed run lock q (claim_of (done_to run lock q (handled q))) (modes_of q state.holders) (waits_of q state.queue)
  pub version : state.version ≡ total setup.procs (λ q. made_by (done_to run lock q (handled q)))

-- what another has told a home or manager beyond the turn that it has handled is what is under way to it, no more and no less
abbrev pub RestIsUnderWay : Setup → List Turn → ℕ → (ℕ → ℕ) → (ℕ → ℕ → List Letter) → Type 0
RestIsUnderWay setup run home handled channels = (q : ℕ) → q ≢ home →
    words (said (channels q home)) ≡ due (word_for setup home) (handled q) (labels_of q run)

-- a home has handled the turns of each processor up to one of them, and its own up to the last; what it hasn't handled is under way to it
pub record HasHandled (setup : Setup) (run : List Turn) (home : ℕ) (locks : ℕ → LockState) (channels : ℕ → ℕ → List Letter) : Type 0 where
  pub handled : ℕ → ℕ  -- by processor
  pub in_course : (q : ℕ) → handled q ≤ length (labels_of q run)
  pub own : handled home ≡ length (labels_of home run)
  pub rest : RestIsUnderWay setup run home handled channels
  pub locks_are : (lock : ℕ) → home_of setup lock ≡ home → IsKnown setup run lock handled (locks lock)

abbrev pub AllHaveHandled : {S : Type 0} → Setup → List Turn → Net S → Type 0
AllHaveHandled setup run net = (p : ℕ) (s : Processor _) → net.processors p ≡ Some s → HasHandled setup run p s.locks net.channels

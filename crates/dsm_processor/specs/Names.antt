-- What names processors, locks, barriers, cells and lines of the setup.
use Rattle.std.specs.Prelude.{◌≡◌, ℕ, ◌<◌, true}
use Rattle.std.specs.List.{All}
use Rattle.dsm_base.specs.declared.label.Label.{Label}
use Rattle.dsm_base.specs.declared.setup.Setup.{Setup}
use Rattle.dsm_base.specs.Labels.{TakesLocks, PassesBarriers}
use Rattle.dsm_lines.specs.Copies.{AreNumbered}
use Rattle.dsm_lines.specs.LineLists.{are_lines}
use Rattle.dsm_msg.specs.declared.message.Body.{Body}
use Rattle.dsm_msg.specs.declared.message.Msg.{Msg}
use Rattle.dsm_home.specs.LockStates.{LockState}
use Rattle.dsm_net.specs.Messages.{manager_of}
use Rattle.dsm_processor.specs.Copy.{StoresBound}

-- what a body tells a home or a manager is of a lock or barrier of the setup, and brings lines of it or a list of lines
abbrev pub BodyNames : Setup → Body → Type 0
BodyNames setup (Body.Req lock mode «have») = lock.0 < setup.locks
BodyNames setup (Body.Release lock mode version lines) = (lock.0 < setup.locks) × AreNumbered setup.bindings lines
BodyNames setup (Body.Arrive bar epoch lines) = (bar.0 < setup.bars) × (are_lines lines ≡ true)
BodyNames setup _ = Unit {0}

-- an arrival is told to the manager of its barrier
abbrev pub IsKeptBy : Setup → ℕ → Body → Type 0
IsKeptBy setup p (Body.Arrive bar epoch lines) = manager_of setup bar.0 ≡ p
IsKeptBy setup p _ = Unit {0}

-- a message of this processor to one of the setup
pub record IsSendOf (setup : Setup) (me : ℕ) (msg : Msg) : Type 0 where
  pub from : msg.from.0 ≡ me
  pub to : msg.to.0 < setup.procs
  pub names : BodyNames setup msg.body
  pub kept : IsKeptBy setup msg.to.0 msg.body

-- a lock that is asked for is one of the setup
abbrev pub AsksLocks : Setup → Label → Type 0
AsksLocks setup (Label.Ask lock mode) = lock.0 < setup.locks
AsksLocks setup _ = Unit {0}

-- a label names cells, locks and barriers of the setup
pub record LabelNames (setup : Setup) (label : Label) : Type 0 where
  pub stored : StoresBound setup.bindings label
  pub asked : AsksLocks setup label
  pub locks : TakesLocks setup.locks label
  pub bars : PassesBarriers setup.bars label

-- those who wait for locks are processors of the setup
abbrev pub AreOfSetup : Setup → (ℕ → LockState) → Type 0
AreOfSetup setup locks = (lock : ℕ) → All (λ one. one.proc.0 < setup.procs) (locks lock).queue

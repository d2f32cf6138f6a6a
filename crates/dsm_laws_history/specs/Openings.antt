-- How often barriers have opened at their managers, by the history, and where their openings are.
use Rattle.std.specs.Prelude.{◌≡◌, ℕ, ◌+◌, ◌<◌, ◌≤◌, true, false, ◌==◌, if◌then◌else◌, nat_lt, List, [], ◌∷◌, ◌++◌, length, Some}
use Rattle.std.specs.List.{list_any}
use Rattle.dsm_base.specs.declared.setup.Setup.{Setup}
use Rattle.dsm_base.specs.Family.{all_below}
use Rattle.dsm_base.specs.Plain.{Turn, labels_of}
use Rattle.dsm_lines.specs.declared.of_objects.MailOpening.{MailOpening}
use Rattle.dsm_msg.specs.declared.message.Body.{Body}
use Rattle.dsm_msg.specs.declared.message.Msg.{Msg}
use Rattle.dsm_barrier.specs.BarrierStates.{BarrierState, arrivals_of}
use Rattle.dsm_net.specs.declared.trace.Letter.{Letter}
use Rattle.dsm_net.specs.Processor.{Processor}
use Rattle.dsm_net.specs.Messages.{manager_of}
use Rattle.dsm_net.specs.Net.{Net}
use Rattle.dsm_laws_runs.specs.OwnPart.{arrived_of, crossed_of}
use Rattle.dsm_laws_protocol.specs.Courses.{upto}
use Rattle.dsm_laws_protocol.specs.Worlds.{said}
use Rattle.dsm_laws_history.specs.Desks.{RestIsUnderWay}

-- how often a processor has come to a barrier up to a turn of it
abbrev pub comings_upto : List Turn → ℕ → ℕ → ℕ → ℕ
comings_upto run bar q turn = arrived_of (upto turn (labels_of q run)) bar

-- a barrier, where each processor's turns are handled so far: each arrival in them has counted, and the barrier has opened as often as all have come in them, no more often and no less
pub record IsOpenedByAll (setup : Setup) (run : List Turn) (bar : ℕ) (handled : ℕ → ℕ) (barrier : BarrierState) : Type 0 where
  pub each_counts : (q : ℕ) → q < setup.procs → arrivals_of barrier q ≡ comings_upto run bar q (handled q)
  pub no_early : (q : ℕ) → q < setup.procs → barrier.opened ≤ comings_upto run bar q (handled q)
  pub no_late : all_below setup.procs (λ q. nat_lt barrier.opened (comings_upto run bar q (handled q))) ≡ false

-- a manager has handled the turns of each processor up to one of them, and its own up to the last; what it hasn't handled is under way to it
pub record HasOpened (setup : Setup) (run : List Turn) (manager : ℕ) (barriers : ℕ → BarrierState) (channels : ℕ → ℕ → List Letter) : Type 0 where
  pub handled : ℕ → ℕ  -- by processor
  pub in_course : (q : ℕ) → handled q ≤ length (labels_of q run)
  pub own : handled manager ≡ length (labels_of manager run)
  pub rest : RestIsUnderWay setup run manager handled channels
  pub barriers_are : (bar : ℕ) → manager_of setup bar ≡ manager → IsOpenedByAll setup run bar handled (barriers bar)

abbrev pub OpenWhenAllCame : {S : Type 0} → Setup → List Turn → Net S → Type 0
OpenWhenAllCame setup run net = (p : ℕ) (s : Processor _) → net.processors p ≡ Some s → HasOpened setup run p s.barriers net.channels

-- Where openings are.

-- the epochs of a barrier's openings in a mailbox
abbrev pub epochs_of : ℕ → List MailOpening → List ℕ
epochs_of bar [] = []
epochs_of bar (one ∷ others) = if one.bar.0 == bar then one.epoch ∷ epochs_of bar others else epochs_of bar others

-- that of the opening which a body is
abbrev pub epochs_in : ℕ → Body → List ℕ
epochs_in bar (Body.Opened other epoch lines) = if other.0 == bar then epoch ∷ [] else []
epochs_in bar _ = []

-- those that messages bring
abbrev pub epochs_said : ℕ → List Msg → List ℕ
epochs_said bar [] = []
epochs_said bar (msg ∷ msgs) = epochs_in bar msg.body ++ epochs_said bar msgs

-- q has crossed a barrier no more often than it has opened, and where it has opened once more, that opening is there
pub record IsInPlace (run : List Turn) (bar q opened : ℕ) (epochs : List ℕ) : Type 0 where
  pub no_more : crossed_of (labels_of q run) bar ≤ opened
  pub is_there : crossed_of (labels_of q run) bar < opened →
      list_any (λ epoch. epoch == crossed_of (labels_of q run) bar + 1) epochs ≡ true

-- so it is of each processor: the opening is in its mailbox, or under way from the manager
abbrev pub OpeningsAreInPlace : {S : Type 0} → Setup → List Turn → Net S → Type 0
OpeningsAreInPlace setup run net = (bar q : ℕ) (m s : Processor _) → q < setup.procs →
    net.processors (manager_of setup bar) ≡ Some m → net.processors q ≡ Some s →
    IsInPlace run bar q (m.barriers bar).opened
    (epochs_of bar s.mail.openings ++ epochs_said bar (said (net.channels (manager_of setup bar) q)))

-- In which order a home has handled requests, by the trace. Lists of requests have the oldest first.
use Rattle.std.specs.Prelude.{◌≡◌, ◌⊎◌, ℕ, ◌+◌, Bool, ◌==◌, ◌&&◌, if◌then◌else◌, List, [], ◌∷◌, ◌++◌, map, Option, Some, None}
use Rattle.dsm_base.specs.declared.label.Label.{Label}
use Rattle.dsm_base.specs.declared.setup.Setup.{Setup}
use Rattle.dsm_base.specs.Family.{update}
use Rattle.dsm_msg.specs.declared.message.Body.{Body}
use Rattle.dsm_msg.specs.declared.message.Msg.{Msg}
use Rattle.dsm_home.specs.declared.waiting.Waiting.{Waiting}
use Rattle.dsm_net.specs.declared.trace.Rec.{Rec}
use Rattle.dsm_net.specs.declared.trace.Group.{Group}
use Rattle.dsm_net.specs.Messages.{home_of}
use Rattle.dsm_net.specs.Processor.{Processor}
use Rattle.dsm_net.specs.Net.{Net}

-- a request for a lock: whose it is, and the turn in which the lock would be taken
pub record Request : Type 0 where
  pub proc : ℕ
  pub take : ℕ

-- messages by number, with those that records tell of
abbrev pub sent_onto : (ℕ → Option Msg) → List Rec → ℕ → Option Msg
sent_onto sent [] = sent
sent_onto sent (Rec.Sent number msg ∷ others) = sent_onto (update sent number (Some msg)) others
sent_onto sent (one ∷ others) = sent_onto sent others

-- the messages of a trace, by number
abbrev pub sent_in : List Group → ℕ → Option Msg
sent_in [] = λ number. None
sent_in (group ∷ before) = sent_onto (sent_in before) group.records

-- one who asks in a turn would take the lock in the next
abbrev pub request_if : Bool → ℕ → ℕ → List Request
request_if asks p turn = if asks then record { proc = p; take = turn + 1 } ∷ [] else []

-- the request for a lock that a body has which one processor tells another in a turn, if it has one for that home
abbrev pub request_in_body : Setup → ℕ → ℕ → ℕ → ℕ → Body → List Request
request_in_body setup lock from to turn (Body.Req other mode version) =
    request_if ((other.0 == lock) && (home_of setup lock == to)) from turn
request_in_body setup lock from to turn _ = []

abbrev pub request_in_message : Setup → ℕ → Option Msg → List Request
request_in_message setup lock None = []
request_in_message setup lock (Some msg) = request_in_body setup lock msg.from.0 msg.to.0 msg.carry.turn msg.body

-- the request for a lock that its home itself makes by a turn, if it makes one
abbrev pub request_in_turn : Setup → ℕ → ℕ → ℕ → Label → List Request
request_in_turn setup lock p turn (Label.Ask other mode) = request_if ((other.0 == lock) && (home_of setup lock == p)) p turn
request_in_turn setup lock p turn _ = []

-- the requests for a lock that come to its home in a unit
abbrev pub requests_in : Setup → (ℕ → Option Msg) → ℕ → List Rec → List Request
requests_in setup sent lock [] = []
requests_in setup sent lock (Rec.Delivered number ∷ others) =
    request_in_message setup lock (sent number) ++ requests_in setup sent lock others
requests_in setup sent lock (Rec.Turn p turn label lines ∷ others) =
    request_in_turn setup lock p.0 turn label ++ requests_in setup sent lock others
requests_in setup sent lock (one ∷ others) = requests_in setup sent lock others

-- the requests for a lock that have come to its home
abbrev pub requests_of : Setup → ℕ → List Group → List Request
requests_of setup lock [] = []
requests_of setup lock (group ∷ before) =
    requests_of setup lock before ++ requests_in setup (sent_in before) lock group.records

-- some of a list, in its order
abbrev pub AreAmong : {A : Type 0} → List A → List A → Type 0
AreAmong [] all = Unit {0}
AreAmong (one ∷ others) [] = ⊥
AreAmong (one ∷ others) (first ∷ all) = ((one ≡ first) × AreAmong others all) ⊎ AreAmong (one ∷ others) all

-- the requests of those who wait
abbrev pub requests_waiting : List Waiting → List Request
requests_waiting queue = map (λ one. record { proc = one.proc.0; take = one.turn }) queue

-- whoever waits for a lock at its home waits in the order in which the requests came there
abbrev pub AllWaitInOrder : {S : Type 0} → Setup → List Group → Net S → Type 0
AllWaitInOrder setup trace net = (p lock : ℕ) (s : Processor _) → net.processors p ≡ Some s → home_of setup lock ≡ p →
    AreAmong (requests_waiting (s.locks lock).queue) (requests_of setup lock trace)

-- A worked run of 2 processors: a lock of 24 cells, which is three lines. One of its cells is stored to, with the value that it had; a grant ships that line, and no other.
use Rattle.std.specs.Prelude.{ℕ, zero, suc, pos, ◌+◌, ◌==◌, if◌then◌else◌, List, [], ◌∷◌, ◌++◌, reverse, refl}
use Rattle.dsm_base.specs.declared.names.Lock.{Lock}
use Rattle.dsm_base.specs.declared.names.Mode.{Mode}
use Rattle.dsm_base.specs.declared.act.Act.{Act}
use Rattle.dsm_base.specs.declared.label.Want.{Want}
use Rattle.dsm_base.specs.declared.label.Label.{Label}
use Rattle.dsm_base.specs.declared.setup.Object.{Object}
use Rattle.dsm_base.specs.declared.setup.Setup.{Setup}
use Rattle.dsm_base.specs.Threads.{Semantics}
use Rattle.dsm_lines.specs.declared.list.Line.{Line}
use Rattle.dsm_msg.specs.declared.message.Body.{Body}
use Rattle.dsm_msg.specs.declared.message.Msg.{Msg}
use Rattle.dsm_net.specs.declared.trace.Rec.{Rec}
use Rattle.dsm_net.specs.declared.trace.Group.{Group}
use Rattle.dsm_net.specs.Fits.{FitsUnits}
use Rattle.dsm_net.proofs.Worked.{steps, deliver, all_went, message_at, turn_at}

-- a thread of the example: whose it is, and how many steps it has made
record State : Type 0 where
  me : ℕ
  place : ℕ

abbrev lock : Lock
lock = record { 0 = 0 }

-- acquire; processor 0 stores 0 to cell 9; release; end
abbrev want_at : ℕ → ℕ → Want
want_at me zero = Want.Ask lock Mode.Excl 1
want_at me (suc zero) = Want.Take lock Mode.Excl
want_at me (suc (suc zero)) = if me == 0 then Want.Store record { 0 = 9 } (pos 0) 1 else Want.Quiet
want_at me (suc (suc (suc zero))) = Want.Give lock 1
want_at me (suc (suc (suc (suc zero)))) = Want.End
want_at me _ = Want.Over

abbrev threads : Semantics State
threads = record {
  want = λ s. want_at s.me s.place;
  text = λ s. [];
  after = λ s label. record s { place = s.place + 1 };
}

abbrev first : ℕ → State
first p = record { me = p; place = 0 }

setup : Setup
setup = record {
  procs = 2;
  locks = 1;
  bars = 0;
  cells = 24;
  bindings = record {
    object = Object.Lock lock;
    first = record { 0 = 0 };
    count = 24;
    owner = 0;
    phase = 0;
    period = 0;
  } ∷ [];
  kept = refl;
}

units : List Act
units = reverse (steps 0 4 ++ steps 1 1 ++ deliver 1 0)

-- cell 9 is in line 1, of which all values are still 0
abbrev shipped : Line
shipped = record {
  number = 1;
  values = pos 0 ∷ pos 0 ∷ pos 0 ∷ pos 0 ∷ pos 0 ∷ pos 0 ∷ pos 0 ∷ pos 0 ∷ [];
}

abbrev request : Msg
request = message_at 1 0 1 0 (Body.Req lock Mode.Excl 0)

abbrev grant : Msg
grant = message_at 0 1 4 1 (Body.Grant lock Mode.Excl 2 1 (shipped ∷ []))

trace : List Group
trace =
    record { unit = 6; records = Rec.Delivered 1 ∷ Rec.Sent 2 grant ∷ [] }
    ∷ record { unit = 5; records = turn_at 1 1 (Label.Ask lock Mode.Excl) [] ∷ Rec.Sent 1 request ∷ [] }
    ∷ record { unit = 4; records = turn_at 0 4 (Label.Give lock) [] ∷ [] }
    ∷ record { unit = 3; records = turn_at 0 3 (Label.Store record { 0 = 9 } (pos 0)) [] ∷ [] }
    ∷ record { unit = 2; records = turn_at 0 2 (Label.Take lock Mode.Excl 0) [] ∷ [] }
    ∷ record { unit = 1; records = turn_at 0 1 (Label.Ask lock Mode.Excl) [] ∷ [] }
    ∷ []

fits : FitsUnits setup first threads units trace
unfolding setup units trace
fits = record { done = all_went units; same_acts = refl; is_trace = refl }

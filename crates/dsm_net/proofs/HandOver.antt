-- A worked run of 2 processors: each takes the lock of a cell, makes ten times its value and a digit of it, and prints it. The lock is handed over with the cell's line.
use Rattle.std.specs.Prelude.{◌≡◌, ℕ, ℤ, pos, zero, suc, ◌+◌, ◌+ℤ◌, ◌*ℤ◌, List, [], ◌∷◌, ◌++◌, reverse, refl}
use Rattle.dsm_base.specs.declared.names.Lock.{Lock}
use Rattle.dsm_base.specs.declared.names.Cell.{Cell}
use Rattle.dsm_base.specs.declared.names.Mode.{Mode}
use Rattle.dsm_base.specs.declared.act.Act.{Act}
use Rattle.dsm_base.specs.declared.label.Want.{Want}
use Rattle.dsm_base.specs.declared.label.Label.{Label}
use Rattle.dsm_base.specs.declared.setup.Object.{Object}
use Rattle.dsm_base.specs.declared.setup.Setup.{Setup}
use Rattle.dsm_base.specs.Threads.{Semantics}
use Rattle.dsm_lines.specs.declared.list.Line.{Line}
use Rattle.dsm_msg.specs.declared.message.Body.{Body}
use Rattle.dsm_net.specs.declared.trace.Rec.{Rec}
use Rattle.dsm_net.specs.declared.trace.Group.{Group}
use Rattle.dsm_net.specs.Fits.{run_of}
use Rattle.dsm_net.proofs.Worked.{steps, deliver, all_went, message_at, turn_at, records_of}

-- a thread of the example: whose it is, how many steps it has made, and the value that it loaded last
record State : Type 0 where
  me : ℕ
  place : ℕ
  value : ℤ

abbrev lock : Lock
lock = record { 0 = 0 }

abbrev cell : Cell
cell = record { 0 = 0 }

-- acquire; x = x * 10 + me + 1; load x again and print it; release; end
abbrev want_at : ℕ → ℤ → ℕ → Want
want_at me value zero = Want.Ask lock Mode.Excl 1
want_at me value (suc zero) = Want.Take lock Mode.Excl
want_at me value (suc (suc zero)) = Want.Load cell 1
want_at me value (suc (suc (suc zero))) = Want.Store cell (value *ℤ pos 10 +ℤ pos (me + 1)) 1
want_at me value (suc (suc (suc (suc zero)))) = Want.Load cell 1
want_at me value (suc (suc (suc (suc (suc zero))))) = Want.Line
want_at me value (suc (suc (suc (suc (suc (suc zero)))))) = Want.Give lock 1
want_at me value (suc (suc (suc (suc (suc (suc (suc zero))))))) = Want.End
want_at me value _ = Want.Over

abbrev after : State → Label → State
after s (Label.Load from value) = record { me = s.me; place = s.place + 1; value = value }
after s label = record { me = s.me; place = s.place + 1; value = s.value }

abbrev threads : Semantics State
threads = record { want = λ s. want_at s.me s.value s.place; text = λ s. []; after = after }

abbrev first : ℕ → State
first p = record { me = p; place = 0; value = pos 0 }

setup : Setup
setup = record {
  procs = 2;
  locks = 1;
  bars = 0;
  cells = 1;
  bindings = record {
    object = Object.Lock lock;
    first = record { 0 = 0 };
    count = 1;
    owner = 0;
    phase = 0;
    period = 0;
  } ∷ [];
  kept = refl;
}

-- the second delivery from 0 to 1 finds no message
units : List Act
units = reverse (
    steps 0 8 ++ steps 1 1 ++ deliver 1 0 ++ deliver 0 1 ++ deliver 0 1 ++ steps 1 7 ++ deliver 1 0)

trace : List Group
trace = (run_of setup first threads (all_went units)).groups

abbrev line_of : ℕ → Line
line_of value = record { number = 0; values = pos value ∷ [] }

-- the records of the units that tell most
record AreRecords (trace : List Group) : Type 0 where
  own_take : records_of 2 trace ≡ turn_at 0 2 (Label.Take lock Mode.Excl 0) [] ∷ []
  first_store : records_of 4 trace ≡ turn_at 0 4 (Label.Store cell (pos 1)) [] ∷ []
  own_give : records_of 7 trace ≡ turn_at 0 7 (Label.Give lock) [] ∷ []
  asks : records_of 9 trace
      ≡ turn_at 1 1 (Label.Ask lock Mode.Excl) []
      ∷ Rec.Sent 1 (message_at 1 0 1 0 (Body.Req lock Mode.Excl 0)) ∷ []
  granted : records_of 10 trace
      ≡ Rec.Delivered 1
      ∷ Rec.Sent 2 (message_at 0 1 8 1 (Body.Grant lock Mode.Excl 2 1 (line_of 1 ∷ []))) ∷ []
  comes : records_of 11 trace ≡ Rec.Delivered 2 ∷ []
  no_message : records_of 12 trace ≡ []
  takes : records_of 13 trace ≡ turn_at 1 2 (Label.Take lock Mode.Excl 1) (line_of 1 ∷ []) ∷ []
  loads : records_of 14 trace ≡ turn_at 1 3 (Label.Load cell (pos 1)) [] ∷ []
  second_store : records_of 15 trace ≡ turn_at 1 4 (Label.Store cell (pos 12)) [] ∷ []
  gives : records_of 18 trace
      ≡ turn_at 1 7 (Label.Give lock) []
      ∷ Rec.Sent 3 (message_at 1 0 7 8 (Body.Release lock Mode.Excl 2 (line_of 12 ∷ []))) ∷ []
  given : records_of 20 trace ≡ Rec.Delivered 3 ∷ []

are_records : AreRecords trace
unfolding setup units trace
are_records = record {
  own_take = refl;
  first_store = refl;
  own_give = refl;
  asks = refl;
  granted = refl;
  comes = refl;
  no_message = refl;
  takes = refl;
  loads = refl;
  second_store = refl;
  gives = refl;
  given = refl;
}

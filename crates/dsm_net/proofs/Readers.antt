-- A worked run of 4 processors over one cell: two readers hold its lock together, and the writer who asked before the third reader comes before it.
use Rattle.std.specs.Prelude.{◌≡◌, ℕ, ℤ, pos, zero, suc, ◌+◌, ◌==◌, if◌then◌else◌, List, [], ◌∷◌, ◌++◌, reverse, refl}
use Rattle.dsm_base.specs.declared.names.Lock.{Lock}
use Rattle.dsm_base.specs.declared.names.Cell.{Cell}
use Rattle.dsm_base.specs.declared.names.Mode.{Mode}
use Rattle.dsm_base.specs.declared.act.Act.{Act}
use Rattle.dsm_base.specs.declared.label.Want.{Want}
use Rattle.dsm_base.specs.declared.label.Label.{Label}
use Rattle.dsm_base.specs.declared.setup.Object.{Object}
use Rattle.dsm_base.specs.declared.setup.Setup.{Setup}
use Rattle.dsm_base.specs.Threads.{Semantics}
use Rattle.dsm_lines.specs.declared.list.Line.{Line}
use Rattle.dsm_msg.specs.declared.message.Body.{Body}
use Rattle.dsm_net.specs.declared.trace.Rec.{Rec}
use Rattle.dsm_net.specs.declared.trace.Group.{Group}
use Rattle.dsm_net.specs.Fits.{run_of}
use Rattle.dsm_net.proofs.Worked.{proc, steps, deliver, all_went, message_at, turn_at, records_of}

-- a thread of the example: whose it is, how many steps it has made, and the value that it loaded last
record State : Type 0 where
  me : ℕ
  place : ℕ
  value : ℤ

abbrev lock : Lock
lock = record { 0 = 0 }

abbrev cell : Cell
cell = record { 0 = 0 }

-- the writer: acquire; store 5; release; end
abbrev writer_at : ℕ → Want
writer_at zero = Want.Ask lock Mode.Excl 1
writer_at (suc zero) = Want.Take lock Mode.Excl
writer_at (suc (suc zero)) = Want.Store cell (pos 5) 1
writer_at (suc (suc (suc zero))) = Want.Give lock 1
writer_at (suc (suc (suc (suc zero)))) = Want.End
writer_at _ = Want.Over

-- a reader: acquire shared; load; print; release; end
abbrev reader_at : ℕ → Want
reader_at zero = Want.Ask lock Mode.Shared 1
reader_at (suc zero) = Want.Take lock Mode.Shared
reader_at (suc (suc zero)) = Want.Load cell 1
reader_at (suc (suc (suc zero))) = Want.Line
reader_at (suc (suc (suc (suc zero)))) = Want.Give lock 1
reader_at (suc (suc (suc (suc (suc zero))))) = Want.End
reader_at _ = Want.Over

abbrev digit : ℤ → List ℕ
digit (pos n) = (48 + n) ∷ []
digit _ = []

abbrev after : State → Label → State
after s (Label.Load from value) = record { me = s.me; place = s.place + 1; value = value }
after s label = record { me = s.me; place = s.place + 1; value = s.value }

abbrev threads : Semantics State
threads = record {
  want = λ s. if s.me == 1 then writer_at s.place else reader_at s.place;
  text = λ s. digit s.value;
  after = after;
}

abbrev first : ℕ → State
first p = record { me = p; place = 0; value = pos 0 }

setup : Setup
setup = record {
  procs = 4;
  locks = 1;
  bars = 0;
  cells = 1;
  bindings = record {
    object = Object.Lock lock;
    first = record { 0 = 0 };
    count = 1;
    owner = 0;
    phase = 0;
    period = 0;
  } ∷ [];
  kept = refl;
}

-- all ask, processor 0 last; two readers read and give the lock back; then the writer has it, and then the third reader
units : List Act
units = reverse (
    steps 2 1 ++ deliver 2 0 ++ steps 3 1 ++ deliver 3 0 ++ steps 1 1 ++ deliver 1 0 ++ steps 0 1
    ++ deliver 0 2 ++ deliver 0 3 ++ steps 3 4 ++ deliver 3 0 ++ steps 2 4 ++ deliver 2 0
    ++ deliver 0 1 ++ steps 1 3 ++ deliver 1 0 ++ steps 0 3)

trace : List Group
trace = (run_of setup first threads (all_went units)).groups

abbrev stored : Line
stored = record { number = 0; values = pos 5 ∷ [] }

-- the records of the units that tell most
record AreRecords (trace : List Group) : Type 0 where
  first_reader : records_of 2 trace
      ≡ Rec.Delivered 1 ∷ Rec.Sent 2 (message_at 0 2 0 1 (Body.Grant lock Mode.Shared 2 0 [])) ∷ []
  second_reader : records_of 4 trace
      ≡ Rec.Delivered 3 ∷ Rec.Sent 4 (message_at 0 3 0 1 (Body.Grant lock Mode.Shared 2 0 [])) ∷ []
  writer_waits : records_of 6 trace ≡ Rec.Delivered 5 ∷ []
  reader_behind : records_of 7 trace ≡ turn_at 0 1 (Label.Ask lock Mode.Shared) [] ∷ []
  reads : records_of 11 trace ≡ turn_at 3 3 (Label.Load cell (pos 0)) [] ∷ []
  prints : records_of 12 trace
      ≡ turn_at 3 4 (Label.Line (48 ∷ [])) [] ∷ Rec.Out (proc 3) 4 (48 ∷ []) ∷ []
  one_gives : records_of 13 trace
      ≡ turn_at 3 5 (Label.Give lock) []
      ∷ Rec.Sent 6 (message_at 3 0 5 0 (Body.Release lock Mode.Shared 0 [])) ∷ []
  still_waits : records_of 14 trace ≡ Rec.Delivered 6 ∷ []
  writer_granted : records_of 19 trace
      ≡ Rec.Delivered 7 ∷ Rec.Sent 8 (message_at 0 1 1 1 (Body.Grant lock Mode.Excl 2 0 [])) ∷ []
  writer_gives : records_of 23 trace
      ≡ turn_at 1 4 (Label.Give lock) []
      ∷ Rec.Sent 9 (message_at 1 0 4 1 (Body.Release lock Mode.Excl 1 (stored ∷ []))) ∷ []
  home_granted : records_of 24 trace ≡ Rec.Delivered 9 ∷ []
  home_takes : records_of 25 trace ≡ turn_at 0 2 (Label.Take lock Mode.Shared 1) (stored ∷ []) ∷ []
  home_reads : records_of 26 trace ≡ turn_at 0 3 (Label.Load cell (pos 5)) [] ∷ []

are_records : AreRecords trace
unfolding setup units trace
are_records = record {
  first_reader = refl;
  second_reader = refl;
  writer_waits = refl;
  reader_behind = refl;
  reads = refl;
  prints = refl;
  one_gives = refl;
  still_waits = refl;
  writer_granted = refl;
  writer_gives = refl;
  home_granted = refl;
  home_takes = refl;
  home_reads = refl;
}

-- A worked run of 2 processors and a barrier: each stores to its own cell, crosses, loads the other's cell, and stores again, which only a phase that is over would allow.
use Rattle.std.specs.Prelude.{◌≡◌, ℕ, pos, zero, suc, ◌+◌, ◌-◌, List, [], ◌∷◌, ◌++◌, reverse, unwrap_or, refl}
use Rattle.dsm_base.specs.declared.names.Bar.{Bar}
use Rattle.dsm_base.specs.declared.names.Cell.{Cell}
use Rattle.dsm_base.specs.declared.names.Fault.{Fault}
use Rattle.dsm_base.specs.declared.act.Act.{Act}
use Rattle.dsm_base.specs.declared.label.Want.{Want}
use Rattle.dsm_base.specs.declared.label.Label.{Label}
use Rattle.dsm_base.specs.declared.setup.Object.{Object}
use Rattle.dsm_base.specs.declared.setup.Piece.{Piece}
use Rattle.dsm_base.specs.declared.setup.Setup.{Setup}
use Rattle.dsm_base.specs.Output.{line_text}
use Rattle.dsm_base.specs.Threads.{Semantics}
use Rattle.dsm_lines.specs.declared.list.Line.{Line}
use Rattle.dsm_msg.specs.declared.message.Body.{Body}
use Rattle.dsm_net.specs.declared.trace.Rec.{Rec}
use Rattle.dsm_net.specs.declared.trace.Group.{Group}
use Rattle.dsm_net.specs.Fits.{run_of}
use Rattle.dsm_net.proofs.Worked.{proc, steps, deliver, all_went, message_at, turn_at, records_of}

-- a thread of the example: whose it is, and how many steps it has made
record State : Type 0 where
  me : ℕ
  place : ℕ

abbrev bar : Bar
bar = record { 0 = 0 }

abbrev cell : ℕ → Cell
cell p = record { 0 = p }

-- a[me] = me + 1; barrier; load a[1 - me]; a[me] = 5 on line 6
abbrev want_at : ℕ → ℕ → Want
want_at me zero = Want.Store (cell me) (pos (me + 1)) 1
want_at me (suc zero) = Want.Arrive bar
want_at me (suc (suc zero)) = Want.Cross bar
want_at me (suc (suc (suc zero))) = Want.Load (cell (1 - me)) 1
want_at me (suc (suc (suc (suc zero)))) = Want.Store (cell me) (pos 5) 6
want_at me _ = Want.Over

abbrev threads : Semantics State
threads = record {
  want = λ s. want_at s.me s.place;
  text = λ s. [];
  after = λ s label. record s { place = s.place + 1 };
}

abbrev first : ℕ → State
first p = record { me = p; place = 0 }

-- a cell of one processor, to which it may store in every other epoch
abbrev owned : ℕ → Piece
owned p = record {
  object = Object.Bar bar;
  first = cell p;
  count = 1;
  owner = p;
  phase = 0;
  period = 2;
}

setup : Setup
setup = record {
  procs = 2;
  locks = 0;
  bars = 1;
  cells = 2;
  bindings = owned 0 ∷ owned 1 ∷ [];
  kept = refl;
}

-- in the third unit 0 waits for the other
units : List Act
units = reverse (
    steps 0 3 ++ steps 1 2 ++ deliver 1 0 ++ steps 0 1 ++ deliver 0 1 ++ steps 1 1 ++ steps 0 2 ++ steps 1 2)

trace : List Group
trace = (run_of setup first threads (all_went units)).groups

abbrev line_of : ℕ → Line
line_of p = record { number = p; values = pos (p + 1) ∷ [] }

-- what is printed at the fault
abbrev fault_text : List ℕ
fault_text = unwrap_or (line_text (Label.Stop Fault.Unbound 6)) []

-- the records of the units that tell most
record AreRecords (trace : List Group) : Type 0 where
  own_store : records_of 1 trace ≡ turn_at 0 1 (Label.Store (cell 0) (pos 1)) [] ∷ []
  own_arrival : records_of 2 trace ≡ turn_at 0 2 (Label.Arrive bar) [] ∷ []
  waits : records_of 3 trace ≡ []
  arrives : records_of 5 trace
      ≡ turn_at 1 2 (Label.Arrive bar) []
      ∷ Rec.Sent 1 (message_at 1 0 2 0 (Body.Arrive bar 0 (line_of 1 ∷ []))) ∷ []
  opens : records_of 6 trace
      ≡ Rec.Delivered 1
      ∷ Rec.Sent 2 (message_at 0 1 2 2 (Body.Opened bar 1 (line_of 0 ∷ []))) ∷ []
  manager_crosses : records_of 7 trace ≡ turn_at 0 3 (Label.Cross bar 1) (line_of 1 ∷ []) ∷ []
  comes : records_of 8 trace ≡ Rec.Delivered 2 ∷ []
  crosses : records_of 9 trace ≡ turn_at 1 3 (Label.Cross bar 1) (line_of 0 ∷ []) ∷ []
  manager_loads : records_of 10 trace ≡ turn_at 0 4 (Label.Load (cell 1) (pos 2)) [] ∷ []
  not_its_phase : records_of 11 trace
      ≡ turn_at 0 5 (Label.Stop Fault.Unbound 6) []
      ∷ Rec.Out (proc 0) 5 fault_text ∷ []
  loads : records_of 12 trace ≡ turn_at 1 4 (Label.Load (cell 0) (pos 1)) [] ∷ []

are_records : AreRecords trace
unfolding setup units trace
are_records = record {
  own_store = refl;
  own_arrival = refl;
  waits = refl;
  arrives = refl;
  opens = refl;
  manager_crosses = refl;
  comes = refl;
  crosses = refl;
  manager_loads = refl;
  not_its_phase = refl;
  loads = refl;
}

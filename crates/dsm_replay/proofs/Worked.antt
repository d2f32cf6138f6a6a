-- Worked: what reports answer.
use Rattle.std.specs.Prelude.{pos}
use Rattle.std.proofs.Common.{◌≡◌, ℕ, ◌==◌, if◌then◌else◌, List, [], ◌∷◌, Some, None, refl}
use Rattle.dsm_base.specs.declared.names.Lock.{Lock}
use Rattle.dsm_base.specs.declared.names.Bar.{Bar}
use Rattle.dsm_base.specs.declared.names.Mode.{Mode}
use Rattle.dsm_lines.specs.declared.list.Line.{Line}
use Rattle.dsm_lines.specs.declared.of_objects.Version.{Version}
use Rattle.dsm_msg.specs.declared.message.Report.{Report}
use Rattle.dsm_replay.specs.declared.replay.Input.{Input}
use Rattle.dsm_replay.specs.declared.replay.Waited.{Waited}
use Rattle.dsm_replay.specs.Inputs.{Told, replay_bound, input_told, lines_told}

abbrev lock : Lock
lock = record { 0 = 0 }

abbrev bar : Bar
bar = record { 0 = 0 }

abbrev line : ℕ → ℕ → Line
line number value = record { number = number; values = pos value ∷ [] }

abbrev made : ℕ → List Line → Version
made version lines = record { lock = lock; version = version; lines = lines }

abbrev no_report : Report
no_report = record { grants = []; openings = []; records = []; versions = []; arrivals = []; locks = []; bars = [] }

-- A home printed in turn 6 behind its own take of turn 2, of which another keeps the record.

abbrev home : Told
home = record {
  me = 0;
  procs = 2;
  reports = λ q. if q == 1 then Some (record no_report { records = record { turn = 2; lock = lock; version = 0 } ∷ [] }) else None;
}

up_to_its_line : replay_bound 0 6 6 ≡ 6
up_to_its_line = refl

takes_again : input_told home 2 (Waited.Take lock Mode.Excl) ≡ Some (Input.Take lock 0)
takes_again = refl

nothing_newer : lines_told home (Input.Take lock 0) 0 ≡ []
nothing_newer = refl

no_take_later : input_told home 3 (Waited.Take lock Mode.Excl) ≡ None
no_take_later = refl

-- Another has made versions 1 and 3 of a lock, and a third has made version 2 and was told the grant at version 2.

abbrev reader : Told
reader = record {
  me = 0;
  procs = 3;
  reports = λ q.
      if q == 1
      then Some (record no_report { versions = made 1 (line 0 1 ∷ line 1 2 ∷ []) ∷ made 3 (line 0 31 ∷ []) ∷ [] })
      else if q == 2
      then Some (record no_report {
        grants = record { turn = 5; lock = lock; mode = Mode.Excl; version = 2 } ∷ [];
        versions = made 2 (line 0 11 ∷ []) ∷ [];
      })
      else None;
}

-- the version of the grant, not the newest one
takes_the_granted : input_told reader 5 (Waited.Take lock Mode.Excl) ≡ Some (Input.Take lock 2)
takes_the_granted = refl

newest_of_each : lines_told reader (Input.Take lock 2) 0 ≡ line 0 11 ∷ line 1 2 ∷ []
newest_of_each = refl

-- lines of versions that the copy has aren't brought again
only_newer : lines_told reader (Input.Take lock 2) 1 ≡ line 0 11 ∷ []
only_newer = refl

-- A manager whose barrier both others have come to, and one whose barrier one hasn't.

abbrev arrived : ℕ → ℕ → Report
arrived number value = record no_report { arrivals = record { bar = bar; epoch = 0; lines = line number value ∷ [] } ∷ [] }

abbrev manager : Report → Told
manager third = record { me = 0; procs = 3; reports = λ q. if q == 1 then Some (arrived 1 2) else if q == 2 then Some third else None }

crosses : input_told (manager (arrived 2 3)) 3 (Waited.Cross bar 1) ≡ Some (Input.Cross bar 1)
crosses = refl

lines_of_both : lines_told (manager (arrived 2 3)) (Input.Cross bar 1) 0 ≡ line 1 2 ∷ line 2 3 ∷ []
lines_of_both = refl

waits : input_told (manager no_report) 3 (Waited.Cross bar 1) ≡ None
waits = refl

not_the_next : input_told (manager (arrived 2 3)) 3 (Waited.Cross bar 2) ≡ None
not_the_next = refl

-- When a trace fits the units of a schedule. Units and traces have the newest first.
use Rattle.std.specs.Prelude.{◌≡◌, ◌≢◌, ℕ, ◌+◌, ◌<◌, List, [], ◌∷◌, length, map}
use Rattle.dsm_base.specs.declared.act.Act.{Act}
use Rattle.dsm_base.specs.declared.setup.Setup.{Setup}
use Rattle.dsm_base.specs.Threads.{Semantics}
use Rattle.dsm_net.specs.declared.trace.Rec.{Rec}
use Rattle.dsm_net.specs.declared.trace.Group.{Group}
use Rattle.dsm_net.specs.Net.{Net, start_net}
use Rattle.dsm_net.specs.Units.{Outcome, Made, unit_of}

-- a unit that was done, and what it left open
pub record Done : Type 0 where
  pub act : Act
  pub outcome : Outcome

-- what units have made: what the world holds, and the groups of their records
pub record Ran (S : Type 0) : Type 0 where
  pub net : Net S
  pub groups : List Group

-- groups with the records of one more unit; a unit without records adds none
abbrev pub with_unit : ℕ → List Rec → List Group → List Group
with_unit number [] before = before
with_unit number (one ∷ others) before = record { unit = number; records = one ∷ others } ∷ before

-- a run with one unit more
abbrev pub ran_after : {S : Type 0} → Ran S → ℕ → Made S → Ran S
ran_after ran number unit = record { net = unit.net; groups = with_unit number unit.records ran.groups }

-- what units make one after the other
abbrev pub run_of : {S : Type 0} → Setup → (ℕ → S) → Semantics S → List Done → Ran S
run_of setup first threads [] = record { net = start_net first; groups = [] }
run_of setup first threads (done ∷ before) =
    let ran = run_of setup first threads before in
    ran_after ran (length before + 1) (unit_of setup threads ran.net done.act done.outcome)

-- the acts of what was done
abbrev pub acts_of : List Done → List Act
acts_of done = map (λ one. one.act) done

-- the trace is what these units make, with some outcomes
pub record FitsUnits {S : Type 0} (setup : Setup) (first : ℕ → S) (threads : Semantics S) (acts : List Act) (trace : List Group) : Type 0 where
  pub done : List Done
  pub same_acts : acts_of done ≡ acts
  pub is_trace : (run_of setup first threads done).groups ≡ trace

-- a unit names processors of the setup, and a message goes from one to another
abbrev pub IsWithin : Setup → Act → Type 0
IsWithin setup (Act.Step p) = p.0 < setup.procs
IsWithin setup (Act.Deliver p q) = (p.0 < setup.procs) × (q.0 < setup.procs) × (p.0 ≢ q.0)
IsWithin setup (Act.Ckpt p) = p.0 < setup.procs
IsWithin setup (Act.Block p) = p.0 < setup.procs
IsWithin setup (Act.Crash p) = p.0 < setup.procs
IsWithin setup (Act.Torn p kept) = p.0 < setup.procs
IsWithin setup (Act.Restart p) = p.0 < setup.procs

-- For what threads have stopped, as a trace tells it.
use Rattle.std.specs.Prelude.{ℕ, ◌==◌, if◌then◌else◌, List, [], ◌∷◌, Option, Some, None}
use Rattle.std.specs.Option.{option_or}
use Rattle.dsm_base.specs.declared.label.Label.{Label}
use Rattle.dsm_net.specs.declared.trace.Rec.{Rec}
use Rattle.dsm_net.specs.declared.trace.Group.{Group}
use Rattle.dsm_state.specs.declared.stop.Stop.{Stop}

-- the stop that a record tells of, if it is one of p
abbrev pub stop_told : ℕ → Rec → Option Stop
stop_told p (Rec.Turn q turn (Label.Stop fault line) lines) =
    if q.0 == p then Some record { fault = fault; line = line } else None
stop_told p other = None

-- the last stop of p in records, and else the one before them
abbrev pub stop_after : ℕ → Option Stop → List Rec → Option Stop
stop_after p before [] = before
stop_after p before (one ∷ others) = stop_after p (option_or (stop_told p one) before) others

-- the last stop of p in groups, and else the one before them
abbrev pub last_stop : ℕ → Option Stop → List Group → Option Stop
last_stop p before [] = before
last_stop p before (group ∷ others) = last_stop p (stop_after p before group.records) others

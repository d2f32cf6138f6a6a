-- What the worked runs have in common: how their units and records are written.
use Rattle.std.specs.Prelude.{ℕ, ◌==◌, if◌then◌else◌, List, [], ◌∷◌, map, replicate}
use Rattle.dsm_base.specs.declared.names.Proc.{Proc}
use Rattle.dsm_base.specs.declared.act.Act.{Act}
use Rattle.dsm_base.specs.declared.label.Label.{Label}
use Rattle.dsm_lines.specs.declared.list.Line.{Line}
use Rattle.dsm_msg.specs.declared.message.Body.{Body}
use Rattle.dsm_msg.specs.declared.message.Msg.{Msg}
use Rattle.dsm_net.specs.declared.trace.Rec.{Rec}
use Rattle.dsm_net.specs.declared.trace.Group.{Group}
use Rattle.dsm_net.specs.Units.{went}
use Rattle.dsm_net.specs.Fits.{Done}

abbrev pub proc : ℕ → Proc
proc p = record { 0 = p }

-- so many steps of a processor
abbrev pub steps : ℕ → ℕ → List Act
steps p count = replicate count (Act.Step (proc p))

abbrev pub deliver : ℕ → ℕ → List Act
deliver p q = Act.Deliver (proc p) (proc q) ∷ []

-- units in which every store went well
abbrev pub all_went : List Act → List Done
all_went acts = map (λ act. record { act = act; outcome = went }) acts

-- a message with the turn of its sender, and what that has seen of the receiver
abbrev pub message_at : ℕ → ℕ → ℕ → ℕ → Body → Msg
message_at from to turn seen body = record {
  from = proc from;
  to = proc to;
  carry = record { turn = turn; seen = seen; records = []; lines = [] };
  body = body;
}

abbrev pub turn_at : ℕ → ℕ → Label → List Line → Rec
turn_at p number label lines = Rec.Turn (proc p) number label lines

-- the records of a unit in a trace
abbrev pub records_of : ℕ → List Group → List Rec
records_of unit [] = []
records_of unit (group ∷ before) =
    if group.unit == unit then group.records else records_of unit before

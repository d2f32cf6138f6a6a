-- One layer of a body of each kind.
use Rattle.std.proofs.Common.{◌≡◌, ◌∙◌, ℕ, List, ap}
use Rattle.dsm_base.specs.declared.names.Lock.{Lock}
use Rattle.dsm_base.specs.declared.names.Bar.{Bar}
use Rattle.dsm_base.specs.declared.names.Mode.{Mode}
use Rattle.dsm_base.specs.declared.lists.LockNumber.{LockNumber}
use Rattle.dsm_base.specs.declared.lists.BarNumber.{BarNumber}
use Rattle.dsm_lines.specs.declared.list.Line.{Line}
use Rattle.dsm_msg.specs.declared.message.Report.{Report}
use Rattle.dsm_msg.specs.declared.message.TurnBody.{TurnBody}
use Rattle.dsm_msg.specs.declared.message.Body.TheVariants as bodies
use Rattle.dsm_msg.specs.declared.message.Body.TheOpen as layer
use Rattle.dsm_msg.specs.declared.message.Body.TheViews.{out-Body, roll-Body, out-roll-Body}

pub out_req : (lock : Lock) (mode : Mode) (have : ℕ) → out-Body (bodies.Req lock mode have) ≡ layer.Req lock mode have
unfolding roll-Body out-Body denote.Hole.Carrier.roll
out_req lock mode have = ap out-Body (bodies.rolls-Req lock mode have) ∙ out-roll-Body (layer.Req lock mode have)

pub out_grant : (lock : Lock) (mode : Mode) (turn version : ℕ) (lines : List Line) → out-Body (bodies.Grant lock mode turn version lines) ≡ layer.Grant lock mode turn version lines
unfolding roll-Body out-Body denote.Hole.Carrier.roll
out_grant lock mode turn version lines = ap out-Body (bodies.rolls-Grant lock mode turn version lines) ∙ out-roll-Body (layer.Grant lock mode turn version lines)

pub out_release : (lock : Lock) (mode : Mode) (version : ℕ) (lines : List Line) → out-Body (bodies.Release lock mode version lines) ≡ layer.Release lock mode version lines
unfolding roll-Body out-Body denote.Hole.Carrier.roll
out_release lock mode version lines = ap out-Body (bodies.rolls-Release lock mode version lines) ∙ out-roll-Body (layer.Release lock mode version lines)

pub out_arrive : (bar : Bar) (epoch : ℕ) (lines : List Line) → out-Body (bodies.Arrive bar epoch lines) ≡ layer.Arrive bar epoch lines
unfolding roll-Body out-Body denote.Hole.Carrier.roll
out_arrive bar epoch lines = ap out-Body (bodies.rolls-Arrive bar epoch lines) ∙ out-roll-Body (layer.Arrive bar epoch lines)

pub out_opened : (bar : Bar) (epoch : ℕ) (lines : List Line) → out-Body (bodies.Opened bar epoch lines) ≡ layer.Opened bar epoch lines
unfolding roll-Body out-Body denote.Hole.Carrier.roll
out_opened bar epoch lines = ap out-Body (bodies.rolls-Opened bar epoch lines) ∙ out-roll-Body (layer.Opened bar epoch lines)

pub out_pruned : (turn : ℕ) (versions : List LockNumber) (crossings : List BarNumber) → out-Body (bodies.Pruned turn versions crossings) ≡ layer.Pruned turn versions crossings
unfolding roll-Body out-Body denote.Hole.Carrier.roll
out_pruned turn versions crossings = ap out-Body (bodies.rolls-Pruned turn versions crossings) ∙ out-roll-Body (layer.Pruned turn versions crossings)

pub out_note : out-Body bodies.Note ≡ layer.Note
unfolding roll-Body out-Body denote.Hole.Carrier.roll
out_note = ap out-Body bodies.rolls-Note ∙ out-roll-Body layer.Note

pub out_ack : out-Body bodies.Ack ≡ layer.Ack
unfolding roll-Body out-Body denote.Hole.Carrier.roll
out_ack = ap out-Body bodies.rolls-Ack ∙ out-roll-Body layer.Ack

pub out_resync : (list : List TurnBody) → out-Body (bodies.Resync list) ≡ layer.Resync list
unfolding roll-Body out-Body denote.Hole.Carrier.roll
out_resync list = ap out-Body (bodies.rolls-Resync list) ∙ out-roll-Body (layer.Resync list)

pub out_report : (report : Report) → out-Body (bodies.Report report) ≡ layer.Report report
unfolding roll-Body out-Body denote.Hole.Carrier.roll
out_report report = ap out-Body (bodies.rolls-Report report) ∙ out-roll-Body (layer.Report report)

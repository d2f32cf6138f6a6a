-- How a manager opens a barrier.
use Rattle.std.specs.Prelude.{ℕ, Bool, ◌==◌, not, List, ◌++◌, map, filter}
use Rattle.dsm_base.specs.declared.names.Bar.{Bar}
use Rattle.dsm_base.specs.declared.setup.Setup.{Setup}
use Rattle.dsm_base.specs.Family.{update}
use Rattle.dsm_lines.specs.declared.of_objects.Opening.{Opening}
use Rattle.dsm_lines.specs.declared.of_objects.MailOpening.{MailOpening}
use Rattle.dsm_msg.specs.declared.message.Body.{Body}
use Rattle.dsm_msg.specs.declared.message.Msg.{Msg}
use Rattle.dsm_barrier.specs.BarrierStates.{openings_due, opened_where_due}
use Rattle.dsm_net.specs.Processor.{Processor}
use Rattle.dsm_net.specs.Messages.{message}

-- an opening as it comes to the manager's own mailbox
abbrev pub own_opening : Opening → MailOpening
own_opening one = record { turn = one.turn; bar = one.bar; epoch = one.epoch; lines = one.lines }

-- the same as a message to another processor
abbrev pub opening_message : {S : Type 0} → ℕ → Processor S → Opening → Msg
opening_message me s one = message me s one.to.0 (Body.Opened one.bar one.epoch one.lines)

-- whether an opening is for this processor
abbrev pub is_to : ℕ → Opening → Bool
is_to p one = one.to.0 == p

-- the openings of a barrier for all processors, where all have come to it
abbrev pub openings_now : {S : Type 0} → Setup → Processor S → Bar → List Opening
openings_now setup s bar = openings_due setup.procs bar (s.barriers bar.0)

-- the manager once it has opened a barrier where all have come; its own opening comes to its mailbox
abbrev pub manager_after_openings : {S : Type 0} → Setup → ℕ → Processor S → Bar → Processor S
manager_after_openings setup me s bar = record s {
  barriers = update s.barriers bar.0 (opened_where_due setup.procs (s.barriers bar.0));
  mail = record s.mail {
    openings = s.mail.openings ++ map own_opening (filter (is_to me) (openings_now setup s bar));
  };
}

-- the messages by which it does
abbrev pub opening_messages : {S : Type 0} → Setup → ℕ → Processor S → Bar → List Msg
opening_messages setup me s bar =
    map (opening_message me s) (filter (λ one. not (is_to me one)) (openings_now setup s bar))

-- What a unit makes of what a processor does.
use Rattle.std.specs.Prelude.{ℕ, Bool, if◌then◌else◌, List, [], ◌∷◌, IfSome}
use Rattle.std.specs.List.{All}
use Rattle.dsm_base.specs.declared.setup.Setup.{Setup}
use Rattle.dsm_msg.specs.declared.message.Msg.{Msg}
use Rattle.dsm_net.specs.declared.trace.Rec.{Rec}
use Rattle.dsm_net.specs.Messages.{processor_named}
use Rattle.dsm_net.specs.Units.{Made, then_made, with_messages, with_lines_out, with_note}
use Rattle.dsm_processor.specs.declared.node.Effects.{Effects}
use Rattle.dsm_network.specs.World.{IsSendable}

-- all that it sends can be sent
pub record AreSendable (setup : Setup) (effects : Effects) : Type 0 where
  pub sends : All (IsSendable setup) effects.sends
  pub rebuilt : All (IsSendable setup) effects.rebuilt
  pub note : IfSome effects.note (IsSendable setup)

-- its replay ends with this turn, if it does, and what it sends then is sent
abbrev pub with_ended_replay : {S : Type 0} → Made S → ℕ → ℕ → Bool → List Msg → Made S
with_ended_replay unit p turn replayed rebuilt =
    if replayed
    then with_messages (then_made unit unit.net (Rec.Replayed (processor_named p) turn ∷ [])) rebuilt
    else unit

-- what p does in a unit after which it has made so many turns, where what came to it came from here
abbrev pub with_effect_of : {S : Type 0} → Made S → ℕ → ℕ → ℕ → Effects → Made S
with_effect_of unit from p turns effects =
    let sent = with_messages (with_lines_out unit from effects.carried) effects.sends in
    let rebuilt = with_ended_replay sent p turns effects.replayed effects.rebuilt in
    with_note (with_lines_out rebuilt p effects.outs) effects.note

use Rattle.std.proofs.Common.{◌≡◌, ◌∙◌, sym, subst, Ok}
use Rattle.dsm_msg.specs.Answers.{Spells}
use Rattle.dsm_channels.specs.Packets.{message_in}
use Rattle.dsm_channels.proofs.Packets.{given_back}
use Rattle.dsm_channels.proofs.packet.Packet.letter.Goals as goal

pub returns-in-Ok : goal.returns-in-Ok
returns-in-Ok c =
    let sent = message_in c.self.inside.bytes.items in
    let spells : Spells c.as_slice.result.now sent = subst (λ bytes. Spells bytes sent) (sym c.as_slice.ensures.value) c.self.invariant in
    let same : c.in-Ok.msg ≡ sent = given_back c.read_msg.result c.in-Ok.msg sent c.in-Ok.is (c.read_msg.ensures.only (Ok sent) spells) in
    (λ i. record { number = c.self.inside.number; msg = same i }) ∙ c.self.view_is

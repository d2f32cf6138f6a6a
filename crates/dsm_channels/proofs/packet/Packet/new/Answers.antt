use Rattle.std.proofs.Common.{◌≡◌, ◌++◌, ap, ◌∙◌}
use Rattle.dsm_msg.specs.Spelling.{spelling}
use Rattle.dsm_channels.proofs.Packets.{read_back, spells}
use Rattle.dsm_channels.proofs.packet.Packet.new.Goals as goal

pub invariant_of-result : goal.invariant_of-result
invariant_of-result c =
    spells c.write_msg.new.out.items c.args.msg.now (c.in_ok-write_msg.ensures.message c.requires)
    (c.in_ok-write_msg.ensures.written ∙ ap (λ before. before ++ spelling c.args.msg.now) c.new-bytes.ensures.items)

pub returns : goal.returns
returns c =
    let spelled : c.write_msg.new.out.items ≡ spelling c.args.msg.now =
    c.in_ok-write_msg.ensures.written ∙ ap (λ before. before ++ spelling c.args.msg.now) c.new-bytes.ensures.items in
    λ i. record { number = c.args.number; msg = read_back c.write_msg.new.out.items c.args.msg.now (c.in_ok-write_msg.ensures.message c.requires) spelled i }

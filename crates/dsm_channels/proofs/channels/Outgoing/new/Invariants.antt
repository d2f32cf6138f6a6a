use Rattle.std.proofs.Common.{◌≡◌, [], replicate}
use Rattle.dsm_channels.proofs.channels.Outgoing.new.Given as goal

abbrev pub invariant-loop-receiver : goal.invariant-loop-receiver
invariant-loop-receiver l = l.channels.items ≡ replicate l._receiver []

use Rattle.std.proofs.Common.{◌≡◌, [], replicate}
use Rattle.dsm_channels.proofs.channels.Channels.new.Given as goal

abbrev pub invariant-loop-sender : goal.invariant-loop-sender
invariant-loop-sender l = l.senders.items ≡ replicate l._sender (replicate l.procs [])

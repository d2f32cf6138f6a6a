use Rattle.std.proofs.Common.{◌≡◌, drop}
use Rattle.dsm_segments.proofs.segment.drop_front.Given as goal

abbrev pub invariant-loop : goal.invariant-loop
invariant-loop g l = l.entries ≡ drop l.counter l.fn.entries

use Rattle.std.proofs.Common.{◌≡◌}
use Rattle.dsm_barrier.specs.Barriers.{IsBarrierOf}
use Rattle.dsm_barrier.proofs.Arriving.{AreTaken}
use Rattle.dsm_barrier.proofs.barrier.Barrier.begin_epoch.Given as goal

-- of the processors gone over the oldest arrival is taken away
abbrev pub invariant-loop-proc : goal.invariant-loop-proc
invariant-loop-proc l = record {
  whole : IsBarrierOf l.procs l.self;
  opened : l.self.opened ≡ l.initial.self.opened;
  taken : AreTaken l.initial.self.waiting.items l.proc l.self.waiting.items;
}

use Rattle.std.proofs.Common.{◌≡◌, ℕ, map, length}
use Rattle.std.specs.List.{All}
use Rattle.dsm_base.specs.Family.{family_of}
use Rattle.dsm_barrier.specs.BarrierStates.{start_barrier}
use Rattle.dsm_barrier.specs.Barriers.{barrier_of, IsBarrierOf}
use Rattle.dsm_barrier.proofs.manager.start_barriers.Given as goal

-- to the barriers gone over nobody has come
abbrev pub invariant-loop-bar : goal.invariant-loop-bar
invariant-loop-bar l = record {
  count : length l.barriers.items ≡ l._bar;
  states : (bar : ℕ) → family_of (λ b. start_barrier) (map barrier_of l.barriers.items) bar ≡ start_barrier;
  each : All (IsBarrierOf l.procs) l.barriers.items;
}

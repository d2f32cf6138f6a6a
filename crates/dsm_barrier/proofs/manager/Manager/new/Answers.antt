use Rattle.std.proofs.Math.Path.{fun_ext}
use Rattle.dsm_barrier.proofs.manager.Manager.new.Goals as goal

pub returns-clause-barriers : goal.returns-clause-barriers
returns-clause-barriers c = fun_ext (λ bar. c.in_ok-barriers.ensures.states bar)

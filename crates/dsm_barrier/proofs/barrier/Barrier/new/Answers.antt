use Rattle.std.proofs.Common.{◌≡◌, ℕ, List, []}
use Rattle.std.proofs.Math.Path.{fun_ext}
use Rattle.dsm_base.specs.Family.{family_of}
use Rattle.dsm_barrier.specs.declared.arrived.Arrived.{Arrived}
use Rattle.dsm_barrier.proofs.barrier.Barrier.new.Goals as goal

pub returns-clause-state : goal.returns-clause-state
returns-clause-state c =
    let none : family_of (λ q. []) c.in_ok-waiting.waiting.items ≡ (λ p. []) = fun_ext (λ p. c.in_ok-waiting.ensures.none p) in
    λ i. record { opened = 0; waiting = none i }

pub returns-clause-whole : goal.returns-clause-whole
returns-clause-whole c = record { count = c.in_ok-waiting.ensures.count; lines = c.in_ok-waiting.ensures.lines }

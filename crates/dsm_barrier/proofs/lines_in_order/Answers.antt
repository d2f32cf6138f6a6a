use Rattle.dsm_barrier.proofs.Ordered.{order_rises, order_first}
use Rattle.dsm_barrier.proofs.lines_in_order.Goals as goal

pub returns-clause-rising : goal.returns-clause-rising
returns-clause-rising c = order_rises

pub returns-clause-first : goal.returns-clause-first
returns-clause-first c = order_first

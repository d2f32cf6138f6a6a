use Rattle.std.proofs.Common.{arith}
use Rattle.std.proofs.lemmas.Grind.{common_steps}
use Rattle.std.proofs.lemmas.List.Edits.{map_over_more}
use Rattle.dsm_base.specs.Plan.{counted_one}
use Rattle.dsm_base.proofs.plan.FaultPlan.count.Goals as goal

pub loop-fault-preserved : goal.loop-fault-preserved
loop-fault-preserved c = grind (arith, common_steps, map_over_more (counted_one c.args.call))

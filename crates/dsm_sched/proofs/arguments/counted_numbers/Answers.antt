use Rattle.std.proofs.Common.{sym}
use Rattle.dsm_sched.proofs.ArgumentCounts.{few_for_counted, many_for_counted}
use Rattle.dsm_sched.proofs.arguments.counted_numbers.Goals as goal

pub returns-in_default : goal.returns-in_default
returns-in_default c = sym (few_for_counted c.args.words.now c.in_default.len_below)

pub returns-in_default-2 : goal.returns-in_default-2
returns-in_default-2 c = sym (many_for_counted c.args.words.now c.in_default.len_at_least)

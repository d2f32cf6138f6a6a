use Rattle.std.proofs.Common.{sym}
use Rattle.dsm_sched.proofs.ArgumentCounts.{few_for_two, many_for_two}
use Rattle.dsm_sched.proofs.arguments.two_numbers.Goals as goal

pub returns-in_default : goal.returns-in_default
returns-in_default c = sym (few_for_two c.args.words.now c.in_default.len_below)

pub returns-in_default-2 : goal.returns-in_default-2
returns-in_default-2 c = sym (many_for_two c.args.words.now c.in_default.len_at_least)

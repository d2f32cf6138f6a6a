use Rattle.std.proofs.Common.{◌≡◌, slice_get, true, rules}
use Rattle.std.specs.Cmp.{first_so, second_so}
use Rattle.std.specs.List.{list_all}
use Rattle.dsm_base.specs.Setups.{is_proc_count}
use Rattle.dsm_sched.specs.Picks.{is_entry, picked_by}
use Rattle.dsm_sched.proofs.Rounds.{below}
use Rattle.dsm_sched.proofs.picks.Picks.pick.Goals as goal

pub returns-clause-below : goal.returns-clause-below
returns-clause-below c =
    let picks = c.args.self.now in
    let entries : list_all (is_entry picks.procs) picks.entries ≡ true = second_so (is_proc_count picks.procs) _ (first_so _ _ picks.kept) in
    let found : c.copied.result ≡ slice_get (picked_by picks.procs picks.entries) c.args.index = search rules in
    rw found (below picks.procs picks.entries c.args.index entries)

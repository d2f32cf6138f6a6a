use Rattle.std.proofs.Common.{◌≡◌, ◌+◌, ◌≤◌, length, map, true}
use Rattle.std.specs.List.{list_all}
use Rattle.dsm_sched.specs.Words.{rows_left}
use Rattle.dsm_sched.specs.Entries.{all_or_refusal}
use Rattle.dsm_sched.proofs.Entries.{behind}
use Rattle.dsm_sched.specs.Picks.{is_entry}
use Rattle.dsm_sched.specs.PickTexts.{pick_at}
use Rattle.dsm_sched.proofs.picks.reader.read_entries.Given as goal

-- the entries known so far and those of the rows that are left are the text's
abbrev pub invariant-rows : goal.invariant-rows
invariant-rows l = record {
  said : behind l.entries (all_or_refusal (map (pick_at l.procs) (rows_left l.rows))) ≡ all_or_refusal (map (pick_at l.procs) (rows_left l.fn.rows));
  kept : list_all (is_entry l.procs) l.entries ≡ true;
  few : length l.entries + length (rows_left l.rows) ≤ length (rows_left l.fn.rows);
}

abbrev pub decreases-rows : goal.decreases-rows
decreases-rows l = length (rows_left l.rows)

use Rattle.std.proofs.Common.{◌≡◌, ◌+◌, ◌≤◌, ◌++◌, List, [], length, reverse, true, None}
use Rattle.std.specs.List.{list_all}
use Rattle.dsm_sched.specs.Words.{rows_left}
use Rattle.dsm_sched.specs.Entries.{all_or_refusal}
use Rattle.dsm_sched.specs.declared.schedule.Entry.{Entry}
use Rattle.dsm_sched.specs.Schedules.{is_entry}
use Rattle.dsm_sched.specs.ScheduleTexts.{said_behind}
use Rattle.dsm_sched.specs.Built.{is_built, unbuilt_line}
use Rattle.dsm_sched.proofs.Entries.{behind}
use Rattle.dsm_sched.proofs.CrashRules.{IsBehind}
use Rattle.dsm_sched.proofs.ScheduleRows.{or_else}
use Rattle.dsm_sched.proofs.schedule.reader.read_entries.Given as goal

-- the entries known so far and those of the rows that are left are the text's
abbrev pub invariant-rows : goal.invariant-rows
invariant-rows l = record {
  said : behind l.entries (all_or_refusal (said_behind l.procs (reverse l.entries) (rows_left l.rows))) ≡ all_or_refusal (said_behind l.procs [] (rows_left l.fn.rows));
  kept : list_all (is_entry l.procs) l.entries ≡ true;
  few : length l.entries + length (rows_left l.rows) ≤ length (rows_left l.fn.rows);
  crashes : IsBehind l.crashes (reverse l.entries);
  unbuilt : (more : List Entry) → or_else l.unbuilt (unbuilt_line (rows_left l.rows) more) ≡ unbuilt_line (rows_left l.fn.rows) (l.entries ++ more);
  built : l.unbuilt ≡ None → list_all is_built l.entries ≡ true;
}

abbrev pub decreases-rows : goal.decreases-rows
decreases-rows l = length (rows_left l.rows)

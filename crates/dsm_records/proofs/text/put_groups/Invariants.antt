use Rattle.std.proofs.Common.{◌≡◌, ◌++◌, drop}
use Rattle.dsm_records.specs.Texts.{trace_text}
use Rattle.dsm_records.proofs.text.put_groups.Given as goal

-- what is written so far stands before the groups that are left
abbrev pub invariant-loop-group : goal.invariant-loop-group
invariant-loop-group l =
    l.out.items ++ trace_text (drop l.group-index l.groups) ≡ l.fn.out.items ++ trace_text l.groups

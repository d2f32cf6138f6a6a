use Rattle.std.proofs.Common.{◌≡◌, ◌++◌, drop}
use Rattle.dsm_records.specs.Texts.{records_text}
use Rattle.dsm_records.proofs.text.put_records.Given as goal

-- what is written so far stands before the records that are left
abbrev pub invariant-loop-record : goal.invariant-loop-record
invariant-loop-record l =
    l.out.items ++ records_text (drop l.record-index l.records) ≡ l.fn.out.items ++ records_text l.records

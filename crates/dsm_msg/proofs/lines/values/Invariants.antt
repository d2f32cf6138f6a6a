use Rattle.std.proofs.Common.{◌≡◌, ◌-◌, None, length}
use Rattle.dsm_fields.specs.Reading.{entries_at}
use Rattle.dsm_msg.specs.Reading.{value_at}
use Rattle.dsm_fields.proofs.Loops.{last_of, with_front}
use Rattle.dsm_msg.proofs.lines.values.Given as goal

abbrev pub invariant-loop : goal.invariant-loop
invariant-loop l = record {
  read : with_front l.values (entries_at value_at (last_of l.values) (l.count - l.counter) l.rest) ≡ entries_at value_at None l.count l.bytes;
  number : length l.values ≡ l.counter;
}

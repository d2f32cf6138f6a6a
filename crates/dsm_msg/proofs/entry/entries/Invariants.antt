use Rattle.std.proofs.Common.{◌≡◌, ◌-◌, None}
use Rattle.dsm_fields.specs.Reading.{entries_at}
use Rattle.dsm_fields.proofs.Loops.{last_of, with_front}
use Rattle.dsm_msg.proofs.entry.entries.Given as goal

abbrev pub invariant-loop : goal.invariant-loop
invariant-loop g l =
    with_front l.items.items (entries_at g.T.Entry.entry_at (last_of l.items.items) (l.count - l.counter) l.rest)
    ≡ entries_at g.T.Entry.entry_at None l.count l.bytes

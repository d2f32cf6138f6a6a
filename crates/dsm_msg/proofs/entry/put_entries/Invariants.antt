use Rattle.std.proofs.Common.{Option, take}
use Rattle.dsm_fields.specs.Fields.{Appends, entries}
use Rattle.dsm_msg.proofs.entry.put_entries.Given as goal

abbrev pub invariant-loop-item : goal.invariant-loop-item
invariant-loop-item g l = (last : Option g.row.T.Denot) → Appends (entries g.T.Entry.entry_fields last (take l.item-index l.items)) l.fn.out.items l.out.items

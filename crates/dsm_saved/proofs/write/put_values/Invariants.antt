use Rattle.std.proofs.Common.{Option, take, ℕ, ℤ}
use Rattle.dsm_fields.specs.Fields.{Appends, numbered}
use Rattle.dsm_code.specs.declared.parts.Row.{Row}
use Rattle.dsm_saved.specs.Spelling.{value_fields}
use Rattle.dsm_saved.proofs.write.put_values.Given as goal

-- the values gone over are written
abbrev pub invariant-loop-value : goal.invariant-loop-value
invariant-loop-value l =
    (row : Option Row) (count at : ℕ) (last : Option ℤ)
    → Appends (numbered (value_fields row count) at last (take l.value-index l.values)) l.fn.out.items l.out.items

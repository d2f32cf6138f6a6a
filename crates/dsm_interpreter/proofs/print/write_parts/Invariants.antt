use Rattle.std.proofs.Common.{◌≡◌, ◌++◌, map, drop}
use Rattle.dsm_check.specs.Views.{view_part}
use Rattle.dsm_semantics.specs.Within.{Extent, ArePartsWithin}
use Rattle.dsm_semantics.specs.Semantics.{parts_text}
use Rattle.dsm_interpreter.proofs.Lines.{Remain}
use Rattle.dsm_interpreter.proofs.print.write_parts.Given as goal

abbrev pub invariant-loop-part : goal.invariant-loop-part
invariant-loop-part l = record {
  text : l.line.items ++ parts_text (map view_part (drop l.part-index l.parts)) l.values ≡ l.fn.line.items ++ parts_text (map view_part l.fn.parts) l.fn.values;
  grows : (extent : Extent) → ArePartsWithin extent (map view_part l.fn.parts)
      → Remain extent (map view_part l.fn.parts) (map view_part (drop l.part-index l.parts)) l.fn.line.items l.line.items;
}

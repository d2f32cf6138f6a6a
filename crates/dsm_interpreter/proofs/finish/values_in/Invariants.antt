use Rattle.std.proofs.Common.{◌≡◌, ◌+◌, ◌≤◌, map, drop}
use Rattle.dsm_check.specs.Views.{view_part}
use Rattle.dsm_semantics.specs.Semantics.{values_in}
use Rattle.dsm_interpreter.proofs.finish.values_in.Given as goal

abbrev pub invariant-loop-part : goal.invariant-loop-part
invariant-loop-part l = record {
  few : l.count ≤ l.part-index;
  counted : l.count + values_in (map view_part (drop l.part-index l.parts)) ≡ values_in (map view_part l.parts);
}

use Rattle.std.proofs.Common.{◌≡◌, ◌+◌, ◌≤◌, drop}
use Rattle.dsm_code.specs.Programs.{values_in}
use Rattle.dsm_code.proofs.validity.values_in.Given as goal

abbrev pub invariant-loop-part : goal.invariant-loop-part
invariant-loop-part l = record {
  few : l.count ≤ l.part-index;
  counted : l.count + values_in (drop l.part-index l.parts) ≡ values_in l.parts;
}

use Rattle.std.proofs.Common.{◌≡◌, ◌++◌, ◌≤◌, length, take, drop}
use Rattle.std.specs.List.{sum_by}
use Rattle.dsm_code.specs.Programs.{parts_text}
use Rattle.dsm_code.specs.Valid.{part_bytes}
use Rattle.dsm_machine.proofs.print.Line.set.Given as goal

-- what is left comes behind what is written, and leaves room
abbrev pub invariant-loop-part : goal.invariant-loop-part
invariant-loop-part l = record {
  text : l.self ++ parts_text (drop l.part-index l.parts) l.left ≡ parts_text l.parts l.values;
  room : length l.self ≤ sum_by part_bytes (take l.part-index l.parts);
}

use Rattle.std.proofs.Common.{◌≡◌, ◌∷◌, length, map, take, reverse}
use Rattle.dsm_saved.specs.States.{opened, going_with}
use Rattle.dsm_machine.specs.States.{state_in, IsRoomy}
use Rattle.dsm_thread.proofs.load.resume_all.Given as goal

-- those gone over are under way
abbrev pub invariant-loop-frame : goal.invariant-loop-frame
invariant-loop-frame l = record {
  state : state_in l.machine ≡ going_with l.fn.machine.code.value l.fn.machine.own.items (map (opened l.fn.machine.code.value) (reverse (l.first ∷ take l.frame-index l.rest)));
  count : length l.machine.outer.values ≡ l.frame-index;
  code : l.machine.code.value ≡ l.fn.machine.code.value;
  roomy : IsRoomy l.machine;
}

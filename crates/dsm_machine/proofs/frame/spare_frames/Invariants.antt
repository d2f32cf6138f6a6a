use Rattle.std.proofs.Common.{◌≡◌, length}
use Rattle.dsm_machine.specs.Frames.{AllHaveRoom}
use Rattle.dsm_machine.proofs.frame.spare_frames.Given as goal

abbrev pub invariant-loop : goal.invariant-loop
invariant-loop l = record {
  frames : AllHaveRoom l.deepest l.widest l.frames.values;
  count : length l.frames.values ≡ l.counter;
  room : l.frames.room ≡ l.fn.count;
}

use Rattle.std.proofs.Common.{◌≡◌, length, map}
use Rattle.dsm_semantics.specs.Semantics.{after_loop}
use Rattle.dsm_interpreter.specs.Threads.{item_of}
use Rattle.dsm_interpreter.proofs.frame.Frame.leave_loop.Given as goal

abbrev pub invariant-loop-item : goal.invariant-loop-item
invariant-loop-item l = record {
  todo : after_loop (map item_of l.self.todo) ≡ after_loop (map item_of l.fn.self.todo);
  operands : l.self.operands ≡ l.fn.self.operands;
  slots : l.self.slots.items ≡ l.fn.self.slots.items;
}

abbrev pub decreases-loop-item : goal.decreases-loop-item
decreases-loop-item l = length l.self.todo

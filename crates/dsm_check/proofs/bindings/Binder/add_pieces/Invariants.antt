use Rattle.std.proofs.Common.{◌≡◌, ◌+◌, ◌-◌, ◌*◌, ◌++◌}
use Rattle.dsm_check.specs.Bindings.{lock_pieces}
use Rattle.dsm_check.proofs.bindings.Binder.add_pieces.Given as goal

abbrev pub invariant-loop : goal.invariant-loop
invariant-loop l = record {
  names : l.self.names.now ≡ l.initial.self.names.now;
  next : l.next ≡ l.lock + l.counter;
  cell : l.cell + (l.size - l.counter) * l.count ≡ l.first + l.size * l.count;
  pieces : l.self.pieces ++ lock_pieces l.next l.cell l.count (l.size - l.counter)
      ≡ l.initial.self.pieces ++ lock_pieces l.lock l.first l.count l.size;
}

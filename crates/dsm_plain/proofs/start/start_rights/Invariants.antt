use Rattle.std.proofs.Common.{◌≡◌, ℕ, length, None}
use Rattle.std.specs.List.{All}
use Rattle.dsm_base.specs.Rights.{held_of, arrived_of, crossed_of, HasSizes}
use Rattle.dsm_plain.specs.Machine.{rights_at}
use Rattle.dsm_plain.proofs.start.start_rights.Given as goal

abbrev pub invariant-loop-at : goal.invariant-loop-at
invariant-loop-at l = record {
  count : length l.rights.items ≡ l._at;
  held : (p : ℕ) → held_of (rights_at l.rights.items p) ≡ (λ lock. None);
  arrived : (p : ℕ) → arrived_of (rights_at l.rights.items p) ≡ (λ bar. 0);
  crossed : (p : ℕ) → crossed_of (rights_at l.rights.items p) ≡ (λ bar. 0);
  sizes : All (HasSizes l.locks l.bars) l.rights.items;
}

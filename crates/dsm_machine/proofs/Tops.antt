-- Rooms that hold the same.
use Rattle.std.proofs.Common.{◌≡◌, ℕ, List, refl}
use Rattle.dsm_machine.specs.Rooms.{Room}

pub same_room : {A : Type 0} (values others : List A) (room more : ℕ) → values ≡ others → room ≡ more
    → let r : Room A = record { values = values; room = room } in r ≡ record { values = others; room = more }
same_room values others room more e h = rw (e, h) refl

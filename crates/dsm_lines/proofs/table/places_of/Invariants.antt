use Rattle.std.proofs.Common.{◌≡◌, ℕ, length, get_or, take, drop, None}
use Rattle.dsm_lines.specs.Places.{lines, place_from}
use Rattle.dsm_lines.proofs.table.places_of.Given as goal

-- the pieces gone over from the back are noted, and their lines begin with those of the others
abbrev pub invariant-loop-at : goal.invariant-loop-at
invariant-loop-at l =
    record {
      count : length l.places ≡ l.cells;
      start : l.start ≡ lines (take l.at l.pieces);
      noted : (cell : ℕ) → get_or l.places cell None ≡ place_from l.start (drop l.at l.pieces) cell;
    }

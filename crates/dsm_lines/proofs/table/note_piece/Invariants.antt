use Rattle.std.proofs.Common.{◌≡◌, ℕ, ◌+◌, ◌-◌, ◌/◌, ◌%◌, length, get_or, Some, None}
use Rattle.std.specs.Prelude.{if◌then◌else◌, ◌&&◌, nat_le, nat_lt}
use Rattle.dsm_lines.proofs.table.note_piece.Given as goal

-- the cells gone over are noted, and the others as they were
abbrev pub invariant-loop-offset : goal.invariant-loop-offset
invariant-loop-offset l =
    record {
      count : length l.places ≡ length l.initial.places;
      noted : (cell : ℕ) → get_or l.places cell None
          ≡ (if nat_le l.piece.first.0 cell && nat_lt cell (l.piece.first.0 + l.offset)
          then Some (record { piece = l.piece; line = l.start + (cell - l.piece.first.0) / 8; at = (cell - l.piece.first.0) % 8 })
          else get_or l.initial.places cell None);
    }

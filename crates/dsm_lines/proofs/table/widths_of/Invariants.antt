use Rattle.std.proofs.Common.{◌≡◌, take}
use Rattle.dsm_lines.specs.Building.{widths_of}
use Rattle.dsm_lines.proofs.table.widths_of.Given as goal

-- the pieces gone over have their widths
abbrev pub invariant-loop-piece : goal.invariant-loop-piece
invariant-loop-piece l = l.widths ≡ widths_of (take l.piece-index l.pieces)

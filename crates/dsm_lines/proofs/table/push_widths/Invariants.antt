use Rattle.std.proofs.Common.{◌≡◌, ◌-◌, ◌*◌, ◌++◌, map}
use Rattle.std.specs.Prelude.{min}
use Rattle.std.specs.List.{range_with_len}
use Rattle.dsm_lines.proofs.table.push_widths.Given as goal

-- the lines gone over have their widths
abbrev pub invariant-loop-line : goal.invariant-loop-line
invariant-loop-line l = l.widths ≡ l.initial.widths ++ map (λ line. min 8 (l.piece.count - 8 * line)) (range_with_len 0 l.line)

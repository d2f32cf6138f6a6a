use Rattle.std.proofs.Common.{◌≡◌, map}
use Rattle.std.specs.List.{range_with_len}
use Rattle.dsm_base.specs.declared.setup.Object.{Object}
use Rattle.dsm_lines.specs.Places.{spans_from}
use Rattle.dsm_lines.proofs.table.spans_of_bars.Given as goal

-- the spans of those gone over are listed
abbrev pub invariant-loop-bar : goal.invariant-loop-bar
invariant-loop-bar l = l.all ≡ map (λ bar. spans_from 0 l.pieces (Object.Bar record { 0 = bar })) (range_with_len 0 l.bar)

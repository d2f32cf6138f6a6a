use Rattle.std.proofs.Common.{◌-◌, ◌≤◌, length}
use Rattle.dsm_syntax.proofs.Turns.{Reaches}
use Rattle.dsm_syntax.proofs.lexer.read.Given as goal

abbrev pub invariant-loop-at : goal.invariant-loop-at
invariant-loop-at l = record {
  reaches : Reaches l.text l.at l.line l.tokens;
  few : length l.tokens ≤ 65536;
}

abbrev pub decreases-loop-at : goal.decreases-loop-at
decreases-loop-at l = length l.text - l.at

use Rattle.std.proofs.Common.{◌≡◌, false, drop}
use Rattle.dsm_syntax.specs.Fronts as of
use Rattle.dsm_syntax.proofs.front.closing_of.Given as goal

abbrev pub invariant-loop-at : goal.invariant-loop-at
invariant-loop-at l = of.closing_of l.star l.at (drop l.at l.text) ≡ of.closing_of false 0 l.text

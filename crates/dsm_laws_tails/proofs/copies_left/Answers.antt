use Rattle.dsm_laws_tails.proofs.Copies.{loses_other, loses_own}
use Rattle.dsm_laws_tails.proofs.copies_left.Goals as goal

pub returns-clause-others : goal.returns-clause-others
returns-clause-others g c = λ setup first settled tails free p k others are q ne turns has. loses_other setup first g.T.Task.kind.semantics settled tails free p k others are q ne turns has

pub returns-clause-own : goal.returns-clause-own
returns-clause-own g c = λ setup first settled tails free p k others are newest oldest same has. loses_own setup first g.T.Task.kind.semantics settled tails free p k others are newest oldest same has

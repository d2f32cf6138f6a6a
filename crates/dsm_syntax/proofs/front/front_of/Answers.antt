use Rattle.dsm_syntax.proofs.Turns.{within}
use Rattle.dsm_syntax.proofs.front.front_of.Goals as goal

pub returns-clause-within : goal.returns-clause-within
returns-clause-within c = within c.args.line c.args.text.now c.piece.result c.requires.some c.piece.ensures

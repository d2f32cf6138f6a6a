use Rattle.dsm_laws_runs.proofs.CopiesKept.{copies_alike, copies_other, copies_own}
use Rattle.dsm_laws_runs.proofs.copies_go_on.Goals as goal

pub returns-clause-alike : goal.returns-clause-alike
returns-clause-alike g c = λ setup first run other p turns has like. copies_alike setup first g.T.Task.kind.semantics p run other turns like has

pub returns-clause-other : goal.returns-clause-other
returns-clause-other g c = λ setup first run p turns has turn is_turn ne. copies_other setup first g.T.Task.kind.semantics p turn run turns has is_turn ne

pub returns-clause-own : goal.returns-clause-own
returns-clause-own g c = λ setup first run p turns has turn is_turn mine now renews. copies_own setup first g.T.Task.kind.semantics p turn run turns has is_turn mine now renews

use Rattle.dsm_laws_runs.proofs.Clashes.{no_clash_at_once, neighbours_apart}
use Rattle.dsm_laws_runs.proofs.no_clashes.Goals as goal

pub returns-clause-at_once : goal.returns-clause-at_once
returns-clause-at_once g c = λ setup first run ask_first is_run p q lp lq apart one other turn next. no_clash_at_once setup first g.T.Task.kind.semantics ask_first run is_run p q lp lq apart one other turn next

pub returns-clause-in_turn : goal.returns-clause-in_turn
returns-clause-in_turn g c = λ setup first before earlier later near. neighbours_apart setup first g.T.Task.kind.semantics before earlier later near

use Rattle.dsm_laws_tails.proofs.Shuffles.{shuffled}
use Rattle.dsm_laws_tails.proofs.Histories.{history_of, in_any_order}
use Rattle.dsm_laws_tails.proofs.any_order.Goals as goal

pub returns-clause-tails : goal.returns-clause-tails
returns-clause-tails g c = λ setup first settled tails turns others can is. shuffled setup first g.T.Task.kind.semantics can.ask_first settled tails turns others can is

pub returns-clause-history : goal.returns-clause-history
returns-clause-history g c = λ setup first settled tails turns can. history_of setup first g.T.Task.kind.semantics settled tails turns can

pub returns-clause-whole : goal.returns-clause-whole
returns-clause-whole g c = λ setup first settled tails is turns shuffle. in_any_order setup first g.T.Task.kind.semantics settled tails is turns shuffle

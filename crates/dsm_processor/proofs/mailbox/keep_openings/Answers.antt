use Rattle.std.proofs.Common.{nat_lt, rules}
use Rattle.std.proofs.lemmas.Fn.{filter_same}
use Rattle.dsm_processor.proofs.mailbox.keep_openings.Goals as goal

pub returns : goal.returns
returns c = filter_same _ (λ opening. nat_lt c.args.turn opening.turn) _ (λ opening b q h. search rules) _ _ c.retain.ensures.filtered

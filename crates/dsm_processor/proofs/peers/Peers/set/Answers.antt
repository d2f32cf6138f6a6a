use Rattle.std.proofs.Common.{ap, ◌∙◌, set}
use Rattle.dsm_processor.proofs.Known.{known_by, known_after}
use Rattle.dsm_processor.proofs.peers.Peers.set.Goals as goal

pub returns-clause-peers : goal.returns-clause-peers
returns-clause-peers c =
    ap known_by c.set.ensures
    ∙ ap (λ k. known_by (set c.args.self.now.turns k c.args.turns)) c.index.ensures
    ∙ known_after c.args.self.now.turns c.args.proc.0 c.args.turns c.requires

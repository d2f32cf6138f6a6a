use Rattle.std.proofs.Common.{◌≡◌, ap, ◌∙◌, replicate, rules}
use Rattle.dsm_processor.specs.Peers.{no_turns}
use Rattle.dsm_processor.proofs.Known.{known_by, nothing_known}
use Rattle.dsm_processor.proofs.peers.Peers.new.Goals as goal

pub returns-clause-peers : goal.returns-clause-peers
returns-clause-peers c =
    let items : c.from_vec.result ≡ replicate c.args.procs no_turns = search rules in
    ap known_by items ∙ nothing_known c.args.procs

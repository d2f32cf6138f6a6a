use Rattle.std.proofs.Common.{◌≡◌, ◌++◌, drop, map, filter, not}
use Rattle.dsm_net.specs.Grants.{grant_message, is_of}
use Rattle.dsm_processor.specs.Node.{processor_of, setup_of, me_of}
use Rattle.dsm_processor.proofs.node.Node.grant_messages.Given as goal

-- what is there, with the grants of those who are left, is all
abbrev pub invariant-loop-one : goal.invariant-loop-one
invariant-loop-one g l =
    l.sends ++ map (grant_message (setup_of l.self) (me_of l.self) (processor_of g.T.Task.kind l.self) l.lock) (filter (λ one. not (is_of (me_of l.self) one)) (drop l.one-index l.one-items)) ≡ map (grant_message (setup_of l.self) (me_of l.self) (processor_of g.T.Task.kind l.self) l.lock) (filter (λ one. not (is_of (me_of l.self) one)) l.one-items)

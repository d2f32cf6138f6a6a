use Rattle.std.proofs.Common.{◌≡◌, ◌++◌, drop, map, filter}
use Rattle.dsm_net.specs.Grants.{own_grant, is_of}
use Rattle.dsm_processor.specs.Node.{processor_of, setup_of, me_of}
use Rattle.dsm_processor.proofs.node.Node.own_grants.Given as goal

-- what is there, with the grants of those who are left, is all
abbrev pub invariant-loop-one : goal.invariant-loop-one
invariant-loop-one g l =
    l.grants.items ++ map (own_grant (setup_of l.self) (processor_of g.T.Task.kind l.self) l.lock) (filter (is_of (me_of l.self)) (drop l.one-index l.one-items)) ≡ map (own_grant (setup_of l.self) (processor_of g.T.Task.kind l.self) l.lock) (filter (is_of (me_of l.self)) l.one-items)

use Rattle.std.proofs.Common.{◌≡◌, ◌++◌, drop, map, filter, not}
use Rattle.dsm_net.specs.Openings.{opening_message, is_to}
use Rattle.dsm_processor.specs.Node.{processor_of, me_of}
use Rattle.dsm_processor.proofs.node.Node.opening_messages.Given as goal

-- what is there, with the openings that are left, is all
abbrev pub invariant-loop-one : goal.invariant-loop-one
invariant-loop-one g l =
    l.sends ++ map (opening_message (me_of l.self) (processor_of g.T.Task.kind l.self)) (filter (λ one. not (is_to (me_of l.self) one)) (drop l.one-index l.one-items)) ≡ map (opening_message (me_of l.self) (processor_of g.T.Task.kind l.self)) (filter (λ one. not (is_to (me_of l.self) one)) l.one-items)

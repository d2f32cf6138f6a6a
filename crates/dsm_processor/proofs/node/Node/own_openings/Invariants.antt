use Rattle.std.proofs.Common.{◌≡◌, ◌++◌, drop, map, filter}
use Rattle.dsm_net.specs.Openings.{own_opening, is_to}
use Rattle.dsm_processor.specs.Node.{me_of}
use Rattle.dsm_processor.proofs.node.Node.own_openings.Given as goal

-- what is there, with the openings that are left, is all
abbrev pub invariant-loop-one : goal.invariant-loop-one
invariant-loop-one g l =
    l.own.items ++ map own_opening (filter (is_to (me_of l.self)) (drop l.one-index l.one-items)) ≡ map own_opening (filter (is_to (me_of l.self)) l.one-items)

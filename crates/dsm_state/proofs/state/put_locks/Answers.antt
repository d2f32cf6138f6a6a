use Rattle.std.proofs.Common.{ap, sym, ◌∙◌, ◌++◌, append_assoc}
use Rattle.std.specs.List.{range_with_len}
use Rattle.dsm_network.specs.World.{setup_of, net_of}
use Rattle.dsm_state.specs.States.{lock_line, locks_text}
use Rattle.dsm_state.proofs.More.{next_number}
use Rattle.dsm_state.proofs.state.put_locks.Goals as goal

pub loop-lock-preserved : goal.loop-lock-preserved
loop-lock-preserved g c =
    let world = c.args.world.now in
    let net = net_of g.M.Made.Task.kind g.M.TaskMaker.first world in
    let line = lock_line (setup_of world) net in
    let lock = c.loop-lock.lock in
    let old = c.args.out.now.items in
    c.in_ok-put_lock.ensures
    ∙ (ap (λ text. text ++ line lock) c.loop-lock.invariant
    ∙ (append_assoc old (locks_text (setup_of world) net (range_with_len 0 lock)) (line lock) ∙ ap (λ text. old ++ text) (sym (next_number line lock))))

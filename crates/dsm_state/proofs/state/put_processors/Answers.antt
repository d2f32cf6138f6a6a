use Rattle.std.proofs.Common.{ap, sym, ◌∙◌, ◌++◌, append_assoc, reverse}
use Rattle.std.specs.List.{range_with_len}
use Rattle.dsm_network.specs.World.{net_of, groups_of}
use Rattle.dsm_state.specs.States.{processor_line, processors_text}
use Rattle.dsm_state.proofs.More.{next_number}
use Rattle.dsm_state.proofs.state.put_processors.Goals as goal

pub loop-proc-preserved : goal.loop-proc-preserved
loop-proc-preserved g c =
    let world = c.args.world.now in
    let net = net_of g.M.Made.Task.kind g.M.TaskMaker.first world in
    let trace = reverse (groups_of world) in
    let line = processor_line net trace in
    let proc = c.loop-proc.proc in
    let old = c.args.out.now.items in
    c.in_ok-put_processor.ensures
    ∙ (ap (λ text. text ++ line proc) c.loop-proc.invariant
    ∙ (append_assoc old (processors_text net trace (range_with_len 0 proc)) (line proc) ∙ ap (λ text. old ++ text) (sym (next_number line proc))))

use Rattle.std.proofs.Common.{◌≡◌, reverse, sym, ap, ◌∙◌, subst}
use Rattle.std.proofs.lemmas.List.{reverse-reverse}
use Rattle.dsm_base.specs.Sink.{appended}
use Rattle.dsm_network.specs.World.{setup_of, net_of, groups_of}
use Rattle.dsm_records.specs.Texts.{trace_text}
use Rattle.dsm_state.specs.States.{state_text}
use Rattle.dsm_top.specs.Shown.{piece_if}
use Rattle.dsm_top.proofs.Showing.{behind_part}
use Rattle.dsm_top.proofs.shown.put_shown.Goals as goal

pub returns-clause-part : goal.returns-clause-part
returns-clause-part g c =
    let world = c.args.world.now in
    let net = net_of g.M.Made.Task.kind g.M.TaskMaker.first world in
    let trace = reverse (groups_of world) in
    let old = g.K.Sink.sink_holds c.args.out.now in
    let lined = g.K.Sink.sink_holds c.put_trace.new.out in
    let told : c.trace.result.now ≡ trace = sym (reverse-reverse c.trace.result.now) ∙ ap reverse c.trace.ensures in
    behind_part old lined (g.K.Sink.sink_holds c.put_world.new.out) (piece_if c.args.asked.trace (trace_text trace)) (piece_if c.args.asked.state (state_text (setup_of world) net trace)) c.put_world.result
    (subst (λ text. lined ≡ appended old (piece_if c.args.asked.trace (trace_text text))) told c.in_ok-put_trace.ensures.whole) c.put_world.ensures.part

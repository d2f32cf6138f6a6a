use Rattle.std.proofs.Common.{◌≡◌, ◌∷◌, sym, ap, ◌∙◌}
use Rattle.dsm_net.specs.Units.{with_lines_out}
use Rattle.dsm_network.specs.World.{made_of}
use Rattle.dsm_network.proofs.Sending.{first_removed, nodes_trans}
use Rattle.dsm_network.proofs.world.World.put_lines.Goals as goal

pub loop-proc-preserved : goal.loop-proc-preserved
loop-proc-preserved g c =
    let loop = c.loop-proc in
    let lines = loop.lines in
    let line = c.remove-line.result in
    let p = c.args.proc.0 in
    let are : lines ≡ line ∷ c.remove-line.new.self = first_removed lines line c.remove-line.ensures.item ∙ ap (λ left. line ∷ left) (sym c.remove-line.ensures.rest) in
    record {
      made = ap (λ made. with_lines_out made p c.remove-line.new.self) c.in_ok-put_line.ensures.made
          ∙ ap (λ lines. with_lines_out (made_of g.M.Made.Task.kind g.M.TaskMaker.first loop.self loop.records) p lines) (sym are)
          ∙ loop.invariant.made;
      shape = c.in_ok-put_line.ensures.shape;
      same = nodes_trans c.args.self.now loop.self c.put_line.new.self loop.invariant.same c.in_ok-put_line.ensures.same;
    }

use Rattle.std.proofs.Common.{◌≡◌, ◌∙◌, ap, refl, replicate, rules}
use Rattle.dsm_base.specs.declared.setup.Setup.{Setup}
use Rattle.dsm_network.proofs.Start.{start_run, start_whole}
use Rattle.dsm_network.proofs.world.World.new.Goals as goal

pub returns-clause-whole : goal.returns-clause-whole
returns-clause-whole g c =
    let out : c.from_vec-out.result ≡ replicate c.args.setup.value.procs 0 = search rules in
    start_whole g.M.Made.Task.kind g.M.TaskMaker.first
    (record { alloc = c.args.alloc; setup = c.args.setup; maker = c.args.maker; nodes = c.in_ok-nodes.nodes; channels = c.in_ok-channels.channels; out = c.from_vec-out.result; sent = 0; units = 0; trace = c.new-4.result })
    c.in_ok-nodes.ensures c.in_ok-channels.ensures.letters (c.in_ok-channels.ensures.procs ∙ ap (λ (setup : Setup). setup.procs) c.deref-2.ensures) out refl refl c.new-4.ensures

pub returns-clause-none : goal.returns-clause-none
returns-clause-none g c =
    let out : c.from_vec-out.result ≡ replicate c.args.setup.value.procs 0 = search rules in
    start_run g.M.Made.Task.kind g.M.TaskMaker.first
    (record { alloc = c.args.alloc; setup = c.args.setup; maker = c.args.maker; nodes = c.in_ok-nodes.nodes; channels = c.in_ok-channels.channels; out = c.from_vec-out.result; sent = 0; units = 0; trace = c.new-4.result })
    c.in_ok-nodes.ensures c.in_ok-channels.ensures.letters (c.in_ok-channels.ensures.procs ∙ ap (λ (setup : Setup). setup.procs) c.deref-2.ensures) out refl refl c.new-4.ensures

use Rattle.std.proofs.Common.{◌≡◌, ◌+◌, ap, ◌∙◌, reverse, rules}
use Rattle.dsm_net.specs.Fits.{with_unit}
use Rattle.dsm_net.specs.Units.{Made, went}
use Rattle.dsm_records.specs.Outputs.{lines_of}
use Rattle.dsm_network.specs.World.{units_of}
use Rattle.dsm_network.proofs.Applied.{run_after, whole_after}
use Rattle.dsm_network.proofs.world.World.apply.Goals as goal

pub returns-clause-net : goal.returns-clause-net
returns-clause-net g c = ap (λ (unit : Made _). unit.net) c.in_ok-records.ensures.made

pub returns-clause-trace : goal.returns-clause-trace
returns-clause-trace g c =
    let old = c.args.self.now in
    let unit : c.in_ok-unit.unit ≡ units_of old + 1 = search rules in
    let records = ap (λ (unit : Made _). unit.records) c.in_ok-records.ensures.made in
    c.in_ok-add_group.ensures.ok ∙ (λ i. with_unit (unit i) (records i) (reverse (c.in_ok-records.ensures.same.trace i)))

pub returns-clause-lines : goal.returns-clause-lines
returns-clause-lines g c =
    c.in_ok-lines.ensures ∙ ap (λ (unit : Made _). lines_of unit.records) c.in_ok-records.ensures.made

pub returns-clause-run : goal.returns-clause-run
returns-clause-run g c =
    let old = c.args.self.now in
    let unit : c.in_ok-unit.unit ≡ units_of old + 1 = search rules in
    λ done run. run_after g.M.Made.Task.kind g.M.TaskMaker.first old c.unit.new.self c.args.act went c.in_ok-records.records c.add_group.new.trace c.in_ok-unit.unit
    c.in_ok-records.ensures.same c.in_ok-records.ensures.made
    (c.in_ok-add_group.ensures.ok ∙ (λ i. with_unit (unit i) c.in_ok-records.records (reverse (c.in_ok-records.ensures.same.trace i)))) unit done run

pub returns-clause-whole : goal.returns-clause-whole
returns-clause-whole g c =
    let old = c.args.self.now in
    let unit : c.in_ok-unit.unit ≡ units_of old + 1 = search rules in
    whole_after g.M.Made.Task.kind g.M.TaskMaker.first old c.unit.new.self c.args.act went c.in_ok-records.records c.add_group.new.trace c.in_ok-unit.unit
    c.in_ok-records.ensures.same c.in_ok-records.ensures.made
    (c.in_ok-add_group.ensures.ok ∙ (λ i. with_unit (unit i) c.in_ok-records.records (reverse (c.in_ok-records.ensures.same.trace i)))) unit
    c.in_ok-records.ensures.shape c.requires.whole

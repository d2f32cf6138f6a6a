use Rattle.std.proofs.Common.{◌<◌, sym, subst}
use Rattle.dsm_base.specs.declared.setup.Setup.{Setup}
use Rattle.dsm_test_network.specs.CrossingLaws.{IsCourseIn, crossers_stay}
use Rattle.dsm_test_network.proofs.meeting.crossing_world.Goals as goal

pub new-requires-2 : goal.new-requires-2
new-requires-2 c p below =
    let shared = sym c.in_ok-setup.ensures.ok in
    crossers_stay c.in_ok-setup.setup.value c.args.maker
    (subst (λ (setup : Setup). 0 < setup.bars) shared c.requires.bars)
    (subst (λ (setup : Setup). IsCourseIn setup.cells setup.procs c.args.maker.course) shared c.requires.course) p below

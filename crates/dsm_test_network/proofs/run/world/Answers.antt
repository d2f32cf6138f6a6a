use Rattle.std.proofs.Common.{◌<◌, sym, subst}
use Rattle.dsm_base.specs.declared.setup.Setup.{Setup}
use Rattle.dsm_test_network.specs.Laws.{IsRoleIn, stays}
use Rattle.dsm_test_network.proofs.run.world.Goals as goal

pub new-requires-2 : goal.new-requires-2
new-requires-2 c p below =
    let shared = sym c.in_ok-setup.ensures.ok in
    stays c.in_ok-setup.setup.value c.args.maker
    (subst (λ (setup : Setup). 0 < setup.locks) shared c.requires.locks)
    (subst (λ (setup : Setup). IsRoleIn setup.cells c.args.maker.role) shared c.requires.one)
    (subst (λ (setup : Setup). IsRoleIn setup.cells c.args.maker.others) shared c.requires.others) p

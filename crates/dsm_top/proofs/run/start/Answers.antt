use Rattle.std.proofs.Common.{subst, sym, ◌∙◌}
use Rattle.dsm_check.specs.CheckedViews.{program_of}
use Rattle.dsm_check.specs.Setups.{IsSetupOf}
use Rattle.dsm_top.proofs.Runs.{first_by_code}
use Rattle.dsm_top.proofs.Stays.{code_stays}
use Rattle.dsm_top.proofs.run.start.Goals as goal

pub new-requires-3 : goal.new-requires-3
new-requires-3 c p below =
    let program = program_of c.args.program.now in
    let setup = c.in_ok-setup-2.setup.value in
    let maker = c.in_ok-maker.maker in
    let is_setup : IsSetupOf program c.args.procs setup = subst (IsSetupOf program c.args.procs) (sym c.in_ok-setup-2.ensures.ok) c.in_ok-setup.ensures in
    code_stays program maker.code.value c.args.procs setup.procs p setup (c.in_ok-maker.ensures ∙ c.in_ok-compile.ensures) maker.valid is_setup

pub returns-clause-first : goal.returns-clause-first
returns-clause-first c =
    first_by_code c.new-3.result (program_of c.args.program.now) c.in_ok-maker.maker.code.value c.in_ok-setup-2.setup.value (c.in_ok-maker.ensures ∙ c.in_ok-compile.ensures) c.new-3.ensures.first c.new-3.ensures.setup

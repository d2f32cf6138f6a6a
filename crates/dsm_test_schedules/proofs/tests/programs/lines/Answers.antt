use Rattle.dsm_test_schedules.proofs.tests.programs.lines.Goals as goal

pub loop-pick-init : goal.loop-pick-init
loop-pick-init c = record { whole = c.in_ok-machine.ensures.whole; procs = c.in_ok-machine.ensures.setup.procs }

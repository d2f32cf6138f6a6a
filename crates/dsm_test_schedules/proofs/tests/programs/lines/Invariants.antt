use Rattle.std.proofs.Common.{◌≡◌}
use Rattle.dsm_plain.specs.Machine.{IsWhole}
use Rattle.dsm_test_schedules.proofs.tests.programs.lines.Given as goal

abbrev pub invariant-loop-pick : goal.invariant-loop-pick
invariant-loop-pick l = record { whole : IsWhole l.machine; procs : l.machine.setup.procs ≡ 4 }

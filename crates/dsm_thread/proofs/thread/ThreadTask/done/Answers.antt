use Rattle.std.proofs.Common.{w64, to_z, of_z}
use Rattle.std.proofs.lemmas.Int.{to_z-of_z}
use Rattle.dsm_machine.specs.States.{state_in}
use Rattle.dsm_machine.proofs.Fits.{done_is}
use Rattle.dsm_thread.proofs.thread.ThreadTask.done.Goals as goal

pub returns : goal.returns
returns c = λ label completes.
    done_is (state_in c.self.inside.machine) (state_in c.complete.new.self) (state_in c.stand.new.machine) c.args.self.now (to_z w64 (of_z w64 c.args.answer)) c.args.answer label
    c.self.view_is (to_z-of_z w64 c.args.answer c.ranges.answer) c.complete.ensures.state c.stand.ensures.state completes

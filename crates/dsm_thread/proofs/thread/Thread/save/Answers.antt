use Rattle.std.proofs.Common.{◌≡◌, ◌++◌, subst}
use Rattle.std.proofs.lemmas.Result.{on_ok_weaker}
use Rattle.dsm_code.specs.Machine.{State}
use Rattle.dsm_saved.specs.Answers.{IsSaved, saved_bytes}
use Rattle.dsm_saved.specs.States.{saved_of, IsState}
use Rattle.dsm_thread.proofs.Loaded.{fit_state, saved_is}
use Rattle.dsm_thread.proofs.thread.Thread.save.Goals as goal

pub returns : goal.returns
returns c =
    let machine = c.self.inside.machine in
    let is = fit_state machine c.self.invariant.fit c.self.invariant.stands in
    record {
      state = subst (λ (s : State). IsState s.program s) c.self.view_is is;
      saved = on_ok_weaker c.save_machine.result (λ written. subst (λ (s : State). IsSaved s.program (saved_of s)) c.self.view_is (saved_is machine.code.value _ is written.held)) c.save_machine.ensures;
      bytes = on_ok_weaker c.save_machine.result (λ written. subst (λ (s : State). c.save_machine.new.out.items ≡ c.args.out.now.items ++ saved_bytes s.program (saved_of s)) c.self.view_is written.bytes) c.save_machine.ensures;
    }

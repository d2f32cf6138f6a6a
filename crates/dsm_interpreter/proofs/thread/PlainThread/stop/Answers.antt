use Rattle.std.proofs.Common.{◌∙◌, ap, sym, subst}
use Rattle.dsm_base.specs.Steps.{want_of, stopped}
use Rattle.dsm_base.specs.Threads.{line_of}
use Rattle.dsm_semantics.specs.States.{over}
use Rattle.dsm_semantics.specs.Semantics.{step}
use Rattle.dsm_semantics.specs.Within.{IsStateWithin}
use Rattle.dsm_semantics.proofs.Falls.{ready_over}
use Rattle.dsm_interpreter.specs.Threads.{functions_of, state_of, told_by}
use Rattle.dsm_interpreter.proofs.thread.PlainThread.stop.Goals as goal

pub returns-clause-state : goal.returns-clause-state
returns-clause-state c =
    let s = state_of c.args.self.now in
    c.end.ensures ∙ ap (λ line. over s (stopped c.args.fault line)) c.line_of-line.ensures
    ∙ sym (ready_over (functions_of c.args.self.now) s (stopped c.args.fault (line_of (told_by c.args.self.now))))

pub returns-clause-ready : goal.returns-clause-ready
returns-clause-ready c = λ extent ready. record {
  told = ap (λ s. want_of (step (functions_of c.args.self.now) s)) (sym c.end.ensures);
  narrow = ready.narrow;
  functions = ready.functions;
  state = subst (IsStateWithin extent) (sym c.end.ensures) (tt, tt);
}

use Rattle.std.proofs.Common.{◌∙◌, ap, sym, subst, w64}
use Rattle.std.proofs.lemmas.Int.{to_z-of_z}
use Rattle.dsm_base.specs.Threads.{Completes}
use Rattle.dsm_semantics.specs.Semantics.{ready}
use Rattle.dsm_semantics.specs.Within.{AreFunctionsWithin}
use Rattle.dsm_interpreter.specs.Threads.{functions_of, told_by}
use Rattle.dsm_interpreter.proofs.thread.PlainThread.done.Goals as goal

pub go_on-requires : goal.go_on-requires
go_on-requires c = (c.requires.0, c.requires.1.narrow, c.in_ok-complete.ensures.within c.requires.0 c.requires.1)

pub returns-clause-state : goal.returns-clause-state
returns-clause-state c = λ label completes.
    let functions = functions_of c.args.self.now in
    c.in_ok-self.ensures.state functions ∙ ap (ready functions) (c.in_ok-complete.ensures.state label
    (subst (λ answer. Completes (told_by c.args.self.now) answer label) (sym (to_z-of_z w64 c.args.answer c.ranges.answer)) completes))

pub returns-clause-ready : goal.returns-clause-ready
returns-clause-ready c = λ extent ready_before. record {
  told = c.in_ok-self.ensures.value (functions_of c.complete.new.self);
  narrow = ready_before.narrow;
  functions = subst (AreFunctionsWithin extent) (sym c.complete.ensures.program) ready_before.functions;
  state = c.in_ok-self.ensures.within extent (c.in_ok-complete.ensures.within extent ready_before);
}

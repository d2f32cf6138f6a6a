use Rattle.std.proofs.Common.{◌≡◌, ◌∙◌, sym, ap, subst, map}
use Rattle.std.specs.Prelude.{slice_get}
use Rattle.dsm_check.specs.Views.{view_function}
use Rattle.dsm_semantics.specs.Semantics.{numbered, started, ready}
use Rattle.dsm_semantics.specs.Within.{IsStateWithin}
use Rattle.dsm_semantics.proofs.Within.{body_within, first_within}
use Rattle.dsm_interpreter.specs.Threads.{state_in}
use Rattle.dsm_interpreter.proofs.thread.PlainThread.start.Goals as goal

pub go_on-requires : goal.go_on-requires
go_on-requires c =
    let functions = map view_function c.args.functions.now in
    let extent = c.requires.0 in
    let is : state_in c.in_ok-execution.execution ≡ started (numbered (slice_get functions c.args.main)) c.args.private_cells c.args.procs c.args.me.0 =
    c.in_ok-execution.ensures ∙ ap (λ main. started main c.args.private_cells c.args.procs c.args.me.0) c.callee_at-main.ensures in
    (extent, c.requires.1, subst (IsStateWithin extent) (sym is) ((body_within extent functions c.args.main c.requires.2, tt), tt))

pub returns-clause-state : goal.returns-clause-state
returns-clause-state c =
    let functions = map view_function c.args.functions.now in
    c.in_ok-wanted.ensures.state functions
    ∙ ap (ready functions) (c.in_ok-execution.ensures ∙ ap (λ main. started main c.args.private_cells c.args.procs c.args.me.0) c.callee_at-main.ensures)

pub returns-clause-ready : goal.returns-clause-ready
returns-clause-ready c =
    let functions = map view_function c.args.functions.now in
    let is = c.in_ok-wanted.ensures.state functions
    ∙ ap (ready functions) (c.in_ok-execution.ensures ∙ ap (λ main. started main c.args.private_cells c.args.procs c.args.me.0) c.callee_at-main.ensures) in
    λ extent narrow all. record {
      told = c.in_ok-wanted.ensures.value functions;
      narrow = narrow;
      functions = all;
      state = subst (IsStateWithin extent) (sym is) (first_within extent functions all c.args.main c.args.private_cells c.args.procs c.args.me.0);
    }

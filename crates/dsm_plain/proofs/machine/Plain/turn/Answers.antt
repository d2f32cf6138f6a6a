use Rattle.std.proofs.Common.{◌∙◌, sym, subst}
use Rattle.dsm_base.specs.Plain.{seen_by}
use Rattle.dsm_base.specs.Threads.{AnswersTo}
use Rattle.dsm_plain.specs.Machine.{machine_of, semantics_of}
use Rattle.dsm_plain.proofs.Turns.{label_answers}
use Rattle.dsm_plain.proofs.machine.Plain.turn.Goals as goal

pub complete-requires-clause-answers : goal.complete-requires-clause-answers
complete-requires-clause-answers c =
    let plain = c.args.self.now in
    let p = c.args.proc.0 in
    subst (λ want. AnswersTo want c.in-Some.label) c.requires.want
    (label_answers plain.setup.bindings p (seen_by (machine_of plain) p) ((semantics_of plain).text ((machine_of plain).threads p)) c.args.want c.in-Some.label (sym c.in_ok-label.ensures.label ∙ c.in-Some.is))

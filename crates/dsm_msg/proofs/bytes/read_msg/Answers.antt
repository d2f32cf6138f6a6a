use Rattle.std.proofs.Common.{◌∙◌, sym, subst, arith}
use Rattle.dsm_base.specs.BigEndian.{IsBytes}
use Rattle.dsm_msg.specs.Answers.{IsAnswer}
use Rattle.dsm_msg.proofs.Answering.{answer_fits, only_answer, or_weaker}
use Rattle.dsm_msg.proofs.bytes.read_msg.Goals as goal

pub returns : goal.returns
returns c =
    let small : IsBytes c.args.bytes.now = (λ i. omega (arith, c.type_inv.bytes i)) in
    record {
      fits = or_weaker c.answer.result (λ is. subst (λ answer. IsAnswer answer c.args.bytes.now) (sym is) (answer_fits c.args.bytes.now small)) c.answer.ensures;
      only = λ other fits. or_weaker c.answer.result (λ is. is ∙ only_answer other c.args.bytes.now small fits) c.answer.ensures;
    }

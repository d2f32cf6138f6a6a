use Rattle.std.proofs.Common.{arith}
use Rattle.dsm_base.specs.BigEndian.{IsBytes}
use Rattle.dsm_saved.proofs.Answering.{or_weaker, answer_fits, same_answer}
use Rattle.dsm_saved.proofs.answer.read_saved.Goals as goal

pub returns : goal.returns
returns c =
    let small : IsBytes c.args.bytes.now = (λ i. omega (arith, c.type_inv.bytes i)) in
    record {
      fits = answer_fits c.args.code.now c.args.bytes.now small c.whole.result c.whole.ensures.read;
      only = λ other fits. or_weaker c.whole.result (λ is. same_answer c.args.code.now c.args.bytes.now small c.whole.result other is fits) c.whole.ensures.read;
      few = c.whole.ensures.few;
    }

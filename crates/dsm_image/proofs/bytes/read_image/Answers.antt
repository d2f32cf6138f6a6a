use Rattle.std.proofs.Common.{arith}
use Rattle.dsm_base.specs.BigEndian.{IsBytes}
use Rattle.dsm_image_parts.specs.Spelling.{scope_of}
use Rattle.dsm_image.proofs.Answering.{or_weaker, same_answer}
use Rattle.dsm_image.proofs.bytes.read_image.Goals as goal

pub returns : goal.returns
returns c =
    let small : IsBytes c.args.bytes.now = (λ i. omega (arith, c.type_inv.bytes i)) in
    record {
      fits = c.answer.ensures;
      only = λ other fits. or_weaker c.answer.result (λ is. same_answer (scope_of c.args.setup.now) c.answer.result other c.args.bytes.now small is fits) c.answer.ensures;
    }

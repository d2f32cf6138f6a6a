use Rattle.dsm_top.proofs.Texts.{each, apart, one_program, one_refusal}
use Rattle.dsm_top.proofs.laws.accepted_or_refused.Goals as goal

pub returns : goal.returns
returns c =
    let law = c.program_or_refusal.ensures in
    record {
      each_text = λ text. each text (law.each_text text);
      not_both = apart law.not_both law.one_program;
      one_program = one_program law.not_both law.one_program;
      one_refusal = one_refusal law.not_both law.one_program law.one_refusal;
    }

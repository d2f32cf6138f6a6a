use Rattle.dsm_lines.proofs.WordBits.{bit_is_clear}
use Rattle.dsm_lines.proofs.bits.clear_bit.Goals as goal

pub returns-clause-bits : goal.returns-clause-bits
returns-clause-bits c = bit_is_clear c.args.words.now c.as_slice.result.now c.set.new.self c.args.at c.requires c.as_slice.ensures c.set.ensures

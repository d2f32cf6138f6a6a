use Rattle.std.proofs.Common.{arith}
use Rattle.dsm_lines.proofs.WordBits.{none_behind, lowest}
use Rattle.dsm_lines.proofs.bits.first_of_word.Goals as goal

pub returns-then-rest-eq0-clause-first : goal.returns-then-rest-eq0-clause-first
returns-then-rest-eq0-clause-first c = λ at behind. none_behind c.args.word c.args.from at c.if-rest-eq0.true behind

pub returns-else-rest-eq0-clause-first : goal.returns-else-rest-eq0-clause-first
returns-else-rest-eq0-clause-first c =
    let low = lowest c.args.word c.args.from c.ranges.word.fits c.if-rest-eq0.false in
    (omega arith, low.is_set, low.none_before)

pub returns-else-rest-eq0-clause-below : goal.returns-else-rest-eq0-clause-below
returns-else-rest-eq0-clause-below c = (lowest c.args.word c.args.from c.ranges.word.fits c.if-rest-eq0.false).below

use Rattle.std.proofs.Common.{◌≡◌, ◌+◌, ◌/◌, ap, ◌∙◌, replicate, rules}
use Rattle.dsm_lines.specs.Bits.{is_bit}
use Rattle.dsm_lines.proofs.Marking.{no_bits}
use Rattle.dsm_lines.proofs.marks.DirtyBits.new.Goals as goal

pub returns-clause-unmarked : goal.returns-clause-unmarked
returns-clause-unmarked c =
    let words : c.from_vec-words.result ≡ replicate ((c.args.lines + 63) / 64) 0 = search rules in
    ap is_bit words ∙ no_bits ((c.args.lines + 63) / 64)

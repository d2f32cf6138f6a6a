use Rattle.dsm_lines.proofs.Marking.{marked}
use Rattle.dsm_lines.proofs.marks.DirtyBits.mark.Goals as goal

pub invariant_of-self : goal.invariant_of-self
invariant_of-self c =
    record {
      kept = marked c.args.self.now.lines c.args.self.now.words c.args.self.now.summary c.set_bit.new.words c.set_bit-2.new.words c.args.line
          c.args.self.now.kept c.requires c.set_bit.ensures.bits c.set_bit.ensures.others c.set_bit.ensures.length c.set_bit-2.ensures.bits c.set_bit-2.ensures.length;
    }

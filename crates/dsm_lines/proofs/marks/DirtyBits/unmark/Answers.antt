use Rattle.std.proofs.Common.{sym, ◌∙◌, ap, get_or, List, ℕ, ◌/◌}
use Rattle.dsm_lines.proofs.Marking.{unmarked_last, unmarked_one}
use Rattle.dsm_lines.proofs.marks.DirtyBits.unmark.Goals as goal

pub invariant_of-self : goal.invariant_of-self
invariant_of-self c =
    record {
      kept = unmarked_last c.args.self.now.lines c.args.self.now.words c.args.self.now.summary c.clear_bit.new.words c.clear_bit-then-as_slice-page-eq0.new.words c.args.line
          c.args.self.now.kept c.clear_bit.ensures.bits c.clear_bit.ensures.others c.clear_bit.ensures.length
          (ap (λ (ws : List ℕ). get_or ws (c.args.line / 64) 0) (sym c.as_slice.ensures) ∙ c.if-as_slice-page-eq0.true)
          c.clear_bit-then-as_slice-page-eq0.ensures.bits c.clear_bit-then-as_slice-page-eq0.ensures.length;
    }

pub invariant_of-self-else-as_slice-page-eq0 : goal.invariant_of-self-else-as_slice-page-eq0
invariant_of-self-else-as_slice-page-eq0 c =
    record {
      kept = unmarked_one c.args.self.now.lines c.args.self.now.words c.args.self.now.summary c.clear_bit.new.words c.args.line
          c.args.self.now.kept c.requires c.clear_bit.ensures.bits c.clear_bit.ensures.others c.clear_bit.ensures.length
          (λ none. c.if-as_slice-page-eq0.false (ap (λ (ws : List ℕ). get_or ws (c.args.line / 64) 0) c.as_slice.ensures ∙ none));
    }

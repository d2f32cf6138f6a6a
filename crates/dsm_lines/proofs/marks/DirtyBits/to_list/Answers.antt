use Rattle.std.proofs.Common.{sym, ◌+◌, ap, ◌∙◌, ◌++◌, ◌∷◌, [], arith}
use Rattle.dsm_lines.specs.Marks.{marks_in}
use Rattle.dsm_lines.proofs.Ranges.{next_passes, none_left}
use Rattle.dsm_lines.proofs.marks.DirtyBits.to_list.Goals as goal

pub loop-line-preserved : goal.loop-line-preserved
loop-line-preserved c =
    record {
      listed =
          c.in_ok-push.ensures.ok
          ∙ ap (λ lines. lines ++ c.in-Some.line ∷ []) c.loop-line.invariant.listed
          ∙ sym (next_passes (marks_in c.args.self.now) 0 c.loop-line.from (c.in-Some.line + 1) c.loop-line.from c.in-Some.line (omega arith) (omega arith) c.in-Some.ensures.first);
      within = omega (arith, c.in-Some.ensures.within);
    }

pub returns : goal.returns
returns c =
    c.loop-line.invariant.listed
    ∙ sym (none_left (marks_in c.args.self.now) 0 c.loop-line.from c.args.self.now.lines c.loop-line.from c.args.self.now.lines c.first_from.result (omega arith) (omega arith) c.loop-line.invariant.within c.first_from.ensures.first c.in_default.not-Some)

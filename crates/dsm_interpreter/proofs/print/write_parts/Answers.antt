use Rattle.std.proofs.Common.{rules, ◌≡◌, ◌++◌, ◌+◌, map, drop, ◌∷◌, sym, ap, ◌∙◌, subst, arith, FitsSigned, w64}
use Rattle.std.proofs.lemmas.Grind.{common_steps}
use Rattle.std.proofs.lemmas.List.{drop_more}
use Rattle.std.specs.Fmt.{signed_decimal}
use Rattle.dsm_check.specs.Views.{view, view_part}
use Rattle.dsm_interpreter.proofs.Lines.{Remain, all_remain, text_written, value_written}
use Rattle.dsm_interpreter.proofs.print.write_parts.Goals as goal
use Rattle.dsm_interpreter.proofs.print.write_parts.Goals.{in-Text+in_ok-extend_from_slice-in-Text, in-Value+in_ok-extend_from_slice-in-Value}

pub loop-part-init : goal.loop-part-init
loop-part-init c = record { text = search rules; grows = λ extent within. all_remain extent _ _ within }

pub loop-part-preserved : goal.loop-part-preserved
loop-part-preserved c =
    let parts = c.args.parts.now in
    let rest = drop (c.loop-part.part-index + 1) parts in
    let next : drop c.loop-part.part-index parts ≡ c.part-item.result ∷ rest =
    drop_more parts c.loop-part.part-index c.part-item.result c.loop-part-test.true ∙ ap (λ part. part ∷ rest) (sym c.part-item.is) in
    record {
      text = grind (arith, common_steps);
      grows = λ extent within.
          let remain = c.loop-part.invariant.grows extent within in
          elim c.match-part.branch [
            | in-Text+in_ok-extend_from_slice-in-Text w ↦
                let left = ap (map view_part) (next ∙ ap (λ part. part ∷ rest) w.in-Text.is) in
                let longer : c.loop-part.line.items ++ w.in-Text.text ≡ c.match-part.line.items = search rules in
                subst (Remain extent (map view_part parts) (map view_part rest) c.args.line.now.items) longer
                (text_written extent _ (map view_part rest) w.in-Text.text _ _ (subst (λ left. Remain extent (map view_part parts) left c.args.line.now.items c.loop-part.line.items) left remain))
            | in-Value+in_ok-extend_from_slice-in-Value w ↦
                let left = ap (map view_part) (next ∙ ap (λ part. part ∷ rest) w.in-Value.is) in
                let fits : FitsSigned w64 w.next-value.result = search rules in
                let longer : c.loop-part.line.items ++ signed_decimal w.next-value.result ≡ c.match-part.line.items = search rules in
                subst (Remain extent (map view_part parts) (map view_part rest) c.args.line.now.items) longer
                (value_written extent _ (map view_part rest) (view w.in-Value.field-0) w.next-value.result _ _ fits (subst (λ left. Remain extent (map view_part parts) left c.args.line.now.items c.loop-part.line.items) left remain))
          ];
    }

pub returns-clause-grows : goal.returns-clause-grows
returns-clause-grows c extent within = (c.loop-part.invariant.grows extent within).1

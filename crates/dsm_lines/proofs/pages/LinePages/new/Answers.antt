use Rattle.std.proofs.Common.{◌≡◌, ◌∙◌, ap, arith, rules, replicate, length, subst, true}
use Rattle.std.specs.Prelude.{◌+◌, ◌*◌, ◌/◌, pos, List}
use Rattle.std.proofs.lemmas.List.{length-replicate}
use Rattle.dsm_base.specs.declared.setup.Piece.{Piece}
use Rattle.dsm_base.specs.Setups.{are_apart}
use Rattle.dsm_lines.specs.Places.{lines}
use Rattle.dsm_lines.specs.Pages.{memory_in}
use Rattle.dsm_lines.proofs.Paging.{no_values}
use Rattle.dsm_lines.proofs.pages.LinePages.new.Goals as goal

pub invariant_of-result : goal.invariant_of-result
invariant_of-result c =
    let count : c.lines.result ≡ lines c.args.table.value = c.lines.ensures.count ∙ ap lines c.deref.ensures in
    let values : c.from_vec-values.result ≡ replicate (512 * ((c.lines.result + 63) / 64)) (pos 0) = search rules in
    record {
      kept = record {
        apart = subst (λ (pieces : List Piece). are_apart pieces ≡ true) c.deref.ensures c.lines.ensures.apart;
        few = omega arith;
        many =
            ap length values
            ∙ length-replicate (512 * ((c.lines.result + 63) / 64)) (pos 0)
            ∙ ap (λ n. 512 * ((n + 63) / 64)) count;
      };
    }

pub returns-clause-zeros : goal.returns-clause-zeros
returns-clause-zeros c =
    let values : c.from_vec-values.result ≡ replicate (512 * ((c.lines.result + 63) / 64)) (pos 0) = search rules in
    ap (memory_in c.args.table.value) values
    ∙ no_values c.args.table.value (512 * ((c.lines.result + 63) / 64))

use Rattle.std.proofs.Common.{◌≡◌, ◌∙◌, ◌+◌, ◌-◌, ◌++◌, ◌∷◌, [], ℕ, List, ap, append_assoc, sym, arith}
use Rattle.std.specs.List.{range_with_len}
use Rattle.dsm_image_parts.proofs.Listing.{one_line_more}
use Rattle.dsm_image_parts.proofs.keys.push_span.Goals as goal

pub loop-line-preserved : goal.loop-line-preserved
loop-line-preserved c = record {
  listed = c.in_ok-push.ensures.items ∙ one_line_more c.args.span.first c.loop-line.line c.args.list.now.items c.loop-line.list.items (omega arith) c.loop-line.invariant.listed;
  within = omega (arith, c.loop-line-test.true, c.min-end.ensures, c.saturating_add.ensures, c.requires);
}

pub returns : goal.returns
returns c =
    let all : c.loop-line.line - c.args.span.first ≡ c.args.span.count = omega (arith, c.loop-line-test.false, c.loop-line.invariant.within, c.min-end.ensures, c.saturating_add.ensures, c.lines.ensures.count, c.requires) in
    c.loop-line.invariant.listed ∙ ap (λ (n : ℕ). c.args.list.now.items ++ range_with_len c.args.span.first n) all

use Rattle.std.proofs.Common.{◌∙◌, List, sym, ap, subst, arith}
use Rattle.std.specs.List.{flat_map, All}
use Rattle.std.proofs.lemmas.List.{take_all}
use Rattle.dsm_base.specs.declared.setup.Object.{Object}
use Rattle.dsm_lines.specs.declared.place.Span.{Span}
use Rattle.dsm_lines.specs.Places.{lines, lines_of_span}
use Rattle.dsm_lines.proofs.Spanning.{lines_of_spans}
use Rattle.dsm_image_parts.proofs.Listing.{EndsBy, spans_within}
use Rattle.dsm_image_parts.proofs.keys.lines_of_lock.Goals as goal

pub push_span-requires : goal.push_span-requires
push_span-requires c =
    let table = c.args.scope.now.table in
    let all = subst (All (EndsBy (lines table))) (sym c.spans_of-span-items.ensures) (spans_within 0 (lines table) table (Object.Lock c.args.lock) (omega arith)) in
    all c.loop-span.span-index _ c.loop-span-test.true

pub returns : goal.returns
returns c =
    c.loop-span.invariant
    ∙ ap (λ (spans : List Span). flat_map lines_of_span spans) (take_all c.loop-span.span-index c.spans_of-span-items.result.now c.loop-span-test.false ∙ c.spans_of-span-items.ensures)
    ∙ lines_of_spans 0 c.args.scope.now.table (Object.Lock c.args.lock)

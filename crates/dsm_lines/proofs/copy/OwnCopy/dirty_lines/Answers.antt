use Rattle.std.proofs.Common.{◌∙◌, ap}
use Rattle.std.specs.Prelude.{List}
use Rattle.std.specs.List.{flat_map}
use Rattle.std.proofs.lemmas.List.{take_all}
use Rattle.dsm_lines.specs.declared.place.Span.{Span}
use Rattle.dsm_lines.specs.Places.{lines_of_span}
use Rattle.dsm_lines.specs.Copies.{lines_among}
use Rattle.dsm_lines.specs.OwnCopies.{copy_pieces, copy_memory, copy_marks}
use Rattle.dsm_lines.proofs.Spanning.{lines_of_spans}
use Rattle.dsm_lines.proofs.copy.OwnCopy.dirty_lines.Goals as goal

pub returns : goal.returns
returns c =
    c.loop-span.invariant
    ∙ ap (lines_among (copy_pieces c.args.self.now) (copy_marks c.args.self.now) (copy_memory c.args.self.now))
    (ap (λ (spans : List Span). flat_map lines_of_span spans) (take_all c.loop-span.span-index c.spans_of-span-items.result.now c.loop-span-test.false ∙ c.spans_of-span-items.ensures)
    ∙ lines_of_spans 0 (copy_pieces c.args.self.now) c.args.object)

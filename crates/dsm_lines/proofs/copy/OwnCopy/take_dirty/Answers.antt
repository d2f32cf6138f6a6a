use Rattle.std.proofs.Common.{◌∙◌, ap}
use Rattle.std.specs.Prelude.{List, ℕ}
use Rattle.std.specs.List.{flat_map}
use Rattle.dsm_lines.specs.declared.place.Span.{Span}
use Rattle.dsm_lines.specs.Places.{lines_of_span}
use Rattle.dsm_lines.specs.Copies.{without}
use Rattle.dsm_lines.specs.OwnCopies.{copy_pieces, copy_marks}
use Rattle.dsm_lines.proofs.Spanning.{lines_of_spans}
use Rattle.dsm_lines.proofs.copy.OwnCopy.take_dirty.Goals as goal

pub returns-clause-marks : goal.returns-clause-marks
returns-clause-marks c =
    c.unmark_all.ensures.unmarked
    ∙ ap (λ (numbers : List ℕ). without numbers (copy_marks c.args.self.now))
    (ap (λ (spans : List Span). flat_map lines_of_span spans) c.spans_of.ensures
    ∙ lines_of_spans 0 (copy_pieces c.args.self.now) c.args.object)

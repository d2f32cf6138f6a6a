use Rattle.std.proofs.Common.{◌∙◌, ap}
use Rattle.std.specs.Prelude.{List, nat_lt}
use Rattle.std.specs.List.{flat_map}
use Rattle.std.proofs.lemmas.List.{take_all}
use Rattle.dsm_base.specs.declared.setup.Object.{Object}
use Rattle.dsm_lines.specs.declared.place.Span.{Span}
use Rattle.dsm_lines.specs.Places.{lines_of_span}
use Rattle.dsm_lines.specs.Copies.{lines_among}
use Rattle.dsm_lines.specs.LineImages.{image_pieces, image_stamps, image_values}
use Rattle.dsm_lines.proofs.Spanning.{lines_of_spans}
use Rattle.dsm_lines.proofs.image.LineImage.newer.Goals as goal

pub returns : goal.returns
returns c =
    c.loop-span.invariant
    ∙ ap (lines_among (image_pieces c.args.self.now) (λ line. nat_lt c.args.«have» (image_stamps c.args.self.now line)) (image_values c.args.self.now))
    (ap (λ (spans : List Span). flat_map lines_of_span spans) (take_all c.loop-span.span-index c.spans_of-span-items.result.now c.loop-span-test.false ∙ c.spans_of-span-items.ensures)
    ∙ lines_of_spans 0 (image_pieces c.args.self.now) (Object.Lock c.args.lock))

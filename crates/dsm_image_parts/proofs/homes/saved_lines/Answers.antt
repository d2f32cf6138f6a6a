use Rattle.std.proofs.Common.{◌∙◌, ℕ, List, None, subst}
use Rattle.dsm_fields.specs.Reading.{Gives}
use Rattle.dsm_image_parts.specs.Keys.{each_at}
use Rattle.dsm_image_parts.specs.Reading.{saved_line_at}
use Rattle.dsm_image_parts.proofs.homes.saved_lines.Goals as goal

pub returns : goal.returns
returns c =
    subst (λ (keys : List ℕ). Gives (λ x. (x.0.items, x.1.now)) c.each.result (each_at (λ key last. saved_line_at c.args.scope.now key) None keys c.args.bytes.now))
    (c.as_slice.ensures.value ∙ c.in_ok-lines.ensures) c.each.ensures

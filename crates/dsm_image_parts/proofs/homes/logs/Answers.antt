use Rattle.std.proofs.Common.{◌∙◌, List, None, subst}
use Rattle.dsm_base.specs.declared.names.Proc.{Proc}
use Rattle.dsm_fields.specs.Reading.{Gives}
use Rattle.dsm_image_parts.specs.Keys.{each_at}
use Rattle.dsm_image_parts.specs.Reading.{log_at}
use Rattle.dsm_image_parts.proofs.homes.logs.Goals as goal

pub returns : goal.returns
returns c =
    subst (λ (keys : List Proc). Gives (λ x. (x.0.items, x.1.now)) c.each.result (each_at (λ key last. log_at c.args.scope.now key) None keys c.args.bytes.now))
    (c.as_slice.ensures.value ∙ c.in_ok-procs.ensures) c.each.ensures

use Rattle.std.proofs.Common.{◌==◌, not, ap, ◌∙◌, filter, rules}
use Rattle.arrayvec.proofs.ArrayVecLemmas.{filter-from_retain}
use Rattle.dsm_home.specs.declared.waiting.Waiting.{Waiting}
use Rattle.dsm_home.proofs.waiting.Queue.let_go.Goals as goal

pub returns : goal.returns
returns c =
    filter-from_retain _ (λ (one : Waiting). not (one.proc.0 == c.args.proc.0)) _ (λ one b f y h. search rules) _ _ c.retain.ensures.filtered
    ∙ ap (filter (λ (one : Waiting). not (one.proc.0 == c.args.proc.0))) c.self.view_is

use Rattle.std.proofs.Common.{◌∙◌, ap, length}
use Rattle.std.specs.Prelude.{nat_lt}
use Rattle.std.specs.List.{list_all}
use Rattle.dsm_barrier.proofs.Arriving.{all_come}
use Rattle.dsm_barrier.proofs.barrier.Barrier.have_all_come.Goals as goal

pub returns : goal.returns
returns c = c.all_wait.ensures ∙ ap (list_all (λ one. nat_lt 0 (length one))) c.as_slice.ensures.value ∙ all_come c.args.self.now.waiting.items

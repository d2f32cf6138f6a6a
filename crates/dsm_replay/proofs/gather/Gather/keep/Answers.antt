use Rattle.std.proofs.Common.{◌<◌, ◌∙◌, Some, None, length, arith}
use Rattle.std.proofs.Math.Path.{fun_ext}
use Rattle.dsm_base.specs.Family.{update}
use Rattle.dsm_base.proofs.Families.{family_of_set}
use Rattle.dsm_replay.proofs.gather.Gather.keep.Goals as goal

pub returns-clause-gathered : goal.returns-clause-gathered
returns-clause-gathered c =
    let old = c.args.self.now.reports.items in
    let reached = c.reach.new.reports.items in
    let index = c.index-2.result in
    let within : index < length reached = omega (arith, c.reach.new.reports.ok.0, c.in_ok-reach.ensures.reached, c.index.ensures, c.index-2.ensures) in
    λ i. record {
      reports =
          (family_of_set (λ q. None) reached index (Some c.in_ok-indexed.indexed) within
          ∙ (λ j. update (fun_ext c.in_ok-reach.ensures.same j) (c.index-2.ensures j) (Some (c.in_ok-indexed.ensures j)))) i;
      seen = c.max-self.ensures i;
    }

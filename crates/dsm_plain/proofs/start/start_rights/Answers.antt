use Rattle.std.proofs.Common.{◌≡◌, ◌+◌, ◌∙◌, List, [], ◌∷◌, ◌++◌, sym, ap, subst, length}
use Rattle.std.specs.List.{All}
use Rattle.std.proofs.lemmas.List.{length-append}
use Rattle.dsm_base.specs.declared.rights.Rights.{Rights}
use Rattle.dsm_base.specs.Rights.{held_of, arrived_of, crossed_of, HasSizes}
use Rattle.dsm_base.proofs.Families.{all_push, push_under}
use Rattle.dsm_plain.specs.Machine.{rights_at, no_rights}
use Rattle.dsm_plain.proofs.start.start_rights.Goals as goal

pub loop-at-preserved : goal.loop-at-preserved
loop-at-preserved c =
    let all = c.loop-at.rights.items in
    let rights = c.in_ok-new.field-0 in
    let before = c.loop-at.invariant in
    let pushed : c.push.new.self.items ≡ all ++ rights ∷ [] = c.in_ok-push.ensures.items in
    record {
      count = ap length pushed ∙ length-append all (rights ∷ []) ∙ ap (λ n. n + 1) before.count;
      held = λ p. ap (λ items. held_of (rights_at items p)) pushed ∙ push_under held_of no_rights all rights c.in_ok-new.ensures.held before.held p;
      arrived = λ p. ap (λ items. arrived_of (rights_at items p)) pushed ∙ push_under arrived_of no_rights all rights c.in_ok-new.ensures.arrived before.arrived p;
      crossed = λ p. ap (λ items. crossed_of (rights_at items p)) pushed ∙ push_under crossed_of no_rights all rights c.in_ok-new.ensures.crossed before.crossed p;
      sizes = let P : List Rights → Type 0 = All (HasSizes c.args.locks c.args.bars) in
          subst P (sym pushed) (all_push (HasSizes c.args.locks c.args.bars) all rights before.sizes c.in_ok-new.ensures.sizes);
    }

use Rattle.std.proofs.Common.{◌≡◌, ◌∙◌, ◌<◌, ◌++◌, ◌∷◌, [], List, true, not, get_or, length, take, drop, ap, sym, subst, arith}
use Rattle.std.proofs.lemmas.List.Edits.{length-remove}
use Rattle.std.proofs.lemmas.Option.{get_or_from_slice_get}
use Rattle.dsm_base.specs.declared.lists.PendingLine.{PendingLine}
use Rattle.dsm_acqlog.specs.Tails.{is_safe, safe_lines, unsafe_lines}
use Rattle.dsm_acqlog.proofs.Parting.{taken_found, taken_left}
use Rattle.dsm_acqlog.proofs.tail.take_safe.Goals as goal

pub loop-at-preserved-in-Continue-1 : goal.loop-at-preserved-in-Continue-1
loop-at-preserved-in-Continue-1 c =
    let records = c.args.records.now in
    let lines = c.loop-at.lines in
    let at = c.loop-at.at in
    let line = c.index-as_slice-at.result in
    let within : at < length lines = omega (arith, c.loop-at-test.true, c.len.ensures) in
    let is : line ≡ get_or lines at line = subst (λ (l : List PendingLine). line ≡ get_or l at line) c.as_slice.ensures c.index-as_slice-at.is in
    let same : c.remove.result ≡ line = sym (get_or_from_slice_get lines at c.remove.result line c.remove.ensures.item) ∙ sym is in
    let safe : is_safe records line ≡ true =
    subst (λ (one : PendingLine). is_safe records one ≡ true) (sym c.index-as_slice-at.is) (sym c.is_safe_turn.ensures ∙ c.if-is_safe_turn.true) in
    let fewer = length-remove lines at within in
    let rest = ap length c.remove.ensures.rest in
    record {
      within = omega (arith, within, fewer, rest);
      outs =
          ap (λ (l : List PendingLine). l ++ safe_lines records (drop at c.remove.new.self)) (c.in_ok-push.ensures.ok ∙ ap (λ (one : PendingLine). c.loop-at.outs ++ one ∷ []) same)
          ∙ ap (λ (l : List PendingLine). (c.loop-at.outs ++ line ∷ []) ++ safe_lines records (drop at l)) c.remove.ensures.rest
          ∙ taken_found (is_safe records) lines at line within is c.loop-at.outs (safe_lines records c.args.lines.now) safe c.loop-at.invariant.outs;
      left =
          ap (λ (l : List PendingLine). take at l ++ unsafe_lines records (drop at l)) c.remove.ensures.rest
          ∙ taken_left (λ (one : PendingLine). not (is_safe records one)) lines at line within is (unsafe_lines records c.args.lines.now) (ap not safe) c.loop-at.invariant.left;
    }

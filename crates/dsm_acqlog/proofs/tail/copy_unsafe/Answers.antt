use Rattle.std.proofs.Common.{◌≡◌, ◌∙◌, ◌+◌, ◌++◌, ◌∷◌, [], ℕ, List, Bool, true, false, not, drop, ap, arith}
use Rattle.dsm_base.specs.declared.lists.PendingLine.{PendingLine}
use Rattle.dsm_acqlog.specs.Tails.{is_safe, unsafe_lines}
use Rattle.dsm_acqlog.proofs.Parting.{found_more, found_same}
use Rattle.dsm_acqlog.proofs.tail.copy_unsafe.Goals as goal
use Rattle.dsm_acqlog.proofs.tail.copy_unsafe.Goals.{then-not-is_safe_turn+in_ok-text+in_ok-push, else-not-is_safe_turn}

pub loop-line-preserved : goal.loop-line-preserved
loop-line-preserved c =
    let test : PendingLine → Bool = λ line. not (is_safe c.args.records.now line) in
    let rest = unsafe_lines c.args.records.now (drop (c.loop-line.line-index + 1) c.args.lines.now) in
    let all = unsafe_lines c.args.records.now c.args.lines.now in
    elim c.if-not-is_safe_turn.branch [
      | then-not-is_safe_turn+in_ok-text+in_ok-push w ↦
          let passes : test c.line-item.result ≡ true = grind (arith, c.is_safe_turn.ensures, w.if-not-is_safe_turn.true) in
          ap (λ (l : List PendingLine). l ++ rest)
          (w.left-is ∙ w.in_ok-push.ensures.ok
          ∙ ap (λ (text : List ℕ). c.loop-line.left ++ record { turn = c.line-item.result.turn; text = text } ∷ []) (w.in_ok-text.ensures ∙ w.as_slice.ensures))
          ∙ found_more test c.args.lines.now c.loop-line.line-index c.line-item.result c.loop-line-test.true c.line-item.is c.loop-line.left all passes c.loop-line.invariant
      | else-not-is_safe_turn w ↦
          let fails : test c.line-item.result ≡ false = grind (arith, c.is_safe_turn.ensures, w.if-not-is_safe_turn.false) in
          ap (λ (l : List PendingLine). l ++ rest) w.left-is
          ∙ found_same test c.args.lines.now c.loop-line.line-index c.line-item.result c.loop-line-test.true c.line-item.is c.loop-line.left all fails c.loop-line.invariant
    ]

use Rattle.std.proofs.Common.{◌≡◌, ◌∙◌, ap, sym, ◌∷◌, ◌+◌, ◌-◌, [], length, take, drop, arith, List, ℕ}
use Rattle.std.proofs.lemmas.Grind.{common_steps}
use Rattle.std.specs.List.{prefix_len}
use Rattle.std.specs.Str.Lines.{lines, strip_carriage_return}
use Rattle.dsm_sched.specs.Words.{not_newline}
use Rattle.dsm_sched.proofs.FirstLines.{lines-first, lines-last}
use Rattle.dsm_sched.proofs.lines.split_line.Goals as goal

nothing_behind : (text : List ℕ) (end : ℕ) → end ≡ length text → take (length text - end) (drop end text) ≡ []
nothing_behind text end is = grind (arith, common_steps)

all_behind : (text : List ℕ) (place : ℕ) → take (length text - place) (drop place text) ≡ drop place text
all_behind text place = grind (arith, common_steps)

pub returns-then-end-text-clause-lines : goal.returns-then-end-text-clause-lines
returns-then-end-text-clause-lines c =
    let text = c.args.text.now in
    lines-last text c.requires (sym c.line_len-end.ensures.len ∙ c.if-end-text.true) ∙ ap (λ rest. text ∷ lines rest) (sym (nothing_behind text c.line_len-end.result c.if-end-text.true))

pub returns-else-end-text-clause-lines : goal.returns-else-end-text-clause-lines
returns-else-end-text-clause-lines c =
    let text = c.args.text.now in
    let end = c.line_len-end.result in
    let is : prefix_len not_newline text ≡ end = sym c.line_len-end.ensures.len in
    let first : strip_carriage_return (take (prefix_len not_newline text) text) ≡ c.without_return.result.now =
    ap (λ n. strip_carriage_return (take n text)) is ∙ sym c.without_return.ensures in
    let others : drop (prefix_len not_newline text + 1) text ≡ take (length text - (end + 1)) (drop (end + 1) text) =
    ap (λ n. drop (n + 1) text) is ∙ sym (all_behind text (end + 1)) in
    lines-first text (omega (arith, is, c.if-end-text.false, c.line_len-end.ensures.within)) ∙ (λ k. first k ∷ lines (others k))

use Rattle.std.proofs.Common.{sym, ◌∙◌, ap, get_or, List, ℕ, ◌+◌, ◌/◌, subst, Some}
use Rattle.dsm_lines.specs.Bits.{is_bit, is_bit_of, IsFirst}
use Rattle.dsm_lines.proofs.Marking.{none_behind_page, first_behind_page, some_mark, within_lines}
use Rattle.dsm_lines.proofs.marks.DirtyBits.first_behind.Goals as goal

pub returns-in_err-next-clause-first : goal.returns-in_err-next-clause-first
returns-in_err-next-clause-first c =
    rw c.from_residual.ensures
    (none_behind_page c.args.self.now.lines c.args.self.now.words c.args.self.now.summary c.args.page c.args.self.now.kept
    (λ at behind. ap (λ (ws : List ℕ). is_bit ws at) (sym c.as_slice-summary.ensures) ∙ c.in_err-next.ensures at behind))

pub returns-in_err-bit-clause-first : goal.returns-in_err-bit-clause-first
returns-in_err-bit-clause-first c =
    let told = ap (λ (ws : List ℕ). is_bit ws c.in_ok-next.next) (sym c.as_slice-summary.ensures) ∙ c.in_ok-next.ensures.1 in
    absurd
    (some_mark c.args.self.now.lines c.args.self.now.words c.args.self.now.summary c.in_ok-next.next c.args.self.now.kept told
    (ap (λ (ws : List ℕ). get_or ws c.in_ok-next.next 0 / 1) (sym c.as_slice-words.ensures) ∙ c.in_err-bit.ensures.none))

pub returns-clause-first : goal.returns-clause-first
returns-clause-first c =
    first_behind_page c.args.self.now.lines c.args.self.now.words c.args.self.now.summary c.args.page c.in_ok-next.next c.in_ok-bit.bit c.args.self.now.kept c.in_ok-bit.ensures.below
    (subst (λ (ws : List ℕ). IsFirst (is_bit ws) (c.args.page + 1) (Some c.in_ok-next.next)) c.as_slice-summary.ensures c.in_ok-next.ensures)
    (subst (λ (ws : List ℕ). IsFirst (is_bit_of (get_or ws c.in_ok-next.next 0)) 0 (Some c.in_ok-bit.bit)) c.as_slice-words.ensures c.in_ok-bit.ensures.first)

pub returns-clause-within : goal.returns-clause-within
returns-clause-within c =
    within_lines c.args.self.now.lines c.args.self.now.words c.args.self.now.summary _ c.args.self.now.kept (returns-clause-first c).1

use Rattle.std.proofs.Common.{◌≡◌, get_or, List, ℕ, ◌/◌, ◌%◌, subst, Some, None}
use Rattle.dsm_lines.specs.Bits.{is_bit_of, IsFirst}
use Rattle.dsm_lines.proofs.Marking.{first_in_page, first_past_page, within_lines}
use Rattle.dsm_lines.proofs.marks.DirtyBits.first_from.Goals as goal

first_here : (words read : List ℕ) (from bit : ℕ) → read ≡ words → IsFirst (is_bit_of (get_or read (from / 64) 0)) (from % 64) (Some bit) → IsFirst (is_bit_of (get_or words (from / 64) 0)) (from % 64) (Some bit)
first_here words read from bit same first = subst (λ (ws : List ℕ). IsFirst (is_bit_of (get_or ws (from / 64) 0)) (from % 64) (Some bit)) same first

pub returns-in-Some-clause-first : goal.returns-in-Some-clause-first
returns-in-Some-clause-first c =
    first_in_page c.args.self.now.words c.args.from c.in-Some.bit c.in-Some.ensures.below
    (first_here c.args.self.now.words c.as_slice-words.result.now c.args.from c.in-Some.bit c.as_slice-words.ensures c.in-Some.ensures.first)

pub returns-in-Some-clause-within : goal.returns-in-Some-clause-within
returns-in-Some-clause-within c =
    within_lines c.args.self.now.lines c.args.self.now.words c.args.self.now.summary _ c.args.self.now.kept (returns-in-Some-clause-first c).1

pub returns-in-None-clause-first : goal.returns-in-None-clause-first
returns-in-None-clause-first c =
    first_past_page c.args.self.now.words c.args.from c.first_behind.result
    (subst (λ (ws : List ℕ). IsFirst (is_bit_of (get_or ws (c.args.from / 64) 0)) (c.args.from % 64) None) c.as_slice-words.ensures c.in-None.ensures.first)
    c.first_behind.ensures.first

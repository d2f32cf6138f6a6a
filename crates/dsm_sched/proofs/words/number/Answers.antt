use Rattle.std.proofs.Common.{pow-suc, ℕ, sym, add-one, ◌<◌, ◌≤◌, ◌^◌, get_or, arith}
use Rattle.std.specs.Char.{is_ascii_digit}
use Rattle.std.proofs.Math.Nat.{pow-le-pow_right}
use Rattle.std.proofs.lemmas.Int.Digits.{digits_value_more}
use Rattle.std.proofs.lemmas.List.Folds.{list_all_more}
use Rattle.std.proofs.lemmas.Str.{digit_value_digit}
use Rattle.dsm_sched.proofs.words.number.Goals as goal

-- a number of at most eight digits
below : (i : ℕ) → i < 9 → 10 ^ i ≤ 100000000
below i h = pow-le-pow_right {n = 10} (omega arith) {i = i} {j = 8} (omega arith)

pub overflow_mul-value : goal.overflow_mul-value
overflow_mul-value c = omega (arith, below c.loop-digit.digit-index (omega arith))

pub overflow_add-value : goal.overflow_add-value
overflow_add-value c = omega (arith, below c.loop-digit.digit-index (omega arith))

pub loop-digit-preserved : goal.loop-digit-preserved
loop-digit-preserved c =
    let i = c.loop-digit.digit-index in
    let word = c.args.word.now in
    let digit = get_or word i 0 in
    let cases = c.if-not-is_ascii_digit.ensures.cases in
    let value_is = digit_value_digit digit cases in
    record {
      value = omega (arith, digits_value_more 10 word i (omega arith), value_is);
      bound = rw (add-one, pow-suc) (omega (arith, cases.0, cases.1));
      digits = rw (list_all_more is_ascii_digit word i 0 (omega arith), c.loop-digit.invariant.digits) (sym c.if-not-is_ascii_digit.ensures.value);
    }

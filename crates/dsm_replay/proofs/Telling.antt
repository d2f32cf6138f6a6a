-- What the reports of the processors below a number tell.
use Rattle.std.specs.Prelude.{nat_lt}
use Rattle.std.proofs.Common.{◌≡◌, ℕ, zero, suc, ◌+◌, ◌-◌, ◌<◌, ◌≤◌, Bool, true, false, ◌&&◌, if◌then◌else◌, List, [], ◌∷◌, ◌++◌, Option, refl, sym, ap, ◌∙◌, arith}
use Rattle.std.specs.List.{flat_map}
use Rattle.std.specs.Option.{option_or}
use Rattle.std.proofs.lemmas.Bool.{true≢false}
use Rattle.dsm_base.specs.Family.{all_below}
use Rattle.dsm_base.proofs.Families.{all_at}
use Rattle.dsm_lines.specs.declared.list.Line.{Line}
use Rattle.dsm_barrier.specs.Joined.{with_line, with_lines}
use Rattle.dsm_replay.specs.Reports.{first_below}
use Rattle.dsm_replay.specs.Newest.{falling}

-- one that fails
pub fails_at : (n : ℕ) (test : ℕ → Bool) (k : ℕ) → k < n → test k ≡ false → all_below n test ≡ false
fails_at n test k lt e = by (all_below n test) refl
  where
    by : (b : Bool) → all_below n test ≡ b → b ≡ false
    by true is = absurd (true≢false (sym (all_at n test k lt is) ∙ e))
    by false is = refl

-- one more that is tested
pub all_more : (n : ℕ) (test : ℕ → Bool) → all_below (n + 1) test ≡ (test n && all_below n test)
all_more n test = let is : n + 1 ≡ suc n = omega arith in rw is refl

-- one more answer
pub first_more : {A : Type 0} (n : ℕ) (answer : ℕ → Option A) → first_below (n + 1) answer ≡ option_or (first_below n answer) (answer n)
first_more n answer = let is : n + 1 ≡ suc n = omega arith in rw is refl

pub lines_on : (lines more others : List Line) → with_lines lines (more ++ others) ≡ with_lines (with_lines lines more) others
lines_on lines [] others = refl
lines_on lines (line ∷ more) others = lines_on (with_line lines line) more others

-- the lines of one more version come behind those of newer ones
pub version_on : (lines_of : ℕ → List Line) (least n next : ℕ) (merged now all : List Line) → least < n → next ≡ n - 1 →
    now ≡ with_lines merged (lines_of n) → with_lines merged (flat_map lines_of (falling least n)) ≡ all → with_lines now (flat_map lines_of (falling least next)) ≡ all
version_on lines_of least zero next merged now all lt on is before = absurd (omega arith)
version_on lines_of least (suc n) next merged now all lt on is before =
    let same : next ≡ n = omega arith in
    let one : n + 1 ≡ suc n = omega arith in
    let test : nat_lt least (n + 1) ≡ true = grind arith in
    let open_up : falling least (suc n) ≡ (n + 1) ∷ falling least n = choose (nat_lt least (n + 1)) test n in
    ap (λ lines. with_lines lines (flat_map lines_of (falling least next))) is
    ∙ ap (λ k. with_lines (with_lines merged (lines_of (suc n))) (flat_map lines_of (falling least k))) same
    ∙ ap (λ k. with_lines (with_lines merged (lines_of k)) (flat_map lines_of (falling least n))) (sym one)
    ∙ sym (lines_on merged (lines_of (n + 1)) (flat_map lines_of (falling least n)))
    ∙ sym (ap (λ list. with_lines merged (flat_map lines_of list)) open_up)
    ∙ before
  where
    choose : (b : Bool) → b ≡ true → (n : ℕ) → (if b then (n + 1) ∷ falling least n else []) ≡ (n + 1) ∷ falling least n
    choose b e n = rw e refl

-- no version is left
pub no_version : (lines_of : ℕ → List Line) (least n : ℕ) (merged all : List Line) → n ≤ least → with_lines merged (flat_map lines_of (falling least n)) ≡ all → merged ≡ all
no_version lines_of least zero merged all le before = before
no_version lines_of least (suc n) merged all le before =
    let test : nat_lt least (n + 1) ≡ false = grind arith in
    sym (ap (λ list. with_lines merged (flat_map lines_of list)) (choose (nat_lt least (n + 1)) test)) ∙ before
  where
    choose : (b : Bool) → b ≡ false → (if b then (n + 1) ∷ falling least n else []) ≡ []
    choose b e = rw e refl

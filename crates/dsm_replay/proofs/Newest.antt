-- Of each number the newest line.
use Rattle.std.specs.Prelude.{nat_lt}
use Rattle.std.proofs.Common.{◌≡◌, ℕ, zero, suc, ◌+◌, ◌<◌, ◌≤◌, Bool, true, false, ◌&&◌, ◌==◌, if◌then◌else◌, List, [], ◌∷◌, ◌++◌, Option, Some, None, refl, sym, ap, ◌∙◌, arith, ⊎_elim}
use Rattle.std.specs.List.{flat_map, list_all}
use Rattle.std.specs.Option.{option_or}
use Rattle.std.proofs.lemmas.Bool.{cases_eq}
use Rattle.std.proofs.lemmas.List.Folds.{find-append}
use Rattle.dsm_lines.specs.declared.list.Line.{Line}
use Rattle.dsm_lines.specs.LineLists.{is_line, are_lines}
use Rattle.dsm_barrier.proofs.Ordered.{order_rises, order_first}
use Rattle.dsm_replay.specs.Newest.{falling, newest_lines, line_numbered}

one_more : (over n : ℕ) → over < n + 1 → falling over (suc n) ≡ (n + 1) ∷ falling over n
one_more over n lt = choose (nat_lt over (n + 1)) (grind arith)
  where
    choose : (b : Bool) → b ≡ true → (if b then (n + 1) ∷ falling over n else []) ≡ (n + 1) ∷ falling over n
    choose b e = rw e refl

no_more : (over n : ℕ) → n + 1 ≤ over → falling over (suc n) ≡ []
no_more over n le = choose (nat_lt over (n + 1)) (grind arith)
  where
    choose : (b : Bool) → b ≡ false → (if b then (n + 1) ∷ falling over n else []) ≡ []
    choose b e = rw e refl

module _ (lines_of : ℕ → List Line) (over number : ℕ) where
  abbrev all : ℕ → Option Line
  all upto = line_numbered number (flat_map lines_of (falling over upto))

  step : (n : ℕ) → over < n + 1 → all (suc n) ≡ option_or (line_numbered number (lines_of (n + 1))) (all n)
  step n lt =
      ap (λ versions. line_numbered number (flat_map lines_of versions)) (one_more over n lt)
      ∙ find-append (λ line. line.number == number) (lines_of (n + 1)) (flat_map lines_of (falling over n))

  newest_there : (upto version : ℕ) (line : Line) → over < version → version ≤ upto → line_numbered number (lines_of version) ≡ Some line →
      ((later : ℕ) → version < later → later ≤ upto → line_numbered number (lines_of later) ≡ None) → all upto ≡ Some line
  newest_there zero version line lt le there none = absurd (omega arith)
  newest_there (suc n) version line lt le there none =
      ⊎_elim
      (λ same. step n (omega arith) ∙ ap (λ one. option_or one (all n)) (ap (λ v. line_numbered number (lines_of v)) (sym same) ∙ there))
      (λ other. step n (omega arith)
      ∙ ap (λ one. option_or one (all n)) (none (n + 1) (omega arith) (omega arith))
      ∙ newest_there n version line lt (omega arith) there (λ later above within. none later above (omega arith)))
      (cases_eq version (n + 1))

  none_there : (upto : ℕ) → ((version : ℕ) → over < version → version ≤ upto → line_numbered number (lines_of version) ≡ None) → all upto ≡ None
  none_there zero none = refl
  none_there (suc n) none = by (nat_lt over (n + 1)) refl (none_there n (λ version above within. none version above (omega arith)))
    where
      by : (b : Bool) → nat_lt over (n + 1) ≡ b → all n ≡ None → all (suc n) ≡ None
      by true is rest =
          let lt : over < n + 1 = grind arith in
          step n lt ∙ ap (λ one. option_or one (all n)) (none (n + 1) lt (omega arith)) ∙ rest
      by false is rest =
          let le : n + 1 ≤ over = grind arith in
          ap (λ versions. line_numbered number (flat_map lines_of versions)) (no_more over n le)

  pub newest_is : (upto version : ℕ) (line : Line) → over < version → version ≤ upto → line_numbered number (lines_of version) ≡ Some line →
      ((later : ℕ) → version < later → later ≤ upto → line_numbered number (lines_of later) ≡ None) → line_numbered number (newest_lines lines_of over upto) ≡ Some line
  newest_is upto version line lt le there none =
      order_first (flat_map lines_of (falling over upto)) number ∙ newest_there upto version line lt le there none

  pub none_is : (upto : ℕ) → ((version : ℕ) → over < version → version ≤ upto → line_numbered number (lines_of version) ≡ None) → line_numbered number (newest_lines lines_of over upto) ≡ None
  none_is upto none = order_first (flat_map lines_of (falling over upto)) number ∙ none_there upto none

all_append : (xs ys : List Line) → list_all is_line xs ≡ true → list_all is_line ys ≡ true → list_all is_line (xs ++ ys) ≡ true
all_append [] ys first second = second
all_append (x ∷ xs) ys first second = let parts = both (is_line x) (list_all is_line xs) first in join (is_line x) (list_all is_line (xs ++ ys)) parts.0 (all_append xs ys parts.1 second)
  where
    both : (a b : Bool) → (a && b) ≡ true → (a ≡ true) × (b ≡ true)
    both a b e = (grind arith, grind arith)

    join : (a b : Bool) → a ≡ true → b ≡ true → (a && b) ≡ true
    join a b x y = grind arith

pub newest_rise : (lines_of : ℕ → List Line) (over upto : ℕ) → ((version : ℕ) → list_all is_line (lines_of version) ≡ true) → are_lines (newest_lines lines_of over upto) ≡ true
newest_rise lines_of over upto all = order_rises (flat_map lines_of (falling over upto)) (each (falling over upto))
  where
    each : (versions : List ℕ) → list_all is_line (flat_map lines_of versions) ≡ true
    each [] = refl
    each (version ∷ versions) = all_append (lines_of version) (flat_map lines_of versions) (all version) (each versions)

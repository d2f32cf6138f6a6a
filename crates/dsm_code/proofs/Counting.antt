-- Tests of all instructions and of all functions, one at a time.
use Rattle.std.proofs.Common.{◌≡◌, ℕ, ◌+◌, ◌<◌, Bool, true, false, ◌&&◌, List, [], ◌∷◌, length, map, get_or, drop, refl, sym, ap, ◌∙◌}
use Rattle.std.specs.List.{list_all}
use Rattle.std.proofs.lemmas.List.{drop_more}
use Rattle.dsm_code.specs.declared.parts.Row.{Row}
use Rattle.dsm_code.specs.Programs.{Program, Function}
use Rattle.dsm_code.specs.Valid.{is_fine, all_fine_from}

fine_next : (program : Program) (f : Function) (rows : List Row) (place : ℕ) (row : Row) → place < length rows → row ≡ get_or rows place row
    → all_fine_from program f place (drop place rows) ≡ (is_fine program f place row && all_fine_from program f (place + 1) (drop (place + 1) rows))
fine_next program f rows place row lt is =
    ap (all_fine_from program f place) (drop_more rows place row lt)
    ∙ ap (λ r. is_fine program f place r && all_fine_from program f (place + 1) (drop (place + 1) rows)) (sym is)

-- one that isn't fine
pub fine_fails : (program : Program) (f : Function) (rows : List Row) (place : ℕ) (row : Row) → place < length rows → row ≡ get_or rows place row
    → is_fine program f place row ≡ false → all_fine_from program f place (drop place rows) ≡ false
fine_fails program f rows place row lt is fails =
    fine_next program f rows place row lt is ∙ ap (λ b. b && all_fine_from program f (place + 1) (drop (place + 1) rows)) fails

-- and one that is
pub fine_goes_on : (program : Program) (f : Function) (rows : List Row) (place : ℕ) (row : Row) → place < length rows → row ≡ get_or rows place row
    → is_fine program f place row ≡ true → all_fine_from program f place (drop place rows) ≡ all_fine_from program f (place + 1) (drop (place + 1) rows)
fine_goes_on program f rows place row lt is fine =
    fine_next program f rows place row lt is ∙ ap (λ b. b && all_fine_from program f (place + 1) (drop (place + 1) rows)) fine

-- a test of what a function makes of each
pub list_all_mapped : {A B : Type 0} (test : B → Bool) (f : A → B) (xs : List A) → list_all test (map f xs) ≡ list_all (λ x. test (f x)) xs
list_all_mapped test f [] = refl
list_all_mapped test f (x ∷ xs) = ap (λ b. test (f x) && b) (list_all_mapped test f xs)

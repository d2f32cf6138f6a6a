-- Entries with too few or too many arguments.
use Rattle.std.specs.Prelude.{◌≡◌, ℕ, ◌<◌, ◌≤◌, List, [], ◌∷◌, length, map, None}
use Rattle.std.proofs.Common.{Bor, refl, arith}
use Rattle.dsm_sched.specs.Entries.{two_numbers, counted_number, counted_numbers}

pub few_for_two : (words : List (Bor (List ℕ))) → length words < 2 → two_numbers (map (λ word. word.now) words) ≡ None
few_for_two [] h = refl
few_for_two (p ∷ []) h = refl
few_for_two (p ∷ q ∷ words) h = absurd (omega arith)

pub many_for_two : (words : List (Bor (List ℕ))) → 3 ≤ length words → two_numbers (map (λ word. word.now) words) ≡ None
many_for_two [] h = absurd (omega arith)
many_for_two (p ∷ []) h = absurd (omega arith)
many_for_two (p ∷ q ∷ []) h = absurd (omega arith)
many_for_two (p ∷ q ∷ r ∷ words) h = refl

pub none_counted : (words : List (Bor (List ℕ))) → length words < 1 → counted_number (map (λ word. word.now) words) ≡ two_numbers (map (λ word. word.now) words)
none_counted [] h = refl
none_counted (p ∷ words) h = absurd (omega arith)

pub some_counted : (words : List (Bor (List ℕ))) → 2 ≤ length words → counted_number (map (λ word. word.now) words) ≡ two_numbers (map (λ word. word.now) words)
some_counted [] h = absurd (omega arith)
some_counted (p ∷ []) h = absurd (omega arith)
some_counted (p ∷ q ∷ words) h = refl

pub few_for_counted : (words : List (Bor (List ℕ))) → length words < 2 → counted_numbers (map (λ word. word.now) words) ≡ None
few_for_counted [] h = refl
few_for_counted (p ∷ []) h = refl
few_for_counted (p ∷ q ∷ words) h = absurd (omega arith)

pub many_for_counted : (words : List (Bor (List ℕ))) → 4 ≤ length words → counted_numbers (map (λ word. word.now) words) ≡ None
many_for_counted [] h = absurd (omega arith)
many_for_counted (p ∷ []) h = absurd (omega arith)
many_for_counted (p ∷ q ∷ []) h = absurd (omega arith)
many_for_counted (p ∷ q ∷ r ∷ []) h = absurd (omega arith)
many_for_counted (p ∷ q ∷ r ∷ s ∷ words) h = refl

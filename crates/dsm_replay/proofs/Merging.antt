-- Lines by their numbers, beside lines in order.
use Rattle.std.specs.Prelude.{ℤ, nat_lt, map, is_some}
use Rattle.std.proofs.Common.{◌≡◌, ◌≢◌, ℕ, ◌<◌, ◌≤◌, true, false, ◌==◌, List, [], ◌∷◌, refl, sym, ap, ◌∙◌, arith, ⊎_elim}
use Rattle.std.specs.declared.cmp.Ordering.{Ordering}
use Rattle.std.specs.declared.cmp.Ordering.TheVariants.{Less, Equal, Greater}
use Rattle.std.specs.Ordering.{nat_cmp, match_ordering, is_eq}
use Rattle.std.specs.BTreeMap.{is_at, insert_entry}
use Rattle.std.specs.Map.{lookup, keys_of}
use Rattle.std.specs.List.Sorted.{IsStrictlySortedBy}
use Rattle.std.proofs.lemmas.Bool.{cases_eq, cases_lt, true≢false, false≢true}
use Rattle.std.proofs.lemmas.Cmp.{nat_cmp_total}
use Rattle.std.proofs.lemmas.Map.{lookup-none}
use Rattle.std.proofs.lemmas.Map.Entries.{lookup_head, lookup_tail, none_below_head}
use Rattle.std.proofs.lemmas.Map.Keys.{sorted_tail}
use Rattle.dsm_lines.specs.declared.list.Line.{Line}
use Rattle.dsm_barrier.specs.Joined.{with_line}
use Rattle.dsm_barrier.proofs.Ordered.{goes_on, is_there, comes_first}
use Rattle.dsm_replay.specs.Merging.{line_of}

less : (a b : ℕ) → a < b → nat_cmp a b ≡ Less
less a b lt = let t : nat_lt a b ≡ true = grind arith in rw t refl

equal : (a b : ℕ) → a ≡ b → nat_cmp a b ≡ Equal
equal a b e = let f : nat_lt a b ≡ false = grind arith in let t : (a == b) ≡ true = grind arith in rw (f, t) refl

greater : (a b : ℕ) → b ≤ a → a ≢ b → nat_cmp a b ≡ Greater
greater a b ge ne = let f : nat_lt a b ≡ false = grind arith in let g : (a == b) ≡ false = grind arith in rw (f, g) refl

over : (a b : ℕ) → b ≤ a → a ≢ b → b < a
over a b ge ne = omega arith

-- a line of a new number comes to its place
pub placed : (entries : List (ℕ × List ℤ)) (number : ℕ) (values : List ℤ) → is_some (lookup (is_at (nat_cmp number)) entries) ≡ false →
    map line_of (insert_entry nat_cmp entries number values) ≡ with_line (map line_of entries) (line_of (number, values))
placed [] number values none = refl
placed (entry ∷ entries) number values none =
    ⊎_elim
    (λ lt. ap (map line_of) (at Less (less number entry.0 lt)) ∙ sym (comes_first (line_of entry) (map line_of entries) (line_of (number, values)) lt))
    (λ ge. ⊎_elim
    (λ same. absurd (true≢false (sym (ap is_some (lookup_head (is_at (nat_cmp number)) entry entries (ap is_eq (equal number entry.0 same)))) ∙ none)))
    (λ ne. ap (map line_of) (at Greater (greater number entry.0 ge ne))
    ∙ ap (λ lines. line_of entry ∷ lines) (placed entries number values (ap is_some (sym (lookup_tail (is_at (nat_cmp number)) entry entries (ap is_eq (greater number entry.0 ge ne)))) ∙ none))
    ∙ sym (goes_on (line_of entry) (map line_of entries) (line_of (number, values)) (over number entry.0 ge ne)))
    (cases_eq number entry.0))
    (cases_lt number entry.0)
  where
    at : (order : Ordering) → nat_cmp number entry.0 ≡ order →
        insert_entry nat_cmp (entry ∷ entries) number values ≡ match_ordering order ((number, values) ∷ entry ∷ entries) ((entry.0, values) ∷ entries) (entry ∷ insert_entry nat_cmp entries number values)
    at order is = ap (λ one. match_ordering one ((number, values) ∷ entry ∷ entries) ((entry.0, values) ∷ entries) (entry ∷ insert_entry nat_cmp entries number values)) is

-- a line of a number that is there changes nothing
pub stays : (entries : List (ℕ × List ℤ)) (line : Line) → IsStrictlySortedBy nat_cmp (keys_of entries) → is_some (lookup (is_at (nat_cmp line.number)) entries) ≡ true →
    map line_of entries ≡ with_line (map line_of entries) line
stays [] line sorted there = absurd (false≢true there)
stays (entry ∷ entries) line sorted there =
    ⊎_elim
    (λ lt. absurd (false≢true (ap is_some (sym (lookup-none (is_at (nat_cmp line.number)) (entry ∷ entries) (none_below_head nat_cmp_total line.number entry entries sorted (less line.number entry.0 lt)))) ∙ there)))
    (λ ge. ⊎_elim
    (λ same. sym (is_there (line_of entry) (map line_of entries) line (sym same)))
    (λ ne. ap (λ lines. line_of entry ∷ lines)
    (stays entries line (sorted_tail nat_cmp entry.0 (keys_of entries) sorted) (ap is_some (sym (lookup_tail (is_at (nat_cmp line.number)) entry entries (ap is_eq (greater line.number entry.0 ge ne)))) ∙ there))
    ∙ sym (goes_on (line_of entry) (map line_of entries) line (over line.number entry.0 ge ne)))
    (cases_eq line.number entry.0))
    (cases_lt line.number entry.0)

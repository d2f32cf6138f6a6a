-- The lines of an object that pass a test are a list of lines.
use Rattle.std.proofs.Common.{◌≡◌, ◌+◌, ◌-◌, ◌*◌, ◌<◌, ◌≤◌, ℕ, ℤ, zero, suc, Bool, true, false, ◌&&◌, if◌then◌else◌, List, [], ◌∷◌, ◌++◌, length, map, filter, refl, subst, inl, inr, arith}
use Rattle.std.specs.Prelude.{nat_lt, nat_le, min}
use Rattle.std.specs.List.{range_with_len}
use Rattle.std.proofs.lemmas.Bool.Decides.{leb_tells, nat_tests}
use Rattle.std.proofs.lemmas.List.{length-map}
use Rattle.std.proofs.lemmas.List.FromFn.{length-range_with_len}
use Rattle.dsm_base.specs.declared.setup.Object.{Object}
use Rattle.dsm_base.specs.declared.setup.Piece.{Piece}
use Rattle.dsm_lines.specs.LineLists.{are_lines, are_lines_from}
use Rattle.dsm_lines.specs.Places.{line_count, lines, cells_in, same_object, lines_from, lines_of}
use Rattle.dsm_lines.specs.Copies.{line_with, lines_where}
use Rattle.dsm_lines.proofs.Cells.{width_most}

-- numbers rise from at least the one to below the other
abbrev Rise : ℕ → ℕ → List ℕ → Type 0
Rise least end [] = Unit {0}
Rise least end (number ∷ numbers) = (least ≤ number) × (number < end) × Rise (number + 1) end numbers

rise_lower : (low least end : ℕ) (numbers : List ℕ) → low ≤ least → Rise least end numbers → Rise low end numbers
rise_lower low least end [] le rise = tt
rise_lower low least end (number ∷ numbers) le rise = (omega (arith, le, rise.0), rise.1, rise.2)

rise_range : (start count end : ℕ) → start + count ≤ end → Rise start end (range_with_len start count)
rise_range start zero end le = tt
rise_range start (suc count) end le = (omega arith, omega (arith, le), rise_range (start + 1) count end (omega (arith, le)))

rise_append : (least mid end : ℕ) (front behind : List ℕ) → mid ≤ end → least ≤ mid → Rise least mid front → Rise mid end behind → Rise least end (front ++ behind)
rise_append least mid end [] behind le low first second = rise_lower least mid end behind low second
rise_append least mid end (number ∷ front) behind le low first second =
    (first.0, omega (arith, le, first.1), rise_append (number + 1) mid end front behind le (omega (arith, first.1)) first.2 second)

rise_either : (least end number : ℕ) (numbers : List ℕ) (b : Bool) → least ≤ number → number < end → Rise (number + 1) end numbers → Rise least end (if b then number ∷ numbers else numbers)
rise_either least end number numbers true low high rest = (low, high, rest)
rise_either least end number numbers false low high rest = rise_lower least (number + 1) end numbers (omega (arith, low)) rest

rise_filter : (test : ℕ → Bool) (least end : ℕ) (numbers : List ℕ) → Rise least end numbers → Rise least end (filter test numbers)
rise_filter test least end [] rise = tt
rise_filter test least end (number ∷ numbers) rise =
    rise_either least end number (filter test numbers) (test number) rise.0 rise.1 (rise_filter test (number + 1) end numbers rise.2)

rise_part : (start count end : ℕ) (b : Bool) → start + count ≤ end → Rise start end (if b then range_with_len start count else [])
rise_part start count end true le = rise_range start count end le
rise_part start count end false le = tt

rise_lines : (start : ℕ) (pieces : List Piece) (object : Object) → Rise start (start + lines pieces) (lines_from start pieces object)
rise_lines start [] object = tt
rise_lines start (piece ∷ others) object =
    let mid = start + line_count piece in
    let same : mid + lines others ≡ start + lines (piece ∷ others) = omega arith in
    rise_append start mid (start + lines (piece ∷ others)) (if same_object piece.object object then range_with_len start (line_count piece) else []) (lines_from mid others object)
    (omega arith) (omega arith)
    (rise_part start (line_count piece) mid (same_object piece.object object) (omega arith))
    (subst (λ end. Rise mid end (lines_from mid others object)) same (rise_lines mid others object))

-- a line has a cell
width_least : (pieces : List Piece) (line : ℕ) → line < lines pieces → 1 ≤ length (cells_in pieces line)
width_least [] line within = absurd (omega arith)
width_least (piece ∷ others) line within =
    elim (leb_tells (suc line) (line_count piece)) [
      | inl (is, below) ↦ rw is (omega (arith, below, length-range_with_len (piece.first.0 + 8 * line) (min 8 (piece.count - 8 * line))))
      | inr (is, above) ↦ rw is (width_least others (line - line_count piece) (omega (arith, above)))
    ]

one_line : (width least number : ℕ) (rest : Bool) → 1 ≤ width → width ≤ 8 → least ≤ number → rest ≡ true → ((nat_lt 0 width && nat_le width 8) && (nat_le least number && rest)) ≡ true
one_line width least number rest some few low h = rw h (grind (arith, nat_tests))

risen_lines : (pieces : List Piece) (memory : ℕ → ℤ) (least : ℕ) (numbers : List ℕ) → Rise least (lines pieces) numbers → are_lines_from least (map (line_with pieces memory) numbers) ≡ true
risen_lines pieces memory least [] rise = refl
risen_lines pieces memory least (number ∷ numbers) rise =
    let width : length (line_with pieces memory number).values ≡ length (cells_in pieces number) = length-map (cells_in pieces number) memory in
    one_line (length (line_with pieces memory number).values) least number (are_lines_from (number + 1) (map (line_with pieces memory) numbers))
    (omega (arith, width, width_least pieces number rise.1)) (omega (arith, width, width_most pieces number)) rise.0
    (risen_lines pieces memory (number + 1) numbers rise.2)

pub where_are_lines : (pieces : List Piece) (test : ℕ → Bool) (memory : ℕ → ℤ) (object : Object) → are_lines (lines_where pieces test memory object) ≡ true
where_are_lines pieces test memory object =
    let same : 0 + lines pieces ≡ lines pieces = omega arith in
    risen_lines pieces memory 0 (filter test (lines_of pieces object))
    (rise_filter test 0 (lines pieces) (lines_of pieces object) (subst (λ end. Rise 0 end (lines_of pieces object)) same (rise_lines 0 pieces object)))

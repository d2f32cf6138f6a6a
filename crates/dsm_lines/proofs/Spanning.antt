-- The lines of an object are those of its spans; which of them are listed, and which lose their marks.
use Rattle.std.proofs.Common.{◌≡◌, ℕ, zero, suc, ◌+◌, ◌-◌, ◌<◌, ◌≤◌, Bool, true, false, not, List, [], ◌∷◌, ◌++◌, length, get_or, take, map, filter, refl, sym, ap, ◌∙◌, arith, append_assoc, append-nil, Option, Some, None}
use Rattle.std.specs.Prelude.{◌&&◌, ◌||◌, ◌==◌, ℤ, nat_lt, nat_le, if◌then◌else◌}
use Rattle.std.specs.List.{range_with_len, list_any, flat_map}
use Rattle.std.proofs.lemmas.Bool.Decides.{nat_tests}
use Rattle.std.proofs.lemmas.Grind.{common_steps}
use Rattle.std.proofs.lemmas.List.{take_more, map-append}
use Rattle.std.proofs.lemmas.List.Elements.{filter-append}
use Rattle.dsm_base.specs.declared.setup.Object.{Object}
use Rattle.dsm_base.specs.declared.setup.Piece.{Piece}
use Rattle.dsm_base.specs.Family.{update}
use Rattle.dsm_lines.specs.declared.list.Line.{Line}
use Rattle.dsm_lines.specs.declared.place.Span.{Span}
use Rattle.dsm_lines.specs.Bits.{IsFirst}
use Rattle.dsm_lines.specs.Places.{line_count, lines_of_span, spans_from, lines_from, same_object}
use Rattle.dsm_lines.specs.Copies.{line_with, lines_among, without}

-- the lines of an object are those of its spans
pub lines_of_spans : (start : ℕ) (pieces : List Piece) (object : Object) → flat_map lines_of_span (spans_from start pieces object) ≡ lines_from start pieces object
lines_of_spans start [] object = refl
lines_of_spans start (piece ∷ others) object =
    elim (same_object piece.object object) as
    (λ b. flat_map lines_of_span ((if b then (record { first = start; count = line_count piece }) ∷ [] else []) ++ spans_from (start + line_count piece) others object)
    ≡ (if b then range_with_len start (line_count piece) else []) ++ lines_from (start + line_count piece) others object) [
      | true ↦ ap (λ ns. range_with_len start (line_count piece) ++ ns) (lines_of_spans (start + line_count piece) others object)
      | false ↦ lines_of_spans (start + line_count piece) others object
    ]

-- what flat_map has of one item more
pub flat_more : {A B : Type 0} (f : A → List B) (items : List A) (i : ℕ) (item : A) → i < length items → flat_map f (take (i + 1) items) ≡ flat_map f (take i items) ++ f (get_or items i item)
flat_more f items i item within = ap (flat_map f) (take_more items i item within) ∙ joined (take i items)
  where
    joined : (before : List _) → flat_map f (before ++ get_or items i item ∷ []) ≡ flat_map f before ++ f (get_or items i item)
    joined [] = append-nil _
    joined (first ∷ before) = ap (λ bs. f first ++ bs) (joined before) ∙ sym (append_assoc (f first) (flat_map f before) (f (get_or items i item)))

-- listed lines of some numbers and then of others
pub among_append : (pieces : List Piece) (test : ℕ → Bool) (memory : ℕ → ℤ) (numbers more : List ℕ)
    → lines_among pieces test memory (numbers ++ more) ≡ lines_among pieces test memory numbers ++ lines_among pieces test memory more
among_append pieces test memory numbers more =
    ap (map (line_with pieces memory)) (filter-append test numbers more)
    ∙ map-append (line_with pieces memory) (filter test numbers) (filter test more)

-- one line is added to those listed
pub among_pushed : (pieces : List Piece) (memory : ℕ → ℤ) (start before now : List Line) (passed more : List ℕ) (line : Line) (number : ℕ)
    → before ≡ start ++ map (line_with pieces memory) passed → now ≡ before ++ line ∷ [] → line ≡ line_with pieces memory number → more ≡ passed ++ number ∷ []
    → now ≡ start ++ map (line_with pieces memory) more
among_pushed pieces memory start before now passed more line number listed pushed is one_more =
    pushed
    ∙ (λ i. listed i ++ is i ∷ [])
    ∙ append_assoc start (map (line_with pieces memory) passed) (line_with pieces memory number ∷ [])
    ∙ ap (λ ls. start ++ ls) (sym (map-append (line_with pieces memory) passed (number ∷ [])))
    ∙ ap (λ ns. start ++ map (line_with pieces memory) ns) (sym one_more)

-- the lines of one span more are added
pub among_spans : (pieces : List Piece) (test : ℕ → Bool) (memory : ℕ → ℤ) (spans : List Span) (i : ℕ) (span : Span) (before now : List Line) → i < length spans
    → before ≡ lines_among pieces test memory (flat_map lines_of_span (take i spans)) → now ≡ before ++ lines_among pieces test memory (lines_of_span (get_or spans i span))
    → now ≡ lines_among pieces test memory (flat_map lines_of_span (take (i + 1) spans))
among_spans pieces test memory spans i span before now within listed pushed =
    pushed
    ∙ ap (λ ls. ls ++ lines_among pieces test memory (lines_of_span (get_or spans i span))) listed
    ∙ sym (among_append pieces test memory (flat_map lines_of_span (take i spans)) (lines_of_span (get_or spans i span)))
    ∙ ap (lines_among pieces test memory) (sym (flat_more lines_of_span spans i span within))

-- whether a number is in a range
any_in_range : (x a n : ℕ) → list_any (λ other. other == x) (range_with_len a n) ≡ (nat_le a x && nat_lt x (a + n))
any_in_range x a zero = outside x a
  where
    outside : (x a : ℕ) → false ≡ (nat_le a x && nat_lt x (a + 0))
    outside x a = grind (arith, nat_tests, common_steps)
any_in_range x a (suc n) = ap (λ b. (a == x) || b) (any_in_range x (a + 1) n) ∙ joined x a n
  where
    joined : (x a n : ℕ) → ((a == x) || (nat_le (a + 1) x && nat_lt x (a + 1 + n))) ≡ (nat_le a x && nat_lt x (a + suc n))
    joined x a n = grind (arith, nat_tests, common_steps)

-- the marks that are left once those of a range are taken away
pub without_range : (marks : ℕ → Bool) (a n line : ℕ) → without (range_with_len a n) marks line ≡ (marks line && not (nat_le a line && nat_lt line (a + n)))
without_range marks a n line = ap (λ b. marks line && not b) (any_in_range line a n)

-- the first mark from a place on is taken away
pub unmarked_more : (marks now new : ℕ → Bool) (first from line : ℕ) → first ≤ from → now ≡ without (range_with_len first (from - first)) marks → IsFirst now from (Some line)
    → new ≡ update now line false → new ≡ without (range_with_len first (line + 1 - first)) marks
unmarked_more marks now new first from line behind left one is =
    is ∙ (λ k x. (step (now x) (marks x) x (ap (λ f. f x) left ∙ without_range marks first (from - first) x) (one.2 x) ∙ sym (without_range marks first (line + 1 - first) x)) k)
  where
    above : from ≤ line
    above = one.0

    parts : (n m : Bool) (x first from line : ℕ) → first ≤ from → from ≤ line → n ≡ (m && not (nat_le first x && nat_lt x (first + (from - first)))) → (from ≤ x → x < line → n ≡ false)
        → (if x == line then false else n) ≡ (m && not (nat_le first x && nat_lt x (first + (line + 1 - first))))
    parts n m x first from line behind above was clear = grind (arith, nat_tests, common_steps)

    step : (n m : Bool) (x : ℕ) → n ≡ (m && not (nat_le first x && nat_lt x (first + (from - first)))) → (from ≤ x → x < line → n ≡ false)
        → (if x == line then false else n) ≡ (m && not (nat_le first x && nat_lt x (first + (line + 1 - first))))
    step n m x was clear = parts n m x first from line behind above was clear

-- no mark is left from a place on up to an end
pub clear_up_to : (test : ℕ → Bool) (from end : ℕ) (result : Option ℕ) → IsFirst test from result → ((next : ℕ) → result ≡ Some next → end ≤ next) → (x : ℕ) → from ≤ x → x < end → test x ≡ false
clear_up_to test from end None none past x above below = none x above
clear_up_to test from end (Some next) first past x above below = first.2 x above (omega (arith, past next refl))

pub unmarked_all : (marks now : ℕ → Bool) (first from count : ℕ) → first ≤ from → from ≤ first + count → now ≡ without (range_with_len first (from - first)) marks
    → ((x : ℕ) → from ≤ x → x < first + count → now x ≡ false) → now ≡ without (range_with_len first count) marks
unmarked_all marks now first from count behind within left clear =
    λ k x. (step (now x) (marks x) x first from count behind within (ap (λ f. f x) left ∙ without_range marks first (from - first) x) (clear x) ∙ sym (without_range marks first count x)) k
  where
    step : (n m : Bool) (x first from count : ℕ) → first ≤ from → from ≤ first + count → n ≡ (m && not (nat_le first x && nat_lt x (first + (from - first)))) → (from ≤ x → x < first + count → n ≡ false)
        → n ≡ (m && not (nat_le first x && nat_lt x (first + count)))
    step n m x first from count behind within was clear = grind (arith, nat_tests, common_steps)

-- nothing is taken away
pub without_none : (marks : ℕ → Bool) → without [] marks ≡ marks
without_none marks = λ k line. all (marks line) k
  where
    all : (b : Bool) → (b && true) ≡ b
    all true = refl
    all false = refl

-- the marks of some lines are taken away, and then those of others
without_append : (numbers more : List ℕ) (marks : ℕ → Bool) → without more (without numbers marks) ≡ without (numbers ++ more) marks
without_append numbers more marks = λ k line. (step (marks line) (list_any (λ other. other == line) numbers) (list_any (λ other. other == line) more) ∙ ap (λ b. marks line && not b) (sym (any_append line numbers))) k
  where
    step : (m a b : Bool) → ((m && not a) && not b) ≡ (m && not (a || b))
    step true true b = refl
    step true false b = refl
    step false a b = refl

    any_append : (x : ℕ) (numbers : List ℕ) → list_any (λ other. other == x) (numbers ++ more) ≡ (list_any (λ other. other == x) numbers || list_any (λ other. other == x) more)
    any_append x [] = refl
    any_append x (n ∷ numbers) = ap (λ b. (n == x) || b) (any_append x numbers) ∙ grouped (n == x) _ _
      where
        grouped : (a b c : Bool) → (a || (b || c)) ≡ ((a || b) || c)
        grouped true b c = refl
        grouped false b c = refl

-- those of one span more
pub without_spans : (spans : List Span) (i : ℕ) (span : Span) (marks before now : ℕ → Bool) → i < length spans → before ≡ without (flat_map lines_of_span (take i spans)) marks
    → now ≡ without (lines_of_span (get_or spans i span)) before → now ≡ without (flat_map lines_of_span (take (i + 1) spans)) marks
without_spans spans i span marks before now within left is =
    is
    ∙ ap (without (lines_of_span (get_or spans i span))) left
    ∙ without_append (flat_map lines_of_span (take i spans)) (lines_of_span (get_or spans i span)) marks
    ∙ ap (λ ns. without ns marks) (sym (flat_more lines_of_span spans i span within))

-- One pass over two lists of lines puts each line of the second into its place in the first.
use Rattle.std.proofs.Common.{◌≡◌, ◌≢◌, ℕ, zero, suc, ◌+◌, ◌<◌, ◌≤◌, Bool, true, false, ◌&&◌, ◌==◌, if◌then◌else◌, cond, List, [], ◌∷◌, ◌++◌, Option, Some, None, length, take, drop, get_or, refl, sym, ap, subst, ◌∙◌, arith, ⊎_elim}
use Rattle.std.specs.Prelude.{nat_lt, nat_le, not, map, filter}
use Rattle.std.specs.Option.{unwrap_or}
use Rattle.std.specs.List.{All, position, position_or_len, flat_map, range_with_len}
use Rattle.std.proofs.lemmas.Bool.{cases_Bool, cases_eq, cases_lt}
use Rattle.std.proofs.lemmas.List.{append_assoc}
use Rattle.std.proofs.lemmas.List.Sums.{prefix_len-le-length}
use Rattle.std.proofs.lemmas.List.Elements.{All-nil, All-cons, All-head, All-tail, All-append, All-push, All-weaker, filter-append}
use Rattle.std.proofs.lemmas.List.Concat.{flat_map-append}
use Rattle.dsm_lines.specs.declared.list.Line.{Line}
use Rattle.dsm_lines.specs.LineLists.{is_line, are_lines_from}
use Rattle.dsm_lines.proofs.Ranges.{range_split}
use Rattle.dsm_barrier.specs.Joined.{with_line, with_lines, in_order, begins_with}
use Rattle.dsm_barrier.specs.BarrierStates.{others_than, lines_of_others}
use Rattle.dsm_barrier.proofs.Ordered.{goes_on, is_there, comes_first}

-- the place of the first that passes, or the end
pub position_or_all : {A : Type 0} (test : A → Bool) (items : List A) → unwrap_or (position test items) (length items) ≡ position_or_len test items
position_or_all test items = by (position_or_len test items) (length items) (prefix_len-le-length (λ item. not (test item)) items)
  where
    by : (k n : ℕ) → k ≤ n → unwrap_or (cond (nat_lt k n) (Some k) None) n ≡ k
    by k n le = ⊎_elim (λ lt. grind arith) (λ ge. grind arith) (cases_lt k n)

-- A line beside a list that is cut at its place.

abbrev placed : List Line → Line → List Line
placed rest line = if begins_with rest line.number then rest else line ∷ rest

-- a line is put behind lines that are all below it
behind : (lines rest : List Line) (line : Line) → All (λ one. one.number < line.number) lines → with_line (lines ++ rest) line ≡ lines ++ with_line rest line
behind [] rest line below = refl
behind (first ∷ others) rest line below =
    goes_on first (others ++ rest) line (All-head (λ one. one.number < line.number) first others below)
    ∙ ap (λ lines. first ∷ lines) (behind others rest line (All-tail (λ one. one.number < line.number) first others below))

-- the lines before its place are below it, and there it is put
cut_at : (line : Line) (rest : List Line) →
    All (λ one. one.number < line.number) (take (position_or_len (λ one. nat_le line.number one.number) rest) rest)
    × (with_line rest line ≡ take (position_or_len (λ one. nat_le line.number one.number) rest) rest ++ placed (drop (position_or_len (λ one. nat_le line.number one.number) rest) rest) line)
cut_at line [] = (All-nil (λ one. one.number < line.number), refl)
cut_at line (first ∷ others) =
    ⊎_elim (λ lt. before lt (position_or_len (λ one. nat_le line.number one.number) others) _ (passed lt) (cut_at line others))
    (λ ge. at ge _ (stops ge)) (cases_lt first.number line.number)
  where
    passed : first.number < line.number →
        position_or_len (λ one. nat_le line.number one.number) (first ∷ others) ≡ suc (position_or_len (λ one. nat_le line.number one.number) others)
    passed lt = by (nat_le line.number first.number) (position_or_len (λ one. nat_le line.number one.number) others) (grind arith)
      where
        by : (b : Bool) (k : ℕ) → b ≡ false → cond (not b) (1 + k) 0 ≡ suc k
        by b k e = grind arith

    stops : line.number ≤ first.number → position_or_len (λ one. nat_le line.number one.number) (first ∷ others) ≡ 0
    stops ge = by (nat_le line.number first.number) (position_or_len (λ one. nat_le line.number one.number) others) (grind arith)
      where
        by : (b : Bool) (k : ℕ) → b ≡ true → cond (not b) (1 + k) 0 ≡ 0
        by b k e = grind arith

    before : first.number < line.number → (k now : ℕ) → now ≡ suc k →
        All (λ one. one.number < line.number) (take k others) × (with_line others line ≡ take k others ++ placed (drop k others) line) →
        All (λ one. one.number < line.number) (take now (first ∷ others)) × (with_line (first ∷ others) line ≡ take now (first ∷ others) ++ placed (drop now (first ∷ others)) line)
    before lt k now e rest =
        rw e
        (All-cons (λ one. one.number < line.number) first (take k others) lt rest.0, goes_on first others line lt ∙ ap (λ lines. first ∷ lines) rest.1)

    at : line.number ≤ first.number → (now : ℕ) → now ≡ 0 →
        All (λ one. one.number < line.number) (take now (first ∷ others)) × (with_line (first ∷ others) line ≡ take now (first ∷ others) ++ placed (drop now (first ∷ others)) line)
    at ge now e =
        rw e (
          All-nil (λ one. one.number < line.number),
          ⊎_elim
              (λ same. is_there first others line (sym same) ∙ sym (there (first.number == line.number) (grind arith)))
              (λ ne. comes_first first others line (over ne) ∙ sym (not_there (first.number == line.number) (grind arith)))
              (cases_eq line.number first.number),
        )
      where
        over : line.number ≢ first.number → line.number < first.number
        over ne = omega arith

        there : (b : Bool) → b ≡ true → (if b then first ∷ others else line ∷ first ∷ others) ≡ first ∷ others
        there b e = grind arith

        not_there : (b : Bool) → b ≡ false → (if b then first ∷ others else line ∷ first ∷ others) ≡ line ∷ first ∷ others
        not_there b e = grind arith

-- The loop.

-- what is joined so far and the rest of the first list, with what is left of the second, make the whole; what is joined is below what is left
pub record IsJoining (kept more joined rest left : List Line) : Type 0 where
  pub whole : with_lines (joined ++ rest) left ≡ with_lines kept more
  pub least : ℕ
  pub below : All (λ line. line.number < least) joined
  pub rises : are_lines_from least left ≡ true

pub joining_starts : (kept more : List Line) → are_lines_from 0 more ≡ true → IsJoining kept more [] kept more
joining_starts kept more are = record { whole = refl; least = 0; below = All-nil (λ line. line.number < 0); rises = are }

parts : (a b c : Bool) → (a && (b && c)) ≡ true → (b ≡ true) × (c ≡ true)
parts a b c e = (grind arith, grind arith)

module _ (kept more joined rest left : List Line) (line : Line) (was : IsJoining kept more joined rest (line ∷ left)) (k : ℕ)
    (is : k ≡ position_or_len (λ one. nat_le line.number one.number) rest) where
  least_is : (was.least ≤ line.number) × (are_lines_from (line.number + 1) left ≡ true)
  least_is = let two = parts (is_line line) (nat_le was.least line.number) (are_lines_from (line.number + 1) left) was.rises in (grind arith, two.1)

  joined_below : All (λ one. one.number < line.number) joined
  joined_below = All-weaker (λ one. one.number < was.least) (λ one. one.number < line.number) (λ one lt. on one.number lt) joined was.below
    where
      on : (n : ℕ) → n < was.least → n < line.number
      on n lt = let le : was.least ≤ line.number = least_is.0 in omega arith

  cut : All (λ one. one.number < line.number) (take k rest) × (with_line rest line ≡ take k rest ++ placed (drop k rest) line)
  cut = rw is (cut_at line rest)

  all_below : All (λ one. one.number < line.number + 1) (joined ++ take k rest)
  all_below =
      All-weaker (λ one. one.number < line.number) (λ one. one.number < line.number + 1) (λ one lt. on one.number lt) (joined ++ take k rest)
      (All-append (λ one. one.number < line.number) joined (take k rest) joined_below cut.0)
    where
      on : (n : ℕ) → n < line.number → n < line.number + 1
      on n lt = omega arith

  with_it : with_line (joined ++ rest) line ≡ (joined ++ take k rest) ++ placed (drop k rest) line
  with_it = behind joined rest line joined_below ∙ ap (λ lines. joined ++ lines) cut.1 ∙ sym (append_assoc joined (take k rest) (placed (drop k rest) line))

  -- the line is put between
  pub joining_put : begins_with (drop k rest) line.number ≡ false → IsJoining kept more ((joined ++ take k rest) ++ line ∷ []) (drop k rest) left
  joining_put fresh = record {
    whole = ap (λ lines. with_lines lines left) (append_assoc (joined ++ take k rest) (line ∷ []) (drop k rest) ∙ sym (with_it ∙ ap (λ lines. (joined ++ take k rest) ++ lines) (choose (begins_with (drop k rest) line.number) fresh))) ∙ was.whole;
    least = line.number + 1;
    below = All-push (λ one. one.number < line.number + 1) (joined ++ take k rest) line all_below (omega arith);
    rises = least_is.1;
  }
    where
      choose : (b : Bool) → b ≡ false → (if b then drop k rest else line ∷ drop k rest) ≡ line ∷ drop k rest
      choose b e = grind arith

  -- a line of its number is there
  pub joining_left : begins_with (drop k rest) line.number ≡ true → IsJoining kept more (joined ++ take k rest) (drop k rest) left
  joining_left there = record {
    whole = ap (λ lines. with_lines lines left) (sym (with_it ∙ ap (λ lines. (joined ++ take k rest) ++ lines) (choose (begins_with (drop k rest) line.number) there))) ∙ was.whole;
    least = line.number + 1;
    below = all_below;
    rises = least_is.1;
  }
    where
      choose : (b : Bool) → b ≡ true → (if b then drop k rest else line ∷ drop k rest) ≡ drop k rest
      choose b e = grind arith

-- an item, and what is behind it
at_item : (more : List Line) (i : ℕ) (line : Line) → i < length more → line ≡ get_or more i line → drop i more ≡ line ∷ drop (i + 1) more
at_item [] i line lt e = absurd (omega arith)
at_item (first ∷ others) zero line lt e = ap (λ one. one ∷ others) (sym e)
at_item (first ∷ others) (suc i) line lt e =
    let next : suc i + 1 ≡ suc (i + 1) = omega arith in
    at_item others i line (omega arith) e ∙ ap (λ k. line ∷ drop k (first ∷ others)) (sym next)

module _ (kept more joined rest : List Line) (i : ℕ) (line : Line) (was : IsJoining kept more joined rest (drop i more)) (lt : i < length more) (item : line ≡ get_or more i line)
    (k : ℕ) (is : k ≡ position_or_len (λ one. nat_le line.number one.number) rest) (below others grown now : List Line)
    (front : below ≡ take k rest) (back : others ≡ drop k rest) (grows : grown ≡ joined ++ below) where
  here : IsJoining kept more joined rest (line ∷ drop (i + 1) more)
  here = subst (IsJoining kept more joined rest) (at_item more i line lt item) was

  pub step_put : begins_with others line.number ≡ false → now ≡ grown ++ line ∷ [] → IsJoining kept more now others (drop (i + 1) more)
  step_put fresh is_now = rw (is_now, grows, front, back) (joining_put kept more joined rest (drop (i + 1) more) line here k is (rw back at fresh))

  pub step_left : begins_with others line.number ≡ true → now ≡ grown → IsJoining kept more now others (drop (i + 1) more)
  step_left there is_now = rw (is_now, grows, front, back) (joining_left kept more joined rest (drop (i + 1) more) line here k is (rw back at there))

-- all lines of the second are gone over
pub joining_ends : (kept more joined rest : List Line) (i : ℕ) → IsJoining kept more joined rest (drop i more) → length more ≤ i → joined ++ rest ≡ with_lines kept more
joining_ends kept more joined rest i was past = sym (ap (with_lines (joined ++ rest)) (none more i past)) ∙ was.whole
  where
    none : (items : List Line) (i : ℕ) → length items ≤ i → drop i items ≡ []
    none [] zero le = refl
    none [] (suc i) le = refl
    none (item ∷ items) zero le = absurd (omega arith)
    none (item ∷ items) (suc i) le = none items i (omega arith)

-- The lines of several processors.

with_both : (lines more others : List Line) → with_lines lines (more ++ others) ≡ with_lines (with_lines lines more) others
with_both lines [] others = refl
with_both lines (line ∷ more) others = with_both (with_line lines line) more others

one_kept : (test : ℕ → Bool) (n : ℕ) → test n ≡ true → filter test (n ∷ []) ≡ n ∷ []
one_kept test n e = rw e refl

one_left : (test : ℕ → Bool) (n : ℕ) → test n ≡ false → filter test (n ∷ []) ≡ []
one_left test n e = rw e refl

append_nil : {A : Type 0} (items : List A) → items ++ [] ≡ items
append_nil [] = refl
append_nil (item ∷ items) = ap (λ rest. item ∷ rest) (append_nil items)

others_more : (n p : ℕ) → others_than (n + 1) p ≡ others_than n p ++ filter (λ q. not (q == p)) (n ∷ [])
others_more n p =
    ap (filter (λ q. not (q == p))) (range_split 0 n 1 ∙ ap (λ k. range_with_len 0 n ++ k ∷ []) (zero_more n))
    ∙ filter-append (λ q. not (q == p)) (range_with_len 0 n) (n ∷ [])
  where
    zero_more : (n : ℕ) → 0 + n ≡ n
    zero_more n = omega arith

pub own_left_out : (brought : ℕ → List Line) (n p : ℕ) → n ≡ p → lines_of_others brought (n + 1) p ≡ lines_of_others brought n p
own_left_out brought n p same =
    ap (λ others. in_order (flat_map brought others)) (others_more n p ∙ ap (λ more. others_than n p ++ more) (one_left (λ q. not (q == p)) n (grind arith)) ∙ append_nil (others_than n p))

pub others_joined : (brought : ℕ → List Line) (n p : ℕ) → n ≢ p → lines_of_others brought (n + 1) p ≡ with_lines (lines_of_others brought n p) (brought n)
others_joined brought n p ne =
    ap (λ others. in_order (flat_map brought others)) (others_more n p ∙ ap (λ more. others_than n p ++ more) (one_kept (λ q. not (q == p)) n (grind arith)))
    ∙ ap in_order (flat_map-append brought (others_than n p) (n ∷ []) ∙ ap (λ lines. flat_map brought (others_than n p) ++ lines) (append_nil (brought n)))
    ∙ with_both [] (flat_map brought (others_than n p)) (brought n)

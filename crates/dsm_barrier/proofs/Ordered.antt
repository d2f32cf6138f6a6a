-- What a list of lines is once a line is put in its place.
use Rattle.std.proofs.Common.{◌≡◌, ◌≢◌, ℕ, ◌+◌, ◌<◌, ◌≤◌, Bool, true, false, ◌&&◌, ◌==◌, if◌then◌else◌, List, [], ◌∷◌, ◌++◌, Option, Some, None, refl, sym, ap, ◌∙◌, arith, ⊎_elim}
use Rattle.std.specs.Prelude.{nat_lt, nat_le, find}
use Rattle.std.specs.List.{list_all}
use Rattle.std.proofs.lemmas.Bool.{cases_Bool, cases_eq, cases_lt}
use Rattle.std.proofs.lemmas.List.{append_assoc}
use Rattle.dsm_lines.specs.declared.list.Line.{Line}
use Rattle.dsm_lines.specs.LineLists.{is_line, are_lines_from, are_lines}
use Rattle.dsm_barrier.specs.Joined.{with_line, with_lines, in_order}

-- The three places of a line beside the first of a list.

pub goes_on : (first : Line) (others : List Line) (line : Line) → first.number < line.number → with_line (first ∷ others) line ≡ first ∷ with_line others line
goes_on first others line lt = grind arith

pub is_there : (first : Line) (others : List Line) (line : Line) → first.number ≡ line.number → with_line (first ∷ others) line ≡ first ∷ others
is_there first others line e = grind arith

pub comes_first : (first : Line) (others : List Line) (line : Line) → line.number < first.number → with_line (first ∷ others) line ≡ line ∷ first ∷ others
comes_first first others line lt = grind arith

-- Lists of lines stay such lists.

one_more : (a b c : Bool) → a ≡ true → b ≡ true → c ≡ true → (a && (b && c)) ≡ true
one_more a b c x y z = grind arith

parts : (a b c : Bool) → (a && (b && c)) ≡ true → (a ≡ true) × (b ≡ true) × (c ≡ true)
parts a b c e = (grind arith, grind arith, grind arith)

is_le : (a b : ℕ) → a ≤ b → nat_le a b ≡ true
is_le a b le = grind arith

le_is : (a b : ℕ) → nat_le a b ≡ true → a ≤ b
le_is a b e = grind arith

pub line_placed : (lines : List Line) (line : Line) (least : ℕ) → are_lines_from least lines ≡ true → is_line line ≡ true → least ≤ line.number → are_lines_from least (with_line lines line) ≡ true
line_placed [] line least are is le = one_more (is_line line) (nat_le least line.number) true is (is_le least line.number le) refl
line_placed (first ∷ others) line least are is le =
    let were = parts (is_line first) (nat_le least first.number) (are_lines_from (first.number + 1) others) are in
    ⊎_elim
    (λ lt. rw (goes_on first others line lt)
    (one_more (is_line first) (nat_le least first.number) (are_lines_from (first.number + 1) (with_line others line)) were.0 were.1
    (line_placed others line (first.number + 1) were.2 is (omega arith))))
    (λ ge. ⊎_elim
    (λ same. rw (is_there first others line (sym same)) are)
    (λ ne. rw (comes_first first others line (over ge ne))
    (one_more (is_line line) (nat_le least line.number) (are_lines_from (line.number + 1) (first ∷ others)) is (is_le least line.number le)
    (one_more (is_line first) (nat_le (line.number + 1) first.number) (are_lines_from (first.number + 1) others) were.0 (is_le (line.number + 1) first.number (next ge ne)) were.2)))
    (cases_eq line.number first.number))
    (cases_lt first.number line.number)
  where
    over : line.number ≤ first.number → line.number ≢ first.number → line.number < first.number
    over ge ne = omega arith

    next : line.number ≤ first.number → line.number ≢ first.number → line.number + 1 ≤ first.number
    next ge ne = omega arith

lines_placed : (lines more : List Line) → are_lines lines ≡ true → list_all is_line more ≡ true → are_lines (with_lines lines more) ≡ true
lines_placed lines [] are all = are
lines_placed lines (line ∷ more) are all =
    let both = halves (is_line line) (list_all is_line more) all in
    lines_placed (with_line lines line) more (line_placed lines line 0 are both.0 (omega arith)) both.1
  where
    halves : (a b : Bool) → (a && b) ≡ true → (a ≡ true) × (b ≡ true)
    halves a b e = (grind arith, grind arith)

pub order_rises : (lines : List Line) → list_all is_line lines ≡ true → are_lines (in_order lines) ≡ true
order_rises lines all = lines_placed [] lines refl all

-- Of each number the first line stays.

-- numbers rise, and the first is at least this
abbrev RisesFrom : ℕ → List Line → Type 0
RisesFrom least [] = Unit {0}
RisesFrom least (line ∷ lines) = (least ≤ line.number) × RisesFrom (line.number + 1) lines

rises_placed : (lines : List Line) (line : Line) (least : ℕ) → RisesFrom least lines → least ≤ line.number → RisesFrom least (with_line lines line)
rises_placed [] line least rise le = (le, tt)
rises_placed (first ∷ others) line least rise le =
    ⊎_elim
    (λ lt. rw (goes_on first others line lt) (rise.0, rises_placed others line (first.number + 1) rise.1 (omega arith)))
    (λ ge. ⊎_elim
    (λ same. rw (is_there first others line (sym same)) rise)
    (λ ne. rw (comes_first first others line (over ge ne)) (le, (next ge ne, rise.1)))
    (cases_eq line.number first.number))
    (cases_lt first.number line.number)
  where
    over : line.number ≤ first.number → line.number ≢ first.number → line.number < first.number
    over ge ne = omega arith

    next : line.number ≤ first.number → line.number ≢ first.number → line.number + 1 ≤ first.number
    next ge ne = omega arith

-- the line of a number
abbrev named : ℕ → List Line → Option Line
named number lines = find (λ line. line.number == number) lines

named_here : (number : ℕ) (line : Line) (lines : List Line) → line.number ≡ number → named number (line ∷ lines) ≡ Some line
named_here number line lines e = grind arith

named_on : (number : ℕ) (line : Line) (lines : List Line) → line.number ≢ number → named number (line ∷ lines) ≡ named number lines
named_on number line lines ne = grind arith

-- one more line of another number
named_more : (number : ℕ) (lines : List Line) (line : Line) → line.number ≢ number → named number (lines ++ line ∷ []) ≡ named number lines
named_more number [] line ne = named_on number line [] ne
named_more number (first ∷ others) line ne =
    ⊎_elim
    (λ e. named_here number first (others ++ line ∷ []) e ∙ sym (named_here number first others e))
    (λ other. named_on number first (others ++ line ∷ []) other ∙ named_more number others line ne ∙ sym (named_on number first others other))
    (cases_eq first.number number)

-- behind lines that are all over its number, a line is the first of its number
named_behind : (number : ℕ) (lines : List Line) (line : Line) (least : ℕ) → RisesFrom least lines → number < least → line.number ≡ number → named number (lines ++ line ∷ []) ≡ Some line
named_behind number [] line least rise lt e = named_here number line [] e
named_behind number (first ∷ others) line least rise lt e =
    let at_least : least ≤ first.number = rise.0 in
    named_on number first (others ++ line ∷ []) (λ same. over (rw same at at_least))
    ∙ named_behind number others line (first.number + 1) rise.1 (omega arith) e
  where
    over : least ≤ number → ⊥
    over le = omega arith

named_placed : (number : ℕ) (lines : List Line) (line : Line) (least : ℕ) → RisesFrom least lines → named number (with_line lines line) ≡ named number (lines ++ line ∷ [])
named_placed number [] line least rise = refl
named_placed number (first ∷ others) line least rise =
    ⊎_elim
    (λ lt. ap (named number) (goes_on first others line lt) ∙ under (named_placed number others line (first.number + 1) rise.1))
    (λ ge. ⊎_elim
    (λ same. ap (named number) (is_there first others line (sym same)) ∙ there same)
    (λ ne. ap (named number) (comes_first first others line (over ge ne)) ∙ before (over ge ne))
    (cases_eq line.number first.number))
    (cases_lt first.number line.number)
  where
    over : line.number ≤ first.number → line.number ≢ first.number → line.number < first.number
    over ge ne = omega arith

    under : named number (with_line others line) ≡ named number (others ++ line ∷ []) → named number (first ∷ with_line others line) ≡ named number (first ∷ (others ++ line ∷ []))
    under e =
        ⊎_elim
        (λ is. named_here number first (with_line others line) is ∙ sym (named_here number first (others ++ line ∷ []) is))
        (λ other. named_on number first (with_line others line) other ∙ e ∙ sym (named_on number first (others ++ line ∷ []) other))
        (cases_eq first.number number)

    there : line.number ≡ first.number → named number (first ∷ others) ≡ named number (first ∷ (others ++ line ∷ []))
    there same =
        ⊎_elim
        (λ is. named_here number first others is ∙ sym (named_here number first (others ++ line ∷ []) is))
        (λ other. named_on number first others other ∙ sym (named_more number others line (λ e. other (sym same ∙ e))) ∙ sym (named_on number first (others ++ line ∷ []) other))
        (cases_eq first.number number)

    before : line.number < first.number → named number (line ∷ first ∷ others) ≡ named number (first ∷ (others ++ line ∷ []))
    before lt =
        ⊎_elim
        (λ is. named_here number line (first ∷ others) is
        ∙ sym (named_on number first (others ++ line ∷ []) (λ e. clash is e) ∙ named_behind number others line (first.number + 1) rise.1 (below is) is))
        (λ other. named_on number line (first ∷ others) other ∙ sym (named_more number (first ∷ others) line other))
        (cases_eq line.number number)
      where
        clash : line.number ≡ number → first.number ≡ number → ⊥
        clash is e = omega arith

        below : line.number ≡ number → number < first.number + 1
        below is = omega arith

abbrev one_or : Option Line → Option Line → Option Line
one_or None other = other
one_or (Some line) other = Some line

named_append : (number : ℕ) (lines others more : List Line) → named number lines ≡ named number others → named number (lines ++ more) ≡ named number (others ++ more)
named_append number lines others more e = both lines ∙ ap (λ one. one_or one (named number more)) e ∙ sym (both others)
  where
    both : (front : List Line) → named number (front ++ more) ≡ one_or (named number front) (named number more)
    both [] = refl
    both (line ∷ front) =
        ⊎_elim
        (λ is. named_here number line (front ++ more) is ∙ sym (ap (λ one. one_or one (named number more)) (named_here number line front is)))
        (λ other. named_on number line (front ++ more) other ∙ both front ∙ sym (ap (λ one. one_or one (named number more)) (named_on number line front other)))
        (cases_eq line.number number)

all_named : (number : ℕ) (lines more : List Line) → RisesFrom 0 lines → named number (with_lines lines more) ≡ named number (lines ++ more)
all_named number lines [] rise = ap (named number) (sym (append_nil lines))
  where
    append_nil : (lines : List Line) → lines ++ [] ≡ lines
    append_nil [] = refl
    append_nil (line ∷ lines) = ap (λ rest. line ∷ rest) (append_nil lines)
all_named number lines (line ∷ more) rise =
    all_named number (with_line lines line) more (rises_placed lines line 0 rise (omega arith))
    ∙ named_append number (with_line lines line) (lines ++ line ∷ []) more (named_placed number lines line 0 rise)
    ∙ ap (named number) (append_assoc lines (line ∷ []) more)

pub order_first : (lines : List Line) (number : ℕ) → find (λ line. line.number == number) (in_order lines) ≡ find (λ line. line.number == number) lines
order_first lines number = all_named number [] lines tt

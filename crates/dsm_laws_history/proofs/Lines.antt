-- Which cells are in which lines: pieces are apart, so each bound cell is in one line, and that is a line of its object.
use Rattle.std.specs.Prelude.{◌≡◌, ℕ, ℤ, zero, suc, ◌+◌, ◌-◌, ◌*◌, ◌/◌, ◌<◌, Bool, true, false, ◌&&◌, ◌||◌, ◌==◌, if◌then◌else◌, nat_lt, nat_le, min, List, [], ◌∷◌, ◌++◌, map, filter, Option, Some, None, is_some, option_map, unwrap_or}
use Rattle.std.specs.List.{list_any, list_all, range_with_len, AllByRecursion}
use Rattle.std.proofs.Common.{arith, refl, sym, ap, ap₂, ◌∙◌, subst, inl, inr, true≢false}
use Rattle.std.proofs.lemmas.Bool.Decides.{eqb_tells, leb_tells, nat_tests}
use Rattle.std.proofs.lemmas.Grind.{common_steps}
use Rattle.std.proofs.lemmas.List.Folds.{list_any-append}
use Rattle.dsm_base.specs.declared.names.Lock.{Lock}
use Rattle.dsm_base.specs.declared.setup.Object.{Object}
use Rattle.dsm_base.specs.declared.setup.Piece.{Piece}
use Rattle.dsm_base.specs.declared.setup.Setup.{Setup}
use Rattle.dsm_base.specs.Family.{update}
use Rattle.dsm_base.specs.Access.{has_cell, piece_of}
use Rattle.dsm_base.specs.Setups.{is_apart, are_apart}
use Rattle.dsm_lines.specs.declared.list.Line.{Line}
use Rattle.dsm_lines.specs.declared.place.Place.{Place}
use Rattle.dsm_lines.specs.Copies.{line_with, lines_where, laid, overlaid, stamped, with_mark}
use Rattle.dsm_lines.specs.Places.{line_count, lines, place_from, place_of, cells_in, same_object, lines_from, lines_of}
use Rattle.dsm_lines.proofs.Pieces.{both_first, both_second, in_no_other, room_of}
use Rattle.dsm_lines.proofs.Tabling.{piece_of_place}
use Rattle.dsm_laws_runs.specs.Pieces.{is_lock, is_of_lock}
use Rattle.dsm_laws_runs.specs.Versions.{IsCellOf, SameAt}
use Rattle.dsm_laws_protocol.proofs.Families.{turned_true, turned_false}
use Rattle.dsm_laws_history.specs.NewerLines.{line_at}

-- whether a number is in a list
abbrev pub is_in : ℕ → List ℕ → Bool
is_in n ns = list_any (λ m. m == n) ns

pub in_range : (n a count : ℕ) → is_in n (range_with_len a count) ≡ (nat_le a n && nat_lt n (a + count))
in_range n a zero = grind (arith, nat_tests, common_steps)
in_range n a (suc count) = rw (in_range n (a + 1) count) (grind (arith, nat_tests, common_steps))

pub in_filtered : (test : ℕ → Bool) (n : ℕ) (ns : List ℕ) → is_in n (filter test ns) ≡ (is_in n ns && test n)
in_filtered test n [] = refl
in_filtered test n (m ∷ ns) = go (in_filtered test n ns) (test m) refl
  where
    same : (m == n) ≡ true → test m ≡ test n
    same e = elim (eqb_tells m n) [ inl (_, i) ↦ ap test i | inr (f, _) ↦ absurd (true≢false (sym e ∙ f)) ]

    go : is_in n (filter test ns) ≡ (is_in n ns && test n) → (b : Bool) → test m ≡ b → is_in n (filter test (m ∷ ns)) ≡ (is_in n (m ∷ ns) && test n)
    go more true e = rw (e, more) (grind (arith, same, e))
    go more false e = rw (e, more) (grind (arith, same, e))

-- The line of a cell.

-- lines that begin later are numbered by as many more
later : (pieces : List Piece) (start from cell rest : ℕ) →
    unwrap_or (option_map (λ (place : Place). place.line) (place_from (start + from) pieces cell)) (start + rest)
    ≡ start + unwrap_or (option_map (λ (place : Place). place.line) (place_from from pieces cell)) rest
later [] start from cell rest = refl
later (piece ∷ others) start from cell rest = go (later others start (from + line_count piece) cell rest) (has_cell cell piece) refl
  where
    here : (start + from) + (cell - piece.first.0) / 8 ≡ start + (from + (cell - piece.first.0) / 8)
    here = omega arith

    moved : (start + from) + line_count piece ≡ start + (from + line_count piece)
    moved = omega arith

    go : unwrap_or (option_map (λ (place : Place). place.line) (place_from (start + (from + line_count piece)) others cell)) (start + rest)
        ≡ start + unwrap_or (option_map (λ (place : Place). place.line) (place_from (from + line_count piece) others cell)) rest → (b : Bool) → has_cell cell piece ≡ b →
        unwrap_or (option_map (λ (place : Place). place.line) (place_from (start + from) (piece ∷ others) cell)) (start + rest)
        ≡ start + unwrap_or (option_map (λ (place : Place). place.line) (place_from from (piece ∷ others) cell)) rest
    go more true has = rw has here
    go more false has = rw has (ap (λ n. unwrap_or (option_map (λ (place : Place). place.line) (place_from n others cell)) (start + rest)) moved ∙ more)

-- the line of a cell, by the first piece
abbrev line_by_first : Piece → List Piece → ℕ → ℕ
line_by_first piece others cell = if has_cell cell piece then (cell - piece.first.0) / 8 else line_count piece + line_at others cell

by_first : (piece : Piece) (others : List Piece) (cell : ℕ) → line_at (piece ∷ others) cell ≡ line_by_first piece others cell
by_first piece others cell = go (has_cell cell piece) refl
  where
    here : 0 + (cell - piece.first.0) / 8 ≡ (cell - piece.first.0) / 8
    here = omega arith

    start : 0 + line_count piece ≡ line_count piece + 0
    start = omega arith

    go : (b : Bool) → has_cell cell piece ≡ b → line_at (piece ∷ others) cell ≡ line_by_first piece others cell
    go true has = rw has here
    go false has = rw has (ap (λ n. unwrap_or (option_map (λ (place : Place). place.line) (place_from n others cell)) (line_count piece + lines others)) start ∙ later others (line_count piece) 0 cell (lines others))

-- a store to a bound cell marks the cell's line
pub marked_line : (pieces : List Piece) (marks : ℕ → Bool) (cell : ℕ) → is_some (piece_of pieces cell) ≡ true → with_mark marks (place_of pieces cell) ≡ update marks (line_at pieces cell) true
marked_line pieces marks cell bound = go (place_of pieces cell) (sym (ap is_some (piece_of_place 0 pieces cell)) ∙ bound)
  where
    go : (o : Option Place) → is_some (option_map (λ (place : Place). place.piece) o) ≡ true →
        with_mark marks o ≡ update marks (unwrap_or (option_map (λ (place : Place). place.line) o) (lines pieces)) true
    go None some = absurd (true≢false (sym some))
    go (Some place) some = refl

-- Pieces.

-- the cells of a line of one piece
in_piece : (first count cell line : ℕ) → line < (count + 7) / 8 → is_in cell (range_with_len (first + 8 * line) (min 8 (count - 8 * line))) ≡ ((nat_le first cell && nat_lt cell (first + count)) && ((cell - first) / 8 == line))
in_piece first count cell line lt = in_range cell (first + 8 * line) (min 8 (count - 8 * line)) ∙ grind (arith, nat_tests, common_steps)

line_in_piece : (first count cell : ℕ) → (nat_le first cell && nat_lt cell (first + count)) ≡ true → (cell - first) / 8 < (count + 7) / 8
line_in_piece first count cell has = grind (arith, nat_tests, common_steps)

-- a bound cell is in its own line and in no other; a cell that isn't bound is in none
pub in_line : (pieces : List Piece) → are_apart pieces ≡ true → (cell line : ℕ) → is_in cell (cells_in pieces line) ≡ (is_some (piece_of pieces cell) && (line_at pieces cell == line))
in_line [] apart cell line = refl
in_line (piece ∷ others) apart cell line =
    go (in_line others (both_second (list_all (is_apart piece) others) _ apart) cell) (has_cell cell piece) refl (nat_lt line (line_count piece)) refl
    ∙ ap (λ n. is_some (piece_of (piece ∷ others) cell) && (n == line)) (sym (by_first piece others cell))
  where
    here : nat_lt line (line_count piece) ≡ true → is_in cell (range_with_len (piece.first.0 + 8 * line) (min 8 (piece.count - 8 * line))) ≡ (has_cell cell piece && ((cell - piece.first.0) / 8 == line))
    here less = in_piece piece.first.0 piece.count cell line (elim (leb_tells (suc line) (line_count piece)) [ inl (_, le) ↦ omega arith | inr (e, _) ↦ absurd (true≢false (sym less ∙ e)) ])

    past : (n line count : ℕ) → n < count → nat_lt line count ≡ false → (n == line) ≡ false
    past n line count lt e = grind (arith, nat_tests, common_steps)

    apart_lines : (b : Bool) (n line count : ℕ) → nat_lt line count ≡ true → false ≡ (b && (count + n == line))
    apart_lines b n line count e = grind (arith, nat_tests, common_steps)

    moved : (b : Bool) (n line count : ℕ) → nat_lt line count ≡ false → (b && (n == line - count)) ≡ (b && (count + n == line))
    moved b n line count e = grind (arith, nat_tests, common_steps)

    go : ((line : ℕ) → is_in cell (cells_in others line) ≡ (is_some (piece_of others cell) && (line_at others cell == line))) → (b : Bool) → has_cell cell piece ≡ b → (c : Bool) → nat_lt line (line_count piece) ≡ c →
        is_in cell (cells_in (piece ∷ others) line) ≡ (is_some (piece_of (piece ∷ others) cell) && (line_by_first piece others cell == line))
    go more true has true less = rw (has, less) (here less ∙ rw has refl)
    go more true has false over =
        let none : piece_of others cell ≡ None = in_no_other piece others cell (both_first _ (are_apart others) apart) has in
        rw (has, over, past ((cell - piece.first.0) / 8) line (line_count piece) (line_in_piece piece.first.0 piece.count cell has) over) (more (line - line_count piece) ∙ rw none refl)
    go more false not_in true less = rw (not_in, less) (here less ∙ rw not_in (apart_lines (is_some (piece_of others cell)) (line_at others cell) line (line_count piece) less))
    go more false not_in false over = rw (not_in, over) (more (line - line_count piece) ∙ moved (is_some (piece_of others cell)) (line_at others cell) line (line_count piece) over)

-- The lines of an object.

before_start : (pieces : List Piece) (object : Object) (start line : ℕ) → line < start → is_in line (lines_from start pieces object) ≡ false
before_start [] object start line lt = refl
before_start (piece ∷ others) object start line lt = go (before_start others object (start + line_count piece) line (omega arith)) (same_object piece.object object) refl
  where
    none : is_in line (range_with_len start (line_count piece)) ≡ false
    none = in_range line start (line_count piece) ∙ grind (arith, nat_tests, common_steps)

    go : is_in line (lines_from (start + line_count piece) others object) ≡ false → (b : Bool) → same_object piece.object object ≡ b → is_in line (lines_from start (piece ∷ others) object) ≡ false
    go more true e = rw (e, list_any-append (λ m. m == line) (range_with_len start (line_count piece)) (lines_from (start + line_count piece) others object), none, more) refl
    go more false e = rw e more

line_of_from : (pieces : List Piece) → (object : Object) (start cell : ℕ) (piece : Piece) → piece_of pieces cell ≡ Some piece → is_in (start + line_at pieces cell) (lines_from start pieces object) ≡ same_object piece.object object
line_of_from [] object start cell piece is = cc
line_of_from (first ∷ others) object start cell piece is =
    subst (λ n. is_in (start + n) (lines_from start (first ∷ others) object) ≡ same_object piece.object object) (sym (by_first first others cell))
    (go (λ e. moved (line_of_from others object (start + line_count first) cell piece e)) (has_cell cell first) refl (same_object first.object object) refl)
  where
    inside : has_cell cell first ≡ true → is_in (start + (cell - first.first.0) / 8) (range_with_len start (line_count first)) ≡ true
    inside has = in_range (start + (cell - first.first.0) / 8) start (line_count first) ∙ (let lt = line_in_piece first.first.0 first.count cell has in grind (arith, nat_tests, common_steps))

    outside : (n : ℕ) → is_in (start + (line_count first + n)) (range_with_len start (line_count first)) ≡ false
    outside n = in_range (start + (line_count first + n)) start (line_count first) ∙ grind (arith, nat_tests, common_steps)

    below : has_cell cell first ≡ true → is_in (start + (cell - first.first.0) / 8) (lines_from (start + line_count first) others object) ≡ false
    below has = before_start others object (start + line_count first) (start + (cell - first.first.0) / 8) (let lt = line_in_piece first.first.0 first.count cell has in omega arith)

    moved : is_in ((start + line_count first) + line_at others cell) (lines_from (start + line_count first) others object) ≡ same_object piece.object object →
        is_in (start + (line_count first + line_at others cell)) (lines_from (start + line_count first) others object) ≡ same_object piece.object object
    moved more = let e : (start + line_count first) + line_at others cell ≡ start + (line_count first + line_at others cell) = omega arith in subst (λ n. is_in n (lines_from (start + line_count first) others object) ≡ same_object piece.object object) e more

    go : (piece_of others cell ≡ Some piece → is_in (start + (line_count first + line_at others cell)) (lines_from (start + line_count first) others object) ≡ same_object piece.object object) →
        (b : Bool) → has_cell cell first ≡ b → (c : Bool) → same_object first.object object ≡ c → is_in (start + line_by_first first others cell) (lines_from start (first ∷ others) object) ≡ same_object piece.object object
    go more true has true same =
        let k : first ≡ piece = (let s : Some first ≡ Some piece = rw has at is in cc) in
        rw (has, same, list_any-append (λ m. m == start + (cell - first.first.0) / 8) (range_with_len start (line_count first)) (lines_from (start + line_count first) others object), inside has)
        (sym same ∙ ap (λ (x : Piece). same_object x.object object) k)
    go more true has false same =
        let k : first ≡ piece = (let s : Some first ≡ Some piece = rw has at is in cc) in
        rw (has, same) (below has ∙ sym same ∙ ap (λ (x : Piece). same_object x.object object) k)
    go more false not_in true same =
        rw (not_in, same, list_any-append (λ m. m == start + (line_count first + line_at others cell)) (range_with_len start (line_count first)) (lines_from (start + line_count first) others object), outside (line_at others cell))
        (more (rw not_in at is))
    go more false not_in false same = rw (not_in, same) (more (rw not_in at is))

pub line_of_object : (pieces : List Piece) (object : Object) (cell : ℕ) (piece : Piece) → piece_of pieces cell ≡ Some piece → is_in (line_at pieces cell) (lines_of pieces object) ≡ same_object piece.object object
line_of_object pieces object cell piece is = let e : 0 + line_at pieces cell ≡ line_at pieces cell = omega arith in
    subst (λ n. is_in n (lines_of pieces object) ≡ same_object piece.object object) e (line_of_from pieces object 0 cell piece is)

-- Lines of a lock.

pub same_lock : (object : Object) (lock : Lock) → same_object object (Object.Lock lock) ≡ is_lock lock.0 object
same_lock (Object.Lock other) lock = refl
same_lock (Object.Bar bar) lock = refl

-- the line of a bound cell is one of a lock's lines where the cell is bound to that lock
pub line_of_lock : (pieces : List Piece) (lock : Lock) (cell : ℕ) → is_some (piece_of pieces cell) ≡ true → is_in (line_at pieces cell) (lines_of pieces (Object.Lock lock)) ≡ is_of_lock lock.0 (piece_of pieces cell)
line_of_lock pieces lock cell bound = go (piece_of pieces cell) refl bound
  where
    go : (o : Option Piece) → piece_of pieces cell ≡ o → is_some o ≡ true → is_in (line_at pieces cell) (lines_of pieces (Object.Lock lock)) ≡ is_of_lock lock.0 (piece_of pieces cell)
    go None e some = cc
    go (Some piece) e some = rw e (line_of_object pieces (Object.Lock lock) cell piece e ∙ same_lock piece.object lock)

pub lock_bound : (lock : ℕ) (piece : Option Piece) → is_of_lock lock piece ≡ true → is_some piece ≡ true
lock_bound lock None e = cc
lock_bound lock (Some piece) e = refl

-- cells of one line are bound to the same lock
pub same_line : (pieces : List Piece) (lock : Lock) (cell other : ℕ) → is_some (piece_of pieces cell) ≡ true → is_some (piece_of pieces other) ≡ true → line_at pieces cell ≡ line_at pieces other →
    is_of_lock lock.0 (piece_of pieces cell) ≡ is_of_lock lock.0 (piece_of pieces other)
same_line pieces lock cell other bound also e =
    sym (line_of_lock pieces lock cell bound) ∙ ap (λ line. is_in line (lines_of pieces (Object.Lock lock))) e ∙ line_of_lock pieces lock other also

all_append : (P : ℕ → Type 0) (xs ys : List ℕ) → AllByRecursion P xs → AllByRecursion P ys → AllByRecursion P (xs ++ ys)
all_append P [] ys h g = g
all_append P (x ∷ xs) ys h g = (h.0, all_append P xs ys h.1 g)

all_range : (P : ℕ → Type 0) (a n : ℕ) → ((k : ℕ) → k < n → P (a + k)) → AllByRecursion P (range_with_len a n)
all_range P a zero h = tt
all_range P a (suc n) h = (
  subst P (omega arith) (h 0 (omega arith)),
  all_range P (a + 1) n (λ k lt. subst P (omega arith) (h (k + 1) (omega arith))),
)

first_of_line : (first count line : ℕ) → line < (count + 7) / 8 → ((nat_le first (first + 8 * line) && nat_lt (first + 8 * line) (first + count)) ≡ true) × (((first + 8 * line) - first) / 8 ≡ line)
first_of_line first count line lt = (grind (arith, nat_tests, common_steps), omega arith)

-- whether a piece is bound to an object
abbrev pub of_object : Object → Option Piece → Bool
of_object object None = false
of_object object (Some piece) = same_object piece.object object

of_lock_is : (lock : Lock) (piece : Option Piece) → of_object (Object.Lock lock) piece ≡ is_of_lock lock.0 piece
of_lock_is lock None = refl
of_lock_is lock (Some piece) = same_lock piece.object lock

-- what holds of the line of each of an object's cells holds of each of its lines
lines_from_all : (P : ℕ → Type 0) (object : Object) (pieces : List Piece) → are_apart pieces ≡ true → (start : ℕ) → ((cell : ℕ) → of_object object (piece_of pieces cell) ≡ true → P (start + line_at pieces cell)) →
    AllByRecursion P (lines_from start pieces object)
lines_from_all P object [] apart start each = tt
lines_from_all P object (piece ∷ others) apart start each =
    go (lines_from_all P object others (both_second (list_all (is_apart piece) others) _ apart) (start + line_count piece) further) (same_object piece.object object) refl
  where
    none_of_none : (o : Option Piece) → o ≡ None → of_object object o ≡ true → ⊥
    none_of_none o e is = let k : of_object object None ≡ true = rw e at is in cc

    further : (cell : ℕ) → of_object object (piece_of others cell) ≡ true → P ((start + line_count piece) + line_at others cell)
    further cell is = at_cell (has_cell cell piece) refl
      where
        at_cell : (b : Bool) → has_cell cell piece ≡ b → P ((start + line_count piece) + line_at others cell)
        at_cell true has = absurd (none_of_none (piece_of others cell) (in_no_other piece others cell (both_first _ (are_apart others) apart) has) is)
        at_cell false has = subst P (omega arith) (let h : P (start + line_by_first piece others cell) = subst (λ n. P (start + n)) (by_first piece others cell) (each cell (rw has is)) in rw has at h)

    here : same_object piece.object object ≡ true → (k : ℕ) → k < line_count piece → P (start + k)
    here same k lt =
        let cell = first_of_line piece.first.0 piece.count k lt in
        let at : P (start + line_by_first piece others (piece.first.0 + 8 * k)) = subst (λ n. P (start + n)) (by_first piece others (piece.first.0 + 8 * k)) (each (piece.first.0 + 8 * k) (rw cell.0 same)) in
        subst (λ n. P (start + n)) cell.1 (rw cell.0 at at)

    go : AllByRecursion P (lines_from (start + line_count piece) others object) → (b : Bool) → same_object piece.object object ≡ b → AllByRecursion P (lines_from start (piece ∷ others) object)
    go more true same = rw same (all_append P (range_with_len start (line_count piece)) (lines_from (start + line_count piece) others object) (all_range P start (line_count piece) (here same)) more)
    go more false same = rw same more

pub lines_all_of : (P : ℕ → Type 0) (object : Object) (pieces : List Piece) → are_apart pieces ≡ true → ((cell : ℕ) → of_object object (piece_of pieces cell) ≡ true → P (line_at pieces cell)) →
    AllByRecursion P (lines_of pieces object)
lines_all_of P object pieces apart each = lines_from_all P object pieces apart 0 (λ cell is. subst P (omega arith) (each cell is))

pub lines_all : (P : ℕ → Type 0) (lock : Lock) (pieces : List Piece) → are_apart pieces ≡ true → ((cell : ℕ) → is_of_lock lock.0 (piece_of pieces cell) ≡ true → P (line_at pieces cell)) →
    AllByRecursion P (lines_of pieces (Object.Lock lock))
lines_all P lock pieces apart each = lines_all_of P (Object.Lock lock) pieces apart (λ cell is. each cell (sym (of_lock_is lock (piece_of pieces cell)) ∙ is))

-- cells of one line are in one piece
pub same_piece : (pieces : List Piece) (cell other : ℕ) → is_some (piece_of pieces cell) ≡ true → is_some (piece_of pieces other) ≡ true → line_at pieces cell ≡ line_at pieces other →
    piece_of pieces cell ≡ piece_of pieces other
same_piece [] cell other bound also e = refl
same_piece (piece ∷ others) cell other bound also e = go (same_piece others cell other) (has_cell cell piece) refl (has_cell other piece) refl
  where
    lines : line_by_first piece others cell ≡ line_by_first piece others other
    lines = sym (by_first piece others cell) ∙ e ∙ by_first piece others other

    go : (is_some (piece_of others cell) ≡ true → is_some (piece_of others other) ≡ true → line_at others cell ≡ line_at others other → piece_of others cell ≡ piece_of others other) →
        (b : Bool) → has_cell cell piece ≡ b → (c : Bool) → has_cell other piece ≡ c → piece_of (piece ∷ others) cell ≡ piece_of (piece ∷ others) other
    go more true has true too = rw (has, too) refl
    go more true has false not_in = absurd (let k : (cell - piece.first.0) / 8 ≡ line_count piece + line_at others other = rw (has, not_in) at lines in let lt = line_in_piece piece.first.0 piece.count cell has in omega arith)
    go more false not_in true has = absurd (let k : line_count piece + line_at others cell ≡ (other - piece.first.0) / 8 = rw (not_in, has) at lines in let lt = line_in_piece piece.first.0 piece.count other has in omega arith)
    go more false not_in false neither = rw (not_in, neither) (more (rw not_in at bound) (rw neither at also)
        (let k : line_count piece + line_at others cell ≡ line_count piece + line_at others other = rw (not_in, neither) at lines in omega arith))

-- Lines with values.

pub both_true : (b c : Bool) → (b && c) ≡ true → (b ≡ true) × (c ≡ true)
both_true b c e = (grind arith, grind arith)

pub is_number : (a b : ℕ) → (a == b) ≡ true → a ≡ b
is_number a b e = elim (eqb_tells a b) [ inl (_, i) ↦ i | inr (f, _) ↦ absurd (true≢false (sym e ∙ f)) ]

pub map_same : (one other : ℕ → ℤ) (cells : List ℕ) → ((cell : ℕ) → is_in cell cells ≡ true → one cell ≡ other cell) → map one cells ≡ map other cells
map_same one other [] same = refl
map_same one other (cell ∷ cells) same = ap₂ (λ value values. value ∷ values) (same cell (grind arith)) (map_same one other cells (λ d is. same d (rw is (grind arith))))

chosen_same : (one other : ℕ → Line) (test also : ℕ → Bool) (lines : List ℕ) → AllByRecursion (λ line. (test line ≡ also line) × (one line ≡ other line)) lines → map one (filter test lines) ≡ map other (filter also lines)
chosen_same one other test also [] all = refl
chosen_same one other test also (line ∷ lines) all = go (also line) refl (chosen_same one other test also lines all.1)
  where
    go : (b : Bool) → also line ≡ b → map one (filter test lines) ≡ map other (filter also lines) → map one (filter test (line ∷ lines)) ≡ map other (filter also (line ∷ lines))
    go true e more = rw (all.0.0, e) (ap₂ (λ x xs. x ∷ xs) all.0.1 more)
    go false e more = rw (all.0.0, e) more

module _ (setup : Setup) where
  abbrev pub pieces : List Piece
  pieces = setup.bindings

  pub apart : are_apart setup.bindings ≡ true
  apart = (room_of setup).apart

  line_same : (lock : Lock) (one other : ℕ → ℤ) → SameAt setup lock.0 one other → (cell : ℕ) → IsCellOf setup lock.0 cell → line_with pieces one (line_at pieces cell) ≡ line_with pieces other (line_at pieces cell)
  line_same lock one other same cell is = ap (λ values. record { number = line_at pieces cell; values = values }) (map_same one other (cells_in pieces (line_at pieces cell)) (λ d at. same d (of_lock d at)))
    where
      of_lock : (d : ℕ) → is_in d (cells_in pieces (line_at pieces cell)) ≡ true → IsCellOf setup lock.0 d
      of_lock d at =
          let both = both_true (is_some (piece_of pieces d)) (line_at pieces d == line_at pieces cell) (sym (in_line pieces apart d (line_at pieces cell)) ∙ at) in
          same_line pieces lock d cell both.0 (lock_bound lock.0 (piece_of pieces cell) is) (is_number (line_at pieces d) (line_at pieces cell) both.1) ∙ is

  -- chosen lines of a lock are the same where the tests are the same at its lines and the values at its cells
  pub lines_same : (lock : Lock) (test also : ℕ → Bool) (one other : ℕ → ℤ) → ((cell : ℕ) → IsCellOf setup lock.0 cell → test (line_at pieces cell) ≡ also (line_at pieces cell)) → SameAt setup lock.0 one other →
      lines_where pieces test one (Object.Lock lock) ≡ lines_where pieces also other (Object.Lock lock)
  lines_same lock test also one other tests same =
      chosen_same (line_with pieces one) (line_with pieces other) test also (lines_of pieces (Object.Lock lock))
      (lines_all (λ line. (test line ≡ also line) × (line_with pieces one line ≡ line_with pieces other line)) lock pieces apart (λ cell is. (tests cell is, line_same lock one other same cell is)))

  -- Lines laid over a memory.

  laid_is : (values : ℕ → ℤ) (cells : List ℕ) (memory : ℕ → ℤ) (cell : ℕ) → laid memory cells (map values cells) cell ≡ (if is_in cell cells then values cell else memory cell)
  laid_is values [] memory cell = refl
  laid_is values (first ∷ cells) memory cell = laid_is values cells (update memory first (values first)) cell ∙ go (is_in cell cells)
    where
      go : (b : Bool) → (if b then values cell else update memory first (values first) cell) ≡ (if (first == cell) || b then values cell else memory cell)
      go b = elim (eqb_tells first cell) [
        | inl (t, i) ↦ rw (t, turned_true first cell t) (grind (arith, ap values i))
        | inr (t, _) ↦ rw (t, turned_false cell first t) refl
      ]

  pub overlaid_is : (values : ℕ → ℤ) (lines : List ℕ) (memory : ℕ → ℤ) (cell : ℕ) →
      overlaid pieces memory (map (line_with pieces values) lines) cell ≡ (if list_any (λ line. is_in cell (cells_in pieces line)) lines then values cell else memory cell)
  overlaid_is values [] memory cell = refl
  overlaid_is values (line ∷ lines) memory cell =
      overlaid_is values lines (laid memory (cells_in pieces line) (map values (cells_in pieces line))) cell
      ∙ (let e = laid_is values (cells_in pieces line) memory cell in grind (arith, e))

  pub in_lines : (cell : ℕ) (lines : List ℕ) → list_any (λ line. is_in cell (cells_in pieces line)) lines ≡ (is_some (piece_of pieces cell) && is_in (line_at pieces cell) lines)
  in_lines cell [] = grind arith
  in_lines cell (line ∷ lines) = rw (in_line pieces apart cell line, in_lines cell lines) (turned (is_some (piece_of pieces cell)) (line_at pieces cell) line (is_in (line_at pieces cell) lines))
    where
      turned : (b : Bool) (n m : ℕ) (c : Bool) → ((b && (n == m)) || (b && c)) ≡ (b && ((m == n) || c))
      turned b n m c = grind arith

  -- chosen lines of a lock, laid over a memory, give their values to the lock's cells on them
  pub overlaid_chosen : (lock : Lock) (test : ℕ → Bool) (values memory : ℕ → ℤ) (cell : ℕ) →
      overlaid pieces memory (lines_where pieces test values (Object.Lock lock)) cell ≡ (if is_of_lock lock.0 (piece_of pieces cell) && test (line_at pieces cell) then values cell else memory cell)
  overlaid_chosen lock test values memory cell =
      overlaid_is values (filter test (lines_of pieces (Object.Lock lock))) memory cell
      ∙ ap (λ b. if b then values cell else memory cell) (in_lines cell (filter test (lines_of pieces (Object.Lock lock)))
      ∙ ap (λ b. is_some (piece_of pieces cell) && b) (in_filtered test (line_at pieces cell) (lines_of pieces (Object.Lock lock))) ∙ go (piece_of pieces cell) refl)
    where
      go : (o : Option Piece) → piece_of pieces cell ≡ o →
          (is_some (piece_of pieces cell) && (is_in (line_at pieces cell) (lines_of pieces (Object.Lock lock)) && test (line_at pieces cell))) ≡ (is_of_lock lock.0 (piece_of pieces cell) && test (line_at pieces cell))
      go None e = rw e refl
      go (Some piece) e = rw (line_of_lock pieces lock cell (ap is_some e), e) refl

  -- What a release leaves at the home.

  stamps_are : (version : ℕ) (values : ℕ → ℤ) (lines : List ℕ) (stamps : ℕ → ℕ) (line : ℕ) →
      stamped stamps version (map (line_with pieces values) lines) line ≡ (if is_in line lines then version else stamps line)
  stamps_are version values [] stamps line = refl
  stamps_are version values (first ∷ lines) stamps line = stamps_are version values lines (update stamps first version) line ∙ go (is_in line lines)
    where
      go : (b : Bool) → (if b then version else update stamps first version line) ≡ (if (first == line) || b then version else stamps line)
      go b = elim (eqb_tells first line) [
        | inl (t, _) ↦ rw (t, turned_true first line t) (grind arith)
        | inr (t, _) ↦ rw (t, turned_false line first t) refl
      ]

  -- chosen lines of a lock are stamped, and no other
  pub stamps_chosen : (lock : Lock) (version : ℕ) (test : ℕ → Bool) (values : ℕ → ℤ) (stamps : ℕ → ℕ) (cell : ℕ) → is_some (piece_of pieces cell) ≡ true →
      stamped stamps version (lines_where pieces test values (Object.Lock lock)) (line_at pieces cell)
      ≡ (if is_of_lock lock.0 (piece_of pieces cell) && test (line_at pieces cell) then version else stamps (line_at pieces cell))
  stamps_chosen lock version test values stamps cell bound =
      stamps_are version values (filter test (lines_of pieces (Object.Lock lock))) stamps (line_at pieces cell)
      ∙ ap (λ b. if b then version else stamps (line_at pieces cell)) (in_filtered test (line_at pieces cell) (lines_of pieces (Object.Lock lock))
      ∙ ap (λ b. b && test (line_at pieces cell)) (line_of_lock pieces lock cell bound))

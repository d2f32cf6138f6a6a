-- Pieces that are apart: no cell is in two of them, so they have no more lines than there are cells.
use Rattle.std.proofs.Common.{◌≡◌, ℕ, zero, suc, ◌+◌, ◌-◌, ◌*◌, ◌/◌, ◌≤◌, Bool, true, false, List, [], ◌∷◌, ◌++◌, length, get_or, refl, sym, ap, ◌∙◌, arith, subst, inl, inr, Option, Some, None, ◌⊎◌, map}
use Rattle.std.specs.Prelude.{◌&&◌, ◌==◌, nat_lt, nat_le, min, max, if◌then◌else◌}
use Rattle.std.specs.List.{list_all, All, AllByRecursion}
use Rattle.std.proofs.lemmas.Bool.{cases_lt}
use Rattle.std.proofs.lemmas.Bool.Decides.{nat_tests}
use Rattle.std.proofs.lemmas.Grind.{common_steps}
use Rattle.std.proofs.lemmas.List.Elements.{All-from_recursion, All-weaker}
use Rattle.dsm_base.specs.declared.setup.Piece.{Piece}
use Rattle.dsm_base.specs.declared.setup.Setup.{Setup}
use Rattle.dsm_base.specs.Access.{has_cell, piece_of}
use Rattle.dsm_base.specs.Setups.{are_counts, is_piece, is_apart, are_apart, end_of}
use Rattle.dsm_base.proofs.Setups.{pieces_within}
use Rattle.dsm_lines.specs.Building.{AreWithin}
use Rattle.dsm_base.specs.Setups.{is_bound}
use Rattle.dsm_base.specs.declared.setup.Object.{Object}
use Rattle.dsm_lines.specs.declared.place.Span.{Span}
use Rattle.dsm_lines.specs.Building.{widths_of, piece_widths}
use Rattle.dsm_lines.specs.Places.{line_count, lines, spans_from, same_object, cells_in, place_of}
use Rattle.dsm_lines.specs.declared.place.Place.{Place}
use Rattle.dsm_lines.specs.Tables.{IsTable}
use Rattle.std.specs.List.{range_with_len}
use Rattle.std.proofs.lemmas.List.{get_or_past, get_or_append_left, get_or-append_right, length-append}
use Rattle.std.proofs.lemmas.List.FromFn.{get_or-map-range_with_len, length-map-range_with_len, length-range_with_len}
use Rattle.std.proofs.lemmas.Bool.Decides.{leb_tells}

pub both_first : (x y : Bool) → (x && y) ≡ true → x ≡ true
both_first x y h = grind (arith, common_steps)

pub both_second : (x y : Bool) → (x && y) ≡ true → y ≡ true
both_second x y h = grind (arith, common_steps)

-- two pieces that are apart have no cell in common
apart_from : (first count other_first other_count cell : ℕ) → nat_le (min (first + count) (other_first + other_count)) (max first other_first) ≡ true
    → (nat_le first cell && nat_lt cell (first + count)) ≡ true → (nat_le other_first cell && nat_lt cell (other_first + other_count)) ≡ false
apart_from first count other_first other_count cell apart has = grind (arith, nat_tests, common_steps)

-- a cell of a piece that is apart from others is in none of them
pub in_no_other : (piece : Piece) (others : List Piece) (cell : ℕ) → list_all (is_apart piece) others ≡ true → has_cell cell piece ≡ true → piece_of others cell ≡ None
in_no_other piece [] cell apart has = refl
in_no_other piece (other ∷ others) cell apart has =
    rw (apart_from piece.first.0 piece.count other.first.0 other.count cell (both_first _ (list_all (is_apart piece) others) apart) has)
    (in_no_other piece others cell (both_second (is_apart piece other) _ apart) has)

-- how many cells below a number are in a piece
unfoldable one_of : Option Piece → ℕ
one_of None = 0
one_of (Some piece) = 1

unfoldable covered : List Piece → ℕ → ℕ
covered pieces zero = 0
covered pieces (suc n) = covered pieces n + one_of (piece_of pieces n)

one_most : (o : Option Piece) → one_of o ≤ 1
unfolding one_of
one_most None = omega arith
one_most (Some piece) = omega arith

covered_most : (pieces : List Piece) (n : ℕ) → covered pieces n ≤ n
unfolding covered
covered_most pieces zero = omega arith
covered_most pieces (suc n) = omega (arith, covered_most pieces n, one_most (piece_of pieces n))

-- the cells of one piece, one cell more
inside : (first count n : ℕ) → (nat_le first n && nat_lt n (first + count)) ≡ true → min (suc n) (first + count) - min (suc n) first ≡ (min n (first + count) - min n first) + 1
inside first count n has = grind (arith, nat_tests, common_steps)

outside : (first count n : ℕ) → (nat_le first n && nat_lt n (first + count)) ≡ false → min (suc n) (first + count) - min (suc n) first ≡ min n (first + count) - min n first
outside first count n has = grind (arith, nat_tests, common_steps)

-- a piece that is apart from others covers its own cells beside theirs
covered_more : (piece : Piece) (others : List Piece) (n : ℕ) → list_all (is_apart piece) others ≡ true
    → covered (piece ∷ others) n ≡ (min n (piece.first.0 + piece.count) - min n piece.first.0) + covered others n
unfolding covered one_of
covered_more piece others zero apart = omega arith
covered_more piece others (suc n) apart =
    let before = covered_more piece others n apart in
    elim (is_or_not (has_cell n piece)) as
    (λ _. covered (piece ∷ others) n + one_of (piece_of (piece ∷ others) n) ≡ (min (suc n) (piece.first.0 + piece.count) - min (suc n) piece.first.0) + (covered others n + one_of (piece_of others n))) [
      | inl has ↦
          let own : one_of (piece_of (piece ∷ others) n) ≡ 1 = ap (λ b. one_of (if b then Some piece else piece_of others n)) has in
          let theirs : one_of (piece_of others n) ≡ 0 = ap one_of (in_no_other piece others n apart has) in
          omega (arith, inside piece.first.0 piece.count n has)
      | inr not_here ↦
          let own : one_of (piece_of (piece ∷ others) n) ≡ one_of (piece_of others n) = ap (λ b. one_of (if b then Some piece else piece_of others n)) not_here in
          omega (arith, outside piece.first.0 piece.count n not_here)
    ]
  where
    is_or_not : (b : Bool) → (b ≡ true) ⊎ (b ≡ false)
    is_or_not true = inl refl
    is_or_not false = inr refl

-- pieces that are apart have no more lines than they have cells
lines_covered : (pieces : List Piece) (n : ℕ) → are_apart pieces ≡ true → AllByRecursion (λ piece. piece.first.0 + piece.count ≤ n) pieces → lines pieces ≤ covered pieces n
lines_covered [] n apart within = omega arith
lines_covered (piece ∷ others) n apart within =
    let more = covered_more piece others n (both_first _ (are_apart others) apart) in
    let rest = lines_covered others n (both_second (list_all (is_apart piece) others) _ apart) within.1 in
    let here : piece.first.0 + piece.count ≤ n = within.0 in
    let own : min n (piece.first.0 + piece.count) - min n piece.first.0 ≡ piece.count = omega arith in
    let few : (piece.count + 7) / 8 ≤ piece.count = eighth piece.count in
    omega (arith, more, rest, own, few)
  where
    eighth : (n : ℕ) → (n + 7) / 8 ≤ n
    eighth n = omega arith

-- what a table needs of a setup
pub record HasRoom (cells : ℕ) (pieces : List Piece) : Type 0 where
  pub apart : are_apart pieces ≡ true
  pub most : cells ≤ 65536
  pub few : lines pieces ≤ 65536
  pub within : AreWithin cells pieces
  pub small : All (λ piece. piece.count ≤ 65536) pieces

most_of_counts : (x : Bool) (cells : ℕ) → (x && nat_le cells 65536) ≡ true → cells ≤ 65536
most_of_counts x cells h = grind (arith, nat_tests, common_steps)

pub room_of : (setup : Setup) → HasRoom setup.cells setup.bindings
room_of setup =
    let counts = both_first (are_counts setup.procs setup.locks setup.bars setup.cells) _ setup.kept in
    let pieces = both_second (are_counts setup.procs setup.locks setup.bars setup.cells) _ setup.kept in
    let apart = both_second (list_all (is_piece setup.locks setup.bars setup.cells) setup.bindings) (are_apart setup.bindings) pieces in
    let most : setup.cells ≤ 65536 = most_of_counts _ setup.cells counts in
    let within = All-from_recursion (λ (piece : Piece). piece.first.0 + piece.count ≤ setup.cells) setup.bindings (pieces_within setup) in
    record {
      apart = apart;
      most = most;
      few = omega (arith, lines_covered setup.bindings setup.cells apart (pieces_within setup), covered_most setup.bindings setup.cells);
      within = within;
      small = All-weaker (λ (piece : Piece). piece.first.0 + piece.count ≤ setup.cells) (λ (piece : Piece). piece.count ≤ 65536) (λ piece below. omega arith) setup.bindings within;
    }

-- no piece is bound to an object past the setup's
no_lock : (locks bars start lock : ℕ) (pieces : List Piece) (cells : ℕ) → list_all (is_piece locks bars cells) pieces ≡ true → locks ≤ lock → spans_from start pieces (Object.Lock record { 0 = lock }) ≡ []
no_lock locks bars start lock [] cells bound past = refl
no_lock locks bars start lock (piece ∷ others) cells bound past =
    let here = both_second (nat_le (end_of piece) cells) (is_bound locks bars piece piece.object) (both_first (is_piece locks bars cells piece) _ bound) in
    rw (differs piece.object here) (no_lock locks bars (start + line_count piece) lock others cells (both_second (is_piece locks bars cells piece) _ bound) past)
  where
    over : (number : ℕ) (a b c : Bool) → (nat_lt number locks && a && b && c) ≡ true → (number == lock) ≡ false
    over number a b c h = grind (arith, nat_tests, common_steps)

    differs : (object : Object) → is_bound locks bars piece object ≡ true → same_object object (Object.Lock record { 0 = lock }) ≡ false
    differs (Object.Lock number) h = over number.0 _ _ _ h
    differs (Object.Bar number) h = refl

no_bar : (locks bars start bar : ℕ) (pieces : List Piece) (cells : ℕ) → list_all (is_piece locks bars cells) pieces ≡ true → bars ≤ bar → spans_from start pieces (Object.Bar record { 0 = bar }) ≡ []
no_bar locks bars start bar [] cells bound past = refl
no_bar locks bars start bar (piece ∷ others) cells bound past =
    let here = both_second (nat_le (end_of piece) cells) (is_bound locks bars piece piece.object) (both_first (is_piece locks bars cells piece) _ bound) in
    rw (differs piece.object here) (no_bar locks bars (start + line_count piece) bar others cells (both_second (is_piece locks bars cells piece) _ bound) past)
  where
    over : (number : ℕ) (a : Bool) → (nat_lt number bars && a) ≡ true → (number == bar) ≡ false
    over number a h = grind (arith, nat_tests, common_steps)

    differs : (object : Object) → is_bound locks bars piece object ≡ true → same_object object (Object.Bar record { 0 = bar }) ≡ false
    differs (Object.Lock number) h = refl
    differs (Object.Bar number) h = over number.0 _ h

bound_pieces : (setup : Setup) → list_all (is_piece setup.locks setup.bars setup.cells) setup.bindings ≡ true
bound_pieces setup =
    both_first _ (are_apart setup.bindings) (both_second (are_counts setup.procs setup.locks setup.bars setup.cells) _ setup.kept)

-- the spans of each lock, whatever its number
pub spans_of_lock : (setup : Setup) (spans : List (List Span)) (lock : ℕ) → spans ≡ map (λ lock. spans_from 0 setup.bindings (Object.Lock record { 0 = lock })) (range_with_len 0 setup.locks)
    → get_or spans lock [] ≡ spans_from 0 setup.bindings (Object.Lock record { 0 = lock })
spans_of_lock setup spans lock are =
    elim (cases_lt lock setup.locks) as (λ _. get_or spans lock [] ≡ spans_from 0 setup.bindings (Object.Lock record { 0 = lock })) [
      | inl below ↦ ap (λ ss. get_or ss lock []) are ∙ get_or-map-range_with_len (λ lock. spans_from 0 setup.bindings (Object.Lock record { 0 = lock })) 0 setup.locks lock lock [] below (omega arith)
      | inr past ↦
          ap (λ ss. get_or ss lock []) are
          ∙ get_or_past _ lock [] (omega (arith, length-map-range_with_len (λ lock. spans_from 0 setup.bindings (Object.Lock record { 0 = lock })) 0 setup.locks))
          ∙ sym (no_lock setup.locks setup.bars 0 lock setup.bindings setup.cells (bound_pieces setup) past)
    ]

pub spans_of_bar : (setup : Setup) (spans : List (List Span)) (bar : ℕ) → spans ≡ map (λ bar. spans_from 0 setup.bindings (Object.Bar record { 0 = bar })) (range_with_len 0 setup.bars)
    → get_or spans bar [] ≡ spans_from 0 setup.bindings (Object.Bar record { 0 = bar })
spans_of_bar setup spans bar are =
    elim (cases_lt bar setup.bars) as (λ _. get_or spans bar [] ≡ spans_from 0 setup.bindings (Object.Bar record { 0 = bar })) [
      | inl below ↦ ap (λ ss. get_or ss bar []) are ∙ get_or-map-range_with_len (λ bar. spans_from 0 setup.bindings (Object.Bar record { 0 = bar })) 0 setup.bars bar bar [] below (omega arith)
      | inr past ↦
          ap (λ ss. get_or ss bar []) are
          ∙ get_or_past _ bar [] (omega (arith, length-map-range_with_len (λ bar. spans_from 0 setup.bindings (Object.Bar record { 0 = bar })) 0 setup.bars))
          ∙ sym (no_bar setup.locks setup.bars 0 bar setup.bindings setup.cells (bound_pieces setup) past)
    ]

-- widths by line
widths_length : (pieces : List Piece) → length (widths_of pieces) ≡ lines pieces
widths_length [] = refl
widths_length (piece ∷ others) =
    omega (arith, length-append (piece_widths piece) (widths_of others), length-map-range_with_len (λ line. min 8 (piece.count - 8 * line)) 0 (line_count piece), widths_length others)

pub widths_are : (pieces : List Piece) (widths : List ℕ) → widths ≡ widths_of pieces → length widths ≡ lines pieces
widths_are pieces widths are = ap length are ∙ widths_length pieces

width_at : (pieces : List Piece) (line : ℕ) → get_or (widths_of pieces) line 0 ≡ length (cells_in pieces line)
width_at [] line = refl
width_at (piece ∷ others) line =
    elim (leb_tells (suc line) (line_count piece)) as (λ _. get_or (piece_widths piece ++ widths_of others) line 0 ≡ length (cells_in (piece ∷ others) line)) [
      | inl (yes', below) ↦
          rw yes'
          (get_or_append_left (piece_widths piece) (widths_of others) 0 line (omega (arith, length-map-range_with_len (λ line. min 8 (piece.count - 8 * line)) 0 (line_count piece)))
          ∙ get_or-map-range_with_len (λ line. min 8 (piece.count - 8 * line)) 0 (line_count piece) line line 0 below (omega arith)
          ∙ sym (length-range_with_len (piece.first.0 + 8 * line) (min 8 (piece.count - 8 * line))))
      | inr (no', above) ↦
          rw no'
          (get_or-append_right (piece_widths piece) (widths_of others) (line_count piece) line 0 (length-map-range_with_len (λ line. min 8 (piece.count - 8 * line)) 0 (line_count piece)) (omega arith)
          ∙ width_at others (line - line_count piece))
    ]

pub width_of_line : (pieces : List Piece) (widths : List ℕ) (line : ℕ) → widths ≡ widths_of pieces → get_or widths line 0 ≡ length (cells_in pieces line)
width_of_line pieces widths line are = ap (λ ws. get_or ws line 0) are ∙ width_at pieces line

-- the tables of a setup
pub is_table : (setup : Setup) (pieces read : List Piece) (places : List (Option Place)) (widths : List ℕ) (locks bars : List (List Span)) → pieces ≡ read → read ≡ setup.bindings
    → ((cell : ℕ) → get_or places cell None ≡ place_of read cell) → widths ≡ widths_of read
    → locks ≡ map (λ lock. spans_from 0 read (Object.Lock record { 0 = lock })) (range_with_len 0 setup.locks) → bars ≡ map (λ bar. spans_from 0 read (Object.Bar record { 0 = bar })) (range_with_len 0 setup.bars)
    → IsTable pieces places widths locks bars
is_table setup pieces read places widths locks bars copied is placed wide of_locks of_bars =
    let room = room_of setup in
    let widths_is : widths ≡ widths_of setup.bindings = wide ∙ ap widths_of is in
    subst (λ (ps : List Piece). IsTable ps places widths locks bars) (sym (copied ∙ is))
    (record {
      apart = room.apart;
      few = omega (arith, room.few);
      placed = λ cell. placed cell ∙ ap (λ ps. place_of ps cell) is;
      counted = widths_are setup.bindings widths widths_is;
      wide = λ line. width_of_line setup.bindings widths line widths_is;
      of_locks = λ lock. spans_of_lock setup locks lock (of_locks ∙ ap (λ ps. map (λ lock. spans_from 0 ps (Object.Lock record { 0 = lock })) (range_with_len 0 setup.locks)) is);
      of_bars = λ bar. spans_of_bar setup bars bar (of_bars ∙ ap (λ ps. map (λ bar. spans_from 0 ps (Object.Bar record { 0 = bar })) (range_with_len 0 setup.bars)) is);
    })

-- What a write to one place of the pages does to the memory, and what a line has there.
use Rattle.std.proofs.Common.{◌≡◌, ◌≢◌, ℕ, zero, suc, ◌+◌, ◌-◌, ◌*◌, ◌<◌, ◌≤◌, List, [], ◌∷◌, length, get_or, set, take, drop, map, replicate, refl, sym, ap, ◌∙◌, arith, inl, inr, Option, Some, None, get_or-set_same, get_or-set_other, length-take-le, length-drop, get_or-take, get_or-drop}
use Rattle.std.specs.Prelude.{ℤ, pos, min}
use Rattle.std.proofs.lemmas.Bool.{cases_lt}
use Rattle.std.proofs.lemmas.Bool.Decides.{eqb_tells}
use Rattle.std.proofs.lemmas.List.{ext_get_or, length-map, get_or-map, drop_more, drop_all}
use Rattle.dsm_base.specs.declared.setup.Piece.{Piece}
use Rattle.dsm_base.specs.Family.{update}
use Rattle.dsm_lines.specs.declared.list.Line.{Line}
use Rattle.dsm_lines.specs.declared.place.Place.{Place}
use Rattle.dsm_lines.specs.Places.{lines, place_of, cells_in}
use Rattle.dsm_lines.specs.Copies.{laid, overlaid, stamped}
use Rattle.dsm_lines.specs.Pages.{value_at, memory_in, ArePages}
use Rattle.dsm_lines.proofs.Cells.{is_line, placed, stands}
use Rattle.dsm_lines.proofs.Marking.{update_same, update_other}

-- each place of a line is on the pages
pub on_pages : (pieces : List Piece) (values : List ℤ) (line at : ℕ) → ArePages pieces values → at < length (cells_in pieces line) → 8 * line + at < length values
on_pages pieces values line at kept within =
    let one = is_line pieces line at within in
    omega (arith, kept.many, one.line_within, one.place_within)

-- a line that has cells ends on the pages
pub line_fits : (pieces : List Piece) (values : List ℤ) (line width : ℕ) → ArePages pieces values → width ≡ length (cells_in pieces line) → (width ≢ 0) → 8 * line + width ≤ length values
line_fits pieces values line width kept wide some =
    let last = on_pages pieces values line (width - 1) kept (omega (arith, wide, some)) in
    omega (arith, last, some)

-- what a cell of a line has
pub value_there : (pieces : List Piece) (values : List ℤ) (line at : ℕ) → ArePages pieces values → at < length (cells_in pieces line)
    → memory_in pieces values (get_or (cells_in pieces line) at 0) ≡ get_or values (8 * line + at) (pos 0)
value_there pieces values line at kept within = ap (value_at values) (placed pieces line at kept.apart within).is

-- a write changes the cell at the place, and no other
pub memory_set : (pieces : List Piece) (values : List ℤ) (line at : ℕ) (value : ℤ) → ArePages pieces values → at < length (cells_in pieces line)
    → memory_in pieces (set values (8 * line + at) value) ≡ update (memory_in pieces values) (get_or (cells_in pieces line) at 0) value
memory_set pieces values line at value kept within k cell =
    elim (eqb_tells cell (get_or (cells_in pieces line) at 0)) as
    (λ _. memory_in pieces (set values (8 * line + at) value) cell ≡ update (memory_in pieces values) (get_or (cells_in pieces line) at 0) value cell) [
      | inl (_, is) ↦
          ap (memory_in pieces (set values (8 * line + at) value)) is
          ∙ ap (value_at (set values (8 * line + at) value)) (placed pieces line at kept.apart within).is
          ∙ get_or-set_same values (8 * line + at) value (pos 0) (on_pages pieces values line at kept within)
          ∙ sym (update_same (memory_in pieces values) (get_or (cells_in pieces line) at 0) value cell is)
      | inr (_, differs) ↦
          elsewhere differs (place_of pieces cell) refl
          ∙ sym (update_other (memory_in pieces values) (get_or (cells_in pieces line) at 0) value cell differs)
    ] k
  where
    elsewhere : (cell ≢ get_or (cells_in pieces line) at 0) → (place : Option Place) → place_of pieces cell ≡ place → value_at (set values (8 * line + at) value) (place_of pieces cell) ≡ value_at values (place_of pieces cell)
    elsewhere differs None is = ap (value_at (set values (8 * line + at) value)) is ∙ sym (ap (value_at values) is)
    elsewhere differs (Some place) is =
        let there = stands pieces cell place is in
        let own = is_line pieces line at within in
        let its = is_line pieces place.line place.at there.within in
        ap (value_at (set values (8 * line + at) value)) is
        ∙ get_or-set_other values (8 * line + at) (8 * place.line + place.at) value (pos 0)
        (λ same.
        let line_is : place.line ≡ line = omega (arith, own.place_within, its.place_within) in
        let at_is : place.at ≡ at = omega (arith, own.place_within, its.place_within) in
        differs (sym there.is ∙ (λ i. get_or (cells_in pieces (line_is i)) (at_is i) 0)))
        ∙ sym (ap (value_at values) is)

-- the values of a line are next to each other
pub values_of_line : (pieces : List Piece) (values : List ℤ) (line width : ℕ) → ArePages pieces values → width ≡ length (cells_in pieces line) → 8 * line + width ≤ length values
    → take width (drop (8 * line) values) ≡ map (memory_in pieces values) (cells_in pieces line)
values_of_line pieces values line width kept wide fits =
    ext_get_or (pos 0) _ _
    (omega (arith, wide, length-map (cells_in pieces line) (memory_in pieces values), long))
    (λ at within.
    let few : at < width = omega (arith, within, long) in
    let own : at < length (cells_in pieces line) = omega (arith, few, wide) in
    get_or-take width (drop (8 * line) values) at (pos 0) few
    ∙ get_or-drop (8 * line) values at (pos 0)
    ∙ sym (value_there pieces values line at kept own)
    ∙ sym (get_or-map (memory_in pieces values) (cells_in pieces line) at 0 (pos 0) own))
  where
    long : length (take width (drop (8 * line) values)) ≡ width
    long = length-take-le width (drop (8 * line) values) (omega (arith, length-drop (8 * line) values))

-- zeros everywhere
pub no_values : (pieces : List Piece) (n : ℕ) → memory_in pieces (replicate n (pos 0)) ≡ (λ cell. pos 0)
no_values pieces n = λ k cell. none (place_of pieces cell) k
  where
    zero_at : (n at : ℕ) → get_or (replicate n (pos 0)) at (pos 0) ≡ pos 0
    zero_at zero at = refl
    zero_at (suc n) zero = refl
    zero_at (suc n) (suc at) = zero_at n at

    none : (place : Option Place) → value_at (replicate n (pos 0)) place ≡ pos 0
    none None = refl
    none (Some place) = zero_at n (8 * place.line + place.at)

-- one value more is laid
pub laid_more : (memory : ℕ → ℤ) (cells : List ℕ) (values : List ℤ) (at : ℕ) → at < length cells → at < length values
    → laid (update memory (get_or cells at 0) (get_or values at (pos 0))) (drop (at + 1) cells) (drop (at + 1) values) ≡ laid memory (drop at cells) (drop at values)
laid_more memory cells values at within fits =
    sym (λ i. laid memory (drop_more cells at 0 within i) (drop_more values at (pos 0) fits i))

-- all that fit are laid
pub laid_done : (memory : ℕ → ℤ) (cells : List ℕ) (values : List ℤ) (at : ℕ) → min (length cells) (length values) ≤ at → laid memory (drop at cells) (drop at values) ≡ memory
laid_done memory cells values at past =
    elim (cases_lt at (length cells)) [
      | inl more ↦ ap (laid memory (drop at cells)) (drop_all at values (omega arith)) ∙ none (drop at cells)
      | inr all ↦ ap (λ cs. laid memory cs (drop at values)) (drop_all at cells all)
    ]
  where
    none : (cells : List ℕ) → laid memory cells [] ≡ memory
    none [] = refl
    none (cell ∷ cells) = refl

-- one line more is laid
pub overlaid_more : (pieces : List Piece) (memory after : ℕ → ℤ) (lines : List Line) (i : ℕ) (line : Line) → i < length lines
    → after ≡ laid memory (cells_in pieces (get_or lines i line).number) (get_or lines i line).values → overlaid pieces after (drop (i + 1) lines) ≡ overlaid pieces memory (drop i lines)
overlaid_more pieces memory after lines i line within is =
    ap (λ m. overlaid pieces m (drop (i + 1) lines)) is
    ∙ sym (ap (overlaid pieces memory) (drop_more lines i line within))

-- one line more has its stamp
pub stamped_more : (stamps after : ℕ → ℕ) (version : ℕ) (lines : List Line) (i : ℕ) (line : Line) → i < length lines → after ≡ update stamps (get_or lines i line).number version
    → stamped after version (drop (i + 1) lines) ≡ stamped stamps version (drop i lines)
stamped_more stamps after version lines i line within is =
    ap (λ s. stamped s version (drop (i + 1) lines)) is
    ∙ sym (ap (stamped stamps version) (drop_more lines i line within))

-- The piece of a cell, also where the cell is none of the setup.
use Rattle.std.proofs.Common.{◌≡◌, ℕ, ◌+◌, ◌≤◌, Bool, true, false, ◌&&◌, List, [], ◌∷◌, Option, Some, None, refl, sym, ap, ◌∙◌, arith}
use Rattle.std.specs.Prelude.{nat_lt, nat_le, find, if◌then◌else◌, slice_index_or}
use Rattle.std.specs.List.{AllByRecursion}
use Rattle.std.proofs.lemmas.Bool.{le-ltb, ltb-true, ltb-false}
use Rattle.std.proofs.lemmas.List.{get_or_past}
use Rattle.dsm_base.specs.declared.setup.Piece.{Piece}
use Rattle.dsm_base.specs.declared.setup.Setup.{Setup}
use Rattle.dsm_base.specs.Access.{has_cell, piece_of}
use Rattle.dsm_base.specs.Pieces.{HasPieces}
use Rattle.dsm_base.proofs.Setups.{pieces_within}

and_false : (a : Bool) → (a && false) ≡ false
and_false true = refl
and_false false = refl

piece_past : (pieces : List Piece) (cells cell : ℕ) → AllByRecursion (λ piece. piece.first.0 + piece.count ≤ cells) pieces → cells ≤ cell → piece_of pieces cell ≡ None
piece_past [] cells cell all past = refl
piece_past (piece ∷ rest) cells cell all past =
    let behind : nat_lt cell (piece.first.0 + piece.count) ≡ false = le-ltb cell (piece.first.0 + piece.count) (omega (arith, all.0, past)) in
    let none : has_cell cell piece ≡ false = ap (λ b. nat_le piece.first.0 cell && b) behind ∙ and_false (nat_le piece.first.0 cell) in
    ap (λ b. if b then Some piece else find (has_cell cell) rest) none ∙ piece_past rest cells cell all.1 past

-- the piece of each cell
pub piece_known : (setup : Setup) (pieces : List (Option Piece)) (cell : ℕ) → HasPieces setup pieces → slice_index_or pieces cell None ≡ piece_of setup.bindings cell
piece_known setup pieces cell has = by (nat_lt cell setup.cells) refl
  where
    by : (known : Bool) → nat_lt cell setup.cells ≡ known → slice_index_or pieces cell None ≡ piece_of setup.bindings cell
    by true h = has.piece cell (ltb-true cell setup.cells h)
    by false h =
        let after = ltb-false cell setup.cells h in
        let n = has.count in
        get_or_past pieces cell None (omega (arith, after, n)) ∙ sym (piece_past setup.bindings setup.cells cell (pieces_within setup) after)

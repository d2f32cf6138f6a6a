-- The line of a lock whose home lives has the values of the one memory.
use Rattle.std.specs.Prelude.{◌≡◌, ℕ, ℤ, Bool, true, false, List, [], ◌∷◌, ◌++◌, filter, Option, Some, None, option_map, codes}
use Rattle.std.specs.Fmt.{decimal, signed_decimal}
use Rattle.std.specs.List.{range_with_len, flat_map}
use Rattle.std.proofs.Common.{refl, ap, ap₂, ◌∙◌}
use Rattle.dsm_base.specs.declared.setup.Object.{Object}
use Rattle.dsm_base.specs.declared.setup.Piece.{Piece}
use Rattle.dsm_base.specs.declared.setup.Setup.{Setup}
use Rattle.dsm_base.specs.Access.{piece_of}
use Rattle.dsm_base.specs.Threads.{Semantics}
use Rattle.dsm_net.specs.declared.trace.Group.{Group}
use Rattle.dsm_net.specs.Messages.{home_of}
use Rattle.dsm_net.specs.Net.{Net}
use Rattle.dsm_net.specs.Story.{history}
use Rattle.dsm_records.specs.Texts.{spaced, as_line}
use Rattle.dsm_laws_runs.specs.Pieces.{is_lock as names_lock, is_of_lock as is_bound}
use Rattle.dsm_laws_runs.specs.Versions.{IsCellOf, SameAt, memory_at}
use Rattle.dsm_laws_history.specs.NewerLines.{HasNewerLines}
use Rattle.dsm_state.specs.States.{is_lock, is_of_lock, cell_text, lock_at, lock_text}
use Rattle.dsm_top.specs.StateTexts.{LocksAreTold}

-- a cell that is bound to a lock stands in a piece of it
by_object : (lock : ℕ) (object : Object) → is_lock lock (Some object) ≡ true → names_lock lock object ≡ true
by_object lock (Object.Lock other) is = is
by_object lock (Object.Bar bar) is = is

by_piece : (lock : ℕ) (piece : Option Piece) → is_lock lock (option_map (λ (one : Piece). one.object) piece) ≡ true → is_bound lock piece ≡ true
by_piece lock None is = is
by_piece lock (Some piece) is = by_object lock piece.object is

is_cell : (setup : Setup) (lock cell : ℕ) → is_of_lock setup.bindings lock cell ≡ true → IsCellOf setup lock cell
is_cell setup lock cell is = by_piece lock (piece_of setup.bindings cell) is

-- values that are the same at the cells of a lock have the same text
cells_same : (setup : Setup) (lock : ℕ) (one other : ℕ → ℤ) → SameAt setup lock one other → (cells : List ℕ) →
    flat_map (cell_text one) (filter (is_of_lock setup.bindings lock) cells) ≡ flat_map (cell_text other) (filter (is_of_lock setup.bindings lock) cells)
cells_same setup lock one other same [] = refl
cells_same setup lock one other same (cell ∷ cells) = go (is_of_lock setup.bindings lock cell) refl (cells_same setup lock one other same cells)
  where
    go : (bound : Bool) → is_of_lock setup.bindings lock cell ≡ bound → flat_map (cell_text one) (filter (is_of_lock setup.bindings lock) cells) ≡ flat_map (cell_text other) (filter (is_of_lock setup.bindings lock) cells) →
        flat_map (cell_text one) (filter (is_of_lock setup.bindings lock) (cell ∷ cells)) ≡ flat_map (cell_text other) (filter (is_of_lock setup.bindings lock) (cell ∷ cells))
    go true is more = rw is (ap₂ (λ text others. text ++ others) (ap (λ value. codes " " ++ (decimal cell ++ (codes "=" ++ signed_decimal value))) (same cell (is_cell setup lock cell is))) more)
    go false is more = rw is more

module _ {S : Type 0} (setup : Setup) (first : ℕ → S) (threads : Semantics S) (net : Net S) (trace : List Group) where
  pub locks_told : HasNewerLines setup first threads net trace → LocksAreTold setup first threads net (history trace)
  locks_told newer lock s up lives =
      let home = newer.homes (home_of setup lock) lock s up in
      let desk = (s.locks lock).version in
      record {
        is_made = home.is_made;
        is_line =
            ap (λ state. as_line (lock_text setup lock state)) up
            ∙ (ap (λ standing. as_line (lock_at setup lock s standing)) lives
            ∙ ap (λ text. as_line (spaced (codes "lock" ∷ decimal lock ∷ codes "version" ∷ decimal desk ∷ (codes "cells" ++ text) ∷ [])))
            (cells_same setup lock s.lines.values (memory_at first threads (history trace) lock desk) home.values (range_with_len 0 setup.cells)));
      }

-- Where one processor's turn may store to a cell no turn of another uses it.
use Rattle.std.specs.Prelude.{◌≡◌, ◌≢◌, ℕ, ◌<◌, ◌==◌, true, false, List, Option, Some, None}
use Rattle.std.proofs.Common.{arith, refl, sym}
use Rattle.dsm_base.specs.declared.label.Label.{Label}
use Rattle.dsm_base.specs.declared.setup.Object.{Object}
use Rattle.dsm_base.specs.declared.setup.Piece.{Piece}
use Rattle.dsm_base.specs.declared.setup.Setup.{Setup}
use Rattle.dsm_base.specs.Access.{Rights, piece_of, is_exclusive, may_load, may_store, may_load_of, may_store_of, may_load_piece, may_store_piece}
use Rattle.dsm_base.specs.Threads.{Semantics}
use Rattle.dsm_base.specs.Plain.{PlainState, Turn, IsPlainRun, after_run, plain_after, plain_turn, seen_by}
use Rattle.dsm_laws_runs.specs.Versions.{AllAskFirst}
use Rattle.dsm_laws_runs.specs.Epochs.{wants_cross}
use Rattle.dsm_laws_runs.specs.Swap.{clashes, AreNeighbours}
use Rattle.dsm_laws_runs.proofs.OwnPart.{other_thread, other_held, other_crossed}
use Rattle.dsm_laws_runs.proofs.Turns.{stores_of, loads_of}
use Rattle.dsm_laws_runs.proofs.Exclusion.{exclusive_alone}
use Rattle.dsm_laws_runs.proofs.Epochs.{goes_over, crosses_as_wanted, in_step, all_came}

-- The rights of two processors that are at a barrier in the same epoch.
module _ (p q : ℕ) (mine other : Rights) (apart : p ≢ q) (alone : (lock : ℕ) → is_exclusive (mine.held lock) ≡ true → other.held lock ≡ None) (same : (bar : ℕ) → mine.crossed bar ≡ other.crossed bar) where
  alone_of : (piece : Piece) (object : Object) → may_store_of p mine piece object ≡ true → may_load_of q other piece object ≡ false
  alone_of piece (Object.Lock lock) stores = grind (arith, alone lock.0)
  alone_of piece (Object.Bar bar) stores = grind (arith, same bar.0)

  alone_at : (piece : Option Piece) → may_store_piece p mine piece ≡ true → may_load_piece q other piece ≡ false
  alone_at None stores = refl
  alone_at (Some piece) stores = alone_of piece piece.object stores

-- who may store to a cell may load it
load_of : (p : ℕ) (rights : Rights) (piece : Piece) (object : Object) → may_store_of p rights piece object ≡ true → may_load_of p rights piece object ≡ true
load_of p rights piece (Object.Lock lock) e = grind arith
load_of p rights piece (Object.Bar bar) e = grind arith

load_piece : (p : ℕ) (rights : Rights) (piece : Option Piece) → may_store_piece p rights piece ≡ true → may_load_piece p rights piece ≡ true
load_piece p rights None e = absurd (cc e)
load_piece p rights (Some piece) e = load_of p rights piece piece.object e

pub stores_load : (pieces : List Piece) (p : ℕ) (rights : Rights) (cell : ℕ) → may_store pieces p rights cell ≡ true → may_load pieces p rights cell ≡ true
stores_load pieces p rights cell e = load_piece p rights (piece_of pieces cell) e

differ : (c d : ℕ) → (c ≡ d → ⊥) → (c == d) ≡ false
differ c d ne = grind arith

module _ {S : Type 0} (setup : Setup) (first : ℕ → S) (threads : Semantics S) (ask_first : AllAskFirst setup first threads) (run : List Turn) (is_run : IsPlainRun setup first threads run) where
  abbrev origin : PlainState S
  origin = after_run first threads run

  -- a processor whose thread wants no crossing
  abbrev WantsNone : ℕ → Type 0
  WantsNone p = (bar : ℕ) → wants_cross bar (threads.want (origin.threads p)) ≡ false

  -- two of them have crossed each barrier equally often
  pub same_epoch : (p q : ℕ) → p < setup.procs → q < setup.procs → WantsNone p → WantsNone q → (bar : ℕ) → origin.crossed p bar ≡ origin.crossed q bar
  same_epoch p q lp lq wp wq bar =
      grind (
        arith,
        all_came setup first threads run is_run p q bar lq,
        all_came setup first threads run is_run q p bar lp,
        in_step setup first threads ask_first run is_run p lp bar,
        in_step setup first threads ask_first run is_run q lq bar,
        wp bar,
        wq bar,
      )

  -- where one may store to a cell the other may not load it
  never_both : (p q cell : ℕ) → p < setup.procs → q < setup.procs → p ≢ q → WantsNone p → WantsNone q →
      may_store setup.bindings p (seen_by origin p).rights cell ≡ true → may_load setup.bindings q (seen_by origin q).rights cell ≡ true → ⊥
  never_both p q cell lp lq ne wp wq stores loads =
      cc (
        loads,
        alone_at p q (seen_by origin p).rights (seen_by origin q).rights ne (λ lock h. exclusive_alone setup first threads run is_run p q lock ne h) (same_epoch p q lp lq wp wq)
            (piece_of setup.bindings cell) stores,
      )

  -- p's turn, and one of q in a state that q sees like this one but for the memory
  module _ (t : PlainState S) (p q : ℕ) (lp : p < setup.procs) (lq : q < setup.procs) (ne : p ≢ q)
      (same_thread : t.threads q ≡ origin.threads q) (same_held : t.held q ≡ origin.held q) (same_crossed : t.crossed q ≡ origin.crossed q) where
    mine_wants : (x : Label) (bar : ℕ) → plain_turn setup threads origin p ≡ Some x → goes_over bar x ≡ false → wants_cross bar (threads.want (origin.threads p)) ≡ false
    mine_wants x bar e none = rw (crosses_as_wanted setup origin p _ _ x e bar) none

    other_wants : (y : Label) (bar : ℕ) → plain_turn setup threads t q ≡ Some y → goes_over bar y ≡ false → wants_cross bar (threads.want (origin.threads q)) ≡ false
    other_wants y bar e none = rw (← same_thread, crosses_as_wanted setup t q _ _ y e bar) none

    same_rights : (seen_by t q).rights ≡ (seen_by origin q).rights
    same_rights = cc

    -- they don't clash
    pub no_clash : (x y : Label) → plain_turn setup threads origin p ≡ Some x → plain_turn setup threads t q ≡ Some y → clashes x y ≡ false
    no_clash (Label.Store cell value) (Label.Store other new) turn_x turn_y =
        differ cell.0 other.0 (λ e. never_both p q cell.0 lp lq ne (λ bar. mine_wants (Label.Store cell value) bar turn_x refl) (λ bar. other_wants (Label.Store other new) bar turn_y refl)
        (stores_of setup origin p _ _ cell value turn_x)
        (stores_load setup.bindings q (seen_by origin q).rights cell.0 (rw (e, ← same_rights) (stores_of setup t q _ _ other new turn_y))))
    no_clash (Label.Store cell value) (Label.Load other new) turn_x turn_y =
        differ cell.0 other.0 (λ e. never_both p q cell.0 lp lq ne (λ bar. mine_wants (Label.Store cell value) bar turn_x refl) (λ bar. other_wants (Label.Load other new) bar turn_y refl)
        (stores_of setup origin p _ _ cell value turn_x)
        (rw (e, ← same_rights) (loads_of setup t q _ _ other new turn_y).0))
    no_clash (Label.Load cell value) (Label.Store other new) turn_x turn_y =
        differ cell.0 other.0 (λ e. never_both q p cell.0 lq lp (λ e. ne (sym e)) (λ bar. other_wants (Label.Store other new) bar turn_y refl) (λ bar. mine_wants (Label.Load cell value) bar turn_x refl)
        (rw (e, ← same_rights) (stores_of setup t q _ _ other new turn_y))
        (loads_of setup origin p _ _ cell value turn_x).0)
    no_clash _ _ turn_x turn_y = refl

  -- two turns that can be made in one state don't clash
  pub no_clash_at_once : (p q : ℕ) → p < setup.procs → q < setup.procs → p ≢ q → (x y : Label) → plain_turn setup threads origin p ≡ Some x → plain_turn setup threads origin q ≡ Some y → clashes x y ≡ false
  no_clash_at_once p q lp lq ne = no_clash origin p q lp lq ne refl refl refl

-- nor do two neighbouring turns
pub neighbours_apart : {S : Type 0} (setup : Setup) (first : ℕ → S) (threads : Semantics S) (before : List Turn) (earlier later : Turn) → AreNeighbours setup first threads before earlier later →
    clashes earlier.label later.label ≡ false
neighbours_apart {S = S} setup first threads before earlier later near =
    let s : PlainState S = after_run first threads before in
    let back : later.proc ≢ earlier.proc = λ e. near.apart (sym e) in
    no_clash setup first threads near.ask_first before near.is_run.0.0 (plain_after threads s earlier.proc earlier.label) earlier.proc later.proc
    near.is_run.0.1.is_processor near.is_run.1.is_processor near.apart
    (other_thread threads s later.proc earlier.proc earlier.label back) (other_held threads s later.proc earlier.proc earlier.label back) (other_crossed threads s later.proc earlier.proc earlier.label back)
    earlier.label later.label near.is_run.0.1.is_label near.is_run.1.is_label

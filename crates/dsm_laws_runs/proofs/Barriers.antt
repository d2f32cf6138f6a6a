-- The memory of a barrier's cell is what its owner has stored there, and outside its phases the owner stores nothing.
use Rattle.std.specs.Prelude.{◌≡◌, ◌≢◌, ℕ, ℤ, ◌+◌, ◌<◌, ◌≤◌, Bool, true, false, if◌then◌else◌, List, [], ◌∷◌, ◌++◌, Option, Some, None}
use Rattle.std.proofs.Common.{arith, refl, ◌∙◌, ⊎_elim}
use Rattle.std.proofs.lemmas.Bool.{cases_eq, cases_lt}
use Rattle.dsm_base.specs.declared.names.Bar.{Bar}
use Rattle.dsm_base.specs.declared.names.Cell.{Cell}
use Rattle.dsm_base.specs.declared.label.Label.{Label}
use Rattle.dsm_base.specs.declared.setup.Object.{Object}
use Rattle.dsm_base.specs.declared.setup.Piece.{Piece}
use Rattle.dsm_base.specs.declared.setup.Setup.{Setup}
use Rattle.dsm_base.specs.Access.{Rights, piece_of, is_phase, may_store, may_store_of, may_store_piece}
use Rattle.dsm_base.specs.Threads.{Semantics}
use Rattle.dsm_base.specs.Plain.{PlainState, Turn, IsPlainRun, after_run, labels_of, seen_by, memory_after, plain_turn}
use Rattle.dsm_laws_runs.specs.OwnPart.{arrived_of, crossed_of}
use Rattle.dsm_laws_runs.specs.Versions.{AllAskFirst}
use Rattle.dsm_laws_runs.specs.Epochs.{wants_cross}
use Rattle.dsm_laws_runs.specs.Barriers.{is_owned, is_of_other, owner_of, stored_by, until_arrival}
use Rattle.dsm_laws_runs.specs.Pieces.{is_bar}
use Rattle.dsm_laws_runs.proofs.OwnPart.{own_arrived, own_crossed, labels_mine, labels_other}
use Rattle.dsm_laws_runs.proofs.Turns.{stores_of}
use Rattle.dsm_laws_runs.proofs.Each.{for_each}
use Rattle.dsm_laws_runs.proofs.Epochs.{crosses_as_wanted, crossed_step, in_step, goes_over}

-- Pieces of barriers.

-- a piece that another owns is its owner's
pub other_owned : (bar p : ℕ) (piece : Option Piece) → is_of_other bar p piece ≡ true → (is_owned bar (owner_of piece) piece ≡ true) × (owner_of piece ≢ p)
other_owned bar p None is = absurd (cc is)
other_owned bar p (Some piece) is = (grind arith, λ e. grind arith)

-- only its owner may store to it, and in its phases
store_of : (bar owner p : ℕ) (rights : Rights) (piece : Piece) (object : Object) → is_bar bar object ≡ true → may_store_of p rights piece object ≡ true →
    (p ≡ piece.owner) × (is_phase piece (rights.crossed bar) ≡ true)
store_of bar owner p rights piece (Object.Lock lock) is may = absurd (cc is)
store_of bar owner p rights piece (Object.Bar other) is may = (grind arith, grind arith)

store_piece : (bar owner p : ℕ) (rights : Rights) (piece : Option Piece) → is_owned bar owner piece ≡ true → may_store_piece p rights piece ≡ true → p ≡ owner
store_piece bar owner p rights None is may = absurd (cc is)
store_piece bar owner p rights (Some piece) is may = grind (arith, store_of bar owner p rights piece piece.object)

-- Labels up to an arrival.

pub until_more : (bar k : ℕ) (label : Label) (before : List Label) → k ≤ arrived_of before bar → until_arrival bar k (label ∷ before) ≡ until_arrival bar k before
until_more bar k label before le = grind arith

pub until_now : (bar k : ℕ) (label : Label) (before : List Label) → arrived_of before bar < k → until_arrival bar k (label ∷ before) ≡ label ∷ before
until_now bar k label before lt = grind arith

pub arrived_rises : (label : Label) (before : List Label) (bar : ℕ) → arrived_of before bar ≤ arrived_of (label ∷ before) bar
arrived_rises label before bar = grind arith

-- what was stored up to an arrival that has been made stays
pub until_later : (bar k : ℕ) (newer before : List Label) → k ≤ arrived_of before bar → (k ≤ arrived_of (newer ++ before) bar) × (until_arrival bar k (newer ++ before) ≡ until_arrival bar k before)
until_later bar k [] before le = (le, refl)
until_later bar k (label ∷ newer) before le =
    let was = until_later bar k newer before le in
    (omega (arith, was.0, arrived_rises label (newer ++ before) bar), until_more bar k label (newer ++ before) was.0 ∙ was.1)

store_kept : (memory : ℕ → ℤ) (label : Label) (cell : ℕ) → ((stored : Cell) (value : ℤ) → label ≡ Label.Store stored value → stored.0 ≡ cell → ⊥) → memory_after memory label cell ≡ memory cell
store_kept memory (Label.Store stored value) cell none = grind (arith, none stored value refl)
store_kept memory _ cell none = refl

pub store_same : (memory other : ℕ → ℤ) (label : Label) (cell : ℕ) → memory cell ≡ other cell → memory_after memory label cell ≡ memory_after other label cell
store_same memory other label cell e = grind arith

module _ {S : Type 0} (setup : Setup) (threads : Semantics S) (s : PlainState S) (bar owner cell : ℕ) (is : is_owned bar owner (piece_of setup.bindings cell) ≡ true) where
  -- a turn of another leaves an owned cell
  pub others_leave : (r : ℕ) (label : Label) → plain_turn setup threads s r ≡ Some label → r ≢ owner → (memory : ℕ → ℤ) → memory_after memory label cell ≡ memory cell
  others_leave r label turn ne memory =
      store_kept memory label cell
      (λ stored value e at_cell. ne (store_piece bar owner r (seen_by s r).rights (piece_of setup.bindings cell) is (rw (← at_cell) (stores_of setup s r _ _ stored value (rw e at turn)))))

module _ {S : Type 0} (setup : Setup) (first : ℕ → S) (threads : Semantics S) (bar owner cell : ℕ) (is : is_owned bar owner (piece_of setup.bindings cell) ≡ true) where
  -- the memory of an owned cell is what its owner's labels stored there
  pub owned_memory : (run : List Turn) → IsPlainRun setup first threads run → (after_run first threads run).memory cell ≡ stored_by (labels_of owner run) cell
  owned_memory [] is_run = refl
  owned_memory (turn ∷ before) is_run =
      let s : PlainState S = after_run first threads before in
      ⊎_elim
      (λ e. rw (labels_mine owner turn before e) (store_same s.memory (stored_by (labels_of owner before)) turn.label cell (owned_memory before is_run.0)))
      (λ ne. rw (labels_other owner turn before ne) (others_leave setup threads s bar owner cell is turn.proc turn.label is_run.1.is_label ne s.memory ∙ owned_memory before is_run.0))
      (cases_eq turn.proc owner)

-- who makes a turn that is no crossing has come to a barrier as often as it has crossed it
pub settled_at : {S : Type 0} (setup : Setup) (first : ℕ → S) (threads : Semantics S) → AllAskFirst setup first threads → (bar : ℕ) (before : List Turn) → IsPlainRun setup first threads before →
    (r : ℕ) → r < setup.procs → (label : Label) → plain_turn setup threads (after_run first threads before) r ≡ Some label → ((other : Bar) (epoch : ℕ) → label ≡ Label.Cross other epoch → ⊥) →
    (after_run first threads before).arrived r bar ≡ (after_run first threads before).crossed r bar
settled_at setup first threads ask_first bar before is_run r lt label turn none =
    come ((after_run first threads before).arrived r bar) ((after_run first threads before).crossed r bar) (in_step setup first threads ask_first before is_run r lt bar)
    (crosses_as_wanted setup (after_run first threads before) r _ _ label turn bar ∙ no_cross label none)
  where
    come : (arrived crossed : ℕ) → arrived ≡ (if wants_cross bar (threads.want ((after_run first threads before).threads r)) then crossed + 1 else crossed) →
        wants_cross bar (threads.want ((after_run first threads before).threads r)) ≡ false → arrived ≡ crossed
    come arrived crossed is none = is ∙ rw none refl

    no_cross : (label : Label) → ((other : Bar) (epoch : ℕ) → label ≡ Label.Cross other epoch → ⊥) → goes_over bar label ≡ false
    no_cross (Label.Cross crossed epoch) none = absurd (none crossed epoch refl)
    no_cross _ none = refl

-- In an epoch that is none of the owner's phases.
module _ {S : Type 0} (setup : Setup) (first : ℕ → S) (threads : Semantics S) (ask_first : AllAskFirst setup first threads) (bar cell : ℕ) (piece : Piece)
    (is_piece : piece_of setup.bindings cell ≡ Some piece) (is_bar_piece : is_bar bar piece.object ≡ true) (k : ℕ) (quiet : is_phase piece k ≡ false) where
  -- who stores to the cell is in a phase, and has come to the barrier as often as it has crossed it
  stores_in_phase : (before : List Turn) → IsPlainRun setup first threads before → (r : ℕ) → r < setup.procs → (stored : Cell) (value : ℤ) → stored.0 ≡ cell →
      plain_turn setup threads (after_run first threads before) r ≡ Some (Label.Store stored value) →
      (is_phase piece ((after_run first threads before).crossed r bar) ≡ true) × ((after_run first threads before).arrived r bar ≡ (after_run first threads before).crossed r bar)
  stores_in_phase before is_run r lt stored value at_cell turn =
      let s : PlainState S = after_run first threads before in
      let may : may_store setup.bindings r (seen_by s r).rights cell ≡ true = rw (← at_cell) (stores_of setup s r _ _ stored value turn) in (
        (store_of bar piece.owner r (seen_by s r).rights piece piece.object is_bar_piece (rw is_piece at may)).1,
        settled_at setup first threads ask_first bar before is_run r lt (Label.Store stored value) turn (λ other epoch e. cc e),
      )

  -- what an owner has stored in the cell is what it had when it came to the barrier for the epoch
  abbrev IsQuiet : List Label → Type 0
  IsQuiet labels = crossed_of labels bar ≤ k → stored_by labels cell ≡ stored_by (until_arrival bar k labels) cell

  own_quiet : (turn : Turn) (before : List Turn) → IsPlainRun setup first threads (turn ∷ before) → IsQuiet (labels_of turn.proc before) → IsQuiet (turn.label ∷ labels_of turn.proc before)
  own_quiet turn before is_run was le =
      ⊎_elim
      (λ lt. rw (until_now bar k turn.label (labels_of turn.proc before) lt) refl)
      (λ ge. rw (until_more bar k turn.label (labels_of turn.proc before) ge) (store_kept (stored_by (labels_of turn.proc before)) turn.label cell (none ge) ∙ was (omega (arith, rises))))
      (cases_lt (arrived_of (labels_of turn.proc before) bar) k)
    where
      rises : crossed_of (labels_of turn.proc before) bar ≤ crossed_of (turn.label ∷ labels_of turn.proc before) bar
      rises = rw (← own_crossed first threads before turn.proc)
          (rw (crossed_step setup (after_run first threads before) turn.proc _ _ turn.label is_run.1.is_label bar) (more (goes_over bar turn.label) ((after_run first threads before).crossed turn.proc bar)))
        where
          more : (b : Bool) (n : ℕ) → n ≤ (if b then n + 1 else n)
          more b n = grind arith

      none : k ≤ arrived_of (labels_of turn.proc before) bar → (stored : Cell) (value : ℤ) → turn.label ≡ Label.Store stored value → stored.0 ≡ cell → ⊥
      none ge stored value e at_cell =
          let stores = stores_in_phase before is_run.0 turn.proc is_run.1.is_processor stored value at_cell (rw e at is_run.1.is_label) in
          not_quiet ((after_run first threads before).arrived turn.proc bar) ((after_run first threads before).crossed turn.proc bar) stores.0 stores.1
          (rw (own_arrived first threads before turn.proc) ge)
          (rw (own_crossed first threads before turn.proc) (omega (arith, le, rises)))
        where
          not_quiet : (arrived crossed : ℕ) → is_phase piece crossed ≡ true → arrived ≡ crossed → k ≤ arrived → crossed ≤ k → ⊥
          not_quiet arrived crossed phase same ge le = let e : crossed ≡ k = omega arith in cc

  pub quiet_run : (run : List Turn) → IsPlainRun setup first threads run → (owner : ℕ) → IsQuiet (labels_of owner run)
  quiet_run [] is_run owner = λ le. refl
  quiet_run (turn ∷ before) is_run owner =
      for_each (λ owner. IsQuiet (labels_of owner (turn ∷ before))) turn.proc owner
      (rw (labels_mine turn.proc turn before refl) (own_quiet turn before is_run (quiet_run before is_run.0 turn.proc)))
      (λ ne. rw (labels_other owner turn before ne) (quiet_run before is_run.0 owner))

-- The marks of a processor at a barrier's lines are those to which it has stored in its present epoch, and none once it has come at the epoch's end.
use Rattle.std.specs.Prelude.{◌≡◌, ℕ, ℤ, ◌+◌, ◌<◌, ◌≤◌, Bool, true, false, ◌&&◌, ◌||◌, ◌==◌, not, nat_lt, if◌then◌else◌, List, [], ◌∷◌, Option, Some, None, is_some}
use Rattle.std.proofs.Common.{arith, refl, sym, ap, ◌∙◌, subst, inl, inr, true≢false}
use Rattle.std.proofs.lemmas.Bool.Decides.{eqb_tells}
use Rattle.dsm_base.specs.declared.names.Bar.{Bar}
use Rattle.dsm_base.specs.declared.names.Cell.{Cell}
use Rattle.dsm_base.specs.declared.label.Label.{Label}
use Rattle.dsm_base.specs.declared.setup.Object.{Object}
use Rattle.dsm_base.specs.declared.setup.Piece.{Piece}
use Rattle.dsm_base.specs.declared.setup.Setup.{Setup}
use Rattle.dsm_base.specs.Family.{update}
use Rattle.dsm_base.specs.Access.{Rights, piece_of, may_store_of, may_store_piece}
use Rattle.dsm_base.specs.Threads.{Semantics}
use Rattle.dsm_base.specs.Plain.{PlainState, Turn, IsPlainRun, after_run, plain_turn, labels_of, seen_by}
use Rattle.dsm_lines.specs.Places.{same_object, lines_of}
use Rattle.dsm_laws_runs.specs.Pieces.{is_bar}
use Rattle.dsm_laws_runs.specs.OwnPart.{arrived_of, crossed_of}
use Rattle.dsm_laws_runs.specs.Versions.{AllAskFirst}
use Rattle.dsm_laws_runs.specs.Barriers.{is_owned}
use Rattle.dsm_laws_runs.specs.Newer.{stores_own, is_stored_in}
use Rattle.dsm_laws_runs.proofs.Each.{for_each}
use Rattle.dsm_laws_runs.proofs.OwnPart.{own_arrived, own_crossed, labels_mine, labels_other}
use Rattle.dsm_laws_runs.proofs.Turns.{Crosses, stores_of, crosses_of}
use Rattle.dsm_laws_runs.proofs.Barriers.{settled_at}
use Rattle.dsm_laws_runs.proofs.Epochs.{goes_over, crossed_step, in_step}
use Rattle.dsm_laws_history.specs.NewerLines.{line_at}
use Rattle.dsm_laws_history.proofs.Lines.{is_in, marked_line, line_of_object, of_object, same_piece}
use Rattle.dsm_laws_history.proofs.Marks.{dirty_of}
use Rattle.dsm_laws_history.proofs.BarrierLines.{same_bar, object_bound}

-- whether labels have come to a barrier and not crossed it
abbrev pub is_waiting_at : ℕ → List Label → Bool
is_waiting_at bar labels = nat_lt (crossed_of labels bar) (arrived_of labels bar)

-- who may store to a cell of a barrier is its owner
owner_stores : (bar p : ℕ) (rights : Rights) (piece : Option Piece) → of_object (Object.Bar record { 0 = bar }) piece ≡ true → may_store_piece p rights piece ≡ true → is_owned bar p piece ≡ true
owner_stores bar p rights None is may = cc
owner_stores bar p rights (Some piece) is may = rw (sym (same_bar piece.object record { 0 = bar }) ∙ is) (by piece.object may (sym (same_bar piece.object record { 0 = bar }) ∙ is))
  where
    by : (object : Object) → may_store_of p rights piece object ≡ true → is_bar bar object ≡ true → (true && (piece.owner == p)) ≡ true
    by (Object.Lock lock) may is = cc
    by (Object.Bar other) may is = grind arith

module _ {S : Type 0} (setup : Setup) (first : ℕ → S) (threads : Semantics S) (ask_first : AllAskFirst setup first threads) (bar : Bar) where
  abbrev stored : ℕ → ℕ → List Label → ℕ → Bool
  stored p epoch labels line = is_stored_in (line_at setup.bindings) setup bar.0 p epoch labels line

  -- nobody has stored in an epoch that is still to come
  pub none_beyond : (run : List Turn) → IsPlainRun setup first threads run → (p epoch line : ℕ) → crossed_of (labels_of p run) bar.0 < epoch → stored p epoch (labels_of p run) line ≡ false
  none_beyond [] is_run p epoch line = λ lt. refl
  none_beyond (turn ∷ before) is_run p epoch line =
      for_each (λ p. crossed_of (labels_of p (turn ∷ before)) bar.0 < epoch → stored p epoch (labels_of p (turn ∷ before)) line ≡ false) turn.proc p
      (rw (labels_mine turn.proc turn before refl) (mine (none_beyond before is_run.0 turn.proc epoch line)))
      (λ ne. rw (labels_other p turn before ne) (none_beyond before is_run.0 p epoch line))
    where
      rises : crossed_of (labels_of turn.proc before) bar.0 ≤ crossed_of (turn.label ∷ (labels_of turn.proc before)) bar.0
      rises = rw (← own_crossed first threads before turn.proc)
          (rw (crossed_step setup (after_run first threads before) turn.proc _ _ turn.label is_run.1.is_label bar.0) (more (goes_over bar.0 turn.label) ((after_run first threads before).crossed turn.proc bar.0)))
        where
          more : (b : Bool) (n : ℕ) → n ≤ (if b then n + 1 else n)
          more b n = grind arith

      mine : (crossed_of (labels_of turn.proc before) bar.0 < epoch → stored turn.proc epoch (labels_of turn.proc before) line ≡ false) →
          crossed_of (turn.label ∷ (labels_of turn.proc before)) bar.0 < epoch → stored turn.proc epoch (turn.label ∷ (labels_of turn.proc before)) line ≡ false
      mine was lt = none (stores_own (line_at setup.bindings) setup bar.0 turn.proc line turn.label) (crossed_of (labels_of turn.proc before) bar.0) (stored turn.proc epoch (labels_of turn.proc before) line)
          (let r = rises in omega arith) (was (let r = rises in omega arith))
        where
          none : (b : Bool) (crossed : ℕ) (rest : Bool) → crossed < epoch → rest ≡ false → ((b && (crossed == epoch)) || rest) ≡ false
          none b crossed rest lt e = grind arith

  module _ (cell : ℕ) (is_cell : of_object (Object.Bar bar) (piece_of setup.bindings cell) ≡ true) where
    abbrev line : ℕ
    line = line_at setup.bindings cell

    -- the line is marked where it was stored to in the present epoch
    abbrev pub IsMarked : ℕ → List Label → Type 0
    IsMarked p labels = dirty_of setup.bindings labels line ≡ (if is_waiting_at bar.0 labels then false else stored p (crossed_of labels bar.0) labels line)

    bound : is_some (piece_of setup.bindings cell) ≡ true
    bound = object_bound (Object.Bar bar) (piece_of setup.bindings cell) is_cell

    in_lines : (object : Object) → (b : Bool) → ((piece : Piece) → same_object piece.object (Object.Bar bar) ≡ true → same_object piece.object object ≡ b) → is_in line (lines_of setup.bindings object) ≡ b
    in_lines object b same = at (piece_of setup.bindings cell) refl is_cell
      where
        at : (o : Option Piece) → piece_of setup.bindings cell ≡ o → of_object (Object.Bar bar) o ≡ true → is_in line (lines_of setup.bindings object) ≡ b
        at None e is = cc
        at (Some piece) e is = line_of_object setup.bindings object cell piece e ∙ same piece is

    lock_apart : (piece : Piece) (lock : _) → same_object piece.object (Object.Bar bar) ≡ true → same_object piece.object (Object.Lock lock) ≡ false
    lock_apart piece lock is = by piece.object is
      where
        by : (object : Object) → same_object object (Object.Bar bar) ≡ true → same_object object (Object.Lock lock) ≡ false
        by (Object.Lock other) is = cc
        by (Object.Bar other) is = refl

    bar_apart : (other : Bar) → (other.0 == bar.0) ≡ false → (object : Object) → same_object object (Object.Bar bar) ≡ true → same_object object (Object.Bar other) ≡ false
    bar_apart other ne (Object.Lock lock) is = cc
    bar_apart other ne (Object.Bar mine) is = grind arith

    bar_same : (other : Bar) → (other.0 == bar.0) ≡ true → (object : Object) → same_object object (Object.Bar bar) ≡ true → same_object object (Object.Bar other) ≡ true
    bar_same other same (Object.Lock lock) is = cc
    bar_same other same (Object.Bar mine) is = grind arith

    module _ (before : List Turn) (is_run : IsPlainRun setup first threads before) (p : ℕ) (lt : p < setup.procs) (was : IsMarked p (labels_of p before)) where
      abbrev s : PlainState S
      s = after_run first threads before

      abbrev labels : List Label
      labels = labels_of p before

      -- who makes a turn that is no crossing doesn't wait
      settled : (label : Label) → plain_turn setup threads s p ≡ Some label → ((other : Bar) (epoch : ℕ) → label ≡ Label.Cross other epoch → ⊥) → arrived_of labels bar.0 ≡ crossed_of labels bar.0
      settled label turn none =
          ap (λ f. f bar.0) (sym (own_arrived first threads before p)) ∙ settled_at setup first threads ask_first bar.0 before is_run p lt label turn none ∙ ap (λ f. f bar.0) (own_crossed first threads before p)

      not_waiting : (n m : ℕ) → n ≡ m → nat_lt m n ≡ false
      not_waiting n m e = grind arith

      was_stored : (label : Label) → plain_turn setup threads s p ≡ Some label → ((other : Bar) (epoch : ℕ) → label ≡ Label.Cross other epoch → ⊥) → dirty_of setup.bindings labels line ≡ stored p (crossed_of labels bar.0) labels line
      was_stored label turn none = was ∙ rw (not_waiting (arrived_of labels bar.0) (crossed_of labels bar.0) (settled label turn none)) refl

      kept_by : (b : Bool) (object : Object) → is_in line (lines_of setup.bindings object) ≡ false → (b && not (is_in line (lines_of setup.bindings object))) ≡ b
      kept_by b object none = rw none (grind arith)

      taken_by : (b : Bool) (object : Object) → is_in line (lines_of setup.bindings object) ≡ true → (b && not (is_in line (lines_of setup.bindings object))) ≡ false
      taken_by b object all = rw all (grind arith)

      at_store : (cell_stored : Cell) (value : ℤ) → plain_turn setup threads s p ≡ Some (Label.Store cell_stored value) → IsMarked p (Label.Store cell_stored value ∷ labels)
      at_store to value turn =
          ap (λ marks. marks line) (marked_line setup.bindings (dirty_of setup.bindings labels) to.0 to_bound)
          ∙ go (line_at setup.bindings to.0 == line) refl
          ∙ sym (rw (not_waiting (arrived_of labels bar.0) (crossed_of labels bar.0) (settled (Label.Store to value) turn (λ other epoch e. cc e))) refl)
        where
          may : may_store_piece p (seen_by s p).rights (piece_of setup.bindings to.0) ≡ true
          may = stores_of setup s p _ _ to value turn

          to_bound : is_some (piece_of setup.bindings to.0) ≡ true
          to_bound = some (piece_of setup.bindings to.0) may
            where
              some : (o : Option Piece) → may_store_piece p (seen_by s p).rights o ≡ true → is_some o ≡ true
              some None e = cc
              some (Some piece) e = refl

          own_mark : (f : ℕ → Bool) (n m : ℕ) → (n == m) ≡ true → update f n true m ≡ true
          own_mark f n m e = grind arith

          other_mark : (f : ℕ → Bool) (n m : ℕ) → (n == m) ≡ false → update f n true m ≡ f m
          other_mark f n m e = grind arith

          same : (n : ℕ) (rest : Bool) → true ≡ (((true && true) && (n == n)) || rest)
          same n rest = grind arith

          none : (b rest : Bool) (n : ℕ) → rest ≡ (((b && false) && (n == n)) || rest)
          none b rest n = grind arith

          number : (n m : ℕ) → (n == m) ≡ true → n ≡ m
          number n m e = elim (eqb_tells n m) [ inl (_, i) ↦ i | inr (f, _) ↦ absurd (true≢false (sym e ∙ f)) ]

          owned : line_at setup.bindings to.0 ≡ line → is_owned bar.0 p (piece_of setup.bindings to.0) ≡ true
          owned at = owner_stores bar.0 p (seen_by s p).rights (piece_of setup.bindings to.0)
              (ap (of_object (Object.Bar bar)) (same_piece setup.bindings to.0 cell to_bound bound at) ∙ is_cell) may

          go : (b : Bool) → (line_at setup.bindings to.0 == line) ≡ b →
              update (dirty_of setup.bindings labels) (line_at setup.bindings to.0) true line ≡ stored p (crossed_of labels bar.0) (Label.Store to value ∷ labels) line
          go true t = own_mark (dirty_of setup.bindings labels) (line_at setup.bindings to.0) line t
              ∙ rw (owned (number (line_at setup.bindings to.0) line t), t) (same (crossed_of labels bar.0) (stored p (crossed_of labels bar.0) labels line))
          go false t = other_mark (dirty_of setup.bindings labels) (line_at setup.bindings to.0) line t ∙ was_stored (Label.Store to value) turn (λ other epoch e. cc e)
              ∙ rw t (none (is_owned bar.0 p (piece_of setup.bindings to.0)) (stored p (crossed_of labels bar.0) labels line) (crossed_of labels bar.0))

      at_arrival : (reached : Bar) → plain_turn setup threads s p ≡ Some (Label.Arrive reached) → IsMarked p (Label.Arrive reached ∷ labels)
      at_arrival reached turn = go (reached.0 == bar.0) refl
        where
          comes : (arrived : ℕ → ℕ) (n m : ℕ) → (m == n) ≡ true → arrived n ≡ crossed_of labels n → nat_lt (crossed_of labels n) (update arrived m (arrived m + 1) n) ≡ true
          comes arrived n m e settled = grind arith

          stays : (arrived : ℕ → ℕ) (n m : ℕ) → (m == n) ≡ false → update arrived m (arrived m + 1) n ≡ arrived n
          stays arrived n m e = grind arith

          go : (b : Bool) → (reached.0 == bar.0) ≡ b → IsMarked p (Label.Arrive reached ∷ labels)
          go true t = taken_by (dirty_of setup.bindings labels line) (Object.Bar reached) (in_lines (Object.Bar reached) true (λ piece is. bar_same reached t piece.object is))
              ∙ sym (rw (comes (arrived_of labels) bar.0 reached.0 t (settled (Label.Arrive reached) turn (λ other epoch e. cc e))) refl)
          go false t = kept_by (dirty_of setup.bindings labels line) (Object.Bar reached) (in_lines (Object.Bar reached) false (λ piece is. bar_apart reached t piece.object is))
              ∙ was ∙ sym (rw (stays (arrived_of labels) bar.0 reached.0 t) refl)

      at_crossing : (crossed : Bar) (epoch : ℕ) → plain_turn setup threads s p ≡ Some (Label.Cross crossed epoch) → IsMarked p (Label.Cross crossed epoch ∷ labels)
      at_crossing crossed epoch turn = go (crossed.0 == bar.0) refl
        where
          cross : Crosses setup s p (threads.want (s.threads p)) crossed epoch
          cross = crosses_of setup s p _ _ crossed epoch turn

          came : (crossed.0 == bar.0) ≡ true → arrived_of labels bar.0 ≡ crossed_of labels bar.0 + 1
          came t =
              ap (λ f. f bar.0) (sym (own_arrived first threads before p))
              ∙ in_step setup first threads ask_first before is_run p lt bar.0 ∙ rw (cross.wanted, t) refl
              ∙ ap (λ f. f bar.0 + 1) (own_crossed first threads before p)

          is_epoch : crossed.0 ≡ bar.0 → epoch ≡ crossed_of labels bar.0 + 1
          is_epoch i = cross.is_epoch ∙ ap (λ f. f crossed.0 + 1) (own_crossed first threads before p) ∙ ap (λ n. crossed_of labels n + 1) i

          waited : (n m : ℕ) → n ≡ m + 1 → nat_lt m n ≡ true
          waited n m e = grind arith

          number : (n m : ℕ) → (n == m) ≡ true → n ≡ m
          number n m e = elim (eqb_tells n m) [ inl (_, i) ↦ i | inr (f, _) ↦ absurd (true≢false (sym e ∙ f)) ]

          into : (f : ℕ → ℕ) (n m v : ℕ) → (n == m) ≡ true → update f n v m ≡ v
          into f n m v e = grind arith

          stays : (f : ℕ → ℕ) (n m v : ℕ) → (n == m) ≡ false → update f n v m ≡ f m
          stays f n m v e = grind arith

          unmarked : (crossed.0 == bar.0) ≡ true → dirty_of setup.bindings labels line ≡ false
          unmarked t = was ∙ rw (waited (arrived_of labels bar.0) (crossed_of labels bar.0) (came t)) refl

          none_either : (b c : Bool) → c ≡ false → (if b then false else c) ≡ false
          none_either b c e = grind arith

          go : (b : Bool) → (crossed.0 == bar.0) ≡ b → IsMarked p (Label.Cross crossed epoch ∷ labels)
          go true t =
              unmarked t
              ∙ sym (none_either (is_waiting_at bar.0 (Label.Cross crossed epoch ∷ labels)) _ (ap (λ n. stored p n labels line) (into (crossed_of labels) crossed.0 bar.0 epoch t)
              ∙ none_beyond before is_run p epoch line (let k = is_epoch (number crossed.0 bar.0 t) in omega arith)))
          go false t = was ∙ sym (ap (λ n. if nat_lt n (arrived_of labels bar.0) then false else stored p n labels line) (stays (crossed_of labels) crossed.0 bar.0 epoch t))

      pub own_marked : (label : Label) → plain_turn setup threads s p ≡ Some label → IsMarked p (label ∷ labels)
      own_marked (Label.Store to value) turn = at_store to value turn
      own_marked (Label.Arrive reached) turn = at_arrival reached turn
      own_marked (Label.Cross crossed epoch) turn = at_crossing crossed epoch turn
      own_marked (Label.Give lock) turn = kept_by (dirty_of setup.bindings labels line) (Object.Lock lock) (in_lines (Object.Lock lock) false (λ piece is. lock_apart piece lock is)) ∙ was
      own_marked label turn = was

    pub bar_marks : (run : List Turn) → IsPlainRun setup first threads run → (p : ℕ) → IsMarked p (labels_of p run)
    bar_marks [] is_run p = refl
    bar_marks (turn ∷ before) is_run p =
        for_each (λ p. IsMarked p (labels_of p (turn ∷ before))) turn.proc p
        (subst (IsMarked turn.proc) (sym (labels_mine turn.proc turn before refl))
        (own_marked before is_run.0 turn.proc is_run.1.is_processor (bar_marks before is_run.0 turn.proc) turn.label is_run.1.is_label))
        (λ ne. subst (IsMarked p) (sym (labels_other p turn before ne)) (bar_marks before is_run.0 p))

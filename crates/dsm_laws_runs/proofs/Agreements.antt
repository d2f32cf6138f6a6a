-- Agreement: where turns make of the own copy what they should, it has the memory's values at each cell that its processor may load.
use Rattle.std.specs.Prelude.{◌≡◌, ◌≢◌, ℕ, ℤ, ◌+◌, ◌<◌, ◌≤◌, nat_lt, ◌&&◌, ◌||◌, ◌==◌, not, Bool, true, false, if◌then◌else◌, List, [], ◌∷◌, Option, Some, None}
use Rattle.std.proofs.Common.{arith, refl, sym, ap, subst, ◌∙◌, ⊎_elim}
use Rattle.std.proofs.lemmas.Bool.{cases_eq}
use Rattle.dsm_base.specs.declared.names.Bar.{Bar}
use Rattle.dsm_base.specs.declared.label.Label.{Label}
use Rattle.dsm_base.specs.declared.setup.Object.{Object}
use Rattle.dsm_base.specs.declared.setup.Piece.{Piece}
use Rattle.dsm_base.specs.declared.setup.Setup.{Setup}
use Rattle.dsm_base.specs.Access.{piece_of, is_phase, may_load, may_load_of, may_load_piece}
use Rattle.dsm_base.specs.Threads.{Semantics}
use Rattle.dsm_base.specs.Plain.{PlainState, Turn, IsPlainRun, after_run, labels_of, seen_by, plain_turn, memory_after, arrived_after, crossed_after, held_after}
use Rattle.dsm_base.specs.Agrees.{AgreesWith, is_between, is_between_of, is_between_at}
use Rattle.dsm_laws_runs.specs.Pieces.{is_of_lock, is_lock}
use Rattle.dsm_base.specs.Family.{update}
use Rattle.dsm_laws_runs.specs.OwnPart.{own_versions_of, crossed_of}
use Rattle.dsm_laws_runs.specs.Versions.{AllAskFirst, SameAt, memory_at}
use Rattle.dsm_laws_runs.specs.Barriers.{is_owned, is_of_other, owner_of, stored_by, until_arrival, memory_in}
use Rattle.dsm_laws_runs.specs.Pieces.{is_bar}
use Rattle.dsm_laws_runs.specs.Copies.{OwnTurn, own_labels, newest_copy, Memories, memories_of, Renews, AreAdequate, HasCopies, AgreesAtBarriers, CopyAgrees}
use Rattle.dsm_base.proofs.Families.{update_same, all_at}
use Rattle.dsm_laws_runs.proofs.Each.{for_each}
use Rattle.dsm_laws_runs.proofs.OwnPart.{own_held, own_arrived, own_crossed, other_held, other_arrived, other_crossed, labels_mine, labels_other}
use Rattle.dsm_laws_runs.proofs.Turns.{crosses_of}
use Rattle.dsm_laws_runs.proofs.Versions.{take_version, version_rises}
use Rattle.dsm_laws_runs.proofs.Memory.{memory_at_turn}
use Rattle.dsm_laws_runs.proofs.OtherTurn.{other_turn}
use Rattle.dsm_laws_runs.proofs.OwnTurns.{carried, own_turn}
use Rattle.dsm_laws_runs.proofs.Epochs.{all_came, arrived_step, comes_to}
use Rattle.dsm_laws_runs.proofs.Barriers.{other_owned, until_more, others_leave, store_same, owned_memory, quiet_run}

-- Memories that a run has, as far as it has come.
pub record AreKnown {S : Type 0} (setup : Setup) (first : ℕ → S) (threads : Semantics S) (memories : Memories) (run : List Turn) : Type 0 where
  pub at_version : (lock version : ℕ) → version ≤ (after_run first threads run).versions lock → SameAt setup lock (memories.at_version lock version) (memory_at first threads run lock version)
  pub in_epoch : (bar epoch cell : ℕ) → (owner_of (piece_of setup.bindings cell) < setup.procs → epoch ≤ (after_run first threads run).arrived (owner_of (piece_of setup.bindings cell)) bar) →
      memories.in_epoch bar epoch cell ≡ memory_in setup (λ q. labels_of q run) bar epoch cell

more_or_same : (b : Bool) (n : ℕ) → n ≤ (if b then n + 1 else n)
more_or_same b n = grind arith

module _ {S : Type 0} (setup : Setup) (first : ℕ → S) (threads : Semantics S) where
  pub known_itself : (run : List Turn) → AreKnown setup first threads (memories_of setup first threads run) run
  known_itself run = record { at_version = λ lock version le cell is. refl; in_epoch = λ bar epoch cell le. refl }

  arrivals_rise : (turn : Turn) (before : List Turn) (q bar : ℕ) → (after_run first threads before).arrived q bar ≤ (after_run first threads (turn ∷ before)).arrived q bar
  arrivals_rise turn before q bar =
      let s : PlainState S = after_run first threads before in
      for_each (λ q. s.arrived q bar ≤ (after_run first threads (turn ∷ before)).arrived q bar) turn.proc q
      (rw (update_same s.arrived turn.proc (arrived_after (s.arrived turn.proc) turn.label), arrived_step (s.arrived turn.proc) turn.label bar) (more_or_same (comes_to bar turn.label) (s.arrived turn.proc bar)))
      (λ ne. rw (other_arrived threads s q turn.proc turn.label (λ e. ne (sym e))) (omega arith))

  -- what an owner had stored when it came to a barrier for an epoch stays with a turn more
  pub epoch_kept : (turn : Turn) (before : List Turn) → turn.proc < setup.procs → (bar epoch cell owner : ℕ) → (owner < setup.procs → epoch ≤ (after_run first threads before).arrived owner bar) →
      stored_by (until_arrival bar epoch (labels_of owner (turn ∷ before))) cell ≡ stored_by (until_arrival bar epoch (labels_of owner before)) cell
  epoch_kept turn before lt bar epoch cell owner le =
      ⊎_elim
      (λ e. rw (labels_mine owner turn before e)
      (ap (λ labels. stored_by labels cell) (until_more bar epoch turn.label (labels_of owner before) (rw (← own_arrived first threads before owner) (le (rw e at lt))))))
      (λ ne. rw (labels_other owner turn before ne) refl)
      (cases_eq turn.proc owner)

  pub known_before : (memories : Memories) (turn : Turn) (before : List Turn) → turn.proc < setup.procs → AreKnown setup first threads memories (turn ∷ before) → AreKnown setup first threads memories before
  known_before memories turn before lt known = record {
    at_version = λ lock version le cell is.
        known.at_version lock version (omega (arith, le, version_rises first threads turn before lock)) cell is ∙ ap (λ memory. memory cell) (memory_at_turn first threads turn before lock version le);
    in_epoch = λ bar epoch cell le.
        known.in_epoch bar epoch cell (λ is. omega (arith, le is, arrivals_rise turn before (owner_of (piece_of setup.bindings cell)) bar))
        ∙ epoch_kept turn before lt bar epoch cell (owner_of (piece_of setup.bindings cell)) le;
  }

  -- what a turn makes of a copy by one of two such memories it makes of it by the other
  pub renews_same : (memories others : Memories) (before : List Turn) → AreKnown setup first threads memories before → AreKnown setup first threads others before →
      (p : ℕ) (label : Label) → plain_turn setup threads (after_run first threads before) p ≡ Some label → (copy now : ℕ → ℤ) → Renews setup memories p label copy now → Renews setup others p label copy now
  renews_same memories others before known also p (Label.Take lock mode version) turn copy now renews =
      let is : version ≡ (after_run first threads before).versions lock.0 = take_version first threads setup before p lock mode version turn in
      record {
        inside = λ cell in_lock. renews.inside cell in_lock ∙ known.at_version lock.0 version (omega arith) cell in_lock ∙ sym (also.at_version lock.0 version (omega arith) cell in_lock);
        outside = renews.outside;
      }
  renews_same memories others before known also p (Label.Cross bar epoch) turn copy now renews =
      record {
        inside = λ cell in_bar. renews.inside cell in_bar ∙ known.in_epoch bar.0 epoch cell (come cell) ∙ sym (also.in_epoch bar.0 epoch cell (come cell));
        outside = renews.outside;
      }
    where
      come_at : (crossed arrived epoch : ℕ) → epoch ≡ crossed + 1 → nat_lt crossed arrived ≡ true → epoch ≤ arrived
      come_at crossed arrived epoch is less = grind arith

      come : (cell : ℕ) → owner_of (piece_of setup.bindings cell) < setup.procs → epoch ≤ (after_run first threads before).arrived (owner_of (piece_of setup.bindings cell)) bar.0
      come cell lt =
          let cross = crosses_of setup (after_run first threads before) p _ _ bar epoch turn in
          come_at ((after_run first threads before).crossed p bar.0) ((after_run first threads before).arrived (owner_of (piece_of setup.bindings cell)) bar.0) epoch cross.is_epoch
          (all_at setup.procs (λ q. nat_lt ((after_run first threads before).crossed p bar.0) ((after_run first threads before).arrived q bar.0)) (owner_of (piece_of setup.bindings cell)) lt cross.possible)
  renews_same memories others before known also p label turn copy now renews = renews

  -- and so do all turns
  pub adequate_same : (memories others : Memories) (run : List Turn) → IsPlainRun setup first threads run → AreKnown setup first threads memories run → AreKnown setup first threads others run →
      (p : ℕ) (turns : List OwnTurn) → labels_of p run ≡ own_labels turns → AreAdequate setup memories p turns → AreAdequate setup others p turns
  adequate_same memories others run is_run known also p [] same adequate = tt
  adequate_same memories others [] is_run known also p (own ∷ older) same adequate = absurd (cc same)
  adequate_same memories others (turn ∷ before) is_run known also p (own ∷ older) same adequate =
      let known' : AreKnown setup first threads memories before = known_before memories turn before is_run.1.is_processor known in
      let also' : AreKnown setup first threads others before = known_before others turn before is_run.1.is_processor also in
      ⊎_elim
      (λ mine.
      let both : turn.label ∷ labels_of p before ≡ own.label ∷ own_labels older = sym (labels_mine p turn before mine) ∙ same in
      let is_label : turn.label ≡ own.label = cc in
      let rest : labels_of p before ≡ own_labels older = cc in (
        adequate_same memories others before is_run.0 known' also' p older rest adequate.0,
        renews_same memories others before known' also' p own.label
            (subst (λ p. plain_turn setup threads (after_run first threads before) p ≡ Some own.label) mine (rw (← is_label) is_run.1.is_label)) (newest_copy older) own.copy adequate.1,
      ))
      (λ ne. adequate_same memories others before is_run.0 known' also' p (own ∷ older) (sym (labels_other p turn before ne) ∙ same) adequate)
      (cases_eq turn.proc p)

-- Pieces that are bound to barriers.

owned_no_lock : (lock bar owner : ℕ) (piece : Option Piece) → is_owned bar owner piece ≡ true → is_of_lock lock piece ≡ false
owned_no_lock lock bar owner None e = refl
owned_no_lock lock bar owner (Some piece) e = at_object piece.object (grind arith)
  where
    at_object : (object : Object) → is_bar bar object ≡ true → is_lock lock object ≡ false
    at_object object e = grind arith

owned_no_other : (bar other owner : ℕ) (piece : Option Piece) → is_owned bar owner piece ≡ true → is_of_other other owner piece ≡ false
owned_no_other bar other owner None e = refl
owned_no_other bar other owner (Some piece) e = grind arith

owned_is : (bar p : ℕ) (piece : Piece) → is_bar bar piece.object ≡ true → piece.owner ≡ p → is_owned bar p (Some piece) ≡ true
owned_is bar p piece is e = grind arith

one_bar : (bar other p : ℕ) (piece : Option Piece) → bar ≢ other → is_of_other bar p piece ≡ true → is_of_other other p piece ≡ false
one_bar bar other p None ne e = refl
one_bar bar other p (Some piece) ne e = at_object piece.object e
  where
    at_object : (object : Object) → (is_bar bar object && not (piece.owner == p)) ≡ true → (is_bar other object && not (piece.owner == p)) ≡ false
    at_object object e = grind arith

-- A turn of one's own, at the cells of barriers.
module _ {S : Type 0} (setup : Setup) (first : ℕ → S) (threads : Semantics S) (before : List Turn) (p : ℕ) (copy now : ℕ → ℤ) where
  abbrev start : PlainState S
  start = after_run first threads before

  abbrev in_epoch : ℕ → ℕ → ℕ → ℤ
  in_epoch = memory_in setup (λ q. labels_of q before)

  -- an own cell
  own_now : (label : Label) → Renews setup (memories_of setup first threads before) p label copy now → (bar cell : ℕ) → is_owned bar p (piece_of setup.bindings cell) ≡ true → now cell ≡ memory_after copy label cell
  own_now (Label.Take lock mode version) renews bar cell is = renews.outside cell (owned_no_lock lock.0 bar p (piece_of setup.bindings cell) is)
  own_now (Label.Cross crossed epoch) renews bar cell is = renews.outside cell (owned_no_other bar crossed.0 p (piece_of setup.bindings cell) is)
  own_now label renews bar cell is = renews cell

  -- a cell of another
  other_now : (label : Label) → plain_turn setup threads start p ≡ Some label → Renews setup (memories_of setup first threads before) p label copy now →
      (bar cell : ℕ) → is_of_other bar p (piece_of setup.bindings cell) ≡ true → copy cell ≡ in_epoch bar (start.crossed p bar) cell → now cell ≡ in_epoch bar (crossed_after (start.crossed p) label bar) cell
  other_now (Label.Take lock mode version) turn renews bar cell is was =
      let owned = other_owned bar p (piece_of setup.bindings cell) is in
      renews.outside cell (owned_no_lock lock.0 bar (owner_of (piece_of setup.bindings cell)) (piece_of setup.bindings cell) owned.0) ∙ was
  other_now (Label.Cross crossed epoch) turn renews bar cell is was =
      ⊎_elim
      (λ e. renews.inside cell (rw e is) ∙ ap (λ memory. memory cell) (into crossed.0 bar e))
      (λ ne. renews.outside cell (one_bar bar crossed.0 p (piece_of setup.bindings cell) (λ e. ne (sym e)) is) ∙ was ∙ ap (λ k. in_epoch bar k cell) (past crossed.0 bar ne))
      (cases_eq crossed.0 bar)
    where
      into : (crossed bar : ℕ) → crossed ≡ bar → in_epoch crossed epoch ≡ in_epoch bar (update (start.crossed p) crossed epoch bar)
      into crossed bar e = rw e (ap (in_epoch bar) (sym (update_same (start.crossed p) bar epoch)))

      past : (crossed bar : ℕ) → crossed ≢ bar → start.crossed p bar ≡ update (start.crossed p) crossed epoch bar
      past crossed bar ne = grind arith
  other_now (Label.Store stored value) turn renews bar cell is was =
      let owned = other_owned bar p (piece_of setup.bindings cell) is in
      renews cell ∙ others_leave setup threads start bar (owner_of (piece_of setup.bindings cell)) cell owned.0 p (Label.Store stored value) turn (λ e. owned.1 (sym e)) copy ∙ was
  other_now label turn renews bar cell is was = renews cell ∙ was

  own_barriers : (label : Label) → plain_turn setup threads start p ≡ Some label → Renews setup (memories_of setup first threads before) p label copy now →
      AgreesAtBarriers setup p (start.crossed p) start.memory in_epoch copy →
      AgreesAtBarriers setup p (crossed_after (start.crossed p) label) (memory_after start.memory label) (memory_in setup (λ q. labels_of q (record { proc = p; label = label } ∷ before))) now
  own_barriers label turn renews was = record {
    own = λ bar cell is. own_now label renews bar cell is ∙ store_same copy start.memory label cell (was.own bar cell is);
    others = λ bar cell is.
        other_now label turn renews bar cell is (was.others bar cell is)
        ∙ ap (λ labels. stored_by (until_arrival bar (crossed_after (start.crossed p) label bar) labels) cell)
        (sym (labels_other (owner_of (piece_of setup.bindings cell)) (record { proc = p; label = label }) before (λ e. (other_owned bar p (piece_of setup.bindings cell) is).1 (sym e))));
  }

-- All turns.
module _ {S : Type 0} (setup : Setup) (first : ℕ → S) (threads : Semantics S) (ask_first : AllAskFirst setup first threads) (memories : Memories) (p : ℕ) (lt : p < setup.procs) where
  abbrev Agrees : List Turn → (ℕ → ℤ) → Type 0
  Agrees run copy = CopyAgrees setup first threads run p copy

  own_agrees : (turn : Turn) (before : List Turn) → IsPlainRun setup first threads (turn ∷ before) → turn.proc ≡ p → (copy now : ℕ → ℤ) →
      Renews setup (memories_of setup first threads before) p turn.label copy now → Agrees before copy → Agrees (turn ∷ before) now
  own_agrees turn before is_run mine copy now renews was =
      let s : PlainState S = after_run first threads before in
      let is_label : plain_turn setup threads s p ≡ Some turn.label = subst (λ p. plain_turn setup threads s p ≡ Some turn.label) mine is_run.1.is_label in
      subst (λ turn. Agrees (turn ∷ before) now) (is_turn turn mine) (record {
        at_locks = λ lock. carried (own_turn setup first threads ask_first before is_run.0 p lt (own_versions_of (labels_of p before)) copy turn.label now is_label renews lock (was.at_locks lock))
            _ _ _ _ _ _
            (ap (λ held. held lock) (update_same s.held p (held_after (s.held p) turn.label))) refl
            (rw (labels_mine p (record { proc = p; label = turn.label }) before refl, own_held first threads before p) refl)
            (λ cell is. refl) (λ cell is. refl) (λ cell is. refl);
        at_barriers = subst (λ crossed. AgreesAtBarriers setup p crossed (memory_after s.memory turn.label) (memory_in setup (λ q. labels_of q (record { proc = p; label = turn.label } ∷ before))) now)
            (sym (update_same s.crossed p (crossed_after (s.crossed p) turn.label))) (own_barriers setup first threads before p copy now turn.label is_label renews was.at_barriers);
      })
    where
      is_turn : (turn : Turn) → turn.proc ≡ p → ◌≡◌ {A = Turn} (record { proc = p; label = turn.label }) turn
      is_turn turn e = grind arith

  other_agrees : (turn : Turn) (before : List Turn) → IsPlainRun setup first threads (turn ∷ before) → turn.proc ≢ p → (copy : ℕ → ℤ) → Agrees before copy → Agrees (turn ∷ before) copy
  other_agrees turn before is_run ne copy was =
      let s : PlainState S = after_run first threads before in
      let back : p ≢ turn.proc = λ e. ne (sym e) in
      record {
        at_locks = λ lock. carried (other_turn setup first threads before is_run.0 p turn.proc turn.label back is_run.1.is_label lock (own_versions_of (labels_of p before) lock) copy (was.at_locks lock))
            _ _ _ _ _ _
            (ap (λ held. held lock) (other_held threads s p turn.proc turn.label back)) refl (ap (λ labels. own_versions_of labels lock) (labels_other p turn before ne))
            (λ cell is. refl) (λ cell is. refl) (λ cell is. refl);
        at_barriers = rw (other_crossed threads s p turn.proc turn.label back) (record {
          own = λ bar cell is. was.at_barriers.own bar cell is ∙ sym (others_leave setup threads s bar p cell is turn.proc turn.label is_run.1.is_label ne s.memory);
          others = λ bar cell is. was.at_barriers.others bar cell is
              ∙ sym (epoch_kept setup first threads turn before is_run.1.is_processor bar (s.crossed p bar) cell (owner_of (piece_of setup.bindings cell))
              (λ less. all_came setup first threads before is_run.0 p (owner_of (piece_of setup.bindings cell)) bar less));
        });
      }

  pub copy_agrees : (run : List Turn) → IsPlainRun setup first threads run → AreKnown setup first threads memories run → (turns : List OwnTurn) → labels_of p run ≡ own_labels turns → AreAdequate setup memories p turns →
      Agrees run (newest_copy turns)
  copy_agrees [] is_run known [] same adequate = record {
    at_locks = λ lock. record { no_newer = omega arith; free = λ h cell is. refl; current = λ h. refl; same = λ h cell is. refl };
    at_barriers = record { own = λ bar cell is. refl; others = λ bar cell is. refl };
  }
  copy_agrees [] is_run known (own ∷ older) same adequate = absurd (cc same)
  copy_agrees (turn ∷ before) is_run known [] same adequate =
      ⊎_elim
      (λ mine. absurd (cc (same, labels_mine p turn before mine)))
      (λ ne. other_agrees turn before is_run ne (newest_copy [])
      (copy_agrees before is_run.0 (known_before setup first threads memories turn before is_run.1.is_processor known) [] (sym (labels_other p turn before ne) ∙ same) tt))
      (cases_eq turn.proc p)
  copy_agrees (turn ∷ before) is_run known (own ∷ older) same adequate =
      let known' : AreKnown setup first threads memories before = known_before setup first threads memories turn before is_run.1.is_processor known in
      ⊎_elim
      (λ mine.
      let both : turn.label ∷ labels_of p before ≡ own.label ∷ own_labels older = sym (labels_mine p turn before mine) ∙ same in
      let is_label : own.label ≡ turn.label = cc in
      let rest : labels_of p before ≡ own_labels older = cc in
      own_agrees turn before is_run mine (newest_copy older) own.copy
      (renews_same setup first threads memories (memories_of setup first threads before) before known' (known_itself setup first threads before) p turn.label (subst (λ p. plain_turn setup threads (after_run first threads before) p ≡ Some turn.label) mine is_run.1.is_label) (newest_copy older) own.copy
      (subst (λ label. Renews setup memories p label (newest_copy older) own.copy) is_label adequate.1))
      (copy_agrees before is_run.0 known' older rest adequate.0))
      (λ ne. other_agrees turn before is_run ne own.copy (copy_agrees before is_run.0 known' (own ∷ older) (sym (labels_other p turn before ne) ∙ same) adequate))
      (cases_eq turn.proc p)

-- What a processor may load.
module _ {S : Type 0} (setup : Setup) (first : ℕ → S) (threads : Semantics S) (ask_first : AllAskFirst setup first threads) (run : List Turn) (is_run : IsPlainRun setup first threads run) (p : ℕ) (lt : p < setup.procs)
    (copy : ℕ → ℤ) (agrees : CopyAgrees setup first threads run p copy) (cell : ℕ) (may : may_load setup.bindings p (seen_by (after_run first threads run) p).rights cell ≡ true)
    (not_between : is_between setup.bindings (after_run first threads run) p cell ≡ false) where
  abbrev end : PlainState S
  end = after_run first threads run

  -- a cell of another that may be loaded has what its owner had stored when it came to the barrier
  other_loaded : (bar : Bar) (piece : Piece) → piece_of setup.bindings cell ≡ Some piece → is_bar bar.0 piece.object ≡ true → is_phase piece (end.crossed p bar.0) ≡ false → end.arrived p bar.0 ≤ end.crossed p bar.0 →
      piece.owner ≢ p → copy cell ≡ end.memory cell
  other_loaded bar piece is_piece is_bar_piece quiet come ne =
      let other : is_of_other bar.0 p (piece_of setup.bindings cell) ≡ true = rw is_piece (grind arith) in
      let owned = other_owned bar.0 p (piece_of setup.bindings cell) other in
      let owner : ℕ = owner_of (piece_of setup.bindings cell) in
      let few : crossed_of (labels_of (owner_of (piece_of setup.bindings cell)) run) bar.0 ≤ end.crossed p bar.0 =
      rw (← own_crossed first threads run (owner_of (piece_of setup.bindings cell)))
      (omega (arith, come, all_came setup first threads run is_run (owner_of (piece_of setup.bindings cell)) p bar.0 lt)) in
      agrees.at_barriers.others bar.0 cell other
      ∙ sym (quiet_run setup first threads ask_first bar.0 cell piece is_piece is_bar_piece (end.crossed p bar.0) quiet run is_run (owner_of (piece_of setup.bindings cell)) few)
      ∙ sym (owned_memory setup first threads bar.0 (owner_of (piece_of setup.bindings cell)) cell owned.0 run is_run)

  at_object : (piece : Piece) → piece_of setup.bindings cell ≡ Some piece → (object : Object) → piece.object ≡ object → may_load_of p (seen_by end p).rights piece object ≡ true →
      is_between_at (end.arrived p) (end.crossed p) object ≡ false → copy cell ≡ end.memory cell
  at_object piece is_piece (Object.Lock lock) is held between = (agrees.at_locks lock.0).same held cell (rw is_piece (rw is (grind arith)))
  at_object piece is_piece (Object.Bar bar) is load between =
      let at_bar : is_bar bar.0 piece.object ≡ true = rw is (grind arith) in
      ⊎_elim
      (λ e. agrees.at_barriers.own bar.0 cell (rw is_piece (owned_is bar.0 p piece at_bar e)))
      (λ ne. other_loaded bar piece is_piece at_bar (not_phase (is_phase piece (end.crossed p bar.0)) piece.owner ne load) (grind arith) ne)
      (cases_eq piece.owner p)
    where
      not_phase : (b : Bool) (owner : ℕ) → owner ≢ p → (not b || (owner == p)) ≡ true → b ≡ false
      not_phase b owner ne e = grind arith

  pub loaded : copy cell ≡ end.memory cell
  loaded = at_piece (piece_of setup.bindings cell) refl may not_between
    where
      at_piece : (piece : Option Piece) → piece_of setup.bindings cell ≡ piece → may_load_piece p (seen_by end p).rights piece ≡ true → is_between_of (end.arrived p) (end.crossed p) piece ≡ false → copy cell ≡ end.memory cell
      at_piece None is may between = absurd (cc may)
      at_piece (Some piece) is may between = at_object piece is piece.object refl may between

pub agreed_copies : {S : Type 0} (setup : Setup) (first : ℕ → S) (threads : Semantics S) (run : List Turn) (p : ℕ) (turns : List OwnTurn) → HasCopies setup first threads run p turns →
    CopyAgrees setup first threads run p (newest_copy turns)
agreed_copies setup first threads run p turns has =
    copy_agrees setup first threads has.ask_first (memories_of setup first threads run) p has.is_processor run has.is_run (known_itself setup first threads run) turns has.same_labels has.adequate

pub agrees_with : {S : Type 0} (setup : Setup) (first : ℕ → S) (threads : Semantics S) (run : List Turn) (p : ℕ) (turns : List OwnTurn) → HasCopies setup first threads run p turns →
    AgreesWith setup first threads run p (own_labels turns) (newest_copy turns)
agrees_with setup first threads run p turns has = record {
  same_labels = has.same_labels;
  same_copy = λ cell may between. loaded setup first threads has.ask_first run has.is_run p has.is_processor (newest_copy turns) (agreed_copies setup first threads run p turns has) cell may between;
}

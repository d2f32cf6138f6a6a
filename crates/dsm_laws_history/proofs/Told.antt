-- What a turn tells is true: a request has the version of the own copy, and a release the lines that were stored to in the hold.
use Rattle.std.specs.Prelude.{◌≡◌, ℕ, suc, ◌+◌, ◌-◌, ◌<◌, ◌≤◌, Bool, true, false, ◌&&◌, ◌||◌, nat_lt, nat_le, List, [], ◌∷◌, length, filter, map, Option, Some, None, is_some}
use Rattle.std.proofs.Common.{arith, refl, sym, ap, ◌∙◌, subst}
use Rattle.dsm_base.specs.declared.names.Bar.{Bar}
use Rattle.dsm_base.specs.declared.names.Lock.{Lock}
use Rattle.dsm_base.specs.declared.names.Mode.{Mode}
use Rattle.dsm_base.specs.declared.label.Label.{Label}
use Rattle.dsm_base.specs.declared.setup.Object.{Object}
use Rattle.dsm_base.specs.declared.setup.Setup.{Setup}
use Rattle.dsm_base.specs.Family.{update}
use Rattle.dsm_base.specs.Access.{piece_of, is_exclusive}
use Rattle.dsm_base.specs.Threads.{Semantics}
use Rattle.dsm_base.specs.Plain.{PlainState, Turn, IsPlainTurn, after_run, labels_of}
use Rattle.dsm_lines.specs.declared.list.Line.{Line}
use Rattle.dsm_msg.specs.declared.message.Body.{Body}
use Rattle.dsm_lines.specs.Copies.{line_with}
use Rattle.dsm_lines.specs.Places.{lines_of}
use Rattle.dsm_net.specs.Processor.{Own}
use Rattle.dsm_net.specs.Turns.{dirty_lines}
use Rattle.dsm_net.specs.Effects.{release_of, body_of}
use Rattle.dsm_laws_runs.specs.OwnPart.{arrived_of, crossed_of, own_versions_of}
use Rattle.dsm_laws_runs.specs.Versions.{AllAskFirst, IsCellOf, SameAt, makes_version, memory_at}
use Rattle.dsm_laws_runs.specs.Barriers.{is_owned, stored_by, until_arrival, memory_in}
use Rattle.dsm_laws_runs.specs.Newer.{stores_to, is_newer, is_stored_in}
use Rattle.dsm_laws_runs.specs.Copies.{CopyAgrees, newest_copy}
use Rattle.dsm_laws_runs.proofs.OwnPart.{own_held, own_arrived, own_crossed, labels_mine}
use Rattle.dsm_laws_runs.proofs.Barriers.{until_now, settled_at, owned_memory}
use Rattle.dsm_laws_runs.proofs.Versions.{version_step, version_rises}
use Rattle.dsm_laws_runs.proofs.Memory.{memory_at_made}
use Rattle.dsm_laws_runs.proofs.OwnVersions.{IsOfLock, has_version}
use Rattle.dsm_laws_runs.proofs.Agreements.{agreed_copies}
use Rattle.dsm_laws_protocol.specs.Courses.{upto}
use Rattle.dsm_laws_protocol.specs.Steps.{Step, turns_of}
use Rattle.dsm_laws_protocol.specs.Worlds.{World}
use Rattle.dsm_laws_protocol.proofs.Courses.{upto_grown, upto_all}
use Rattle.dsm_laws_history.specs.NewerLines.{line_at, lines_between, version_before, IsTrue}
use Rattle.dsm_laws_history.proofs.Lines.{of_object, lines_same}
use Rattle.dsm_laws_history.proofs.BarrierLines.{object_bound, owned_owner, stored_owned, bar_lines_same}
use Rattle.dsm_laws_history.proofs.BarrierMarks.{bar_marks}
use Rattle.dsm_laws_history.proofs.Marks.{AreMarks, marks_of}
use Rattle.dsm_laws_history.proofs.OwnParts.{IsOwnPart}
use Rattle.dsm_laws_history.proofs.Effects.{IsToldTrue}
use Rattle.dsm_laws_history.proofs.Reached.{HasHistory}

none_chosen : (one : ℕ → Line) (test : ℕ → Bool) (lines : List ℕ) → ((line : ℕ) → test line ≡ false) → map one (filter test lines) ≡ []
none_chosen one test [] none = refl
none_chosen one test (line ∷ lines) none = rw (none line) (none_chosen one test lines none)

module _ {S : Type 0} (setup : Setup) (first : ℕ → S) (threads : Semantics S) where
  -- no line is newer than a version up to the same one
  newer_than_itself : (run : List Turn) (lock version line : ℕ) → is_newer (line_at setup.bindings) setup first threads run lock version version line ≡ false
  newer_than_itself [] lock version line = refl
  newer_than_itself (turn ∷ before) lock version line =
      none (stores_to (line_at setup.bindings) setup lock line turn.label) ((after_run first threads before).versions lock) (is_newer (line_at setup.bindings) setup first threads before lock version version line) (newer_than_itself before lock version line)
    where
      none : (b : Bool) (now : ℕ) (rest : Bool) → rest ≡ false → ((b && (nat_le version now && nat_lt now version)) || rest) ≡ false
      none b now rest e = grind arith

  lines_none : (run : List Turn) (lock version : ℕ) → lines_between setup first threads run lock version version ≡ []
  lines_none run lock version = none_chosen (line_with setup.bindings (memory_at first threads run lock version)) (is_newer (line_at setup.bindings) setup first threads run lock version version)
      (lines_of setup.bindings (Object.Lock record { 0 = lock })) (newer_than_itself run lock version)

  module _ (ask_first : AllAskFirst setup first threads) (w : World S) (steps : List Step) (is : HasHistory setup first threads w steps) (p : ℕ) (lt : p < setup.procs) (label : Label)
      (turn : IsPlainTurn setup threads (after_run first threads (turns_of steps)) record { proc = p; label = label }) where
    abbrev own : Own S
    own = (w.processors p).own

    abbrev run : List Turn
    run = turns_of steps

    abbrev now : List Turn
    now = record { proc = p; label = label } ∷ run

    abbrev plain : PlainState S
    plain = after_run first threads run

    abbrev labels : List Label
    labels = labels_of p run

    abbrev part : IsOwnPart setup.bindings own labels
    part = is.owns p

    labels_now : labels_of p now ≡ label ∷ labels
    labels_now = labels_mine p record { proc = p; label = label } run refl

    count_now : length (labels_of p now) ≡ suc (length labels)
    count_now = ap length labels_now

    -- the versions before this turn, and before the next
    before_this : (lock : ℕ) → version_before now p (own.turns + 1) lock ≡ own_versions_of labels lock
    before_this lock =
        let k : own.turns ≡ length labels = part.turns in
        ap (λ ls. own_versions_of (upto (own.turns + 1 - 1) ls) lock) labels_now
        ∙ ap (λ ls. own_versions_of ls lock) (upto_grown (own.turns + 1 - 1) label labels (omega arith) ∙ upto_all (own.turns + 1 - 1) labels (omega arith))

    before_next : (lock : ℕ) → version_before now p (own.turns + 1 + 1) lock ≡ own_versions_of (label ∷ labels) lock
    before_next lock =
        let k : own.turns ≡ length labels = part.turns in
        ap (λ ls. own_versions_of (upto (own.turns + 1 + 1 - 1) ls) lock) labels_now
        ∙ ap (λ ls. own_versions_of ls lock) (upto_all (own.turns + 1 + 1 - 1) (label ∷ labels) (omega arith))

    in_course : own.turns + 1 ≤ length (labels_of p now) + 1
    in_course = let k : own.turns ≡ length labels = part.turns in let n = count_now in omega arith

    in_course_next : own.turns + 1 + 1 ≤ length (labels_of p now) + 1
    in_course_next = let k : own.turns ≡ length labels = part.turns in let n = count_now in omega arith

    versions_are : (lock : ℕ) → own.versions lock ≡ own_versions_of labels lock
    versions_are lock = ap (λ f. f lock) part.versions

    of_lock : (lock : ℕ) → IsOfLock (plain.held p lock) (own_versions_of labels lock) (plain.versions lock)
    of_lock lock = has_version setup first threads run is.is_run lock p

    held_is : (lock : ℕ) → plain.held p lock ≡ own.held lock
    held_is lock = ap (λ f. f lock) (own_held first threads run p ∙ sym part.held)

    copy : CopyAgrees setup first threads run p (newest_copy (is.copies p lt).turns)
    copy = agreed_copies setup first threads run p (is.copies p lt).turns (is.copies p lt).has

    some_is : {A : Type 0} (o : Option A) (a : A) → o ≡ Some a → is_some o ≡ true
    some_is o a e = ap is_some e

    -- an exclusive hold ends
    module _ (lock : Lock) (gives : label ≡ Label.Give lock) (held : own.held lock.0 ≡ Some Mode.Excl) where
      abbrev version : ℕ
      version = own.versions lock.0

      mine : plain.held p lock.0 ≡ Some Mode.Excl
      mine = held_is lock.0 ∙ held

      exclusive : is_exclusive (plain.held p lock.0) ≡ true
      exclusive = ap is_exclusive mine

      newest : version ≡ plain.versions lock.0
      newest = versions_are lock.0 ∙ (of_lock lock.0).current (some_is (plain.held p lock.0) Mode.Excl mine)

      makes : makes_version lock.0 (plain.held p) label ≡ true
      makes = rw (gives, exclusive) (grind arith)

      version_now : (after_run first threads now).versions lock.0 ≡ version + 1
      version_now = version_step plain.versions (plain.held p) label lock.0 ∙ rw makes (ap (λ n. n + 1) (sym newest))

      memory_now : memory_at first threads now lock.0 (version + 1) ≡ plain.memory
      memory_now = ap (memory_at first threads now lock.0) (sym version_now) ∙ memory_at_made first threads record { proc = p; label = label } run lock.0 makes

      marks : (cell : ℕ) → IsCellOf setup lock.0 cell → own.dirty (line_at setup.bindings cell) ≡ is_newer (line_at setup.bindings) setup first threads now lock.0 version (version + 1) (line_at setup.bindings cell)
      marks cell cell_is =
          let m : AreMarks setup first threads run lock.0 cell = marks_of setup first threads ask_first run is.is_run lock cell cell_is in
          ap (λ f. f (line_at setup.bindings cell)) part.dirty
          ∙ m.mine p exclusive
          ∙ ap (λ v. is_newer (line_at setup.bindings) setup first threads run lock.0 v (v + 1) (line_at setup.bindings cell)) (sym newest)
          ∙ subst (λ l. is_newer (line_at setup.bindings) setup first threads run lock.0 version (version + 1) (line_at setup.bindings cell)
          ≡ is_newer (line_at setup.bindings) setup first threads (record { proc = p; label = l } ∷ run) lock.0 version (version + 1) (line_at setup.bindings cell)) (sym gives) refl

      values : SameAt setup lock.0 own.copy (memory_at first threads now lock.0 (version + 1))
      values cell cell_is =
          ap (λ f. f cell) (is.copies p lt).is_copy
          ∙ (copy.at_locks lock.0).same (some_is (plain.held p lock.0) Mode.Excl mine) cell cell_is
          ∙ ap (λ f. f cell) (sym memory_now)

      pub exclusive_release : (to : ℕ) → IsTrue setup first threads now p to (own.turns + 1) (Body.Release lock Mode.Excl (version + 1) (dirty_lines setup own (Object.Lock lock)))
      exclusive_release to = (
        ap (λ n. n + 1) (versions_are lock.0 ∙ sym (before_this lock.0)),
        record {
          in_course = in_course;
          is_made = let v = version_now in omega arith;
          are_lines = lines_same setup lock own.dirty (is_newer (line_at setup.bindings) setup first threads now lock.0 version (version + 1)) own.copy (memory_at first threads now lock.0 (version + 1)) marks values
              ∙ ap (λ from. lines_between setup first threads now lock.0 from (version + 1)) (versions_are lock.0 ∙ sym (before_this lock.0));
        },
      )

    -- a shared hold ends
    shared_release : (lock : Lock) (to : ℕ) → IsTrue setup first threads now p to (own.turns + 1) (Body.Release lock Mode.Shared (own.versions lock.0) [])
    shared_release lock to =
        let same : own.versions lock.0 ≡ version_before now p (own.turns + 1) lock.0 = versions_are lock.0 ∙ sym (before_this lock.0) in (
          same,
          record {
            in_course = in_course;
            is_made = (let a = (of_lock lock.0).no_newer in let b = versions_are lock.0 in let c = version_rises first threads record { proc = p; label = label } run lock.0 in omega arith);
            are_lines = sym (ap (λ from. lines_between setup first threads now lock.0 from (own.versions lock.0)) (sym same) ∙ lines_none now lock.0 (own.versions lock.0));
          },
        )

    give_told : (lock : Lock) → label ≡ Label.Give lock → (held : Option Mode) → own.held lock.0 ≡ held → IsToldTrue setup first threads now p (own.turns + 1) (release_of setup own lock held)
    give_told lock gives None e = tt
    give_told lock gives (Some Mode.Shared) e = shared_release lock
    give_told lock gives (Some Mode.Excl) e = exclusive_release lock gives e

    ask_told : (lock : Lock) (mode : Mode) → label ≡ Label.Ask lock mode → IsToldTrue setup first threads now p (own.turns + 1) (body_of setup own (Label.Ask lock mode))
    ask_told lock mode asks to = record {
      in_course = in_course_next;
      is_version = versions_are lock.0 ∙ subst (λ l. own_versions_of labels lock.0 ≡ own_versions_of (l ∷ labels) lock.0) (sym asks) refl ∙ sym (before_next lock.0);
    }

    -- it comes to a barrier
    module _ (bar : Bar) (comes : label ≡ Label.Arrive bar) where
      abbrev epoch : ℕ
      epoch = own.crossed bar.0

      epoch_is : epoch ≡ crossed_of labels bar.0
      epoch_is = ap (λ f. f bar.0) part.crossed

      in_step : arrived_of labels bar.0 ≡ crossed_of labels bar.0
      in_step = ap (λ f. f bar.0) (sym (own_arrived first threads run p))
          ∙ settled_at setup first threads ask_first bar.0 run is.is_run p lt label turn.is_label (λ other into e. (let k : Label.Arrive bar ≡ Label.Cross other into = sym comes ∙ e in cc))
          ∙ ap (λ f. f bar.0) (own_crossed first threads run p)

      labels_come : labels_of p now ≡ Label.Arrive bar ∷ labels
      labels_come = labels_now ∙ ap (λ l. l ∷ labels) comes

      come_once : (f : ℕ → ℕ) (n : ℕ) → update f n (f n + 1) n ≡ f n + 1
      come_once f n = grind arith

      arrived_now : arrived_of (labels_of p now) bar.0 ≡ epoch + 1
      arrived_now = ap (λ ls. arrived_of ls bar.0) labels_come ∙ come_once (arrived_of labels) bar.0 ∙ ap (λ n. n + 1) (in_step ∙ sym epoch_is)

      bar_dirty : (cell : ℕ) → of_object (Object.Bar bar) (piece_of setup.bindings cell) ≡ true →
          own.dirty (line_at setup.bindings cell) ≡ is_stored_in (line_at setup.bindings) setup bar.0 p epoch (labels_of p now) (line_at setup.bindings cell)
      bar_dirty cell cell_is =
          ap (λ f. f (line_at setup.bindings cell)) part.dirty
          ∙ bar_marks setup first threads ask_first bar cell cell_is run is.is_run p
          ∙ rw (not_waiting (arrived_of labels bar.0) (crossed_of labels bar.0) in_step) refl
          ∙ ap (λ n. is_stored_in (line_at setup.bindings) setup bar.0 p n labels (line_at setup.bindings cell)) (sym epoch_is)
          ∙ ap (λ ls. is_stored_in (line_at setup.bindings) setup bar.0 p epoch ls (line_at setup.bindings cell)) (sym labels_come)
        where
          not_waiting : (n m : ℕ) → n ≡ m → nat_lt m n ≡ false
          not_waiting n m e = grind arith

      bar_values : (cell : ℕ) → is_owned bar.0 p (piece_of setup.bindings cell) ≡ true → own.copy cell ≡ memory_in setup (λ q. labels_of q now) bar.0 (epoch + 1) cell
      bar_values cell owned =
          ap (λ f. f cell) (is.copies p lt).is_copy
          ∙ copy.at_barriers.own bar.0 cell owned
          ∙ owned_memory setup first threads bar.0 p cell owned run is.is_run
          ∙ sym (ap (λ owner. stored_by (until_arrival bar.0 (epoch + 1) (labels_of owner now)) cell) (owned_owner bar.0 p (piece_of setup.bindings cell) owned)
          ∙ ap (λ ls. stored_by (until_arrival bar.0 (epoch + 1) ls) cell) labels_come
          ∙ ap (λ ls. stored_by ls cell) (until_now bar.0 (epoch + 1) (Label.Arrive bar) labels (let k = in_step ∙ sym epoch_is in omega arith)))

      arrive_told : (to : ℕ) → IsTrue setup first threads now p to (own.turns + 1) (Body.Arrive bar epoch (dirty_lines setup own (Object.Bar bar)))
      arrive_told to = record {
        in_course = let k : own.turns ≡ length labels = part.turns in let n = count_now in omega arith;
        is_epoch = epoch_is ∙ sym in_step ∙ ap (λ ls. arrived_of ls bar.0) (sym (ap (upto (own.turns + 1 - 1)) labels_now ∙ before_it));
        is_arrival = record {
          has_come = let k = arrived_now in omega arith;
          are_lines = bar_lines_same setup bar own.dirty (is_stored_in (line_at setup.bindings) setup bar.0 p epoch (labels_of p now)) own.copy (memory_in setup (λ q. labels_of q now) bar.0 (epoch + 1)) bar_dirty
              (λ cell cell_is stored. bar_values cell (stored_owned setup bar.0 p epoch cell (labels_of p now) (object_bound (Object.Bar bar) (piece_of setup.bindings cell) cell_is) stored));
        };
      }
        where
          before_it : upto (own.turns + 1 - 1) (label ∷ labels) ≡ labels
          before_it = let k : own.turns ≡ length labels = part.turns in upto_grown (own.turns + 1 - 1) label labels (omega arith) ∙ upto_all (own.turns + 1 - 1) labels (omega arith)

    pub turn_told : (l : Label) → label ≡ l → IsToldTrue setup first threads now p (own.turns + 1) (body_of setup own l)
    turn_told (Label.Ask lock mode) e = ask_told lock mode e
    turn_told (Label.Give lock) e = give_told lock e (own.held lock.0) refl
    turn_told (Label.Arrive bar) e = arrive_told bar e
    turn_told _ e = tt

-- Where a line of a lock is no newer than a version its cells are as they were then.
use Rattle.std.specs.Prelude.{◌≡◌, ℕ, ℤ, ◌+◌, ◌<◌, ◌≤◌, Bool, true, false, ◌&&◌, ◌||◌, ◌==◌, nat_lt, nat_le, if◌then◌else◌, List, [], ◌∷◌, Option, None}
use Rattle.std.proofs.Common.{arith, refl, sym, ap, ◌∙◌, ⊎_elim}
use Rattle.std.proofs.lemmas.Bool.{cases_Bool, cases_eq, cases_lt}
use Rattle.dsm_base.specs.declared.names.Lock.{Lock}
use Rattle.dsm_base.specs.declared.names.Mode.{Mode}
use Rattle.dsm_base.specs.declared.label.Label.{Label}
use Rattle.dsm_base.specs.declared.setup.Setup.{Setup}
use Rattle.dsm_base.specs.Access.{piece_of}
use Rattle.dsm_base.specs.Threads.{Semantics}
use Rattle.dsm_base.specs.Plain.{Turn, IsPlainTurn, after_run, labels_of, memory_after}
use Rattle.dsm_laws_runs.specs.Pieces.{is_of_lock}
use Rattle.dsm_laws_runs.specs.OwnPart.{own_versions_of}
use Rattle.dsm_laws_runs.specs.Versions.{IsCellOf, makes_version, memory_at}
use Rattle.dsm_laws_runs.specs.Copies.{AgreesAt, OwnTurn, newest_copy, memories_of, Renews, HasCopies}
use Rattle.dsm_laws_runs.specs.Newer.{stores_to, is_newer, stamp_of, is_brought, with_newer}
use Rattle.dsm_laws_runs.proofs.Versions.{version_step, version_rises, take_version}
use Rattle.dsm_laws_runs.proofs.Memory.{memory_at_turn, memory_at_kept, memory_at_made}
use Rattle.dsm_laws_runs.proofs.Asking.{takes_when_free}
use Rattle.dsm_laws_runs.proofs.Agreements.{agreed_copies}

pub or_false : (b c : Bool) → (b || c) ≡ false → (b ≡ false) × (c ≡ false)
or_false b c e = (grind arith, grind arith)

-- a label that doesn't store to the line of a cell leaves the cell
line_kept : (line_at : ℕ → ℕ) (setup : Setup) (lock : ℕ) (memory : ℕ → ℤ) (label : Label) (cell : ℕ) → IsCellOf setup lock cell → stores_to line_at setup lock (line_at cell) label ≡ false →
    memory_after memory label cell ≡ memory cell
line_kept line_at setup lock memory (Label.Store stored value) cell is none = ⊎_elim (λ e. absurd (at_cell stored.0 e none)) (λ ne. grind arith) (cases_eq stored.0 cell)
  where
    at_cell : (stored : ℕ) → stored ≡ cell → (is_of_lock lock (piece_of setup.bindings stored) && (line_at stored == line_at cell)) ≡ false → ⊥
    at_cell stored e none = same (is_of_lock lock (piece_of setup.bindings cell)) (line_at cell) is (rw e at none)
      where
        same : (b : Bool) (n : ℕ) → b ≡ true → (b && (n == n)) ≡ false → ⊥
        same b n is none = grind arith
line_kept line_at setup lock memory _ cell is none = refl

module _ {S : Type 0} (line_at : ℕ → ℕ) (setup : Setup) (first : ℕ → S) (threads : Semantics S) where
  abbrev newer : List Turn → ℕ → ℕ → ℕ → ℕ → Bool
  newer run = is_newer line_at setup first threads run

  -- a turn more changes nothing of versions that were made
  pub newer_turn : (turn : Turn) (before : List Turn) (lock from to line : ℕ) → to ≤ (after_run first threads before).versions lock → newer (turn ∷ before) lock from to line ≡ newer before lock from to line
  newer_turn turn before lock from to line le =
      none (stores_to line_at setup lock line turn.label) (nat_le from ((after_run first threads before).versions lock)) ((after_run first threads before).versions lock) (newer before lock from to line) le
    where
      none : (b c : Bool) (now : ℕ) (rest : Bool) → to ≤ now → ((b && (c && nat_lt now to)) || rest) ≡ rest
      none b c now rest le = grind arith

  -- fewer versions have fewer lines that are newer
  newer_fewer : (run : List Turn) (lock from to more line : ℕ) → to ≤ more → newer run lock from more line ≡ false → newer run lock from to line ≡ false
  newer_fewer [] lock from to more line le none = refl
  newer_fewer (turn ∷ before) lock from to more line le none =
      let both = or_false (stores_to line_at setup lock line turn.label && (nat_le from ((after_run first threads before).versions lock) && nat_lt ((after_run first threads before).versions lock) more)) (newer before lock from more line) none in
      fewer (stores_to line_at setup lock line turn.label) (nat_le from ((after_run first threads before).versions lock)) ((after_run first threads before).versions lock) _ both.0 (newer_fewer before lock from to more line le both.1)
    where
      fewer : (b c : Bool) (now : ℕ) (rest : Bool) → (b && (c && nat_lt now more)) ≡ false → rest ≡ false → ((b && (c && nat_lt now to)) || rest) ≡ false
      fewer b c now rest none rest_none = grind arith

  -- the memory is as it was at a version where the line isn't newer, by what was stored in the hold that is open too
  abbrev IsCurrent : List Turn → ℕ → ℕ → ℕ → Type 0
  IsCurrent run lock from cell =
      from ≤ (after_run first threads run).versions lock → newer run lock from ((after_run first threads run).versions lock + 1) (line_at cell) ≡ false →
      memory_at first threads run lock from cell ≡ (after_run first threads run).memory cell

  current_turn : (turn : Turn) (before : List Turn) (lock from cell : ℕ) → IsCellOf setup lock cell → IsCurrent before lock from cell → IsCurrent (turn ∷ before) lock from cell
  current_turn turn before lock from cell is before_it le none = ⊎_elim made kept (cases_Bool (makes_version lock ((after_run first threads before).held turn.proc) turn.label))
    where
      both : ((stores_to line_at setup lock (line_at cell) turn.label && (nat_le from ((after_run first threads before).versions lock) && nat_lt ((after_run first threads before).versions lock) ((after_run first threads (turn ∷ before)).versions lock + 1))) ≡ false)
          × (newer before lock from ((after_run first threads (turn ∷ before)).versions lock + 1) (line_at cell) ≡ false)
      both = or_false (stores_to line_at setup lock (line_at cell) turn.label && (nat_le from ((after_run first threads before).versions lock) && nat_lt ((after_run first threads before).versions lock) ((after_run first threads (turn ∷ before)).versions lock + 1)))
          (newer before lock from ((after_run first threads (turn ∷ before)).versions lock + 1) (line_at cell)) none

      step : (after_run first threads (turn ∷ before)).versions lock
          ≡ (if makes_version lock ((after_run first threads before).held turn.proc) turn.label then (after_run first threads before).versions lock + 1 else (after_run first threads before).versions lock)
      step = version_step (after_run first threads before).versions ((after_run first threads before).held turn.proc) turn.label lock

      grow : (b : Bool) (now after : ℕ) → after ≡ (if b then now + 1 else now) → now + 1 ≤ after + 1
      grow b now after e = grind arith

      grows : (after_run first threads before).versions lock + 1 ≤ (after_run first threads (turn ∷ before)).versions lock + 1
      grows = grow (makes_version lock ((after_run first threads before).held turn.proc) turn.label) ((after_run first threads before).versions lock) ((after_run first threads (turn ∷ before)).versions lock) step

      was : from ≤ (after_run first threads before).versions lock → memory_at first threads before lock from cell ≡ (after_run first threads (turn ∷ before)).memory cell
      was less =
          before_it less
          (newer_fewer before lock from ((after_run first threads before).versions lock + 1) ((after_run first threads (turn ∷ before)).versions lock + 1) (line_at cell) grows both.1)
          ∙ sym (line_kept line_at setup lock (after_run first threads before).memory turn.label cell is (not_stored (stores_to line_at setup lock (line_at cell) turn.label) ((after_run first threads before).versions lock) ((after_run first threads (turn ∷ before)).versions lock) less grows both.0))
        where
          not_stored : (b : Bool) (now after : ℕ) → from ≤ now → now + 1 ≤ after + 1 → (b && (nat_le from now && nat_lt now (after + 1))) ≡ false → b ≡ false
          not_stored b now after le more none = grind arith

      kept : makes_version lock ((after_run first threads before).held turn.proc) turn.label ≡ false → memory_at first threads (turn ∷ before) lock from cell ≡ (after_run first threads (turn ∷ before)).memory cell
      kept none_made =
          ap (λ memory. memory cell) (memory_at_kept first threads turn before lock none_made from)
          ∙ was (stay ((after_run first threads before).versions lock) ((after_run first threads (turn ∷ before)).versions lock) le (rw none_made at step))
        where
          stay : (now after : ℕ) → from ≤ after → after ≡ now → from ≤ now
          stay now after le e = omega arith

      made : makes_version lock ((after_run first threads before).held turn.proc) turn.label ≡ true → memory_at first threads (turn ∷ before) lock from cell ≡ (after_run first threads (turn ∷ before)).memory cell
      made is_made =
          ⊎_elim
          (λ less. ap (λ memory. memory cell) (memory_at_turn first threads turn before lock from (below less)) ∙ was (below less))
          (λ newest.
          ap (λ version. memory_at first threads (turn ∷ before) lock version cell) (newest_is ((after_run first threads (turn ∷ before)).versions lock) le newest)
          ∙ ap (λ memory. memory cell) (memory_at_made first threads turn before lock is_made)
          ∙ sym (gives_kept lock ((after_run first threads before).held turn.proc) (after_run first threads before).memory turn.label cell is_made))
          (cases_lt from ((after_run first threads (turn ∷ before)).versions lock))
        where
          below : from < (after_run first threads (turn ∷ before)).versions lock → from ≤ (after_run first threads before).versions lock
          below less = one_less ((after_run first threads before).versions lock) ((after_run first threads (turn ∷ before)).versions lock) less (rw is_made at step)
            where
              one_less : (now after : ℕ) → from < after → after ≡ now + 1 → from ≤ now
              one_less now after less e = omega arith

          newest_is : (after : ℕ) → from ≤ after → after ≤ from → from ≡ after
          newest_is after a b = omega arith

          gives_kept : (lock : ℕ) (held : ℕ → Option Mode) (memory : ℕ → ℤ) (label : Label) (cell : ℕ) → makes_version lock held label ≡ true → memory_after memory label cell ≡ memory cell
          gives_kept lock held memory label cell e = grind arith

  current : (run : List Turn) (lock from cell : ℕ) → IsCellOf setup lock cell → IsCurrent run lock from cell
  current [] lock from cell is le none = refl
  current (turn ∷ before) lock from cell is le none = current_turn turn before lock from cell is (current before lock from cell is) le none

  -- where a line isn't newer than one version, up to another, its cells are the same at both
  pub unchanged : (run : List Turn) (lock from to cell : ℕ) → IsCellOf setup lock cell → from ≤ to → to ≤ (after_run first threads run).versions lock → newer run lock from to (line_at cell) ≡ false →
      memory_at first threads run lock from cell ≡ memory_at first threads run lock to cell
  unchanged [] lock from to cell is le made none = refl
  unchanged (turn ∷ before) lock from to cell is le made none =
      ⊎_elim
      (λ over. newest (omega arith))
      (λ less. ap (λ memory. memory cell) (memory_at_turn first threads turn before lock from (omega arith))
      ∙ unchanged before lock from to cell is le less (sym (newer_turn turn before lock from to (line_at cell) less) ∙ none)
      ∙ sym (ap (λ memory. memory cell) (memory_at_turn first threads turn before lock to less)))
      (cases_lt ((after_run first threads before).versions lock) to)
    where
      step : (after_run first threads (turn ∷ before)).versions lock
          ≡ (if makes_version lock ((after_run first threads before).held turn.proc) turn.label then (after_run first threads before).versions lock + 1 else (after_run first threads before).versions lock)
      step = version_step (after_run first threads before).versions ((after_run first threads before).held turn.proc) turn.label lock

      newest : (after_run first threads before).versions lock < to → memory_at first threads (turn ∷ before) lock from cell ≡ memory_at first threads (turn ∷ before) lock to cell
      newest over =
          let is_made : makes_version lock ((after_run first threads before).held turn.proc) turn.label ≡ true = makes (makes_version lock ((after_run first threads before).held turn.proc) turn.label) ((after_run first threads before).versions lock) ((after_run first threads (turn ∷ before)).versions lock) over made step in
          let is_to : to ≡ (after_run first threads (turn ∷ before)).versions lock = last ((after_run first threads before).versions lock) ((after_run first threads (turn ∷ before)).versions lock) over made (rw is_made at step) in
          ⊎_elim
          (λ less.
          ap (λ memory. memory cell) (memory_at_turn first threads turn before lock from (below ((after_run first threads before).versions lock) ((after_run first threads (turn ∷ before)).versions lock) less is_to (rw is_made at step)))
          ∙ current before lock from cell is (below ((after_run first threads before).versions lock) ((after_run first threads (turn ∷ before)).versions lock) less is_to (rw is_made at step))
          (ap (λ to. newer before lock from to (line_at cell)) (sym (rw is_made at step) ∙ sym is_to) ∙ (or_false (stores_to line_at setup lock (line_at cell) turn.label && (nat_le from ((after_run first threads before).versions lock) && nat_lt ((after_run first threads before).versions lock) to)) (newer before lock from to (line_at cell)) none).1)
          ∙ sym (ap (λ version. memory_at first threads (turn ∷ before) lock version cell) is_to ∙ ap (λ memory. memory cell) (memory_at_made first threads turn before lock is_made)))
          (λ same. ap (λ version. memory_at first threads (turn ∷ before) lock version cell) (both_same le same))
          (cases_lt from to)
        where
          makes : (b : Bool) (now after : ℕ) → now < to → to ≤ after → after ≡ (if b then now + 1 else now) → b ≡ true
          makes b now after over made e = grind arith

          last : (now after : ℕ) → now < to → to ≤ after → after ≡ now + 1 → to ≡ after
          last now after over made e = omega arith

          below : (now after : ℕ) → from < to → to ≡ after → after ≡ now + 1 → from ≤ now
          below now after less is_to e = omega arith

          both_same : from ≤ to → to ≤ from → from ≡ to
          both_same a b = omega arith

  -- Stamps: a line is newer than a version where its stamp is over it.

  pub newer_made : (run : List Turn) (lock from to line : ℕ) → newer run lock from to line ≡ true → from ≤ (after_run first threads run).versions lock
  newer_made [] lock from to line is = absurd (cc is)
  newer_made (turn ∷ before) lock from to line is =
      now_or_before (stores_to line_at setup lock line turn.label) (nat_lt ((after_run first threads before).versions lock) to) (newer before lock from to line) ((after_run first threads before).versions lock)
      ((after_run first threads (turn ∷ before)).versions lock) (version_rises first threads turn before lock) (newer_made before lock from to line) is
    where
      now_or_before : (b c rest : Bool) (now after : ℕ) → now ≤ after → (rest ≡ true → from ≤ now) → ((b && (nat_le from now && c)) || rest) ≡ true → from ≤ after
      now_or_before b c rest now after le was is = grind (arith, was)

  pub newer_by_stamp : (run : List Turn) (lock from to line : ℕ) → newer run lock from to line ≡ nat_lt from (stamp_of line_at setup first threads run lock to line)
  newer_by_stamp [] lock from to line = grind arith
  newer_by_stamp (turn ∷ before) lock from to line =
      stamped (stores_to line_at setup lock line turn.label) (newer before lock from to line) ((after_run first threads before).versions lock) (stamp_of line_at setup first threads before lock to line)
      (newer_by_stamp before lock from to line) (newer_made before lock from to line)
    where
      stamped : (b rest : Bool) (now stamp : ℕ) → rest ≡ nat_lt from stamp → (rest ≡ true → from ≤ now) →
          ((b && (nat_le from now && nat_lt now to)) || rest) ≡ nat_lt from (if b && nat_lt now to then now + 1 else stamp)
      stamped b rest now stamp is made = grind (arith, made)

-- A take that brings the newer lines.

pub with_some : (b : Bool) (memory copy : ℤ) → b ≡ true → (if b then memory else copy) ≡ memory
with_some b memory copy e = grind arith

pub with_none : (b : Bool) (memory copy : ℤ) → b ≡ false → (if b then memory else copy) ≡ copy
with_none b memory copy e = grind arith

pub both_true : (b c : Bool) → b ≡ true → c ≡ true → (b && c) ≡ true
both_true b c x y = grind arith

pub second_false : (b c : Bool) → c ≡ false → (b && c) ≡ false
second_false b c x = grind arith

pub first_false : (b c : Bool) → b ≡ false → (b && c) ≡ false
first_false b c x = grind arith

module _ {S : Type 0} (line_at : ℕ → ℕ) (setup : Setup) (first : ℕ → S) (threads : Semantics S) (run : List Turn) (p : ℕ) (turns : List OwnTurn) (has : HasCopies setup first threads run p turns) where
  pub newer_take : (lock : Lock) (mode : Mode) (version : ℕ) → IsPlainTurn setup threads (after_run first threads run) (record { proc = p; label = Label.Take lock mode version }) → (now : ℕ → ℤ) →
      ((cell : ℕ) → now cell ≡ with_newer (is_brought line_at setup first threads run p lock.0 version) (memory_at first threads run lock.0 version) (newest_copy turns) cell) →
      Renews setup (memories_of setup first threads run) p (Label.Take lock mode version) (newest_copy turns) now
  newer_take lock mode version turn now is = record {
    inside = λ cell in_lock. is cell ∙ ⊎_elim
        (λ newer. with_some (is_brought line_at setup first threads run p lock.0 version cell) (memory_at first threads run lock.0 version cell) (newest_copy turns cell) (both_true (is_of_lock lock.0 (piece_of setup.bindings cell)) _ in_lock newer))
        (λ none. with_none (is_brought line_at setup first threads run p lock.0 version cell) (memory_at first threads run lock.0 version cell) (newest_copy turns cell) (second_false (is_of_lock lock.0 (piece_of setup.bindings cell)) _ none)
        ∙ was.free free cell in_lock
        ∙ unchanged line_at setup first threads run lock.0 (own_versions_of (labels_of p run) lock.0) version cell in_lock (rw is_version was.no_newer) (rw is_version (omega arith)) none)
        (cases_Bool (is_newer line_at setup first threads run lock.0 (own_versions_of (labels_of p run) lock.0) version (line_at cell)));
    outside = λ cell other. is cell ∙ with_none (is_brought line_at setup first threads run p lock.0 version cell) (memory_at first threads run lock.0 version cell) (newest_copy turns cell) (first_false (is_of_lock lock.0 (piece_of setup.bindings cell)) _ other);
  }
    where
      was : AgreesAt setup lock.0 ((after_run first threads run).held p lock.0) ((after_run first threads run).versions lock.0) (after_run first threads run).memory (memory_at first threads run lock.0)
          (own_versions_of (labels_of p run) lock.0) (newest_copy turns)
      was = (agreed_copies setup first threads run p turns has).at_locks lock.0

      free : (after_run first threads run).held p lock.0 ≡ None
      free = takes_when_free setup first threads has.ask_first run has.is_run p has.is_processor lock mode version turn.is_label

      is_version : version ≡ (after_run first threads run).versions lock.0
      is_version = take_version first threads setup run p lock mode version turn.is_label

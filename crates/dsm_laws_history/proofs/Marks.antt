-- The marks of a processor are the lines to which it has stored in the hold that is open.
use Rattle.std.specs.Prelude.{◌≡◌, ◌≢◌, ℕ, ◌+◌, ◌<◌, ◌≤◌, Bool, true, false, ◌&&◌, ◌||◌, ◌==◌, not, nat_lt, nat_le, if◌then◌else◌, List, [], ◌∷◌, Option, Some, None, is_some}
use Rattle.std.proofs.Common.{arith, refl, sym, ap, ◌∙◌, subst, inl, inr, true≢false, ⊎_elim}
use Rattle.std.proofs.lemmas.Bool.{cases_Bool, cases_eq}
use Rattle.std.proofs.lemmas.Bool.Decides.{eqb_tells}
use Rattle.dsm_base.specs.declared.names.Cell.{Cell}
use Rattle.dsm_base.specs.declared.names.Lock.{Lock}
use Rattle.dsm_base.specs.declared.names.Bar.{Bar}
use Rattle.dsm_base.specs.declared.names.Mode.{Mode}
use Rattle.dsm_base.specs.declared.label.Label.{Label}
use Rattle.dsm_base.specs.declared.setup.Object.{Object}
use Rattle.dsm_base.specs.declared.setup.Piece.{Piece}
use Rattle.dsm_base.specs.declared.setup.Setup.{Setup}
use Rattle.dsm_base.specs.Family.{update}
use Rattle.dsm_base.specs.Access.{piece_of, is_exclusive}
use Rattle.dsm_base.specs.Threads.{Semantics}
use Rattle.dsm_base.specs.Plain.{PlainState, Turn, IsPlainRun, after_run, plain_turn, labels_of}
use Rattle.dsm_lines.specs.Places.{lines_of, same_object}
use Rattle.dsm_net.specs.Turns.{dirty_after}
use Rattle.dsm_laws_runs.specs.Pieces.{is_lock, is_of_lock}
use Rattle.dsm_laws_runs.specs.Versions.{AllAskFirst, IsCellOf}
use Rattle.dsm_laws_runs.specs.Newer.{stores_to, is_newer, stamp_of}
use Rattle.dsm_laws_runs.proofs.Each.{for_each}
use Rattle.dsm_laws_runs.proofs.OwnPart.{labels_mine, labels_other}
use Rattle.dsm_laws_runs.proofs.Turns.{stores_of, gives_of}
use Rattle.dsm_laws_runs.proofs.Exclusion.{exclusive_alone, no_exclusive}
use Rattle.dsm_laws_runs.proofs.Versions.{version_kept, version_made}
use Rattle.dsm_laws_runs.proofs.Access.{stores_hold}
use Rattle.dsm_laws_runs.proofs.OwnTurns.{other_lock}
use Rattle.dsm_laws_runs.proofs.Newer.{newer_made}
use Rattle.dsm_laws_history.specs.NewerLines.{line_at}
use Rattle.dsm_laws_history.proofs.Lines.{is_in, marked_line, line_of_object, same_line, same_lock, lock_bound}

-- the lines that labels have marked
abbrev pub dirty_of : List Piece → List Label → ℕ → Bool
dirty_of pieces [] = λ line. false
dirty_of pieces (label ∷ before) = dirty_after pieces (dirty_of pieces before) label

-- whether a number is over all that were made
not_made : (b : Bool) (from now : ℕ) → (b ≡ true → from ≤ now) → now < from → b ≡ false
not_made b from now h lt = grind (arith, h)

same_number : (n m : ℕ) → n ≡ m → (n == m) ≡ true
same_number n m e = grind arith

taken_away : (b c : Bool) → c ≡ true → (b && not c) ≡ false
taken_away b c e = grind arith

module _ {S : Type 0} (setup : Setup) (first : ℕ → S) (threads : Semantics S) where
  abbrev newer : List Turn → ℕ → ℕ → ℕ → ℕ → Bool
  newer run = is_newer (line_at setup.bindings) setup first threads run

  abbrev version : List Turn → ℕ → ℕ
  version run = (after_run first threads run).versions

  -- no line is newer than a version that isn't made yet
  pub newer_none : (run : List Turn) (lock from to line : ℕ) → version run lock < from → newer run lock from to line ≡ false
  newer_none run lock from to line lt = not_made (newer run lock from to line) from (version run lock) (newer_made (line_at setup.bindings) setup first threads run lock from to line) lt

  -- the lines to which was stored since the newest version was made
  abbrev pub is_open : List Turn → ℕ → ℕ → Bool
  is_open run lock line = newer run lock (version run lock) (version run lock + 1) line

  pub record AreMarks (run : List Turn) (lock cell : ℕ) : Type 0 where
    pub free : ((q : ℕ) → is_exclusive ((after_run first threads run).held q lock) ≡ false) → is_open run lock (line_at setup.bindings cell) ≡ false
    pub mine : (p : ℕ) → is_exclusive ((after_run first threads run).held p lock) ≡ true → dirty_of setup.bindings (labels_of p run) (line_at setup.bindings cell) ≡ is_open run lock (line_at setup.bindings cell)
    pub others : (p : ℕ) → is_exclusive ((after_run first threads run).held p lock) ≡ false → dirty_of setup.bindings (labels_of p run) (line_at setup.bindings cell) ≡ false

  module _ (ask_first : AllAskFirst setup first threads) (before : List Turn) (is_run : IsPlainRun setup first threads before) (r : ℕ) (lock : Lock) (cell : ℕ) (is_cell : IsCellOf setup lock.0 cell)
      (was : AreMarks before lock.0 cell) where
    abbrev s : PlainState S
    s = after_run first threads before

    abbrev line : ℕ
    line = line_at setup.bindings cell

    abbrev onto : Label → List Turn
    onto label = record { proc = r; label = label } ∷ before

    abbrev marked : List Turn → ℕ → Bool
    marked run p = dirty_of setup.bindings (labels_of p run) line

    bound : is_some (piece_of setup.bindings cell) ≡ true
    bound = lock_bound lock.0 (piece_of setup.bindings cell) is_cell

    -- all stays
    record IsSame (now : List Turn) : Type 0 where
      open_same : is_open now lock.0 line ≡ is_open before lock.0 line
      marks_same : (p : ℕ) → marked now p ≡ marked before p
      holds_same : (p : ℕ) → is_exclusive ((after_run first threads now).held p lock.0) ≡ is_exclusive (s.held p lock.0)

    same : (now : List Turn) → IsSame now → AreMarks now lock.0 cell
    same now is = record {
      free = λ none. is.open_same ∙ was.free (λ q. sym (is.holds_same q) ∙ none q);
      mine = λ p e. is.marks_same p ∙ was.mine p (sym (is.holds_same p) ∙ e) ∙ sym is.open_same;
      others = λ p e. is.marks_same p ∙ was.others p (sym (is.holds_same p) ∙ e);
    }

    -- nothing is marked
    clean : (now : List Turn) → is_open now lock.0 line ≡ false → ((p : ℕ) → marked now p ≡ false) → AreMarks now lock.0 cell
    clean now none no_marks = record { free = λ free. none; mine = λ p e. no_marks p ∙ sym none; others = λ p e. no_marks p }

    marks_mine : (label : Label) → marked (onto label) r ≡ dirty_after setup.bindings (dirty_of setup.bindings (labels_of r before)) label line
    marks_mine label = ap (λ labels. dirty_of setup.bindings labels line) (labels_mine r record { proc = r; label = label } before refl)

    marks_other : (label : Label) (p : ℕ) → r ≢ p → marked (onto label) p ≡ marked before p
    marks_other label p ne = ap (λ labels. dirty_of setup.bindings labels line) (labels_other p record { proc = r; label = label } before ne)

    each_mark : (label : Label) → dirty_after setup.bindings (dirty_of setup.bindings (labels_of r before)) label line ≡ marked before r → (p : ℕ) → marked (onto label) p ≡ marked before p
    each_mark label e p = for_each (λ p. marked (onto label) p ≡ marked before p) r p (marks_mine label ∙ e) (marks_other label p)

    -- a label that changes neither holds nor versions of the lock
    abbrev holds_of : Label → ℕ → ℕ → Bool
    holds_of label p l = is_exclusive ((after_run first threads (onto label)).held p l)

    none_of_bar : (bar : Bar) → is_in line (lines_of setup.bindings (Object.Bar bar)) ≡ false
    none_of_bar bar = at (piece_of setup.bindings cell) refl is_cell
      where
        other : (object : Object) → is_lock lock.0 object ≡ true → same_object object (Object.Bar bar) ≡ false
        other (Object.Lock l) e = refl
        other (Object.Bar b) e = cc

        at : (o : Option Piece) → piece_of setup.bindings cell ≡ o → is_of_lock lock.0 o ≡ true → is_in line (lines_of setup.bindings (Object.Bar bar)) ≡ false
        at None e is = cc
        at (Some piece) e is = line_of_object setup.bindings (Object.Bar bar) cell piece e ∙ other piece.object is

    in_lines_of : (given : Lock) → is_in line (lines_of setup.bindings (Object.Lock given)) ≡ is_of_lock given.0 (piece_of setup.bindings cell)
    in_lines_of given = at (piece_of setup.bindings cell) refl is_cell
      where
        at : (o : Option Piece) → piece_of setup.bindings cell ≡ o → is_of_lock lock.0 o ≡ true → is_in line (lines_of setup.bindings (Object.Lock given)) ≡ is_of_lock given.0 (piece_of setup.bindings cell)
        at None e is = cc
        at (Some piece) e is = rw e (line_of_object setup.bindings (Object.Lock given) cell piece e ∙ same_lock piece.object given)

    kept_by : (b : Bool) (object : Object) → is_in line (lines_of setup.bindings object) ≡ false → (b && not (is_in line (lines_of setup.bindings object))) ≡ b
    kept_by b object none = rw none (grind arith)

    -- a turn that is quiet for the marks
    still : (label : Label) → (is_open (onto label) lock.0 line ≡ is_open before lock.0 line) → dirty_after setup.bindings (dirty_of setup.bindings (labels_of r before)) label line ≡ marked before r →
        ((p : ℕ) → holds_of label p lock.0 ≡ is_exclusive (s.held p lock.0)) → AreMarks (onto label) lock.0 cell
    still label o d h = same (onto label) record { open_same = o; marks_same = each_mark label d; holds_same = h }

    same_hold : (held : ℕ → ℕ → Option Mode) (p l : ℕ) → is_exclusive (update held r (held r) p l) ≡ is_exclusive (held p l)
    same_hold held p l = grind arith

    took_other : (held : ℕ → ℕ → Option Mode) (taken l p : ℕ) (now : Option Mode) → taken ≢ l → is_exclusive (update held r (update (held r) taken now) p l) ≡ is_exclusive (held p l)
    took_other held taken l p now ne = grind arith

    -- A store.

    at_store : (stored : Cell) (value : _) → plain_turn setup threads s r ≡ Some (Label.Store stored value) → AreMarks (onto (Label.Store stored value)) lock.0 cell
    at_store stored value turn = elim (eqb_tells (line_at setup.bindings stored.0) line) [ inl (t, i) ↦ here t i | inr (t, _) ↦ there t ]
      where
        stored_bound : is_some (piece_of setup.bindings stored.0) ≡ true
        stored_bound = go (piece_of setup.bindings stored.0) refl
          where
            go : (o : Option Piece) → piece_of setup.bindings stored.0 ≡ o → is_some o ≡ true
            go None e = absurd (let k = stores_of setup s r _ _ stored value turn in grind (arith, e))
            go (Some piece) e = refl

        marked_now : dirty_after setup.bindings (dirty_of setup.bindings (labels_of r before)) (Label.Store stored value) line ≡ update (dirty_of setup.bindings (labels_of r before)) (line_at setup.bindings stored.0) true line
        marked_now = ap (λ marks. marks line) (marked_line setup.bindings (dirty_of setup.bindings (labels_of r before)) stored.0 stored_bound)

        version_same : version (onto (Label.Store stored value)) lock.0 ≡ version before lock.0
        version_same = refl

        now_open : (b : Bool) (n : ℕ) (rest : Bool) → ((b && (nat_le n n && nat_lt n (n + 1))) || rest) ≡ (b || rest)
        now_open b n rest = grind arith

        stores : is_open (onto (Label.Store stored value)) lock.0 line ≡ ((is_of_lock lock.0 (piece_of setup.bindings stored.0) && (line_at setup.bindings stored.0 == line)) || is_open before lock.0 line)
        stores = now_open (is_of_lock lock.0 (piece_of setup.bindings stored.0) && (line_at setup.bindings stored.0 == line)) (version before lock.0) (is_open before lock.0 line)

        there : (line_at setup.bindings stored.0 == line) ≡ false → AreMarks (onto (Label.Store stored value)) lock.0 cell
        there t = still (Label.Store stored value) (stores ∙ rw t (no_more (is_of_lock lock.0 (piece_of setup.bindings stored.0)) (is_open before lock.0 line))) (marked_now ∙ other_mark (dirty_of setup.bindings (labels_of r before)) (line_at setup.bindings stored.0) line t) (λ p. same_hold s.held p lock.0)
          where
            no_more : (b rest : Bool) → ((b && false) || rest) ≡ rest
            no_more b rest = grind arith

            other_mark : (f : ℕ → Bool) (n m : ℕ) → (n == m) ≡ false → update f n true m ≡ f m
            other_mark f n m e = grind arith

        here : (line_at setup.bindings stored.0 == line) ≡ true → line_at setup.bindings stored.0 ≡ line → AreMarks (onto (Label.Store stored value)) lock.0 cell
        here t i = record {
          free = λ none. absurd (true≢false (sym holds ∙ sym (same_hold s.held r lock.0) ∙ none r));
          mine = λ p e. for_each (λ p. is_exclusive ((after_run first threads (onto (Label.Store stored value))).held p lock.0) ≡ true → marked (onto (Label.Store stored value)) p ≡ is_open (onto (Label.Store stored value)) lock.0 line) r p
              (λ e. marks_mine (Label.Store stored value) ∙ marked_now ∙ own_mark (dirty_of setup.bindings (labels_of r before)) (line_at setup.bindings stored.0) line t ∙ sym opened)
              (λ ne e. absurd (alone p ne (sym (same_hold s.held p lock.0) ∙ e))) e;
          others = λ p e. for_each (λ p. is_exclusive ((after_run first threads (onto (Label.Store stored value))).held p lock.0) ≡ false → marked (onto (Label.Store stored value)) p ≡ false) r p
              (λ e. absurd (true≢false (sym holds ∙ sym (same_hold s.held r lock.0) ∙ e)))
              (λ ne e. marks_other (Label.Store stored value) p ne ∙ was.others p (sym (same_hold s.held p lock.0) ∙ e)) e;
        }
          where
            of_lock : is_of_lock lock.0 (piece_of setup.bindings stored.0) ≡ true
            of_lock = same_line setup.bindings lock stored.0 cell stored_bound bound i ∙ is_cell

            holds : is_exclusive (s.held r lock.0) ≡ true
            holds = stores_hold setup threads s r stored value turn lock.0 of_lock

            opened : is_open (onto (Label.Store stored value)) lock.0 line ≡ true
            opened = stores ∙ rw (of_lock, t) refl

            own_mark : (f : ℕ → Bool) (n m : ℕ) → (n == m) ≡ true → update f n true m ≡ true
            own_mark f n m e = grind arith

            alone : (p : ℕ) → r ≢ p → is_exclusive (s.held p lock.0) ≡ true → ⊥
            alone p ne e = true≢false (sym e ∙ ap is_exclusive (exclusive_alone setup first threads before is_run r p lock.0 ne holds))

    -- A take: nobody holds the lock exclusively before it, so nothing is marked.

    at_take : r < setup.procs → (taken : Lock) (mode : Mode) (number : ℕ) → plain_turn setup threads s r ≡ Some (Label.Take taken mode number) → AreMarks (onto (Label.Take taken mode number)) lock.0 cell
    at_take lt taken mode number turn = ⊎_elim here there (cases_eq taken.0 lock.0)
      where
        there : taken.0 ≢ lock.0 → AreMarks (onto (Label.Take taken mode number)) lock.0 cell
        there ne = still (Label.Take taken mode number) refl refl (λ p. took_other s.held taken.0 lock.0 p (Some mode) ne)

        here : taken.0 ≡ lock.0 → AreMarks (onto (Label.Take taken mode number)) lock.0 cell
        here e = clean (onto (Label.Take taken mode number)) (was.free none) (λ p. each_mark (Label.Take taken mode number) refl p ∙ was.others p (none p))
          where
            none : (q : ℕ) → is_exclusive (s.held q lock.0) ≡ false
            none q = subst (λ l. is_exclusive (s.held q l) ≡ false) e (no_exclusive setup first threads before is_run ask_first r lt taken mode number turn q)

    -- A give takes the marks of its lock away.

    at_give : (given : Lock) → plain_turn setup threads s r ≡ Some (Label.Give given) → AreMarks (onto (Label.Give given)) lock.0 cell
    at_give given turn = ⊎_elim here there (cases_eq given.0 lock.0)
      where
        there : given.0 ≢ lock.0 → AreMarks (onto (Label.Give given)) lock.0 cell
        there ne =
            let same_version : version (onto (Label.Give given)) lock.0 ≡ version before lock.0 = version_kept s.versions (s.held r) (Label.Give given) lock.0 (apart_makes given.0 lock.0 (is_exclusive (s.held r lock.0)) ne) in
            still (Label.Give given) (ap (λ v. newer before lock.0 v (v + 1) line) same_version)
            (kept_by (marked before r) (Object.Lock given) (in_lines_of given ∙ other_lock setup lock.0 given.0 cell (λ e. ne (sym e)) is_cell))
            (λ p. took_other s.held given.0 lock.0 p None ne)
          where
            apart_makes : (n m : ℕ) (b : Bool) → n ≢ m → ((n == m) && b) ≡ false
            apart_makes n m b ne = grind arith

        here : given.0 ≡ lock.0 → AreMarks (onto (Label.Give given)) lock.0 cell
        here e = ⊎_elim exclusive shared (cases_Bool (is_exclusive (s.held r lock.0)))
          where
            gone : (b : Bool) → (b && not (is_in line (lines_of setup.bindings (Object.Lock given)))) ≡ false
            gone b = taken_away b (is_in line (lines_of setup.bindings (Object.Lock given))) (in_lines_of given ∙ ap (λ l. is_of_lock l (piece_of setup.bindings cell)) e ∙ is_cell)

            cleared : ((p : ℕ) → r ≢ p → marked before p ≡ false) → (p : ℕ) → marked (onto (Label.Give given)) p ≡ false
            cleared none p = for_each (λ p. marked (onto (Label.Give given)) p ≡ false) r p (marks_mine (Label.Give given) ∙ gone (marked before r)) (λ ne. marks_other (Label.Give given) p ne ∙ none p ne)

            exclusive : is_exclusive (s.held r lock.0) ≡ true → AreMarks (onto (Label.Give given)) lock.0 cell
            exclusive h =
                let made : version (onto (Label.Give given)) lock.0 ≡ version before lock.0 + 1 = version_made s.versions (s.held r) (Label.Give given) lock.0 (rw (same_number given.0 lock.0 e, h) refl) in
                clean (onto (Label.Give given)) (ap (λ v. newer before lock.0 v (v + 1) line) made ∙ newer_none before lock.0 (version before lock.0 + 1) (version before lock.0 + 1 + 1) line (omega arith))
                (cleared (λ p ne. was.others p (ap is_exclusive (exclusive_alone setup first threads before is_run r p lock.0 ne h))))

            shared : is_exclusive (s.held r lock.0) ≡ false → AreMarks (onto (Label.Give given)) lock.0 cell
            shared h =
                let kept : version (onto (Label.Give given)) lock.0 ≡ version before lock.0 = version_kept s.versions (s.held r) (Label.Give given) lock.0 (rw h (grind arith)) in
                let none : (q : ℕ) → is_exclusive (s.held q lock.0) ≡ false = λ q. no_other q in
                clean (onto (Label.Give given)) (ap (λ v. newer before lock.0 v (v + 1) line) kept ∙ was.free none) (cleared (λ p ne. was.others p (none p)))
              where
                holds : is_some (s.held r lock.0) ≡ true
                holds = subst (λ l. is_some (s.held r l) ≡ true) e (gives_of setup s r _ _ given turn)

                no_other : (q : ℕ) → is_exclusive (s.held q lock.0) ≡ false
                no_other q = ⊎_elim (λ x. absurd (other q x)) (λ x. x) (cases_Bool (is_exclusive (s.held q lock.0)))
                  where
                    held_none : (o : Option Mode) → o ≡ None → is_some o ≡ true → ⊥
                    held_none o e some = true≢false (sym some ∙ ap is_some e)

                    other : (q : ℕ) → is_exclusive (s.held q lock.0) ≡ true → ⊥
                    other q x = for_each (λ q. is_exclusive (s.held q lock.0) ≡ true → ⊥) r q (λ x. true≢false (sym x ∙ h)) (λ ne x. held_none (s.held r lock.0) (exclusive_alone setup first threads before is_run q r lock.0 (λ i. ne (sym i)) x) holds) x

    pub marks_turn : r < setup.procs → (label : Label) → plain_turn setup threads s r ≡ Some label → AreMarks (onto label) lock.0 cell
    marks_turn lt (Label.Store stored value) turn = at_store stored value turn
    marks_turn lt (Label.Take taken mode number) turn = at_take lt taken mode number turn
    marks_turn lt (Label.Give given) turn = at_give given turn
    marks_turn lt (Label.Arrive bar) turn = still (Label.Arrive bar) refl (kept_by (marked before r) (Object.Bar bar) (none_of_bar bar)) (λ p. same_hold s.held p lock.0)
    marks_turn lt label turn = still label refl refl (λ p. same_hold s.held p lock.0)

  pub marks_of : AllAskFirst setup first threads → (run : List Turn) → IsPlainRun setup first threads run → (lock : Lock) (cell : ℕ) → IsCellOf setup lock.0 cell → AreMarks run lock.0 cell
  marks_of ask_first [] is_run lock cell is_cell = record { free = λ none. refl; mine = λ p e. refl; others = λ p e. refl }
  marks_of ask_first (turn ∷ before) is_run lock cell is_cell =
      marks_turn ask_first before is_run.0 turn.proc lock cell is_cell (marks_of ask_first before is_run.0 lock cell is_cell) is_run.1.is_processor turn.label is_run.1.is_label

-- Stamps.

-- with one version more the lines that were stored to in its hold have it as their stamp, and others keep theirs
pub stamp_made : {S : Type 0} (line_at : ℕ → ℕ) (setup : Setup) (first : ℕ → S) (threads : Semantics S) (run : List Turn) (lock version line : ℕ) →
    stamp_of line_at setup first threads run lock (version + 1) line ≡ (if is_newer line_at setup first threads run lock version (version + 1) line then version + 1 else stamp_of line_at setup first threads run lock version line)
stamp_made line_at setup first threads [] lock version line = refl
stamp_made line_at setup first threads (turn ∷ before) lock version line =
    go (stores_to line_at setup lock line turn.label) ((after_run first threads before).versions lock) (is_newer line_at setup first threads before lock version (version + 1) line)
    (stamp_of line_at setup first threads before lock (version + 1) line) (stamp_of line_at setup first threads before lock version line)
    (stamp_made line_at setup first threads before lock version line) (newer_made line_at setup first threads before lock version (version + 1) line)
  where
    go : (b : Bool) (now : ℕ) (rest : Bool) (new old : ℕ) → new ≡ (if rest then version + 1 else old) → (rest ≡ true → version ≤ now) →
        (if b && nat_lt now (version + 1) then now + 1 else new) ≡ (if (b && (nat_le version now && nat_lt now (version + 1))) || rest then version + 1 else (if b && nat_lt now version then now + 1 else old))
    go b now rest new old e made = grind (arith, e, made)

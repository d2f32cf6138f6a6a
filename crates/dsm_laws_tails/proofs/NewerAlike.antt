-- Which lines are newer, told by the labels of each processor alone: so it is the same in all runs in which each makes the same turns.
use Rattle.std.specs.Prelude.{◌≡◌, ℕ, Bool, true, false, ◌&&◌, ◌||◌, nat_lt, nat_le, List, [], ◌∷◌, Option, Some, is_some}
use Rattle.std.proofs.Common.{arith, refl, sym, ⊎_elim}
use Rattle.std.proofs.lemmas.Bool.{cases_Bool, cases_eq}
use Rattle.dsm_base.specs.declared.names.Mode.{Mode}
use Rattle.dsm_base.specs.declared.label.Label.{Label}
use Rattle.dsm_base.specs.declared.setup.Setup.{Setup}
use Rattle.dsm_base.specs.Access.{is_exclusive}
use Rattle.dsm_base.specs.Threads.{Semantics}
use Rattle.dsm_base.specs.Plain.{Turn, IsPlainRun, after_run, labels_of, plain_turn}
use Rattle.dsm_laws_runs.specs.OwnPart.{own_versions_of}
use Rattle.dsm_laws_runs.specs.Newer.{stores_to, is_newer}
use Rattle.dsm_laws_runs.proofs.Each.{for_each}
use Rattle.dsm_laws_runs.proofs.OwnPart.{labels_mine, labels_other}
use Rattle.dsm_laws_runs.proofs.Access.{stores_hold}
use Rattle.dsm_laws_runs.proofs.OwnVersions.{has_version}

exclusive_some : (held : Option Mode) → is_exclusive held ≡ true → is_some held ≡ true
exclusive_some held e = grind arith

and_left : (b c : Bool) → (b && c) ≡ true → b ≡ true
and_left b c e = grind arith

or_left : (b c : Bool) → b ≡ true → (b || c) ≡ true
or_left b c e = grind arith

or_right : (b c : Bool) → c ≡ true → (b || c) ≡ true
or_right b c e = grind arith

or_other : (b c : Bool) → b ≡ false → (b || c) ≡ true → c ≡ true
or_other b c none e = grind arith

both_ways : (b c : Bool) → (b ≡ true → c ≡ true) → (c ≡ true → b ≡ true) → b ≡ c
both_ways b c there back = grind arith

module _ {S : Type 0} (line_at : ℕ → ℕ) (setup : Setup) (first : ℕ → S) (threads : Semantics S) (lock from to line : ℕ) where
  abbrev newer : List Turn → Bool
  newer run = is_newer line_at setup first threads run lock from to line

  -- whether one who has made these labels stored to the line in a hold that made one of the versions
  abbrev own_newer : List Label → Bool
  own_newer [] = false
  own_newer (label ∷ before) =
      (stores_to line_at setup lock line label && (nat_le from (own_versions_of before lock) && nat_lt (own_versions_of before lock) to)) || own_newer before

  stores_exclusive : (run : List Turn) (p : ℕ) (label : Label) → plain_turn setup threads (after_run first threads run) p ≡ Some label → stores_to line_at setup lock line label ≡ true →
      is_exclusive ((after_run first threads run).held p lock) ≡ true
  stores_exclusive run p (Label.Store cell value) is e = stores_hold setup threads (after_run first threads run) p cell value is lock (and_left _ _ e)
  stores_exclusive run p _ is e = absurd (cc e)

  -- who stores to the line has the newest version
  store_version : (turn : Turn) (before : List Turn) → IsPlainRun setup first threads (turn ∷ before) → stores_to line_at setup lock line turn.label ≡ true →
      own_versions_of (labels_of turn.proc before) lock ≡ (after_run first threads before).versions lock
  store_version turn before is_run e =
      (has_version setup first threads before is_run.0 lock turn.proc).current (exclusive_some _ (stores_exclusive before turn.proc turn.label is_run.1.is_label e))

  own_now : (b : Bool) (own now : ℕ) (rest others : Bool) → (b ≡ true → own ≡ now) → (rest ≡ true → others ≡ true) → ((b && (nat_le from own && nat_lt own to)) || rest) ≡ true →
      ((b && (nat_le from now && nat_lt now to)) || others) ≡ true
  own_now b own now rest others same more e = grind arith

  -- who stored to it made it newer
  own_is_newer : (run : List Turn) → IsPlainRun setup first threads run → (p : ℕ) → own_newer (labels_of p run) ≡ true → newer run ≡ true
  own_is_newer [] is_run p = λ e. absurd (cc e)
  own_is_newer (turn ∷ before) is_run p =
      for_each (λ p. own_newer (labels_of p (turn ∷ before)) ≡ true → newer (turn ∷ before) ≡ true) turn.proc p
      (λ e. own_now (stores_to line_at setup lock line turn.label) (own_versions_of (labels_of turn.proc before) lock) ((after_run first threads before).versions lock) (own_newer (labels_of turn.proc before)) (newer before)
      (store_version turn before is_run) (own_is_newer before is_run.0 turn.proc) (rw (labels_mine turn.proc turn before refl) at e))
      (λ ne e. or_right _ (newer before) (own_is_newer before is_run.0 p (rw (labels_other p turn before ne) at e)))

  own_more : (turn : Turn) (before : List Turn) (p : ℕ) → own_newer (labels_of p before) ≡ true → own_newer (labels_of p (turn ∷ before)) ≡ true
  own_more turn before p e =
      ⊎_elim (λ mine. rw (labels_mine p turn before mine) (or_right _ (own_newer (labels_of p before)) e)) (λ ne. rw (labels_other p turn before ne) e) (cases_eq turn.proc p)

  abbrev is_now : Turn → List Turn → Bool
  is_now turn before = stores_to line_at setup lock line turn.label && (nat_le from ((after_run first threads before).versions lock) && nat_lt ((after_run first threads before).versions lock) to)

  now_own : (turn : Turn) (before : List Turn) → IsPlainRun setup first threads (turn ∷ before) → is_now turn before ≡ true → (p : ℕ) × (own_newer (labels_of p (turn ∷ before)) ≡ true)
  now_own turn before is_run is =
      (turn.proc, rw (labels_mine turn.proc turn before refl, store_version turn before is_run (and_left _ _ is)) (or_left (is_now turn before) (own_newer (labels_of turn.proc before)) is))

  -- a line that is newer was stored to by somebody
  newer_is_own : (run : List Turn) → IsPlainRun setup first threads run → newer run ≡ true → (p : ℕ) × (own_newer (labels_of p run) ≡ true)
  newer_is_own [] is_run e = absurd (cc e)
  newer_is_own (turn ∷ before) is_run e =
      ⊎_elim (λ is. now_own turn before is_run is)
      (λ none. let has = newer_is_own before is_run.0 (or_other (is_now turn before) (newer before) none e) in (has.0, own_more turn before has.0 has.1))
      (cases_Bool (is_now turn before))

  -- two runs in which each makes the same turns
  pub newer_alike : (run other : List Turn) → IsPlainRun setup first threads run → IsPlainRun setup first threads other → ((p : ℕ) → labels_of p run ≡ labels_of p other) → newer run ≡ newer other
  newer_alike run other is_run other_run same = both_ways (newer run) (newer other)
      (λ e. let has = newer_is_own run is_run e in own_is_newer other other_run has.0 (rw (same has.0) at has.1))
      (λ e. let has = newer_is_own other other_run e in own_is_newer run is_run has.0 (rw (sym (same has.0)) at has.1))

-- What a copy is worth at a lock after a turn of its own processor.
use Rattle.std.specs.Prelude.{◌≡◌, ◌≢◌, ℕ, ℤ, ◌+◌, ◌<◌, ◌==◌, ◌&&◌, not, true, false, List, ◌∷◌, Option, Some, None, is_some}
use Rattle.std.proofs.Common.{arith, refl, ap, sym, ◌∙◌, ⊎_elim}
use Rattle.std.proofs.lemmas.Bool.{cases_Bool, cases_eq}
use Rattle.dsm_base.specs.declared.names.Lock.{Lock}
use Rattle.dsm_base.specs.declared.names.Bar.{Bar}
use Rattle.dsm_base.specs.declared.names.Cell.{Cell}
use Rattle.dsm_base.specs.declared.names.Mode.{Mode}
use Rattle.dsm_base.specs.declared.label.Label.{Label}
use Rattle.dsm_base.specs.declared.setup.Object.{Object}
use Rattle.dsm_base.specs.declared.setup.Setup.{Setup}
use Rattle.dsm_base.specs.declared.setup.Piece.{Piece}
use Rattle.dsm_base.specs.Access.{piece_of, is_exclusive}
use Rattle.dsm_base.specs.Threads.{Semantics}
use Rattle.dsm_base.specs.Plain.{PlainState, Turn, IsPlainRun, after_run, plain_turn, memory_after, held_after, versions_after, labels_of}
use Rattle.dsm_laws_runs.specs.Pieces.{is_lock, is_of_lock}
use Rattle.dsm_laws_runs.specs.OwnPart.{own_versions_after}
use Rattle.dsm_laws_runs.specs.Versions.{AllAskFirst, IsCellOf, SameAt, makes_version, memory_at}
use Rattle.dsm_laws_runs.specs.Barriers.{is_of_other, memory_in}
use Rattle.dsm_laws_runs.specs.Pieces.{is_bar}
use Rattle.dsm_laws_runs.specs.Copies.{AgreesAt, IsRenewed, Renews, memories_of}
use Rattle.dsm_laws_runs.proofs.Turns.{gives_of}
use Rattle.dsm_laws_runs.proofs.Exclusion.{no_exclusive}
use Rattle.dsm_laws_runs.proofs.Versions.{version_kept, version_made, take_version}
use Rattle.dsm_laws_runs.proofs.Access.{stores_hold}
use Rattle.dsm_laws_runs.proofs.Memory.{memory_at_kept, memory_at_made, memory_is_version, shared_is_version}

-- an agreement at a lock carries over to what is the same at that lock
pub carried : {setup : Setup} {lock : ℕ} {held : Option Mode} {newest : ℕ} {memory : ℕ → ℤ} {memories : ℕ → ℕ → ℤ} {version : ℕ} {copy : ℕ → ℤ} →
    AgreesAt setup lock held newest memory memories version copy → (held' : Option Mode) (newest' : ℕ) (memory' : ℕ → ℤ) (memories' : ℕ → ℕ → ℤ) (version' : ℕ) (copy' : ℕ → ℤ) →
    held' ≡ held → newest' ≡ newest → version' ≡ version → SameAt setup lock memory' memory → SameAt setup lock (memories' version) (memories version) → SameAt setup lock copy' copy →
    AgreesAt setup lock held' newest' memory' memories' version' copy'
carried {version = version} was held' newest' memory' memories' version' copy' same_held same_newest same_version same_memory same_memories same_copy = record {
  no_newer = rw (same_newest, same_version) was.no_newer;
  free = λ h cell is. rw (same_version, same_copy cell is, same_memories cell is) (was.free (rw same_held at h) cell is);
  current = λ h. rw (same_newest, same_version) (was.current (rw same_held at h));
  same = λ h cell is. rw (same_copy cell is, same_memory cell is) (was.same (rw same_held at h) cell is);
}

-- a cell is bound to one lock
pub other_lock : (setup : Setup) (lock other cell : ℕ) → lock ≢ other → IsCellOf setup lock cell → is_of_lock other (piece_of setup.bindings cell) ≡ false
other_lock setup lock other cell ne is = other_piece (piece_of setup.bindings cell) is
  where
    other_piece : (piece : Option Piece) → is_of_lock lock piece ≡ true → is_of_lock other piece ≡ false
    other_piece piece e = grind arith

-- a lock's piece is none of a barrier
pub lock_not_bar : (lock bar p : ℕ) (piece : Option Piece) → is_of_lock lock piece ≡ true → is_of_other bar p piece ≡ false
lock_not_bar lock bar p None e = refl
lock_not_bar lock bar p (Some piece) e = at_object piece.object e
  where
    at_object : (object : Object) → is_lock lock object ≡ true → (is_bar bar object && not (piece.owner == p)) ≡ false
    at_object object e = grind arith

-- A turn of one's own.
module _ {S : Type 0} (setup : Setup) (first : ℕ → S) (threads : Semantics S) (ask_first : AllAskFirst setup first threads) (before : List Turn) (is_run : IsPlainRun setup first threads before)
    (p : ℕ) (in_setup : p < setup.procs) (versions : ℕ → ℕ) (copy : ℕ → ℤ) where
  -- the state before the turn
  abbrev start : PlainState S
  start = after_run first threads before

  -- what the copy is worth at a lock before it
  abbrev Was : ℕ → Type 0
  Was lock =
      AgreesAt setup lock (start.held p lock) (start.versions lock) start.memory (memory_at first threads before lock) (versions lock) copy

  -- and what it has become after it
  abbrev Is : Label → (ℕ → ℤ) → ℕ → Type 0
  Is label now lock =
      AgreesAt setup lock (held_after (start.held p) label lock) (versions_after start.versions (start.held p) label lock)
      (memory_after start.memory label) (memory_at first threads (record { proc = p; label = label } ∷ before) lock)
      (own_versions_after versions (start.held p) label lock) now

  pub own_take : (taken : Lock) (mode : Mode) (version : ℕ) (now : ℕ → ℤ) → plain_turn setup threads start p ≡ Some (Label.Take taken mode version) →
      IsRenewed (λ cell. is_of_lock taken.0 (piece_of setup.bindings cell)) (memory_at first threads before taken.0 version) copy now → (lock : ℕ) → Was lock → Is (Label.Take taken mode version) now lock
  own_take taken mode version now turn renews lock was = ⊎_elim (λ e. rw e it) other (cases_eq lock taken.0)
    where
      is_version : version ≡ start.versions taken.0
      is_version = take_version first threads setup before p taken mode version turn

      settled : SameAt setup taken.0 start.memory (memory_at first threads before taken.0 (start.versions taken.0))
      settled = memory_is_version setup first threads ask_first before is_run taken.0 (no_exclusive setup first threads before is_run ask_first p in_setup taken mode version turn)

      it : Is (Label.Take taken mode version) now taken.0
      it = record {
        no_newer = grind (arith, is_version);
        free = λ h. absurd (grind arith);
        current = λ h. grind (arith, is_version);
        same = λ h cell is. renews.inside cell is ∙ ap (λ u. memory_at first threads before taken.0 u cell) is_version ∙ sym (settled cell is);
      }

      other : lock ≢ taken.0 → Is (Label.Take taken mode version) now lock
      other ne = carried was _ _ _ _ _ _ (grind arith) refl (grind arith) (λ cell is. refl) (λ cell is. refl) (λ cell is. renews.outside cell (other_lock setup lock taken.0 cell ne is))

  pub own_store : (stored : Cell) (value : ℤ) → plain_turn setup threads start p ≡ Some (Label.Store stored value) → (lock : ℕ) → Was lock → Is (Label.Store stored value) (memory_after copy (Label.Store stored value)) lock
  own_store stored value turn lock was = record {
    no_newer = was.no_newer;
    free = λ h cell is. grind (arith, was.free h cell is, stores_hold setup threads start p stored value turn lock);
    current = was.current;
    same = λ h cell is. grind (arith, was.same h cell is);
  }

  pub own_give : (given : Lock) → plain_turn setup threads start p ≡ Some (Label.Give given) → (lock : ℕ) → Was lock → Is (Label.Give given) copy lock
  own_give given turn lock was = ⊎_elim (λ e. rw e (it (rw e at was))) other (cases_eq lock given.0)
    where
      end : Turn
      end = record { proc = p; label = Label.Give given }

      holds : is_some (start.held p given.0) ≡ true
      holds = gives_of setup start p _ _ given turn

      exclusive : Was given.0 → is_exclusive (start.held p given.0) ≡ true → Is (Label.Give given) copy given.0
      exclusive was e =
          let made : makes_version given.0 (start.held p) (Label.Give given) ≡ true = grind arith in
          let after : versions_after start.versions (start.held p) (Label.Give given) given.0 ≡ start.versions given.0 + 1 =
          version_made start.versions (start.held p) (Label.Give given) given.0 made in
          let own : own_versions_after versions (start.held p) (Label.Give given) given.0 ≡ start.versions given.0 + 1 = grind (arith, was.current holds) in
          record {
            no_newer = rw (after, own) (omega arith);
            free = λ h cell is. was.same holds cell is ∙ ap (λ memory. memory cell) (sym (memory_at_made first threads end before given.0 made)) ∙ ap (λ u. memory_at first threads (end ∷ before) given.0 u cell) (after ∙ sym own);
            current = λ h. absurd (grind arith);
            same = λ h. absurd (grind arith);
          }

      shared : Was given.0 → is_exclusive (start.held p given.0) ≡ false → Is (Label.Give given) copy given.0
      shared was e =
          let kept : makes_version given.0 (start.held p) (Label.Give given) ≡ false = grind arith in
          let mode : start.held p given.0 ≡ Some Mode.Shared = grind (arith, holds) in
          let own : own_versions_after versions (start.held p) (Label.Give given) given.0 ≡ start.versions given.0 = grind (arith, was.current holds) in
          record {
            no_newer = rw (version_kept start.versions (start.held p) (Label.Give given) given.0 kept, own) (omega arith);
            free = λ h cell is.
                was.same holds cell is ∙ shared_is_version setup first threads ask_first before is_run p given.0 mode cell is
                ∙ ap (λ memory. memory cell) (sym (memory_at_kept first threads end before given.0 kept (start.versions given.0))) ∙ ap (λ u. memory_at first threads (end ∷ before) given.0 u cell) (sym own);
            current = λ h. absurd (grind arith);
            same = λ h. absurd (grind arith);
          }

      it : Was given.0 → Is (Label.Give given) copy given.0
      it was = ⊎_elim (exclusive was) (shared was) (cases_Bool (is_exclusive (start.held p given.0)))

      other : lock ≢ given.0 → Is (Label.Give given) copy lock
      other ne = carried was _ _ _ _ _ _ (grind arith) (grind arith) (grind arith) (λ cell is. refl) (λ cell is. ap (λ memory. memory cell) (memory_at_kept first threads end before lock (grind arith) (versions lock))) (λ cell is. refl)

  -- a copy that differs from another at no cell is worth the same
  same_copy : (label : Label) (now other : ℕ → ℤ) (lock : ℕ) → ((cell : ℕ) → now cell ≡ other cell) → Is label other lock → Is label now lock
  same_copy label now other lock same is = carried is _ _ _ _ _ _ refl refl refl (λ cell in_lock. refl) (λ cell in_lock. refl) (λ cell in_lock. same cell)

  own_cross : (bar : Bar) (epoch : ℕ) (now : ℕ → ℤ) → IsRenewed (λ cell. is_of_other bar.0 p (piece_of setup.bindings cell)) (memory_in setup (λ q. labels_of q before) bar.0 epoch) copy now →
      (lock : ℕ) → Was lock → Is (Label.Cross bar epoch) now lock
  own_cross bar epoch now renews lock was =
      carried was _ _ _ _ _ _ refl refl refl (λ cell in_lock. refl) (λ cell in_lock. refl) (λ cell in_lock. renews.outside cell (lock_not_bar lock bar.0 p (piece_of setup.bindings cell) in_lock))

  pub own_turn : (label : Label) (now : ℕ → ℤ) → plain_turn setup threads start p ≡ Some label → Renews setup (memories_of setup first threads before) p label copy now →
      (lock : ℕ) → Was lock → Is label now lock
  own_turn (Label.Take taken mode version) now turn renews lock was = own_take taken mode version now turn renews lock was
  own_turn (Label.Give given) now turn renews lock was = same_copy (Label.Give given) now copy lock renews (own_give given turn lock was)
  own_turn (Label.Store stored value) now turn renews lock was = same_copy (Label.Store stored value) now (memory_after copy (Label.Store stored value)) lock renews (own_store stored value turn lock was)
  own_turn (Label.Cross bar epoch) now turn renews lock was = own_cross bar epoch now renews lock was
  own_turn label now turn renews lock was = same_copy label now copy lock renews was

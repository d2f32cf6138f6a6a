-- Which labels can only have come after another's: what versions and epochs tell of the order of turns.
use Rattle.std.specs.Prelude.{◌≡◌, ◌≢◌, ℕ, ◌+◌, ◌<◌, ◌≤◌, Bool, true, false, ◌&&◌, ◌==◌, not, nat_lt, nat_le, List, [], ◌∷◌, Option, Some, None, is_some}
use Rattle.std.proofs.Common.{arith, refl, sym, subst, ⊎_elim}
use Rattle.std.proofs.lemmas.Bool.{cases_Bool}
use Rattle.dsm_base.specs.declared.names.Lock.{Lock}
use Rattle.dsm_base.specs.declared.names.Bar.{Bar}
use Rattle.dsm_base.specs.declared.names.Mode.{Mode}
use Rattle.dsm_base.specs.declared.label.Label.{Label}
use Rattle.dsm_base.specs.declared.setup.Setup.{Setup}
use Rattle.dsm_base.specs.Family.{update}
use Rattle.dsm_base.specs.Access.{is_exclusive}
use Rattle.dsm_base.specs.Threads.{Semantics}
use Rattle.dsm_base.specs.Plain.{PlainState, Turn, IsPlainRun, after_run, labels_of, held_after, crossed_after, versions_after, may_stand_beside}
use Rattle.dsm_laws_runs.specs.OwnPart.{held_of, arrived_of, own_versions_of}
use Rattle.dsm_laws_runs.specs.Versions.{AllAskFirst}
use Rattle.dsm_laws_runs.specs.Swap.{rests_on, IsFree}
use Rattle.dsm_base.proofs.Families.{update_same}
use Rattle.dsm_laws_runs.proofs.Each.{for_each}
use Rattle.dsm_laws_runs.proofs.OwnPart.{own_held, own_arrived, other_crossed}
use Rattle.dsm_laws_runs.proofs.Turns.{gives_of}
use Rattle.dsm_laws_runs.proofs.Asking.{takes_when_free}
use Rattle.dsm_laws_runs.proofs.Exclusion.{exclusive_alone}
use Rattle.dsm_laws_runs.proofs.Versions.{version_rises, take_version}
use Rattle.dsm_laws_runs.proofs.OwnVersions.{has_version}
use Rattle.dsm_laws_runs.proofs.Epochs.{all_came, crossed_step}
use Rattle.dsm_laws_tails.specs.Shuffles.{HasLabel}
use Rattle.dsm_laws_tails.proofs.Places.{has_nothing, turn_or_before}

-- whether a take of a version comes after a hold of another, which had a version, has ended
abbrev is_late : Option Mode → ℕ → Mode → ℕ → Bool
is_late None own mode version = false
is_late (Some Mode.Excl) own mode version = nat_lt own version
is_late (Some Mode.Shared) own Mode.Shared version = false
is_late (Some Mode.Shared) own Mode.Excl version = nat_le own version

-- whether a label can only come after one of another, which has made these before it
abbrev pub comes_after : List Label → Label → Label → Bool
comes_after older (Label.Give given) (Label.Take taken mode version) = (given.0 == taken.0) && is_late (held_of older given.0) (own_versions_of older given.0) mode version
comes_after older (Label.Arrive reached) (Label.Cross bar epoch) = (reached.0 == bar.0) && nat_lt (arrived_of older bar.0) epoch
comes_after older _ _ = false

-- what doesn't rest on a label needn't come after it
lock_free : (held : Option Mode) (own : ℕ) (mode : Mode) (version : ℕ) (same : Bool) → (same && not (may_stand_beside mode held)) ≡ false → (same && is_late held own mode version) ≡ false
lock_free held own mode version same e = grind arith

pub comes_free : (older : List Label) (one other : Label) → rests_on (held_of older) (arrived_of older) one other ≡ false → comes_after older one other ≡ false
comes_free older (Label.Give given) (Label.Take taken mode version) e = lock_free (held_of older given.0) (own_versions_of older given.0) mode version (given.0 == taken.0) e
comes_free older (Label.Arrive reached) (Label.Cross bar epoch) e = e
comes_free older _ _ e = refl

lock_rests : (held : ℕ → Option Mode) (own versions : ℕ → ℕ) (given taken : Lock) (mode : Mode) (version : ℕ) → is_some (held given.0) ≡ true → own given.0 ≡ versions given.0 →
    version ≡ versions_after versions held (Label.Give given) taken.0 → ((given.0 == taken.0) && is_late (held given.0) (own given.0) mode version) ≡ false →
    ((given.0 == taken.0) && not (may_stand_beside mode (held given.0))) ≡ false
lock_rests held own versions given taken mode version some newest is free = grind arith

lock_never : (held : Option Mode) (own : ℕ) (mode : Mode) (version : ℕ) → version ≤ own → (mode ≡ Mode.Excl → version < own) → is_late held own mode version ≡ false
lock_never held own mode version le less = grind arith

ended : (versions : ℕ → ℕ) (held : ℕ → ℕ → Option Mode) (r : ℕ) (label : Label) (q lock : ℕ) → ((taken : Lock) (mode : Mode) (version : ℕ) → label ≡ Label.Take taken mode version → held r taken.0 ≡ None) →
    is_exclusive (held q lock) ≡ true → is_exclusive (update held r (held_after (held r) label) q lock) ≡ false → versions_after versions (held r) label lock ≡ versions lock + 1
ended versions held r (Label.Take taken mode version) q lock free h e = absurd (grind (arith, free taken mode version refl))
ended versions held r (Label.Give given) q lock free h e = grind arith
ended versions held r _ q lock free h e = absurd (grind arith)

took : (held : ℕ → ℕ → Option Mode) (r : ℕ) (lock : Lock) (version : ℕ) → is_exclusive (update held r (held_after (held r) (Label.Take lock Mode.Excl version)) r lock.0) ≡ true
took held r lock version = grind arith

crossed_to : (crossed : ℕ → ℕ → ℕ) (r : ℕ) (bar : Bar) (epoch : ℕ) → update crossed r (crossed_after (crossed r) (Label.Cross bar epoch)) r bar.0 ≡ epoch
crossed_to crossed r bar epoch = grind arith

-- What stands in a plain run.
module _ {S : Type 0} (setup : Setup) (first : ℕ → S) (threads : Semantics S) where
  -- a version that was taken was made
  pub taken_made : (run : List Turn) → IsPlainRun setup first threads run → (q : ℕ) (lock : Lock) (mode : Mode) (version : ℕ) (older : List Label) →
      HasLabel (labels_of q run) (Label.Take lock mode version) older → version ≤ (after_run first threads run).versions lock.0
  taken_made [] is_run q lock mode version older has = absurd (has_nothing (Label.Take lock mode version) older has)
  taken_made (turn ∷ before) is_run q lock mode version older has =
      ⊎_elim
      (λ newest.
      let is : version ≡ (after_run first threads before).versions lock.0 = take_version first threads setup before turn.proc lock mode version (rw (← newest.1) at is_run.1.is_label) in
      rw is (version_rises first threads turn before lock.0))
      (λ was. omega (arith, taken_made before is_run.0 q lock mode version older was, version_rises first threads turn before lock.0))
      (turn_or_before turn before q (Label.Take lock mode version) older has)

  -- an exclusive hold that is over has made a version
  taken_over : AllAskFirst setup first threads → (run : List Turn) → IsPlainRun setup first threads run → (q : ℕ) (lock : Lock) (version : ℕ) (older : List Label) →
      HasLabel (labels_of q run) (Label.Take lock Mode.Excl version) older → is_exclusive ((after_run first threads run).held q lock.0) ≡ false → version < (after_run first threads run).versions lock.0
  taken_over ask_first [] is_run q lock version older has over = absurd (has_nothing (Label.Take lock Mode.Excl version) older has)
  taken_over ask_first (turn ∷ before) is_run q lock version older has over =
      let s : PlainState S = after_run first threads before in
      ⊎_elim
      (λ newest. absurd (cc (took s.held turn.proc lock version, rw (← newest.0, ← newest.1) at over)))
      (λ was. ⊎_elim
      (λ held.
      let more : versions_after s.versions (s.held turn.proc) turn.label lock.0 ≡ s.versions lock.0 + 1 =
      ended s.versions s.held turn.proc turn.label q lock.0
      (λ taken mode version e. takes_when_free setup first threads ask_first before is_run.0 turn.proc is_run.1.is_processor taken mode version (rw e at is_run.1.is_label)) held over in
      omega (arith, taken_made before is_run.0 q lock Mode.Excl version older was))
      (λ free. omega (arith, taken_over ask_first before is_run.0 q lock version older was free, version_rises first threads turn before lock.0))
      (cases_Bool (is_exclusive (s.held q lock.0))))
      (turn_or_before turn before q (Label.Take lock Mode.Excl version) older has)

  crossed_rises : (turn : Turn) (before : List Turn) → IsPlainRun setup first threads (turn ∷ before) → (q bar : ℕ) →
      (after_run first threads before).crossed q bar ≤ (after_run first threads (turn ∷ before)).crossed q bar
  crossed_rises turn before is_run q bar =
      let s : PlainState S = after_run first threads before in
      for_each (λ q. s.crossed q bar ≤ (after_run first threads (turn ∷ before)).crossed q bar) turn.proc q
      (rw (update_same s.crossed turn.proc (crossed_after (s.crossed turn.proc) turn.label), crossed_step setup s turn.proc _ _ turn.label is_run.1.is_label bar) (grind arith))
      (λ ne. rw (other_crossed threads s q turn.proc turn.label (λ e. ne (sym e))) (omega arith))

  -- who has crossed a barrier into an epoch has crossed it so often
  crossed_reached : (run : List Turn) → IsPlainRun setup first threads run → (q : ℕ) (bar : Bar) (epoch : ℕ) (older : List Label) → HasLabel (labels_of q run) (Label.Cross bar epoch) older →
      epoch ≤ (after_run first threads run).crossed q bar.0
  crossed_reached [] is_run q bar epoch older has = absurd (has_nothing (Label.Cross bar epoch) older has)
  crossed_reached (turn ∷ before) is_run q bar epoch older has =
      ⊎_elim
      (λ newest. rw (← newest.0, ← newest.1) (rw (crossed_to (after_run first threads before).crossed turn.proc bar epoch) (omega arith)))
      (λ was. omega (arith, crossed_reached before is_run.0 q bar epoch older was, crossed_rises turn before is_run q bar.0))
      (turn_or_before turn before q (Label.Cross bar epoch) older has)

  -- a turn that needn't come after the one before it doesn't rest on it
  pub rests_not : (before : List Turn) (earlier later : Turn) → IsPlainRun setup first threads (later ∷ earlier ∷ before) → comes_after (labels_of earlier.proc before) earlier.label later.label ≡ false →
      IsFree first threads before earlier later
  rests_not before earlier later is_run free = at_labels earlier.label later.label refl refl free
    where
      at_labels : (one other : Label) → earlier.label ≡ one → later.label ≡ other → comes_after (labels_of earlier.proc before) one other ≡ false →
          rests_on ((after_run first threads before).held earlier.proc) ((after_run first threads before).arrived earlier.proc) one other ≡ false
      at_labels (Label.Give given) (Label.Take taken mode version) is_one is_other free =
          let s : PlainState S = after_run first threads before in
          let holds : is_some (s.held earlier.proc given.0) ≡ true = gives_of setup s earlier.proc _ _ given (rw is_one at is_run.0.1.is_label) in
          lock_rests (s.held earlier.proc) (own_versions_of (labels_of earlier.proc before)) s.versions given taken mode version holds ((has_version setup first threads before is_run.0.0 given.0 earlier.proc).current holds)
          (subst (λ label. version ≡ versions_after s.versions (s.held earlier.proc) label taken.0) is_one (take_version first threads setup (earlier ∷ before) later.proc taken mode version (rw is_other at is_run.1.is_label)))
          (rw (own_held first threads before earlier.proc) free)
      at_labels (Label.Arrive reached) (Label.Cross bar epoch) is_one is_other free = rw (own_arrived first threads before earlier.proc) free
      at_labels _ _ is_one is_other free = refl

  -- what has come before a turn needn't come after it
  pub never_late : AllAskFirst setup first threads → (turn : Turn) (before : List Turn) → IsPlainRun setup first threads (turn ∷ before) → (q : ℕ) → turn.proc ≢ q → (other : Label) (others : List Label) →
      HasLabel (labels_of q before) other others → comes_after (labels_of turn.proc before) turn.label other ≡ false
  never_late ask_first turn before is_run q ne other others has = at_labels turn.label other refl has
    where
      not_both : (b c : Bool) → (b ≡ true → c ≡ false) → (b && c) ≡ false
      not_both b c f = grind (arith, cases_Bool b, f)

      at_labels : (one other : Label) → turn.label ≡ one → HasLabel (labels_of q before) other others → comes_after (labels_of turn.proc before) one other ≡ false
      at_labels (Label.Give given) (Label.Take taken mode version) is has =
          let s : PlainState S = after_run first threads before in
          let holds : is_some (s.held turn.proc given.0) ≡ true = gives_of setup s turn.proc _ _ given (rw is at is_run.1.is_label) in
          let newest : own_versions_of (labels_of turn.proc before) given.0 ≡ s.versions given.0 = (has_version setup first threads before is_run.0 given.0 turn.proc).current holds in
          let free : is_exclusive (s.held q given.0) ≡ false = grind (arith, exclusive_alone setup first threads before is_run.0 q turn.proc given.0 (λ e. ne (sym e))) in
          let made : version ≤ s.versions taken.0 = taken_made before is_run.0 q taken mode version others has in
          not_both (given.0 == taken.0) _ (λ same.
          let e : given.0 ≡ taken.0 = grind arith in
          lock_never (held_of (labels_of turn.proc before) given.0) (own_versions_of (labels_of turn.proc before) given.0) mode version (rw (newest, e) made)
          (λ excl. rw (newest, e) (taken_over ask_first before is_run.0 q taken version others (rw excl at has) (rw e at free))))
      at_labels (Label.Arrive reached) (Label.Cross bar epoch) is has =
          let come : epoch ≤ arrived_of (labels_of turn.proc before) bar.0 =
          rw (← own_arrived first threads before turn.proc)
          (omega (arith, crossed_reached before is_run.0 q bar epoch others has, all_came setup first threads before is_run.0 q turn.proc bar.0 is_run.1.is_processor)) in
          grind arith
      at_labels _ _ is has = refl

-- Another order: a turn is put last, and so turn by turn the others after it.
use Rattle.std.specs.Prelude.{◌≡◌, ◌≢◌, ℕ, ◌<◌, ◌≤◌, false, ◌==◌, if◌then◌else◌, List, [], ◌∷◌, ◌++◌, Option, Some}
use Rattle.std.proofs.Common.{arith, refl, sym, ap, ◌∙◌, ⊎_elim, append-nil}
use Rattle.std.proofs.lemmas.Bool.{cases_eq}
use Rattle.dsm_base.specs.declared.names.Lock.{Lock}
use Rattle.dsm_base.specs.declared.names.Bar.{Bar}
use Rattle.dsm_base.specs.declared.names.Mode.{Mode}
use Rattle.dsm_base.specs.declared.label.Label.{Label}
use Rattle.dsm_base.specs.declared.setup.Setup.{Setup}
use Rattle.dsm_base.specs.Threads.{Semantics}
use Rattle.dsm_base.specs.Plain.{Turn, IsPlainRun, IsPlainTurn, after_run, labels_of}
use Rattle.dsm_laws_runs.specs.OwnPart.{held_of, arrived_of}
use Rattle.dsm_laws_runs.specs.Versions.{AllAskFirst}
use Rattle.dsm_laws_runs.specs.Swap.{rests_on, IsRunLike}
use Rattle.dsm_laws_runs.proofs.Each.{for_each}
use Rattle.dsm_laws_runs.proofs.OwnPart.{labels_mine, labels_other}
use Rattle.dsm_laws_runs.proofs.Swap.{change_places}
use Rattle.dsm_laws_runs.proofs.Likeness.{like_itself, then_like, more_like}
use Rattle.dsm_laws_tails.specs.Shuffles.{HasLabel, AreIndependent, AreApart, IsShuffle, CanShuffle}
use Rattle.dsm_laws_tails.proofs.Places.{labels_join, has_before, has_turn, has_earlier}
use Rattle.dsm_laws_tails.proofs.Late.{comes_after, comes_free, rests_not, never_late}

-- The turns without the newest one of p.

abbrev without_newest : ℕ → List Turn → List Turn
without_newest p [] = []
without_newest p (turn ∷ before) = if turn.proc == p then before else turn ∷ without_newest p before

newest_mine : (p : ℕ) (turn : Turn) (before : List Turn) → turn.proc ≡ p → without_newest p (turn ∷ before) ≡ before
newest_mine p turn before e = grind arith

newest_other : (p : ℕ) (turn : Turn) (before : List Turn) → turn.proc ≢ p → without_newest p (turn ∷ before) ≡ turn ∷ without_newest p before
newest_other p turn before ne = grind arith

left_mine : (p : ℕ) (turns : List Turn) (label : Label) (older : List Label) → labels_of p turns ≡ label ∷ older → labels_of p (without_newest p turns) ≡ older
left_mine p [] label older e = absurd (cc e)
left_mine p (turn ∷ before) label older e = grind (arith, cases_eq turn.proc p, left_mine p before label older)

left_other : (p q : ℕ) (turns : List Turn) → p ≢ q → labels_of q (without_newest p turns) ≡ labels_of q turns
left_other p q [] ne = refl
left_other p q (turn ∷ before) ne = grind (arith, cases_eq turn.proc p, left_other p q before ne)

no_turns : (turns : List Turn) → ((p : ℕ) → labels_of p turns ≡ []) → turns ≡ []
no_turns [] none = refl
no_turns (turn ∷ before) none = absurd (cc (labels_mine turn.proc turn before refl, none turn.proc))

first_is : (turn : Turn) (before : List Turn) (p : ℕ) (label : Label) (older : List Label) → turn.proc ≡ p → labels_of p (turn ∷ before) ≡ label ∷ older →
    turn ≡ record { proc = p; label = label }
first_is turn before p label older e is = grind arith

module _ {S : Type 0} (setup : Setup) (first : ℕ → S) (threads : Semantics S) (ask_first : AllAskFirst setup first threads) (settled : List Turn) where
  -- p's newest turn put last
  module _ (p : ℕ) (label : Label) (older : List Label) where
    abbrev mine : Turn
    mine = record { proc = p; label = label }

    -- no turn of another can only come after it
    abbrev NoneComesAfter : List Turn → Type 0
    NoneComesAfter turns = (q : ℕ) → p ≢ q → (other : Label) (others : List Label) → HasLabel (labels_of q turns) other others → comes_after (older ++ labels_of p settled) label other ≡ false

    over_one : (turn : Turn) (before : List Turn) → turn.proc ≢ p → labels_of p before ≡ label ∷ older → IsPlainTurn setup threads (after_run first threads (before ++ settled)) turn →
        comes_after (older ++ labels_of p settled) label turn.label ≡ false → IsRunLike setup first threads (mine ∷ (without_newest p before ++ settled)) (before ++ settled) →
        IsRunLike setup first threads (mine ∷ turn ∷ (without_newest p before ++ settled)) (turn ∷ (before ++ settled))
    over_one turn before ne is is_turn free like =
        let rest : List Turn = without_newest p before ++ settled in
        let more : IsRunLike setup first threads (turn ∷ mine ∷ rest) (turn ∷ (before ++ settled)) = more_like setup first threads turn (mine ∷ rest) (before ++ settled) like is_turn in
        let labels : labels_of p rest ≡ older ++ labels_of p settled = labels_join p (without_newest p before) settled ∙ ap (λ own. own ++ labels_of p settled) (left_mine p before label older is) in
        then_like setup first threads (mine ∷ turn ∷ rest) (turn ∷ mine ∷ rest) (turn ∷ (before ++ settled))
        (change_places setup first threads rest mine turn (record { ask_first = ask_first; is_run = more.is_run; apart = λ e. ne (sym e) })
        (rests_not setup first threads rest mine turn more.is_run (rw labels free)))
        more

    put_last : (turns : List Turn) → labels_of p turns ≡ label ∷ older → IsPlainRun setup first threads (turns ++ settled) → NoneComesAfter turns →
        IsRunLike setup first threads (mine ∷ (without_newest p turns ++ settled)) (turns ++ settled)
    put_last [] is is_run free = absurd (cc is)
    put_last (turn ∷ before) is is_run free =
        ⊎_elim
        (λ e. rw (newest_mine p turn before e, ← (first_is turn before p label older e is)) (like_itself setup first threads (turn ∷ (before ++ settled)) is_run))
        (λ ne.
        let is' : labels_of p before ≡ label ∷ older = sym (labels_other p turn before ne) ∙ is in
        rw (newest_other p turn before ne)
        (over_one turn before ne is' is_run.1 (free turn.proc (λ e. ne (sym e)) turn.label (labels_of turn.proc before) (has_turn turn before))
        (put_last before is' is_run.0 (λ q apart other others has. free q apart other others (has_before turn before q other others has)))))
        (cases_eq turn.proc p)

  -- in these turns, put after the settled ones, none stands before another that can only come before it
  abbrev pub AreInOrder : List Turn → Type 0
  AreInOrder [] = Unit {0}
  AreInOrder (turn ∷ before) =
      AreInOrder before
      × (turn.proc < setup.procs → NoneComesAfter turn.proc turn.label (labels_of turn.proc before) before)

  is_processor : (turns : List Turn) → IsPlainRun setup first threads (turns ++ settled) → (p : ℕ) (label : Label) (older : List Label) → labels_of p turns ≡ label ∷ older → p < setup.procs
  is_processor [] is_run p label older e = absurd (cc e)
  is_processor (turn ∷ before) is_run p label older e =
      ⊎_elim
      (λ same. rw same at is_run.1.is_processor)
      (λ ne. is_processor before is_run.0 p label older (sym (labels_other p turn before ne) ∙ e))
      (cases_eq turn.proc p)

  -- the turns of a plain run in another order
  pub reordered : (others turns : List Turn) → ((p : ℕ) → labels_of p turns ≡ labels_of p others) → AreInOrder others → IsPlainRun setup first threads (turns ++ settled) →
      IsRunLike setup first threads (others ++ settled) (turns ++ settled)
  reordered [] turns same order is_run = rw (no_turns turns same) (like_itself setup first threads settled (rw (no_turns turns same) at is_run))
  reordered (turn ∷ before) turns same order is_run =
      let p : ℕ = turn.proc in
      let is : labels_of p turns ≡ turn.label ∷ labels_of p before = same p ∙ labels_mine p turn before refl in
      let last : IsRunLike setup first threads (turn ∷ (without_newest p turns ++ settled)) (turns ++ settled) =
      put_last p turn.label (labels_of p before) turns is is_run
      (λ q ne other others has. order.1 (is_processor turns is_run p turn.label (labels_of p before) is) q ne other others
      (record { newer = has.newer; is = sym (same q ∙ labels_other q turn before ne) ∙ has.is })) in
      let rest : (q : ℕ) → labels_of q (without_newest p turns) ≡ labels_of q before =
      λ q. for_each (λ q. labels_of q (without_newest p turns) ≡ labels_of q before) p q (left_mine p turns turn.label (labels_of p before) is)
      (λ ne. left_other p q turns ne ∙ same q ∙ labels_other q turn before ne) in
      then_like setup first threads (turn ∷ (before ++ settled)) (turn ∷ (without_newest p turns ++ settled)) (turns ++ settled)
      (more_like setup first threads turn (before ++ settled) (without_newest p turns ++ settled) (reordered before (without_newest p turns) rest order.0 last.is_run.0) last.is_run.1)
      last

  -- independent tails may come in any order
  all_in_order : (tails : ℕ → List Label) → AreIndependent setup settled tails → (others : List Turn) →
      ((p : ℕ) (label : Label) (older : List Label) → HasLabel (labels_of p others) label older → HasLabel (tails p) label older) → AreInOrder others
  all_in_order tails free [] has = tt
  all_in_order tails free (turn ∷ before) has = (
    all_in_order tails free before (λ p label older h. has p label older (has_before turn before p label older h)),
    λ lt q ne other others h. comes_free (labels_of turn.proc before ++ labels_of turn.proc settled) turn.label other
        (free turn.proc q lt ne turn.label other (labels_of turn.proc before) others
        (has turn.proc turn.label (labels_of turn.proc before) (has_turn turn before)) (has q other others (has_before turn before q other others h))),
  )

  pub shuffled : (tails : ℕ → List Label) (turns others : List Turn) → CanShuffle setup first threads settled tails turns → IsShuffle tails others → IsRunLike setup first threads (others ++ settled) (turns ++ settled)
  shuffled tails turns others can is_shuffle =
      reordered others turns (λ p. can.is_shuffle p ∙ sym (is_shuffle p)) (all_in_order tails can.independent others (λ p label older has. rw is_shuffle at has)) can.is_run

  -- a plain run is in order
  run_in_order : (others : List Turn) → IsPlainRun setup first threads (others ++ settled) → AreInOrder others
  run_in_order [] is_run = tt
  run_in_order (turn ∷ before) is_run = (
    run_in_order before is_run.0,
    λ lt q ne other others has. rw (← labels_join turn.proc before settled)
        (never_late setup first threads ask_first turn (before ++ settled) is_run q ne other (others ++ labels_of q settled)
        (rw (labels_join q before settled) (has_earlier (labels_of q before) (labels_of q settled) other others has))),
  )

-- two plain runs in which each processor makes the same turns leave the same
pub one_state : {S : Type 0} (setup : Setup) (first : ℕ → S) (threads : Semantics S) → AllAskFirst setup first threads → (run other : List Turn) → IsPlainRun setup first threads run →
    IsPlainRun setup first threads other → ((p : ℕ) → labels_of p run ≡ labels_of p other) → IsRunLike setup first threads other run
one_state setup first threads ask_first run other is_run other_run same =
    rw (append-nil run, append-nil other) at
    (reordered setup first threads ask_first [] other run same (run_in_order setup first threads ask_first [] other (rw (append-nil other) other_run)) (rw (append-nil run) is_run))

-- Tails that are apart are independent.

arrived_more : (more before : List Label) (bar : ℕ) → arrived_of before bar ≤ arrived_of (more ++ before) bar
arrived_more [] before bar = omega arith
arrived_more (label ∷ more) before bar = grind (arith, arrived_more more before bar)

lock_free : (held : ℕ → Option Mode) (arrived : ℕ → ℕ) (given taken : Lock) (mode : Mode) (version : ℕ) → (given.0 ≡ taken.0 → (held given.0 ≡ Some Mode.Shared) × (mode ≡ Mode.Shared)) →
    rests_on held arrived (Label.Give given) (Label.Take taken mode version) ≡ false
lock_free held arrived given taken mode version shared = grind (arith, cases_eq given.0 taken.0, shared)

bar_free : (held : ℕ → Option Mode) (arrived : ℕ → ℕ) (reached bar : Bar) (epoch : ℕ) → epoch ≤ arrived bar.0 → rests_on held arrived (Label.Arrive reached) (Label.Cross bar epoch) ≡ false
bar_free held arrived reached bar epoch le = grind arith

pub independent_of : (setup : Setup) (settled : List Turn) (tails : ℕ → List Label) → AreApart setup settled tails → AreIndependent setup settled tails
independent_of setup settled tails parted p q lt ne (Label.Give given) (Label.Take taken mode version) older others has_one has_other =
    lock_free (held_of (older ++ labels_of p settled)) (arrived_of (older ++ labels_of p settled)) given taken mode version (parted.locks p q lt ne given taken mode version older others has_one has_other)
independent_of setup settled tails parted p q lt ne (Label.Arrive reached) (Label.Cross bar epoch) older others has_one has_other =
    bar_free (held_of (older ++ labels_of p settled)) (arrived_of (older ++ labels_of p settled)) reached bar epoch
    (omega (arith, parted.bars p q lt ne bar epoch others has_other, arrived_more older (labels_of p settled) bar.0))
independent_of setup settled tails parted p q lt ne _ _ older others has_one has_other = refl

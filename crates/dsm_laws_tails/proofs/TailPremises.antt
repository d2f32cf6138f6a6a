-- Cases in which a law of tails would fail without one of its premises. Each computes the other premises, and what is
-- otherwise than the law says.
use Rattle.std.specs.Prelude.{◌≡◌, ◌≢◌, ℕ, ℤ, pos, ◌<◌, ◌≤◌, Bool, true, false, ◌==◌, if◌then◌else◌, List, [], ◌∷◌, ◌++◌, Some}
use Rattle.std.proofs.Common.{arith, refl, sym, ◌∙◌}
use Rattle.dsm_base.specs.declared.names.Lock.{Lock}
use Rattle.dsm_base.specs.declared.names.Bar.{Bar}
use Rattle.dsm_base.specs.declared.names.Mode.{Mode}
use Rattle.dsm_base.specs.declared.label.Label.{Label}
use Rattle.dsm_base.specs.declared.label.Want.{Want}
use Rattle.dsm_base.specs.declared.setup.Setup.{Setup}
use Rattle.dsm_base.specs.Family.{update}
use Rattle.dsm_base.specs.Plain.{Turn, IsPlainTurn, after_run, labels_of}
use Rattle.dsm_laws_runs.specs.Copies.{OwnTurn, HasCopies, AreAdequate, own_labels, memories_of}
use Rattle.dsm_laws_runs.specs.Newer.{is_newer}
use Rattle.dsm_laws_runs.specs.OwnPart.{held_of, arrived_of}
use Rattle.dsm_laws_runs.specs.Swap.{rests_on}
use Rattle.dsm_laws_runs.specs.Versions.{memory_at}
use Rattle.dsm_laws_runs.proofs.Each.{for_each}
use Rattle.dsm_laws_tails.specs.Fronts.{upto, past, turns_by, AreWith}
use Rattle.dsm_laws_tails.specs.Histories.{whole_of, IsHistory}
use Rattle.dsm_laws_tails.specs.Shuffles.{HasLabel, AreIndependent, IsShuffle}
use Rattle.dsm_laws_tails.proofs.Places.{has_newest, has_nothing}
use Rattle.dsm_laws_tails.proofs.Fronts.{labels_by, labels_by_other}
use Rattle.dsm_laws_tails.proofs.Worked.{threads, the_lock, the_bar, the_cell, of_lock, in_even_epochs, of_two, by, IsMade, IsNoRun, AllAsk}
use Rattle.dsm_laws_tails.proofs.Checks.{plain_run, are_independent, dependent, such_tail, none_past, others_are, zero_last, one_last, history, with_zero, with_one, copies}
use Rattle.dsm_laws_tails.proofs.Premises.{takes, come_and_cross, nothing, takes_twice, held_exclusively, held_by_zero, zeros, one_isnt_zero, quiet_each, quiet_copies, wrong_copies}

-- What a law would say of two tails, and what is otherwise.

-- in another order, or with one of both tails alone, there is no run; 0's turns are put last or lost, 1's are put first or settle
record NoRunInstead (first : ℕ → List Want) (settled : List Turn) (here there : List Label) : Type 0 where
  any_order : IsShuffle (of_two here there) (turns_by 0 here ++ turns_by 1 there) × IsNoRun of_lock first ((turns_by 0 here ++ turns_by 1 there) ++ settled)
  put_last : AreWith (of_two here there) 0 [] (of_two [] there) × IsNoRun of_lock first (turns_by 0 here ++ whole_of of_lock settled (of_two [] there))
  put_first : AreWith (of_two here there) 1 [] (of_two here []) × IsNoRun of_lock first (whole_of of_lock (turns_by 1 there ++ settled) (of_two here []))
  alone : IsNoRun of_lock first (turns_by 1 there ++ settled)
  settles : AreWith (of_two here there) 1 (past 9 there) (of_two here (past 9 there)) × IsNoRun of_lock first (whole_of of_lock (turns_by 1 (upto 9 there) ++ settled) (of_two here (past 9 there)))
  loses : AreWith (of_two here there) 0 (upto 0 here) (of_two (upto 0 here) there) × IsNoRun of_lock first (whole_of of_lock settled (of_two (upto 0 here) there))

abbrev at_one : (ℕ → List Want) → List Turn → ℤ
at_one first run = memory_at first threads run 0 1 0

abbrev newer_at_one : (ℕ → List Want) → List Turn → Bool
newer_at_one first run = is_newer (λ cell. cell) of_lock first threads run 0 0 1 0

-- a part of a history has made so many versions of the lock; at version 1 its cell has this value in the part and that in
-- the whole, and its line is newer than version 0, or isn't
record OtherInPart (first : ℕ → List Want) (part whole : List Turn) (made : ℕ) (value other : ℤ) (is was : Bool) : Type 0 where
  versions : (after_run first threads part).versions 0 ≡ made
  in_part : at_one first part ≡ value
  in_whole : at_one first whole ≡ other
  newer_in_part : newer_at_one first part ≡ is
  newer_in_whole : newer_at_one first whole ≡ was

abbrev HasNoOthers : (ℕ → List Label) → Type 0
HasNoOthers tails = (p : ℕ) → 2 ≤ p → tails p ≡ []

-- Tails that aren't independent: 0 gives the lock back, which it holds exclusively, and 1 takes it, stores and gives it back.

abbrev take_store_give : ℕ → List Want
take_store_give value = Want.Ask the_lock Mode.Excl 1 ∷ Want.Take the_lock Mode.Excl ∷ Want.Store the_cell (pos value) 1 ∷ Want.Give the_lock 1 ∷ []

abbrev take_give : List Want
take_give = Want.Ask the_lock Mode.Excl 1 ∷ Want.Take the_lock Mode.Excl ∷ Want.Give the_lock 1 ∷ []

abbrev one_after_another : ℕ → List Want
one_after_another = of_two take_give (take_store_give 7)

abbrev gave : List Label
gave = Label.Give the_lock ∷ []

abbrev took : List Label
took = Label.Take the_lock Mode.Excl 1 ∷ []

abbrev took_and_gave : List Label
took_and_gave = Label.Give the_lock ∷ Label.Store the_cell (pos 7) ∷ took

dependent_tails :
    AllAsk of_lock one_after_another
    × (AreIndependent of_lock held_by_zero (of_two gave took_and_gave) → ⊥)
    × HasNoOthers (of_two gave took_and_gave)
    × IsMade of_lock one_after_another (whole_of of_lock held_by_zero (of_two gave took_and_gave))
dependent_tails = (
  refl,
  dependent of_lock held_by_zero gave took_and_gave (Label.Give the_lock) (Label.Take the_lock Mode.Excl 1) [] [] (has_newest (Label.Give the_lock) [])
      (record { newer = Label.Give the_lock ∷ Label.Store the_cell (pos 7) ∷ []; is = refl }) refl refl,
  none_past gave took_and_gave,
  refl,
)

-- `any_order`, `one_tail` (`last`, `first`, `alone`), `history_goes_on` (`settles`, `loses`)
dependent_turns : NoRunInstead one_after_another held_by_zero gave took_and_gave
dependent_turns = record {
  any_order = (zero_last gave took_and_gave, refl);
  put_last = (with_zero gave took_and_gave [], refl);
  put_first = (with_one gave took_and_gave [], refl);
  alone = refl;
  settles = (with_one gave took_and_gave [], refl);
  loses = (with_zero gave took_and_gave [], refl);
}

-- `one_tail` (`versions`) and `newer_alike` (`alone`) with 1's tail alone, which makes version 1 of what 1 stored; the
-- same with 0's tail lost (`versions_left`, `left`)
dependent_versions :
    OtherInPart one_after_another (turns_by 1 took_and_gave ++ held_by_zero) (whole_of of_lock held_by_zero (of_two gave took_and_gave)) 1 (pos 7) (pos 0) true false
    × (whole_of of_lock held_by_zero (of_two (upto 0 gave) took_and_gave) ≡ turns_by 1 took_and_gave ++ held_by_zero)
dependent_versions = (record { versions = refl; in_part = refl; in_whole = refl; newer_in_part = refl; newer_in_whole = refl }, refl)

-- `copies_left`: the copies are as they should be, and with 0's tail lost there is no run
abbrev sevens : ℕ → ℤ
sevens = update zeros 0 (pos 7)

abbrev copies_of_zero : List OwnTurn
copies_of_zero =
    record { label = Label.Give the_lock; copy = zeros } ∷ record { label = Label.Take the_lock Mode.Excl 0; copy = zeros } ∷ record { label = Label.Ask the_lock Mode.Excl; copy = zeros } ∷ []

abbrev copies_of_one : List OwnTurn
copies_of_one =
    record { label = Label.Give the_lock; copy = sevens } ∷ record { label = Label.Store the_cell (pos 7); copy = sevens }
    ∷ record { label = Label.Take the_lock Mode.Excl 1; copy = zeros } ∷ record { label = Label.Ask the_lock Mode.Excl; copy = zeros } ∷ []

dependent_copies : let whole = whole_of of_lock held_by_zero (of_two gave took_and_gave) in
    HasCopies of_lock one_after_another threads whole 0 copies_of_zero
    × HasCopies of_lock one_after_another threads whole 1 copies_of_one
    × IsNoRun of_lock one_after_another (whole_of of_lock held_by_zero (of_two (upto 0 gave) took_and_gave))
dependent_copies = (
  copies of_lock one_after_another _ 0 copies_of_zero refl refl refl refl (((tt, λ cell. refl), record { inside = λ cell is. refl; outside = λ cell is. refl }), λ cell. refl),
  copies of_lock one_after_another _ 1 copies_of_one refl refl refl refl ((((tt, λ cell. refl), record { inside = λ cell is. refl; outside = λ cell is. refl }), λ cell. refl), λ cell. refl),
  refl,
)

-- `history_goes_on` (`goes_on`): 1's take after 0's give makes tails that aren't independent, and with 0's lost there is no run
take_that_depends :
    IsHistory of_lock one_after_another threads held_by_zero (of_two gave [])
    × AreWith (of_two gave []) 1 took (of_two gave took)
    × IsPlainTurn of_lock threads (after_run one_after_another threads (whole_of of_lock held_by_zero (of_two gave []))) (by 1 (Label.Take the_lock Mode.Excl 1))
    × (AreIndependent of_lock held_by_zero (of_two gave took) → ⊥)
    × IsNoRun of_lock one_after_another (whole_of of_lock held_by_zero (of_two (upto 0 gave) took))
take_that_depends = (
  history of_lock one_after_another held_by_zero gave [] refl refl refl refl refl,
  with_one gave [] took,
  (plain_run of_lock one_after_another (by 1 (Label.Take the_lock Mode.Excl 1) ∷ whole_of of_lock held_by_zero (of_two gave [])) refl).1,
  dependent of_lock held_by_zero gave took _ _ _ _ (has_newest (Label.Give the_lock) []) (has_newest (Label.Take the_lock Mode.Excl 1) []) refl refl,
  refl,
)

-- `independent`: what makes tails apart is said of their gives and takes, and of their crossings

abbrev ApartAtBars : Setup → List Turn → (ℕ → List Label) → Type 0
ApartAtBars setup settled tails =
    (p q : ℕ) → p < setup.procs → p ≢ q → (bar : Bar) (epoch : ℕ) (others : List Label) → HasLabel (tails q) (Label.Cross bar epoch) others → epoch ≤ arrived_of (labels_of p settled) bar.0

abbrev ApartAtLocks : Setup → List Turn → (ℕ → List Label) → Type 0
ApartAtLocks setup settled tails =
    (p q : ℕ) → p < setup.procs → p ≢ q → (given taken : Lock) (mode : Mode) (version : ℕ) (older others : List Label) → HasLabel (tails p) (Label.Give given) older →
    HasLabel (tails q) (Label.Take taken mode version) others → given.0 ≡ taken.0 → (held_of (older ++ labels_of p settled) given.0 ≡ Some Mode.Shared) × (mode ≡ Mode.Shared)

abbrev crosses_none : Label → Bool
crosses_none (Label.Cross bar epoch) = false
crosses_none _ = true

abbrev gives_none : Label → Bool
gives_none (Label.Give lock) = false
gives_none _ = true

apart_at_bars_alone : ApartAtBars of_lock held_by_zero (of_two gave took_and_gave) × (AreIndependent of_lock held_by_zero (of_two gave took_and_gave) → ⊥)
apart_at_bars_alone = (
  λ p q lt ne bar epoch others has. absurd (cc (such_tail crosses_none gave took_and_gave refl refl q (Label.Cross bar epoch) others has)),
  dependent_tails.1,
)

-- the take rests on the give where one of both holds is exclusive, and not where both are shared
abbrev rests_after : List Label → Label → Label → Bool
rests_after labels one other = rests_on (held_of labels) (arrived_of labels) one other

abbrev has_taken : Mode → List Label
has_taken mode = Label.Take the_lock mode 0 ∷ Label.Ask the_lock mode ∷ []

give_and_take :
    (rests_after (has_taken Mode.Excl) (Label.Give the_lock) (Label.Take the_lock Mode.Excl 1) ≡ true)
    × (rests_after (has_taken Mode.Excl) (Label.Give the_lock) (Label.Take the_lock Mode.Shared 1) ≡ true)
    × (rests_after (has_taken Mode.Shared) (Label.Give the_lock) (Label.Take the_lock Mode.Excl 0) ≡ true)
    × (rests_after (has_taken Mode.Shared) (Label.Give the_lock) (Label.Take the_lock Mode.Shared 0) ≡ false)
give_and_take = (refl, refl, refl, refl)

-- 0 comes to the barrier in its tail, and 1 crosses it in its own
abbrev came : List Label
came = Label.Arrive the_bar ∷ []

abbrev crossed : List Label
crossed = Label.Cross the_bar 1 ∷ []

abbrev one_came : List Turn
one_came = by 1 (Label.Arrive the_bar) ∷ []

apart_at_locks_alone :
    ApartAtLocks in_even_epochs one_came (of_two came crossed)
    × (AreIndependent in_even_epochs one_came (of_two came crossed) → ⊥)
    × IsMade in_even_epochs (of_two come_and_cross come_and_cross) (whole_of in_even_epochs one_came (of_two came crossed))
    × IsNoRun in_even_epochs (of_two come_and_cross come_and_cross) (whole_of in_even_epochs one_came (of_two (upto 0 came) crossed))
apart_at_locks_alone = (
  λ p q lt ne given taken mode version older others has. absurd (cc (such_tail gives_none came crossed refl refl p (Label.Give given) older has)),
  dependent in_even_epochs one_came came crossed _ _ _ _ (has_newest (Label.Arrive the_bar) []) (has_newest (Label.Cross the_bar 1) []) refl refl,
  refl,
  refl,
)

-- the crossing rests on the arrival for its epoch, and not on one for a later epoch
arrival_and_crossing :
    (rests_after [] (Label.Arrive the_bar) (Label.Cross the_bar 1) ≡ true)
    × (rests_after (Label.Cross the_bar 1 ∷ Label.Arrive the_bar ∷ []) (Label.Arrive the_bar) (Label.Cross the_bar 1) ≡ false)
arrival_and_crossing = (refl, refl)

-- Threads that don't ask first: 0 holds the lock exclusively and takes it shared, and so does 1.

abbrev took_shared : List Label
took_shared = Label.Take the_lock Mode.Shared 0 ∷ []

tails_without_asks :
    AreIndependent of_lock held_exclusively (of_two took_shared took_shared)
    × HasNoOthers (of_two took_shared took_shared)
    × IsMade of_lock takes_twice (whole_of of_lock held_exclusively (of_two took_shared took_shared))
tails_without_asks = (are_independent of_lock held_exclusively took_shared took_shared refl refl, none_past took_shared took_shared, refl)

-- `any_order`, `one_tail` (`last`, `first`, `alone`), `history_goes_on` (`settles`, `loses`)
turns_without_asks : NoRunInstead takes_twice held_exclusively took_shared took_shared
turns_without_asks = record {
  any_order = (zero_last took_shared took_shared, refl);
  put_last = (with_zero took_shared took_shared [], refl);
  put_first = (with_one took_shared took_shared [], refl);
  alone = refl;
  settles = (with_one took_shared took_shared [], refl);
  loses = (with_zero took_shared took_shared [], refl);
}

-- `one_state`: each stores under an exclusive hold, takes the lock shared once more and gives it back, which makes no
-- version; so each may be the first, and the memory has what the other stored
abbrev wants_so : ℕ → List Want
wants_so value =
    Want.Ask the_lock Mode.Excl 1 ∷ Want.Take the_lock Mode.Excl ∷ Want.Store the_cell (pos value) 1 ∷ Want.Take the_lock Mode.Shared
    ∷ Want.Give the_lock 1 ∷ []

abbrev stored_and_shared : ℕ → List Label
stored_and_shared value =
    Label.Give the_lock ∷ Label.Take the_lock Mode.Shared 0 ∷ Label.Store the_cell (pos value) ∷ Label.Take the_lock Mode.Excl 0 ∷ Label.Ask the_lock Mode.Excl ∷ []

-- 1's turns after 0's, and 0's after 1's
abbrev one_is_last : List Label → List Label → List Turn
one_is_last here there = turns_by 1 there ++ turns_by 0 here

abbrev zero_is_last : List Label → List Label → List Turn
zero_is_last here there = turns_by 0 here ++ turns_by 1 there

same_in_both : (here there : List Label) (p : ℕ) → labels_of p (one_is_last here there) ≡ labels_of p (zero_is_last here there)
same_in_both here there p = one_last here there p ∙ sym (zero_last here there p)

two_states : let first = of_two (wants_so 5) (wants_so 7) in
    IsMade of_lock first (one_is_last (stored_and_shared 5) (stored_and_shared 7))
    × IsMade of_lock first (zero_is_last (stored_and_shared 5) (stored_and_shared 7))
    × ((p : ℕ) → labels_of p (one_is_last (stored_and_shared 5) (stored_and_shared 7)) ≡ labels_of p (zero_is_last (stored_and_shared 5) (stored_and_shared 7)))
    × ((after_run first threads (one_is_last (stored_and_shared 5) (stored_and_shared 7))).memory 0 ≡ pos 7)
    × ((after_run first threads (zero_is_last (stored_and_shared 5) (stored_and_shared 7))).memory 0 ≡ pos 5)
two_states = (refl, refl, same_in_both (stored_and_shared 5) (stored_and_shared 7), refl, refl)

-- Turns that are no run.

-- `one_state`, `newer_alike` (`alike`): 0 stores 5, and 1 takes the lock after it; in the other order the labels don't fit
-- the versions, and version 1 has no store
abbrev zero_stored : List Label
zero_stored = Label.Give the_lock ∷ Label.Store the_cell (pos 5) ∷ Label.Take the_lock Mode.Excl 0 ∷ Label.Ask the_lock Mode.Excl ∷ []

abbrev one_gave : List Label
one_gave = Label.Give the_lock ∷ Label.Take the_lock Mode.Excl 1 ∷ Label.Ask the_lock Mode.Excl ∷ []

order_that_is_no_run : let first = of_two (take_store_give 5) take_give in
    AllAsk of_lock first
    × IsMade of_lock first (one_is_last zero_stored one_gave)
    × IsNoRun of_lock first (zero_is_last zero_stored one_gave)
    × ((p : ℕ) → labels_of p (one_is_last zero_stored one_gave) ≡ labels_of p (zero_is_last zero_stored one_gave))
    × OtherInPart first (one_is_last zero_stored one_gave) (zero_is_last zero_stored one_gave) 2 (pos 5) (pos 0) true false
order_that_is_no_run = (
  refl,
  refl,
  refl,
  same_in_both zero_stored one_gave,
  record { versions = refl; in_part = refl; in_whole = refl; newer_in_part = refl; newer_in_whole = refl },
)

-- and with other labels: one run has 0's store, the other has no turns
other_labels : let first = of_two (take_store_give 5) [] in
    AllAsk of_lock first
    × IsMade of_lock first (turns_by 0 zero_stored)
    × (labels_of 0 (turns_by 0 zero_stored) ≢ labels_of 0 [])
    × OtherInPart first (turns_by 0 zero_stored) [] 1 (pos 5) (pos 0) true false
other_labels = (
  refl,
  refl,
  others_are (labels_of 0 (turns_by 0 zero_stored)) [] refl,
  record { versions = refl; in_part = refl; in_whole = refl; newer_in_part = refl; newer_in_whole = refl },
)

-- tails of turns that nobody makes
abbrev one_quiet : List Label
one_quiet = Label.Quiet ∷ []

tails_of_nobody :
    AllAsk of_lock nothing
    × AreIndependent of_lock [] (of_two one_quiet one_quiet)
    × HasNoOthers (of_two one_quiet one_quiet)
    × IsNoRun of_lock nothing (whole_of of_lock [] (of_two one_quiet one_quiet))
tails_of_nobody = (refl, are_independent of_lock [] one_quiet one_quiet refl refl, none_past one_quiet one_quiet, refl)

-- `any_order`, `one_tail` (`last`, `first`, `alone`), `history_goes_on` (`settles`, `loses`)
runs_of_nobody : NoRunInstead nothing [] one_quiet one_quiet
runs_of_nobody = record {
  any_order = (zero_last one_quiet one_quiet, refl);
  put_last = (with_zero one_quiet one_quiet [], refl);
  put_first = (with_one one_quiet one_quiet [], refl);
  alone = refl;
  settles = (with_one one_quiet one_quiet [], refl);
  loses = (with_zero one_quiet one_quiet [], refl);
}

-- `history_goes_on` (`goes_on`): 1's turn fits, but 0's before it is nobody's
turn_after_nobodys : let first = of_two [] (Want.Quiet ∷ []) in
    AllAsk of_lock first
    × AreIndependent of_lock [] (of_two one_quiet one_quiet)
    × AreWith (of_two one_quiet []) 1 one_quiet (of_two one_quiet one_quiet)
    × IsPlainTurn of_lock threads (after_run first threads (whole_of of_lock [] (of_two one_quiet []))) (by 1 Label.Quiet)
    × IsNoRun of_lock first (whole_of of_lock [] (of_two one_quiet one_quiet))
turn_after_nobodys = (
  refl,
  are_independent of_lock [] one_quiet one_quiet refl refl,
  with_one one_quiet [] one_quiet,
  record { is_processor = omega arith; is_label = refl },
  refl,
)

-- `one_tail` (`versions`), `newer_alike` (`alone`), with 1's tail alone, and with 0's lost (`versions_left`, `left`): 0
-- stores without a hold, and 1 makes version 1 then
abbrev stored_by_nobody : List Label
stored_by_nobody = Label.Store the_cell (pos 5) ∷ []

abbrev first_gave : List Label
first_gave = Label.Give the_lock ∷ Label.Take the_lock Mode.Excl 0 ∷ Label.Ask the_lock Mode.Excl ∷ []

versions_of_nobody : let first = of_two [] take_give in
    AllAsk of_lock first
    × AreIndependent of_lock [] (of_two stored_by_nobody first_gave)
    × HasNoOthers (of_two stored_by_nobody first_gave)
    × IsNoRun of_lock first (whole_of of_lock [] (of_two stored_by_nobody first_gave))
    × OtherInPart first (turns_by 1 first_gave ++ []) (whole_of of_lock [] (of_two stored_by_nobody first_gave)) 1 (pos 0) (pos 5) false true
    × (whole_of of_lock [] (of_two (upto 0 stored_by_nobody) first_gave) ≡ turns_by 1 first_gave ++ [])
versions_of_nobody = (
  refl,
  are_independent of_lock [] stored_by_nobody first_gave refl refl,
  none_past stored_by_nobody first_gave,
  refl,
  record { versions = refl; in_part = refl; in_whole = refl; newer_in_part = refl; newer_in_whole = refl },
  refl,
)

-- Tails past the setup: 17 of two processors takes the lock, stores and gives it back, and the whole doesn't have it.

abbrev of_seventeen : ℕ → List Label
of_seventeen p = if p == 17 then zero_stored else []

abbrev of_none : ℕ → List Label
of_none = of_two [] []

seventeen_alone : IsShuffle of_seventeen (turns_by 17 zero_stored)
seventeen_alone p = for_each (λ p. labels_of p (turns_by 17 zero_stored) ≡ of_seventeen p) 17 p (labels_by 17 zero_stored) (λ ne. labels_by_other 17 p zero_stored ne ∙ less p ne)
  where
    less : (p : ℕ) → 17 ≢ p → [] ≡ of_seventeen p
    less p ne = grind arith

tail_past_the_setup :
    AllAsk of_lock nothing
    × AreIndependent of_lock [] of_seventeen
    × IsMade of_lock nothing (whole_of of_lock [] of_seventeen)
    × AreWith of_seventeen 17 (past 9 zero_stored) of_none
tail_past_the_setup = (
  refl,
  λ p q lt ne one other older others has. absurd (has_nothing one older (rw (empty p lt) at has)),
  refl,
  record { own = refl; same = λ q ne. same q ne },
)
  where
    empty : (p : ℕ) → p < 2 → of_seventeen p ≡ []
    empty p lt = grind arith

    same : (q : ℕ) → 17 ≢ q → of_none q ≡ of_seventeen q
    same q ne = grind arith

-- `any_order` (`whole`), `one_tail` (`last`, `first`, `alone`), `history_goes_on` (`settles`, `course`)
turns_past_the_setup :
    IsNoRun of_lock nothing (turns_by 17 zero_stored ++ [])
    × IsNoRun of_lock nothing (turns_by 17 zero_stored ++ whole_of of_lock [] of_none)
    × IsNoRun of_lock nothing (whole_of of_lock (turns_by 17 zero_stored ++ []) of_none)
    × IsNoRun of_lock nothing (whole_of of_lock (turns_by 17 (upto 9 zero_stored) ++ []) of_none)
    × (labels_of 17 (whole_of of_lock [] of_seventeen) ≡ [])
turns_past_the_setup = (refl, refl, refl, refl, refl)

-- `one_tail` (`versions`), `newer_alike` (`alone`)
versions_past_the_setup : OtherInPart nothing (turns_by 17 zero_stored ++ []) (whole_of of_lock [] of_seventeen) 1 (pos 5) (pos 0) true false
versions_past_the_setup = record { versions = refl; in_part = refl; in_whole = refl; newer_in_part = refl; newer_in_whole = refl }

-- Tails of which another is replaced, or not as it should be: both processors have a quiet turn.

abbrev both : ℕ → List Label
both = of_two one_quiet one_quiet

abbrev two_quiet : List Label
two_quiet = Label.Quiet ∷ Label.Quiet ∷ []

quiet_tails : IsHistory of_lock quiet_each threads [] both × IsHistory of_lock quiet_each threads [] of_none
quiet_tails = (history of_lock quiet_each [] one_quiet one_quiet refl refl refl refl refl, history of_lock quiet_each [] [] [] refl refl refl refl refl)

-- the tail of 0 isn't what it should be, and all others are the same (the histories are those of `quiet_tails`): it has
-- its turn still where that is put last or first, or settles (`one_tail`; `settles`), has one where none is left
-- (`loses`),
-- or none where it gets one (`goes_on`)
own_tail_kept :
    ((q : ℕ) → 0 ≢ q → of_two two_quiet one_quiet q ≡ both q)
    × IsMade of_lock quiet_each (by 0 Label.Quiet ∷ whole_of of_lock [] of_none)
    × IsNoRun of_lock quiet_each (turns_by 0 one_quiet ++ whole_of of_lock [] both)
    × IsNoRun of_lock quiet_each (whole_of of_lock (turns_by 0 one_quiet ++ []) both)
    × IsNoRun of_lock quiet_each (whole_of of_lock (turns_by 0 (upto 9 one_quiet) ++ []) both)
    × IsNoRun of_lock quiet_each (whole_of of_lock [] (of_two two_quiet one_quiet))
    × (labels_of 0 (whole_of of_lock [] of_none) ≢ labels_of 0 (by 0 Label.Quiet ∷ whole_of of_lock [] of_none))
own_tail_kept = (
  (with_zero one_quiet one_quiet two_quiet).same,
  refl,
  refl,
  refl,
  refl,
  refl,
  others_are (labels_of 0 (whole_of of_lock [] of_none)) (labels_of 0 (by 0 Label.Quiet ∷ whole_of of_lock [] of_none)) refl,
)

-- the tail of 0 is what it should be, and that of 1 isn't what it was: it has no turn (`one_tail`; `settles`), one too
-- many (`loses`), or one from nowhere (`goes_on`)
other_tail_changed :
    (of_none 0 ≡ past 9 one_quiet)
    × (of_two [] two_quiet 0 ≡ upto 0 one_quiet)
    × (both 0 ≡ Label.Quiet ∷ of_none 0)
    × (labels_of 1 (turns_by 0 one_quiet ++ whole_of of_lock [] of_none) ≢ labels_of 1 (whole_of of_lock [] both))
    × (labels_of 1 (whole_of of_lock (turns_by 0 one_quiet ++ []) of_none) ≢ labels_of 1 (whole_of of_lock [] both))
    × (labels_of 1 (whole_of of_lock (turns_by 0 (upto 9 one_quiet) ++ []) of_none) ≢ labels_of 1 (whole_of of_lock [] both))
    × IsNoRun of_lock quiet_each (whole_of of_lock [] (of_two [] two_quiet))
    × (labels_of 1 (whole_of of_lock [] both) ≢ labels_of 1 (by 0 Label.Quiet ∷ whole_of of_lock [] of_none))
other_tail_changed = (
  refl,
  refl,
  refl,
  others_are (labels_of 1 (turns_by 0 one_quiet ++ whole_of of_lock [] of_none)) (labels_of 1 (whole_of of_lock [] both)) refl,
  others_are (labels_of 1 (whole_of of_lock (turns_by 0 one_quiet ++ []) of_none)) (labels_of 1 (whole_of of_lock [] both)) refl,
  others_are (labels_of 1 (whole_of of_lock (turns_by 0 (upto 9 one_quiet) ++ []) of_none)) (labels_of 1 (whole_of of_lock [] both)) refl,
  refl,
  others_are (labels_of 1 (whole_of of_lock [] both)) (labels_of 1 (by 0 Label.Quiet ∷ whole_of of_lock [] of_none)) refl,
)

-- `copies_left`: the copies of both are as they should be, and what is said to be left is no run, as 0's tail or 1's has a turn too many
copies_of_other_tails :
    ((q : ℕ) → 0 ≢ q → of_two two_quiet one_quiet q ≡ both q)
    × (of_two [] two_quiet 0 ≡ upto 0 one_quiet)
    × HasCopies of_lock quiet_each threads (whole_of of_lock [] both) 0 quiet_copies
    × HasCopies of_lock quiet_each threads (whole_of of_lock [] both) 1 quiet_copies
    × IsNoRun of_lock quiet_each (whole_of of_lock [] (of_two two_quiet one_quiet))
    × IsNoRun of_lock quiet_each (whole_of of_lock [] (of_two [] two_quiet))
copies_of_other_tails = (
  (with_zero one_quiet one_quiet two_quiet).same,
  refl,
  copies of_lock quiet_each _ 0 quiet_copies refl refl refl refl (tt, λ cell. refl),
  copies of_lock quiet_each _ 1 quiet_copies refl refl refl refl (tt, λ cell. refl),
  refl,
  refl,
)

-- `history_goes_on` (`versions_left`), `newer_alike` (`left`): nothing is lost, but what is said to be left has a store
-- and a version of 0, as its own tail or as another's than 1's
abbrev makes_a_version : ℕ → List Want
makes_a_version = of_two (take_store_give 5) (Want.Quiet ∷ [])

abbrev taken : List Turn
taken = by 0 (Label.Take the_lock Mode.Excl 0) ∷ by 0 (Label.Ask the_lock Mode.Excl) ∷ []

abbrev store_and_gave : List Label
store_and_gave = Label.Give the_lock ∷ Label.Store the_cell (pos 5) ∷ []

versions_of_other_tails :
    IsHistory of_lock makes_a_version threads taken of_none
    × ((q : ℕ) → 0 ≢ q → of_two store_and_gave [] q ≡ of_none q)
    × (of_two store_and_gave [] 1 ≡ upto 0 (of_none 1))
    × OtherInPart makes_a_version (whole_of of_lock taken (of_two store_and_gave [])) (whole_of of_lock taken of_none) 1 (pos 5) (pos 0) true false
versions_of_other_tails = (
  history of_lock makes_a_version taken [] [] refl refl refl refl refl,
  (with_zero [] [] store_and_gave).same,
  refl,
  record { versions = refl; in_part = refl; in_whole = refl; newer_in_part = refl; newer_in_whole = refl },
)

-- A version that isn't made in what is left: 0's tail stores and makes it, and with 1's tail alone (`one_tail`:
-- `versions`; `newer_alike`: `alone`), or with 0's lost (`versions_left`, `left`), there is none.
version_of_another_tail :
    IsHistory of_lock makes_a_version threads taken (of_two store_and_gave one_quiet)
    × AreWith (of_two store_and_gave one_quiet) 0 (upto 0 store_and_gave) (of_two [] one_quiet)
    × OtherInPart makes_a_version (turns_by 1 one_quiet ++ taken) (whole_of of_lock taken (of_two store_and_gave one_quiet)) 0 (pos 0) (pos 5) false true
    × (whole_of of_lock taken (of_two [] one_quiet) ≡ turns_by 1 one_quiet ++ taken)
version_of_another_tail = (
  history of_lock makes_a_version taken store_and_gave one_quiet refl refl refl refl refl,
  with_zero store_and_gave one_quiet [],
  record { versions = refl; in_part = refl; in_whole = refl; newer_in_part = refl; newer_in_whole = refl },
  refl,
)

-- Orders that aren't the tails' (`any_order`).

-- the order that is a run has a turn that isn't in the tails, so it leaves other labels than one that has none (`tails`, `history`)
run_of_other_tails :
    AreIndependent of_lock [] of_none
    × IsMade of_lock quiet_each (turns_by 0 one_quiet ++ [])
    × IsShuffle of_none []
    × (labels_of 0 ([] ++ []) ≢ labels_of 0 (turns_by 0 one_quiet ++ []))
    × (labels_of 0 (whole_of of_lock [] of_none) ≢ labels_of 0 (turns_by 0 one_quiet ++ []))
run_of_other_tails = (
  are_independent of_lock [] [] [] refl refl,
  refl,
  zero_last [] [],
  others_are (labels_of 0 []) (labels_of 0 (turns_by 0 one_quiet ++ [])) refl,
  others_are (labels_of 0 (whole_of of_lock [] of_none)) (labels_of 0 (turns_by 0 one_quiet ++ [])) refl,
)

-- the other order lacks a turn of the tails (`tails`, `whole`), or has it before an older one: 0 can't take before its ask
abbrev asked_and_took : List Label
asked_and_took = Label.Take the_lock Mode.Excl 0 ∷ Label.Ask the_lock Mode.Excl ∷ []

order_of_other_tails :
    IsShuffle both (turns_by 0 one_quiet ++ turns_by 1 one_quiet)
    × (labels_of 0 ([] ++ []) ≢ labels_of 0 (whole_of of_lock [] both))
    × IsHistory of_lock (of_two (takes Mode.Excl) []) threads [] (of_two asked_and_took [])
    × IsNoRun of_lock (of_two (takes Mode.Excl) []) (by 0 (Label.Ask the_lock Mode.Excl) ∷ by 0 (Label.Take the_lock Mode.Excl 0) ∷ [])
order_of_other_tails = (
  zero_last one_quiet one_quiet,
  others_are (labels_of 0 []) (labels_of 0 (whole_of of_lock [] both)) refl,
  history of_lock _ [] asked_and_took [] refl refl refl refl refl,
  refl,
)

-- A turn that its processor doesn't make (`history_goes_on`: `goes_on`): 0 has something quiet to do and doesn't end, and
-- 17 is none of two processors.

label_of_nobody :
    AreWith of_none 0 (Label.End ∷ []) (of_two (Label.End ∷ []) [])
    × AreIndependent of_lock [] (of_two (Label.End ∷ []) [])
    × IsNoRun of_lock quiet_each (whole_of of_lock [] (of_two (Label.End ∷ []) []))
    × IsNoRun of_lock quiet_each (by 0 Label.End ∷ whole_of of_lock [] of_none)
    × IsNoRun of_lock (λ p. Want.Quiet ∷ []) (by 17 Label.Quiet ∷ [])
label_of_nobody = (
  with_zero [] [] (Label.End ∷ []),
  are_independent of_lock [] (Label.End ∷ []) [] refl refl,
  refl,
  refl,
  refl,
)

-- Copies (`copies_left`) of 0, whose quiet turn is lost.

-- they have a turn that isn't left: those of the one that loses it (`others`), or with no turn taken away (`own`)
copy_of_a_lost_turn :
    IsHistory of_lock quiet_each threads [] (of_two one_quiet [])
    × AreWith (of_two one_quiet []) 0 (upto 0 one_quiet) of_none
    × HasCopies of_lock quiet_each threads (whole_of of_lock [] (of_two one_quiet [])) 0 quiet_copies
    × (labels_of 0 (whole_of of_lock [] of_none) ≢ own_labels quiet_copies)
copy_of_a_lost_turn = (
  history of_lock quiet_each [] one_quiet [] refl refl refl refl refl,
  with_zero one_quiet [] [],
  copies of_lock quiet_each _ 0 quiet_copies refl refl refl refl (tt, λ cell. refl),
  others_are (labels_of 0 (whole_of of_lock [] of_none)) (own_labels quiet_copies) refl,
)

-- copies that weren't as they should be: 1's cell changes by its quiet turn, and so it is where 0's tail is lost
-- (`others`), or where nothing is lost (`own`)
wrong_copies_stay :
    IsHistory of_lock quiet_each threads [] both
    × AreWith both 0 (upto 0 one_quiet) (of_two [] one_quiet)
    × AreWith both 1 (upto 1 one_quiet) both
    × (labels_of 1 (whole_of of_lock [] both) ≡ own_labels wrong_copies)
    × (AreAdequate of_lock (memories_of of_lock quiet_each threads (whole_of of_lock [] (of_two [] one_quiet))) 1 wrong_copies → ⊥)
    × (AreAdequate of_lock (memories_of of_lock quiet_each threads (whole_of of_lock [] both)) 1 wrong_copies → ⊥)
wrong_copies_stay = (
  quiet_tails.0,
  with_zero one_quiet one_quiet [],
  with_one one_quiet one_quiet one_quiet,
  refl,
  λ are. one_isnt_zero (are.1 0),
  λ are. one_isnt_zero (are.1 0),
)

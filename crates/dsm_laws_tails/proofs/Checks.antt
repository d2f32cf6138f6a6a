-- What follows from what is computed of worked runs: the premises of the laws, and that a list is no run.
use Rattle.std.specs.Prelude.{◌≡◌, ◌≢◌, ℕ, ℤ, zero, suc, ◌<◌, ◌≤◌, Bool, true, false, ◌&&◌, ◌==◌, nat_lt, if◌then◌else◌, List, [], ◌∷◌, ◌++◌, length, Option, Some, None}
use Rattle.std.specs.List.{list_all}
use Rattle.std.proofs.Common.{arith, refl, sym, ◌∙◌, ⊎_elim, append-nil}
use Rattle.dsm_base.specs.declared.names.Lock.{Lock}
use Rattle.dsm_base.specs.declared.names.Bar.{Bar}
use Rattle.dsm_base.specs.declared.names.Mode.{Mode}
use Rattle.dsm_base.specs.declared.label.Label.{Label}
use Rattle.dsm_base.specs.declared.label.Want.{Want}
use Rattle.dsm_base.specs.declared.setup.Setup.{Setup}
use Rattle.dsm_base.specs.Threads.{AsksFirst, Completes, state_after}
use Rattle.dsm_base.specs.Plain.{Turn, IsPlainRun, after_run, plain_turn, labels_of}
use Rattle.dsm_base.proofs.Families.{all_at}
use Rattle.dsm_laws_runs.specs.Copies.{OwnTurn, HasCopies, AreAdequate, own_labels, memories_of}
use Rattle.dsm_laws_runs.specs.OwnPart.{held_of, arrived_of}
use Rattle.dsm_laws_runs.specs.Versions.{AllAskFirst}
use Rattle.dsm_laws_runs.specs.Swap.{rests_on}
use Rattle.dsm_laws_tails.specs.Shuffles.{HasLabel, AreIndependent, IsShuffle}
use Rattle.dsm_laws_tails.specs.Fronts.{turns_by, AreWith}
use Rattle.dsm_laws_tails.specs.Histories.{whole_of, IsHistory}
use Rattle.dsm_laws_tails.proofs.Places.{has_nothing, newest_or_older, labels_join}
use Rattle.dsm_laws_tails.proofs.Fronts.{labels_by, labels_by_other}
use Rattle.dsm_laws_tails.proofs.Worked.{next_want, after_label, threads, of_two, IsMade, IsNoRun, are_alike, may_be, may_be_made, may_follow, are_in_order, ask_first, all_ask, rests_none, are_free}

-- Of each number where there are two processors.

pub for_two : (P : ℕ → Type 0) → P 0 → P 1 → ((p : ℕ) → 2 ≤ p → P p) → (p : ℕ) → P p
for_two P is_zero is_one others zero = is_zero
for_two P is_zero is_one others (suc zero) = is_one
for_two P is_zero is_one others (suc (suc p)) = others (suc (suc p)) (omega arith)

pub none_past : {A : Type 0} (here there : List A) (p : ℕ) → 2 ≤ p → of_two here there p ≡ []
none_past here there p past = grind arith

-- Runs.

made_one : (shows : Option Label) (label : Label) (p procs : ℕ) → (if nat_lt p procs then shows else None) ≡ Some label → (p < procs) × (shows ≡ Some label)
made_one shows label p procs e = grind arith

newest_shown : (one other : Option Label) (ones others : List (Option Label)) → one ∷ ones ≡ other ∷ others → (one ≡ other) × (ones ≡ others)
newest_shown one other ones others e = (cc, cc)

pub plain_run : (setup : Setup) (first : ℕ → List Want) (run : List Turn) → IsMade setup first run → IsPlainRun setup first threads run
plain_run setup first [] e = tt
plain_run setup first (turn ∷ before) e =
    let parts = newest_shown _ _ _ _ e in
    let is = made_one (plain_turn setup threads (after_run first threads before) turn.proc) turn.label turn.proc setup.procs parts.0 in
    (plain_run setup first before parts.1, record { is_processor = is.0; is_label = is.1 })

alike_itself : (label : Label) → are_alike label label ≡ true
alike_itself Label.Quiet = refl
alike_itself (Label.Load cell value) = grind arith
alike_itself (Label.Store cell value) = grind arith
alike_itself (Label.Ask lock mode) = grind arith
alike_itself (Label.Take lock mode version) = grind arith
alike_itself (Label.Give lock) = grind arith
alike_itself (Label.Arrive bar) = grind arith
alike_itself (Label.Cross bar epoch) = grind arith
alike_itself (Label.Line text) = refl
alike_itself Label.End = refl
alike_itself (Label.Stop fault line) = grind arith

may_one : (shows : Option Label) (label : Label) (p procs : ℕ) (others : Bool) → p < procs → shows ≡ Some label → others ≡ true →
    (may_be label (if nat_lt p procs then shows else None) && others) ≡ true
may_one shows label p procs others lt e more = rw e (grind (arith, alike_itself label))

may_run : (setup : Setup) (first : ℕ → List Want) (run : List Turn) → IsPlainRun setup first threads run → may_be_made setup first run ≡ true
may_run setup first [] is_run = refl
may_run setup first (turn ∷ before) is_run =
    may_one (plain_turn setup threads (after_run first threads before) turn.proc) turn.label turn.proc setup.procs (may_be_made setup first before)
    is_run.1.is_processor is_run.1.is_label (may_run setup first before is_run.0)

-- where some processor makes another turn, or none, there is no run
pub no_run : (setup : Setup) (first : ℕ → List Want) (run : List Turn) → IsNoRun setup first run → IsPlainRun setup first threads run → ⊥
no_run setup first run none is_run = cc (none, may_run setup first run is_run)

-- lists of other lengths are others
pub others_are : {A : Type 0} (xs ys : List A) → (length xs == length ys) ≡ false → xs ≢ ys
others_are xs ys e same = grind (arith, same)

-- Threads that ask first.

and_right : (b c : Bool) → (b && c) ≡ true → c ≡ true
and_right b c e = grind arith

order_after : (state : List Want) (label : Label) → are_in_order state ≡ true → are_in_order (after_label state label) ≡ true
order_after [] (Label.Stop fault line) e = refl
order_after [] Label.End e = refl
order_after [] _ e = refl
order_after (want ∷ others) (Label.Stop fault line) e = refl
order_after (want ∷ others) Label.End e = refl
order_after (want ∷ others) _ e = and_right (may_follow want (next_want others)) (are_in_order others) e

order_in : (first : List Want) → are_in_order first ≡ true → (labels : List Label) → are_in_order (state_after threads first labels) ≡ true
order_in first e [] = e
order_in first e (label ∷ before) = order_after (state_after threads first before) label (order_in first e before)

module _ (state : List Want) (order : are_in_order state ≡ true) where
  takes : (lock : Lock) (mode : Mode) (line : ℕ) → next_want state ≡ Want.Ask lock mode line → next_want (after_label state (Label.Ask lock mode)) ≡ Want.Take lock mode
  takes lock mode line e = grind arith

  crosses : (bar : Bar) → next_want state ≡ Want.Arrive bar → next_want (after_label state (Label.Arrive bar)) ≡ Want.Cross bar
  crosses bar e = grind arith

  took : (answer : ℤ) (label : Label) (lock : Lock) (mode : Mode) → Completes (next_want state) answer label → next_want (after_label state label) ≡ Want.Take lock mode → label ≡ Label.Ask lock mode
  took answer label lock mode done e = grind arith

  crossed : (answer : ℤ) (label : Label) (bar : Bar) → Completes (next_want state) answer label → next_want (after_label state label) ≡ Want.Cross bar → label ≡ Label.Arrive bar
  crossed answer label bar done e = grind arith

asks_first : (wants : List Want) → ask_first wants ≡ true → AsksFirst threads wants
asks_first wants e =
    let order : are_in_order wants ≡ true = grind arith in
    record {
      no_take = λ lock mode is. grind arith;
      no_cross = λ bar is. grind arith;
      takes = λ labels. takes (state_after threads wants labels) (order_in wants order labels);
      crosses = λ labels. crosses (state_after threads wants labels) (order_in wants order labels);
      took = λ labels. took (state_after threads wants labels) (order_in wants order labels);
      crossed = λ labels. crossed (state_after threads wants labels) (order_in wants order labels);
      stops = λ labels fault line. refl;
      ends = λ labels. refl;
    }

pub all_ask_first : (setup : Setup) (first : ℕ → List Want) → all_ask setup first ≡ true → AllAskFirst setup first threads
all_ask_first setup first e = record { asks = λ p lt. asks_first (first p) (all_at setup.procs (λ p. ask_first (first p)) p lt e) }

-- Independent tails.

rests_none_of : (labels : List Label) (one : Label) (tail : List Label) → rests_none labels one tail ≡ true → (other : Label) (others : List Label) → HasLabel tail other others →
    rests_on (held_of labels) (arrived_of labels) one other ≡ false
rests_none_of labels one [] e other others has = absurd (has_nothing other others has)
rests_none_of labels one (newest ∷ tail) e other others has =
    ⊎_elim (λ is. rw is.0 (grind arith)) (λ was. rests_none_of labels one tail (grind arith) other others was) (newest_or_older newest tail other others has)

free_of : (own tail theirs : List Label) → are_free own tail theirs ≡ true → (one : Label) (older : List Label) → HasLabel tail one older → (other : Label) (others : List Label) → HasLabel theirs other others →
    rests_on (held_of (older ++ own)) (arrived_of (older ++ own)) one other ≡ false
free_of own [] theirs e one older has other others theirs_has = absurd (has_nothing one older has)
free_of own (newest ∷ tail) theirs e one older has other others theirs_has =
    ⊎_elim (λ is. rw (is.0, is.1) (rests_none_of (tail ++ own) newest theirs (grind arith) other others theirs_has))
    (λ was. free_of own tail theirs (grind arith) one older was other others theirs_has)
    (newest_or_older newest tail one older has)

abbrev Rests : List Turn → Label → Label → List Label → ℕ → Type 0
Rests settled label other older p = rests_on (held_of (older ++ labels_of p settled)) (arrived_of (older ++ labels_of p settled)) label other ≡ false

pub are_independent : (setup : Setup) (settled : List Turn) (here there : List Label) → are_free (labels_of 0 settled) here there ≡ true → are_free (labels_of 1 settled) there here ≡ true →
    AreIndependent setup settled (of_two here there)
are_independent setup settled here there free back p q lt ne label other older others has_one has_other =
    for_two (λ p. p ≢ q → HasLabel (of_two here there p) label older → Rests settled label other older p)
    (λ ne has. for_two (λ q. 0 ≢ q → HasLabel (of_two here there q) other others → Rests settled label other older 0) (λ same. absurd (same refl)) (λ ne theirs. free_of (labels_of 0 settled) here there free label older has other others theirs)
    (λ q past ne theirs. absurd (has_nothing other others (rw (none_past here there q past) at theirs))) q ne has_other)
    (λ ne has. for_two (λ q. 1 ≢ q → HasLabel (of_two here there q) other others → Rests settled label other older 1) (λ ne theirs. free_of (labels_of 1 settled) there here back label older has other others theirs) (λ same. absurd (same refl))
    (λ q past ne theirs. absurd (has_nothing other others (rw (none_past here there q past) at theirs))) q ne has_other)
    (λ p past ne has. absurd (has_nothing label older (rw (none_past here there p past) at has))) p ne has_one

-- tails of which one has a label that rests on one of the other's aren't independent
pub dependent : (setup : Setup) (settled : List Turn) (here there : List Label) (label other : Label) (older others : List Label) → HasLabel here label older → HasLabel there other others →
    nat_lt 0 setup.procs ≡ true → rests_on (held_of (older ++ labels_of 0 settled)) (arrived_of (older ++ labels_of 0 settled)) label other ≡ true → AreIndependent setup settled (of_two here there) → ⊥
dependent setup settled here there label other older others has theirs lt rests free = cc (rests, free 0 1 (grind arith) (λ e. cc e) label other older others has theirs)

-- a test that holds of each label of a list
pub has_such : (test : Label → Bool) (labels : List Label) → list_all test labels ≡ true → (label : Label) (older : List Label) → HasLabel labels label older → test label ≡ true
has_such test [] e label older has = absurd (has_nothing label older has)
has_such test (newest ∷ labels) e label older has =
    ⊎_elim (λ is. rw is.0 (grind arith)) (λ was. has_such test labels (grind arith) label older was) (newest_or_older newest labels label older has)

-- and so of each of two tails
pub such_tail : (test : Label → Bool) (here there : List Label) → list_all test here ≡ true → list_all test there ≡ true → (p : ℕ) (label : Label) (older : List Label) →
    HasLabel (of_two here there p) label older → test label ≡ true
such_tail test here there of_here of_there p label older =
    for_two (λ p. HasLabel (of_two here there p) label older → test label ≡ true) (has_such test here of_here label older) (has_such test there of_there label older)
    (λ p past has. absurd (has_nothing label older (rw (none_past here there p past) at has))) p

-- Two tails in both orders.

pub one_last : (here there : List Label) → IsShuffle (of_two here there) (turns_by 1 there ++ turns_by 0 here)
one_last here there p =
    labels_join p (turns_by 1 there) (turns_by 0 here)
    ∙ for_two (λ p. labels_of p (turns_by 1 there) ++ labels_of p (turns_by 0 here) ≡ of_two here there p)
    (rw (labels_by_other 1 0 there (λ e. cc e), labels_by 0 here) refl)
    (rw (labels_by 1 there, labels_by_other 0 1 here (λ e. cc e)) (append-nil there))
    (λ p past. rw (labels_by_other 1 p there (λ e. omega arith), labels_by_other 0 p here (λ e. omega arith)) (sym (none_past here there p past)))
    p

pub zero_last : (here there : List Label) → IsShuffle (of_two here there) (turns_by 0 here ++ turns_by 1 there)
zero_last here there p =
    labels_join p (turns_by 0 here) (turns_by 1 there)
    ∙ for_two (λ p. labels_of p (turns_by 0 here) ++ labels_of p (turns_by 1 there) ≡ of_two here there p)
    (rw (labels_by 0 here, labels_by_other 1 0 there (λ e. cc e)) (append-nil here))
    (rw (labels_by_other 0 1 here (λ e. cc e), labels_by 1 there) refl)
    (λ p past. rw (labels_by_other 0 p here (λ e. omega arith), labels_by_other 1 p there (λ e. omega arith)) (sym (none_past here there p past)))
    p

-- a history of two tails
pub history : (setup : Setup) (first : ℕ → List Want) (settled : List Turn) (here there : List Label) → setup.procs ≡ 2 → all_ask setup first ≡ true → are_free (labels_of 0 settled) here there ≡ true →
    are_free (labels_of 1 settled) there here ≡ true → IsMade setup first (whole_of setup settled (of_two here there)) → IsHistory setup first threads settled (of_two here there)
history setup first settled here there two asks free back made = record {
  ask_first = all_ask_first setup first asks;
  independent = are_independent setup settled here there free back;
  no_others = λ p past. none_past here there p (omega arith);
  is_run = plain_run setup first (whole_of setup settled (of_two here there)) made;
}

-- one of two tails is replaced
pub with_zero : (here there now : List Label) → AreWith (of_two here there) 0 now (of_two now there)
with_zero here there now = record { own = refl; same = λ q ne. grind arith }

pub with_one : (here there now : List Label) → AreWith (of_two here there) 1 now (of_two here now)
with_one here there now = record { own = refl; same = λ q ne. grind arith }

-- copies that are as they should be
pub copies : (setup : Setup) (first : ℕ → List Want) (run : List Turn) (p : ℕ) (turns : List OwnTurn) → all_ask setup first ≡ true → IsMade setup first run → nat_lt p setup.procs ≡ true →
    labels_of p run ≡ own_labels turns → AreAdequate setup (memories_of setup first threads run) p turns → HasCopies setup first threads run p turns
copies setup first run p turns asks made lt same adequate = record {
  ask_first = all_ask_first setup first asks;
  is_run = plain_run setup first run made;
  is_processor = grind arith;
  same_labels = same;
  adequate = adequate;
}

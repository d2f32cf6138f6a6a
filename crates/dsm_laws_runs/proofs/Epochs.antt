-- Arrivals and crossings: nobody crosses a barrier more often than each processor has come to it, and each has come to it once more than it has crossed it where it wants
-- to cross it, and else as often.
use Rattle.std.specs.Prelude.{◌≡◌, ℕ, ◌+◌, ◌<◌, ◌≤◌, ◌==◌, nat_lt, Bool, true, false, if◌then◌else◌, List, [], ◌∷◌, Some}
use Rattle.std.proofs.Common.{arith, refl, subst, ⊎_elim}
use Rattle.std.proofs.lemmas.Bool.{cases_Bool, cases_eq}
use Rattle.dsm_base.specs.declared.names.Bar.{Bar}
use Rattle.dsm_base.specs.declared.label.Label.{Label}
use Rattle.dsm_base.specs.declared.label.Want.{Want}
use Rattle.dsm_base.specs.declared.setup.Setup.{Setup}
use Rattle.dsm_base.specs.Family.{update}
use Rattle.dsm_base.specs.Threads.{Semantics, AsksFirst, state_after}
use Rattle.dsm_base.specs.Plain.{PlainState, Turn, IsPlainRun, after_run, plain_after, plain_turn, plain_turn_of, arrived_after, crossed_after, can_cross, labels_of}
use Rattle.dsm_laws_runs.specs.Versions.{AllAskFirst}
use Rattle.dsm_laws_runs.specs.Epochs.{wants_cross, IsInStep}
use Rattle.dsm_base.proofs.Families.{all_at, update_same}
use Rattle.dsm_laws_runs.proofs.OwnPart.{own_thread}
use Rattle.dsm_laws_runs.proofs.Turns.{Outcome, Completed, Stopped, outcome_of, crosses_of}

-- What labels do.

abbrev pub comes_to : ℕ → Label → Bool
comes_to bar (Label.Arrive reached) = reached.0 == bar
comes_to bar _ = false

abbrev pub goes_over : ℕ → Label → Bool
goes_over bar (Label.Cross crossed epoch) = crossed.0 == bar
goes_over bar _ = false

pub arrived_step : (arrived : ℕ → ℕ) (label : Label) (bar : ℕ) → arrived_after arrived label bar ≡ (if comes_to bar label then arrived bar + 1 else arrived bar)
arrived_step arrived label bar = grind arith

module _ {S : Type 0} (setup : Setup) (s : PlainState S) (p : ℕ) (text : List ℕ) (want : Want) (label : Label) (turn : plain_turn_of setup s p text want ≡ Some label) where
  -- who crosses a barrier in its turn wants to, and who doesn't, doesn't
  pub crosses_as_wanted : (bar : ℕ) → wants_cross bar want ≡ goes_over bar label
  crosses_as_wanted bar = grind arith

  arrives_as_wanted : (reached : Bar) → label ≡ Label.Arrive reached → want ≡ Want.Arrive reached
  arrives_as_wanted reached is = grind arith

  pub crossed_step : (bar : ℕ) → crossed_after (s.crossed p) label bar ≡ (if goes_over bar label then s.crossed p bar + 1 else s.crossed p bar)
  crossed_step bar = grind arith

-- A thread wants to cross a barrier right after it has come to it.
module _ {S : Type 0} (threads : Semantics S) (start : S) (asks : AsksFirst threads start) where
  no_cross_first : (bar : ℕ) (want : Want) → threads.want start ≡ want → wants_cross bar want ≡ false
  no_cross_first bar (Want.Cross crossed) e = absurd (asks.no_cross crossed e)
  no_cross_first bar _ e = refl

  module _ (labels : List Label) (label : Label) where
    came_to : Outcome (threads.want (state_after threads start labels)) label → (bar : Bar) → threads.want (threads.after (state_after threads start labels) label) ≡ Want.Cross bar →
        label ≡ Label.Arrive bar
    came_to (Completed answer done) bar e = asks.crossed labels answer label bar done e
    came_to (Stopped fault line is) bar e = absurd (cc (asks.stops labels fault line))

    no_cross_next : Outcome (threads.want (state_after threads start labels)) label → (bar : ℕ) → comes_to bar label ≡ false →
        (next : Want) → threads.want (threads.after (state_after threads start labels) label) ≡ next → wants_cross bar next ≡ false
    no_cross_next outcome bar none (Want.Cross crossed) e = rw (came_to outcome crossed e) at none
    no_cross_next outcome bar none _ e = refl

  cross_next : (labels : List Label) (label : Label) (bar : ℕ) → ((reached : Bar) → label ≡ Label.Arrive reached → threads.want (state_after threads start labels) ≡ Want.Arrive reached) →
      comes_to bar label ≡ true → wants_cross bar (threads.want (threads.after (state_after threads start labels) label)) ≡ true
  cross_next labels (Label.Arrive reached) bar arrives come = rw (asks.crosses labels reached (arrives reached refl)) come
  cross_next labels _ bar arrives come = absurd (cc come)

  wants_as_come : (labels : List Label) (label : Label) (now : S) → now ≡ state_after threads start labels → (bar : ℕ) → Outcome (threads.want now) label →
      ((reached : Bar) → label ≡ Label.Arrive reached → threads.want now ≡ Want.Arrive reached) → wants_cross bar (threads.want (threads.after now label)) ≡ comes_to bar label
  wants_as_come labels label now is bar outcome arrives =
      rw is (⊎_elim
      (λ come. rw come (cross_next labels label bar (rw is at arrives) come))
      (λ none. rw none (no_cross_next labels label (rw is at outcome) bar none _ refl))
      (cases_Bool (comes_to bar label)))

-- the numbers of one processor at one barrier before and after its turn
own_step : (come go wants next : Bool) (arrived crossed : ℕ) → wants ≡ go → next ≡ come → arrived ≡ (if wants then crossed + 1 else crossed) → (come ≡ true → go ≡ false) →
    (if come then arrived + 1 else arrived) ≡ (if next then (if go then crossed + 1 else crossed) + 1 else (if go then crossed + 1 else crossed))
own_step come go wants next arrived crossed a b was one = grind arith

comes_or_goes : (bar : ℕ) (label : Label) → comes_to bar label ≡ true → goes_over bar label ≡ false
comes_or_goes bar label e = grind arith

-- the numbers of all
crossing : (procs : ℕ) (arrived crossed : ℕ → ℕ → ℕ) (r bar epoch : ℕ) → can_cross procs arrived (crossed r bar) bar ≡ true → epoch ≡ crossed r bar + 1 →
    (p q other : ℕ) → q < procs → crossed p other ≤ arrived q other → update crossed r (update (crossed r) bar epoch) p other ≤ update arrived r (arrived r) q other
crossing procs arrived crossed r bar epoch can is p q other lt was = grind (arith, all_at procs (λ q. nat_lt (crossed r bar) (arrived q bar)) q lt can)

arriving : (arrived crossed : ℕ → ℕ → ℕ) (r bar p q other : ℕ) → crossed p other ≤ arrived q other →
    update crossed r (crossed r) p other ≤ update arrived r (update (arrived r) bar (arrived r bar + 1)) q other
arriving arrived crossed r bar p q other was = grind arith

staying : (arrived crossed : ℕ → ℕ → ℕ) (r p q other : ℕ) → crossed p other ≤ arrived q other → update crossed r (crossed r) p other ≤ update arrived r (arrived r) q other
staying arrived crossed r p q other was = grind arith

module _ {S : Type 0} (setup : Setup) (first : ℕ → S) (threads : Semantics S) where
  module _ (ask_first : AllAskFirst setup first threads) where
    own_turn : (before : List Turn) (p : ℕ) → p < setup.procs → (label : Label) → plain_turn setup threads (after_run first threads before) p ≡ Some label → (bar : ℕ) →
        IsInStep threads (after_run first threads before) p bar → IsInStep threads (plain_after threads (after_run first threads before) p label) p bar
    own_turn before p lt label is bar was =
        let s : PlainState S = after_run first threads before in
        let wants : wants_cross bar (threads.want (threads.after (s.threads p) label)) ≡ comes_to bar label =
        wants_as_come threads (first p) (ask_first.asks p lt) (labels_of p before) label (s.threads p) (own_thread first threads before p) bar (outcome_of setup s p _ _ label is)
        (arrives_as_wanted setup s p _ _ label is) in
        rw (
          update_same s.arrived p (arrived_after (s.arrived p) label),
          update_same s.crossed p (crossed_after (s.crossed p) label),
          update_same s.threads p (threads.after (s.threads p) label),
          arrived_step (s.arrived p) label bar,
          crossed_step setup s p _ _ label is bar,
        )
        (own_step _ _ _ _ (s.arrived p bar) (s.crossed p bar) (crosses_as_wanted setup s p _ _ label is bar) wants was (comes_or_goes bar label))

    -- each has come to a barrier once more than it has crossed it where it wants to cross it, and else as often
    pub in_step : (run : List Turn) → IsPlainRun setup first threads run → (p : ℕ) → p < setup.procs → (bar : ℕ) → IsInStep threads (after_run first threads run) p bar
    in_step [] is_run p lt bar = rw (no_cross_first threads (first p) (ask_first.asks p lt) bar (threads.want (first p)) refl) refl
    in_step (turn ∷ before) is_run p lt bar =
        ⊎_elim
        (λ e. subst (λ r. IsInStep threads (after_run first threads (turn ∷ before)) r bar) e
        (own_turn before turn.proc is_run.1.is_processor turn.label is_run.1.is_label bar (in_step before is_run.0 turn.proc is_run.1.is_processor bar)))
        (λ ne. grind (arith, in_step before is_run.0 p lt bar))
        (cases_eq turn.proc p)

  turn_came : (s : PlainState S) (r : ℕ) (label : Label) → plain_turn setup threads s r ≡ Some label → (p q bar : ℕ) → q < setup.procs → s.crossed p bar ≤ s.arrived q bar →
      (plain_after threads s r label).crossed p bar ≤ (plain_after threads s r label).arrived q bar
  turn_came s r (Label.Cross crossed epoch) is p q bar lt was =
      let cross = crosses_of setup s r _ _ crossed epoch is in
      crossing setup.procs s.arrived s.crossed r crossed.0 epoch cross.possible cross.is_epoch p q bar lt was
  turn_came s r (Label.Arrive reached) is p q bar lt was = arriving s.arrived s.crossed r reached.0 p q bar was
  turn_came s r _ is p q bar lt was = staying s.arrived s.crossed r p q bar was

  -- nobody crosses a barrier more often than each processor has come to it
  pub all_came : (run : List Turn) → IsPlainRun setup first threads run → (p q bar : ℕ) → q < setup.procs → (after_run first threads run).crossed p bar ≤ (after_run first threads run).arrived q bar
  all_came [] is_run p q bar lt = omega arith
  all_came (turn ∷ before) is_run p q bar lt =
      turn_came (after_run first threads before) turn.proc turn.label is_run.1.is_label p q bar lt (all_came before is_run.0 p q bar lt)

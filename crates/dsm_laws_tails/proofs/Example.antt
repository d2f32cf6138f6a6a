-- Worked tails: one has a crossing of a barrier, the other its processor's next arrival there; each may come first.
use Rattle.std.specs.Prelude.{◌≡◌, ℕ, ℤ, ◌<◌, ◌≤◌, List, [], ◌∷◌, ◌++◌}
use Rattle.std.specs.List.{AllByRecursion}
use Rattle.std.proofs.Common.{arith, refl, sym, subst, ⊎_elim}
use Rattle.dsm_base.specs.declared.names.Lock.{Lock}
use Rattle.dsm_base.specs.declared.names.Bar.{Bar}
use Rattle.dsm_base.specs.declared.names.Mode.{Mode}
use Rattle.dsm_base.specs.declared.names.Fault.{Fault}
use Rattle.dsm_base.specs.declared.label.Label.{Label}
use Rattle.dsm_base.specs.declared.label.Want.{Want}
use Rattle.dsm_base.specs.declared.setup.Setup.{Setup}
use Rattle.dsm_base.specs.Threads.{Semantics, AsksFirst, Completes, state_after}
use Rattle.dsm_base.specs.Plain.{Turn, IsPlainRun, labels_of}
use Rattle.dsm_laws_runs.specs.OwnPart.{arrived_of}
use Rattle.dsm_laws_tails.specs.Shuffles.{HasLabel, AreApart, CanShuffle}
use Rattle.dsm_laws_tails.specs.Fronts.{upto, past}
use Rattle.dsm_laws_tails.proofs.Places.{has_nothing, turn_or_before}
use Rattle.dsm_laws_tails.proofs.Shuffles.{independent_of, shuffled}

-- of three numbers, the newest first, the oldest two, and what is newer
oldest_two : upto {A = ℕ} 2 (30 ∷ 20 ∷ 10 ∷ []) ≡ 20 ∷ 10 ∷ []
oldest_two = refl

newer_than_two : past {A = ℕ} 2 (30 ∷ 20 ∷ 10 ∷ []) ≡ 30 ∷ []
newer_than_two = refl

data Place : Type 0 where
  Fresh : Place
  Come : Place
  Across : Place
  Again : Place
  Done : Place

-- each comes and crosses, and comes once more
abbrev want_at : Place → Want
want_at Fresh = Want.Arrive record { 0 = 0 }
want_at Come = Want.Cross record { 0 = 0 }
want_at Across = Want.Arrive record { 0 = 0 }
want_at Again = Want.Cross record { 0 = 0 }
want_at Done = Want.Over

abbrev after_label : Place → Label → Place
after_label Fresh (Label.Arrive bar) = Come
after_label Come (Label.Cross bar epoch) = Across
after_label Across (Label.Arrive bar) = Again
after_label _ _ = Done

abbrev threads : Semantics Place
threads = record { want = want_at; text = λ place. []; after = after_label }

abbrev setup : Setup
setup = record { procs = 2; locks = 0; bars = 1; cells = 0; bindings = []; kept = refl }

module _ (place : Place) where
  takes : (lock : Lock) (mode : Mode) (line : ℕ) → want_at place ≡ Want.Ask lock mode line → want_at (after_label place (Label.Ask lock mode)) ≡ Want.Take lock mode
  takes lock mode line e = grind arith

  crosses : (bar : Bar) → want_at place ≡ Want.Arrive bar → want_at (after_label place (Label.Arrive bar)) ≡ Want.Cross bar
  crosses bar e = grind arith

  took : (answer : ℤ) (label : Label) (lock : Lock) (mode : Mode) → Completes (want_at place) answer label → want_at (after_label place label) ≡ Want.Take lock mode → label ≡ Label.Ask lock mode
  took answer label lock mode done e = grind arith

  crossed : (answer : ℤ) (label : Label) (bar : Bar) → Completes (want_at place) answer label → want_at (after_label place label) ≡ Want.Cross bar → label ≡ Label.Arrive bar
  crossed answer label bar done e = grind arith

  stops : (fault : Fault) (line : ℕ) → want_at (after_label place (Label.Stop fault line)) ≡ Want.Over
  stops fault line = grind arith

  ends : want_at (after_label place Label.End) ≡ Want.Over
  ends = grind arith

asks_first : AsksFirst threads Fresh
asks_first = record {
  no_take = λ lock mode e. grind arith;
  no_cross = λ bar e. grind arith;
  takes = λ labels. takes (state_after threads Fresh labels);
  crosses = λ labels. crosses (state_after threads Fresh labels);
  took = λ labels. took (state_after threads Fresh labels);
  crossed = λ labels. crossed (state_after threads Fresh labels);
  stops = λ labels. stops (state_after threads Fresh labels);
  ends = λ labels. ends (state_after threads Fresh labels);
}

abbrev first : ℕ → Place
first p = Fresh

abbrev by : ℕ → Label → Turn
by p label = record { proc = p; label = label }

-- both have come; the newest first
abbrev settled : List Turn
settled = by 1 (Label.Arrive record { 0 = 0 }) ∷ by 0 (Label.Arrive record { 0 = 0 }) ∷ []

-- 0 crosses and comes again, and then 1 crosses
abbrev turns : List Turn
turns = by 1 (Label.Cross record { 0 = 0 } 1) ∷ by 0 (Label.Arrive record { 0 = 0 }) ∷ by 0 (Label.Cross record { 0 = 0 } 1) ∷ []

-- 1 crosses first
abbrev others : List Turn
others = by 0 (Label.Arrive record { 0 = 0 }) ∷ by 0 (Label.Cross record { 0 = 0 } 1) ∷ by 1 (Label.Cross record { 0 = 0 } 1) ∷ []

each_label : (P : Label → Type 0) (turns : List Turn) → AllByRecursion (λ turn. P turn.label) turns → (q : ℕ) (label : Label) (older : List Label) → HasLabel (labels_of q turns) label older → P label
each_label P [] all q label older has = absurd (has_nothing label older has)
each_label P (turn ∷ before) all q label older has =
    ⊎_elim (λ is. subst P (sym is.1) all.0) (λ was. each_label P before all.1 q label older was) (turn_or_before turn before q label older has)

-- a crossing is into epoch 1 of the barrier, and nobody gives a lock back
abbrev IsMild : Label → Type 0
IsMild label = ((bar : Bar) (epoch : ℕ) → label ≡ Label.Cross bar epoch → (bar.0 ≡ 0) × (epoch ≡ 1)) × ((lock : Lock) → label ≡ Label.Give lock → ⊥)

all_mild : AllByRecursion (λ turn. IsMild turn.label) turns
all_mild = ((λ bar epoch e. grind arith, λ lock e. grind arith), ((λ bar epoch e. grind arith, λ lock e. grind arith), ((λ bar epoch e. grind arith, λ lock e. grind arith), tt)))

apart : AreApart setup settled (λ p. labels_of p turns)
apart = record {
  locks = λ p q lt ne given taken mode version older others has_given has_taken e. absurd ((each_label IsMild turns all_mild p (Label.Give given) older has_given).1 given refl);
  bars = λ p q lt ne bar epoch others has.
      let is = (each_label IsMild turns all_mild q (Label.Cross bar epoch) others has).0 bar epoch refl in
      came p lt bar epoch is.0 is.1;
}
  where
    came : (p : ℕ) → p < 2 → (bar : Bar) (epoch : ℕ) → bar.0 ≡ 0 → epoch ≡ 1 → epoch ≤ arrived_of (labels_of p settled) bar.0
    came p lt bar epoch is_bar is_epoch = grind arith

can : CanShuffle setup first threads settled (λ p. labels_of p turns) turns
can = record {
  ask_first = record { asks = λ p lt. asks_first };
  independent = independent_of setup settled (λ p. labels_of p turns) apart;
  is_shuffle = λ p. refl;
  is_run = (((((tt, record { is_processor = omega arith; is_label = refl }), record { is_processor = omega arith; is_label = refl }), record { is_processor = omega arith; is_label = refl }), record { is_processor = omega arith; is_label = refl }), record { is_processor = omega arith; is_label = refl });
}

-- by the law the other order is a run too
other_order : IsPlainRun setup first threads (others ++ settled)
other_order = (shuffled setup first threads can.ask_first settled (λ p. labels_of p turns) turns others can (λ p. same p)).is_run
  where
    same : (p : ℕ) → labels_of p others ≡ labels_of p turns
    same p = grind arith

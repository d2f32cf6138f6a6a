-- A machine that is either free, or waits for a lock or at a barrier right after it has asked for it or come to it, does so at no other time.
use Rattle.std.proofs.Common.{◌≡◌, ℕ, ℤ, pos, List, [], ◌∷◌, refl, sym, ap, ◌∙◌, subst}
use Rattle.dsm_base.specs.declared.names.Lock.{Lock}
use Rattle.dsm_base.specs.declared.names.Bar.{Bar}
use Rattle.dsm_base.specs.declared.names.Mode.{Mode}
use Rattle.dsm_base.specs.declared.label.Want.{Want}
use Rattle.dsm_base.specs.declared.label.Label.{Label}
use Rattle.dsm_base.specs.Threads.{AsksFirst, Completes, state_after}
use Rattle.dsm_base.specs.Steps as steps
use Rattle.dsm_base.specs.Steps.{Move, goes, asks, want_of, next_of, Over, ended, stopped, Machine, semantics_of}
use Rattle.dsm_base.proofs.StepsSettle.{Falls, settled_keeps, settled_asks}

module _ {S : Type 0} (machine : Machine S) (Free : S → Type 0) where
  abbrev pub step : S → Move S
  step s = machine.step s

  abbrev pub ready : S → S
  ready s = steps.ready machine s

  abbrev pub completed : S → Label → S
  completed s label = steps.completed machine s label

  -- a state whose step is a take or a crossing, which leaves a free one
  pub record WaitsFor (want : Want) (s : S) : Type 0 where
    pub after : ℤ → S
    pub is : step s ≡ asks want after
    pub free : (answer : ℤ) → Free (after answer)

  -- what a step of a free state leaves, by what it wants
  abbrev pub Leaves : Want → S → Type 0
  Leaves (Want.Ask lock mode line) t = WaitsFor (Want.Take lock mode) t
  Leaves (Want.Arrive bar) t = WaitsFor (Want.Cross bar) t
  Leaves (Want.Take lock mode) t = ⊥
  Leaves (Want.Cross bar) t = ⊥
  Leaves _ t = Free t

  abbrev pub Keeps : Move S → Type 0
  Keeps (goes t) = Free t
  Keeps (asks want after) = (answer : ℤ) → Leaves want (after answer)

module _ {S : Type 0} (machine : Machine S) (Free : S → Type 0) (falls : (s : S) → Falls machine.weight (machine.weight s) (machine.step s))
    (step_keeps : (s : S) → Free s → Keeps machine Free (machine.step s)) (over_free : (s : S) (way : Over) → Free (machine.over s way))
    (over_asks : (s : S) (way : Over) → machine.step (machine.over s way) ≡ asks Want.Over (λ answer. machine.over s way)) where
  abbrev want : S → Want
  want s = want_of (machine.step s)

  -- a free state, or one that waits for a lock or at a barrier
  data Stands (s : S) : Type 0 where
    freely : Free s → Stands s
    for_lock : (lock : Lock) (mode : Mode) → WaitsFor machine Free (Want.Take lock mode) s → Stands s
    for_bar : (bar : Bar) → WaitsFor machine Free (Want.Cross bar) s → Stands s

  ready_asks : (s : S) (want : Want) → WaitsFor machine Free want s → ready machine Free s ≡ s
  ready_asks s want w = settled_asks machine.step machine.weight falls s want w.after w.is

  goes_free : (s t : S) → Free s → machine.step s ≡ goes t → Free t
  goes_free s t p is = subst (Keeps machine Free) is (step_keeps s p)

  ready_free : (s : S) → Free s → Free (ready machine Free s)
  ready_free s p = settled_keeps machine.step machine.weight falls Free goes_free s p

  -- a free state wants neither a take nor a crossing
  free_no_take : (s : S) (lock : Lock) (mode : Mode) → Free s → want s ≡ Want.Take lock mode → ⊥
  free_no_take s lock mode p is = of (machine.step s) (step_keeps s p) is
    where
      of : (move : Move S) → Keeps machine Free move → want_of move ≡ Want.Take lock mode → ⊥
      of (goes t) keeps is = cc (is)
      of (asks w after) keeps is = subst (λ v. Leaves machine Free v (after (pos 0))) is (keeps (pos 0))

  free_no_cross : (s : S) (bar : Bar) → Free s → want s ≡ Want.Cross bar → ⊥
  free_no_cross s bar p is = of (machine.step s) (step_keeps s p) is
    where
      of : (move : Move S) → Keeps machine Free move → want_of move ≡ Want.Cross bar → ⊥
      of (goes t) keeps is = cc (is)
      of (asks w after) keeps is = subst (λ v. Leaves machine Free v (after (pos 0))) is (keeps (pos 0))

  -- what a state that waits wants, once it has gone on to its next labelled step
  waits_want : (s : S) (w : Want) → WaitsFor machine Free w s → want (ready machine Free s) ≡ w
  waits_want s w waits = ap want (ready_asks s w waits) ∙ ap want_of waits.is

  ready_stands : (s : S) → Stands s → Stands (ready machine Free s)
  ready_stands s (freely p) = freely (ready_free s p)
  ready_stands s (for_lock lock mode waits) = subst Stands (sym (ready_asks s _ waits)) (for_lock lock mode waits)
  ready_stands s (for_bar bar waits) = subst Stands (sym (ready_asks s _ waits)) (for_bar bar waits)

  -- the state that a step leaves, whatever its answer
  leaves_stands : (w : Want) (t : S) → Leaves machine Free w t → Stands t
  leaves_stands Want.Quiet t l = freely l
  leaves_stands (Want.Load cell line) t l = freely l
  leaves_stands (Want.Store cell value line) t l = freely l
  leaves_stands (Want.Ask lock mode line) t l = for_lock lock mode l
  leaves_stands (Want.Take lock mode) t l = absurd l
  leaves_stands (Want.Give lock line) t l = freely l
  leaves_stands (Want.Arrive bar) t l = for_bar bar l
  leaves_stands (Want.Cross bar) t l = absurd l
  leaves_stands Want.Line t l = freely l
  leaves_stands Want.End t l = freely l
  leaves_stands (Want.Stop fault line) t l = freely l
  leaves_stands Want.Over t l = freely l

  next_stands : (s : S) (answer : ℤ) → Stands s → Stands (next_of s answer (machine.step s))
  next_stands s answer (freely p) = of (machine.step s) (step_keeps s p)
    where
      of : (move : Move S) → Keeps machine Free move → Stands (next_of s answer move)
      of (goes t) keeps = freely p
      of (asks w after) keeps = leaves_stands w (after answer) (keeps answer)
  next_stands s answer (for_lock lock mode waits) = subst (λ move. Stands (next_of s answer move)) (sym waits.is) (freely (waits.free answer))
  next_stands s answer (for_bar bar waits) = subst (λ move. Stands (next_of s answer move)) (sym waits.is) (freely (waits.free answer))

  completed_stands : (s : S) (label : Label) → Stands s → Stands (completed machine Free s label)
  completed_stands s (Label.Stop fault line) at = freely (over_free s (stopped fault line))
  completed_stands s Label.End at = freely (over_free s ended)
  completed_stands s Label.Quiet at = next_stands s _ at
  completed_stands s (Label.Load cell value) at = next_stands s _ at
  completed_stands s (Label.Store cell value) at = next_stands s _ at
  completed_stands s (Label.Ask lock mode) at = next_stands s _ at
  completed_stands s (Label.Take lock mode version) at = next_stands s _ at
  completed_stands s (Label.Give lock) at = next_stands s _ at
  completed_stands s (Label.Arrive bar) at = next_stands s _ at
  completed_stands s (Label.Cross bar epoch) at = next_stands s _ at
  completed_stands s (Label.Line text) at = next_stands s _ at

  -- neither an ask nor an arrival
  abbrev IsNoAsk : Label → Type 0
  IsNoAsk (Label.Ask lock mode) = ⊥
  IsNoAsk (Label.Arrive bar) = ⊥
  IsNoAsk _ = Unit {0}

  -- what a label that completes a want leaves: a free state, or one that waits right after its ask or its arrival
  data Comes (s : S) (label : Label) : Type 0 where
    to_free : IsNoAsk label → Free (completed machine Free s label) → Comes s label
    to_lock : (lock : Lock) (mode : Mode) → label ≡ Label.Ask lock mode → WaitsFor machine Free (Want.Take lock mode) (completed machine Free s label) → Comes s label
    to_bar : (bar : Bar) → label ≡ Label.Arrive bar → WaitsFor machine Free (Want.Cross bar) (completed machine Free s label) → Comes s label

  module _ (s : S) (w : Want) (after : ℤ → S) (is : machine.step s ≡ asks w after) where
    next_is : (answer : ℤ) → next_of s answer (machine.step s) ≡ after answer
    next_is answer = ap (next_of s answer) is

  free_comes : (s : S) (label known : Label) (t : S) → label ≡ known → IsNoAsk known → completed machine Free s known ≡ t → Free t → Comes s label
  free_comes s label known t is none next p =
      to_free (subst IsNoAsk (sym is) none) (subst Free (sym (ap (completed machine Free s) is ∙ next)) p)

  comes_asking : (s : S) (w : Want) (after : ℤ → S) → machine.step s ≡ asks w after → ((answer : ℤ) → Leaves machine Free w (after answer))
      → (answer : ℤ) (label : Label) → Completes w answer label → Comes s label
  comes_asking s Want.Quiet after is keeps answer label c = free_comes s label Label.Quiet _ c tt (next_is s _ after is (pos 0)) (keeps (pos 0))
  comes_asking s (Want.Load cell line) after is keeps answer label c = free_comes s label (Label.Load cell answer) _ c tt (next_is s _ after is answer) (keeps answer)
  comes_asking s (Want.Store cell value line) after is keeps answer label c =
      free_comes s label (Label.Store cell value) _ c tt (next_is s _ after is (pos 0)) (keeps (pos 0))
  comes_asking s (Want.Ask lock mode line) after is keeps answer label c =
      to_lock lock mode c (subst (WaitsFor machine Free (Want.Take lock mode)) (sym (ap (completed machine Free s) c ∙ next_is s _ after is (pos 0))) (keeps (pos 0)))
  comes_asking s (Want.Take lock mode) after is keeps answer label c = absurd (keeps (pos 0))
  comes_asking s (Want.Give lock line) after is keeps answer label c = free_comes s label (Label.Give lock) _ c tt (next_is s _ after is (pos 0)) (keeps (pos 0))
  comes_asking s (Want.Arrive bar) after is keeps answer label c =
      to_bar bar c (subst (WaitsFor machine Free (Want.Cross bar)) (sym (ap (completed machine Free s) c ∙ next_is s _ after is (pos 0))) (keeps (pos 0)))
  comes_asking s (Want.Cross bar) after is keeps answer label c = absurd (keeps (pos 0))
  comes_asking s Want.Line after is keeps answer label c = free_comes s label (Label.Line c.0) _ c.1 tt (next_is s _ after is (pos 0)) (keeps (pos 0))
  comes_asking s Want.End after is keeps answer label c = free_comes s label Label.End _ c tt refl (over_free s ended)
  comes_asking s (Want.Stop fault line) after is keeps answer label c = free_comes s label (Label.Stop fault line) _ c tt refl (over_free s (stopped fault line))
  comes_asking s Want.Over after is keeps answer label c = absurd c

  comes : (s : S) (answer : ℤ) (label : Label) → Stands s → Completes (want s) answer label → Comes s label
  comes s answer label (freely p) c = of (machine.step s) refl (step_keeps s p) c
    where
      of : (move : Move S) → machine.step s ≡ move → Keeps machine Free move → Completes (want_of move) answer label → Comes s label
      of (goes t) is keeps c = absurd c
      of (asks w after) is keeps c = comes_asking s w after is keeps answer label c
  comes s answer label (for_lock lock mode waits) c =
      let took = subst (λ w. Completes w answer label) (ap want_of waits.is) c in
      free_comes s label (Label.Take lock mode took.0) _ took.1 tt (next_is s _ waits.after waits.is (pos 0)) (waits.free (pos 0))
  comes s answer label (for_bar bar waits) c =
      let crossed = subst (λ w. Completes w answer label) (ap want_of waits.is) c in
      free_comes s label (Label.Cross bar crossed.0) _ crossed.1 tt (next_is s _ waits.after waits.is (pos 0)) (waits.free (pos 0))

  abbrev after : S → Label → S
  after s label = ready machine Free (completed machine Free s label)

  completes_ask : (s : S) (lock : Lock) (mode : Mode) (line : ℕ) → want s ≡ Want.Ask lock mode line → Completes (want s) (pos 0) (Label.Ask lock mode)
  completes_ask s lock mode line is = subst (λ w. Completes w (pos 0) (Label.Ask lock mode)) (sym is) refl

  takes_next : (s : S) (lock : Lock) (mode : Mode) (line : ℕ) → Stands s → want s ≡ Want.Ask lock mode line → want (after s (Label.Ask lock mode)) ≡ Want.Take lock mode
  takes_next s lock mode line at is = of (comes s (pos 0) (Label.Ask lock mode) at (completes_ask s lock mode line is))
    where
      of : Comes s (Label.Ask lock mode) → want (after s (Label.Ask lock mode)) ≡ Want.Take lock mode
      of (to_free none p) = absurd none
      of (to_lock l m e waits) = waits_want _ _ waits ∙ cc (e)
      of (to_bar bar e waits) = cc (e)

  completes_arrival : (s : S) (bar : Bar) → want s ≡ Want.Arrive bar → Completes (want s) (pos 0) (Label.Arrive bar)
  completes_arrival s bar is = subst (λ w. Completes w (pos 0) (Label.Arrive bar)) (sym is) refl

  crosses_next : (s : S) (bar : Bar) → Stands s → want s ≡ Want.Arrive bar → want (after s (Label.Arrive bar)) ≡ Want.Cross bar
  crosses_next s bar at is = of (comes s (pos 0) (Label.Arrive bar) at (completes_arrival s bar is))
    where
      of : Comes s (Label.Arrive bar) → want (after s (Label.Arrive bar)) ≡ Want.Cross bar
      of (to_free none p) = absurd none
      of (to_lock l m e waits) = cc (e)
      of (to_bar b e waits) = waits_want _ _ waits ∙ cc (e)

  was_ask : (s : S) (answer : ℤ) (label : Label) (lock : Lock) (mode : Mode) → Stands s → Completes (want s) answer label
      → want (after s label) ≡ Want.Take lock mode → label ≡ Label.Ask lock mode
  was_ask s answer label lock mode at c is = of (comes s answer label at c)
    where
      of : Comes s label → label ≡ Label.Ask lock mode
      of (to_free none p) = absurd (free_no_take (after s label) lock mode (ready_free _ p) is)
      of (to_lock l m e waits) = let same : Want.Take l m ≡ Want.Take lock mode = sym (waits_want _ _ waits) ∙ is in cc (e, same)
      of (to_bar bar e waits) = let same : Want.Cross bar ≡ Want.Take lock mode = sym (waits_want _ _ waits) ∙ is in cc (same)

  was_arrival : (s : S) (answer : ℤ) (label : Label) (bar : Bar) → Stands s → Completes (want s) answer label
      → want (after s label) ≡ Want.Cross bar → label ≡ Label.Arrive bar
  was_arrival s answer label bar at c is = of (comes s answer label at c)
    where
      of : Comes s label → label ≡ Label.Arrive bar
      of (to_free none p) = absurd (free_no_cross (after s label) bar (ready_free _ p) is)
      of (to_lock l m e waits) = let same : Want.Take l m ≡ Want.Cross bar = sym (waits_want _ _ waits) ∙ is in cc (same)
      of (to_bar b e waits) = let same : Want.Cross b ≡ Want.Cross bar = sym (waits_want _ _ waits) ∙ is in cc (e, same)

  -- a thread that is over wants nothing more
  over_wants : (s : S) (way : Over) → want (ready machine Free (machine.over s way)) ≡ Want.Over
  over_wants s way = ap want (settled_asks machine.step machine.weight falls (machine.over s way) Want.Over (λ answer. machine.over s way) (over_asks s way)) ∙ ap want_of (over_asks s way)

  module _ (first : S) (first_free : Free first) where
    abbrev reached : List Label → S
    reached labels = state_after (semantics_of machine) first labels

    reached_stands : (labels : List Label) → Stands (reached labels)
    reached_stands [] = freely first_free
    reached_stands (label ∷ before) = ready_stands _ (completed_stands _ label (reached_stands before))

    pub asks_first : AsksFirst (semantics_of machine) first
    asks_first = record {
      no_take = λ lock mode is. free_no_take first lock mode first_free is;
      no_cross = λ bar is. free_no_cross first bar first_free is;
      takes = λ labels lock mode line is. takes_next (reached labels) lock mode line (reached_stands labels) is;
      crosses = λ labels bar is. crosses_next (reached labels) bar (reached_stands labels) is;
      took = λ labels answer label lock mode c is. was_ask (reached labels) answer label lock mode (reached_stands labels) c is;
      crossed = λ labels answer label bar c is. was_arrival (reached labels) answer label bar (reached_stands labels) c is;
      stops = λ labels fault line. over_wants (reached labels) (stopped fault line);
      ends = λ labels. over_wants (reached labels) ended;
    }

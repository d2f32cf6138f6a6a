-- What a manager knows of a barrier is what the arrivals leave that it has handled, and each of them has counted.
use Rattle.std.specs.Prelude.{◌≡◌, ℕ, suc, ◌+◌, ◌-◌, ◌<◌, ◌≤◌, Bool, true, false, ◌&&◌, ◌==◌, nat_lt, List, [], ◌∷◌, length, Option, Some, None}
use Rattle.std.specs.List.{AllByRecursion}
use Rattle.std.proofs.Common.{arith, refl, sym, ap, ap₂, ◌∙◌, subst, inl, inr}
use Rattle.std.proofs.lemmas.Bool.Decides.{eqb_tells, leb_tells}
use Rattle.std.proofs.lemmas.List.{length-append, length-drop}
use Rattle.dsm_base.specs.declared.names.Bar.{Bar}
use Rattle.dsm_base.specs.declared.names.Lock.{Lock}
use Rattle.dsm_base.specs.declared.names.Mode.{Mode}
use Rattle.dsm_base.specs.declared.act.Act.{Act}
use Rattle.dsm_base.specs.declared.label.Label.{Label}
use Rattle.dsm_base.specs.declared.setup.Object.{Object}
use Rattle.dsm_base.specs.declared.setup.Setup.{Setup}
use Rattle.dsm_base.specs.Family.{update, all_below}
use Rattle.dsm_base.specs.Setups.{are_counts}
use Rattle.dsm_base.specs.Threads.{Semantics}
use Rattle.dsm_base.specs.Plain.{Turn, labels_of}
use Rattle.dsm_base.proofs.Families.{all_same}
use Rattle.dsm_lines.specs.declared.list.Line.{Line}
use Rattle.dsm_msg.specs.declared.message.Body.{Body}
use Rattle.dsm_msg.specs.declared.message.Msg.{Msg}
use Rattle.dsm_barrier.specs.declared.arrived.Arrived.{Arrived}
use Rattle.dsm_barrier.specs.BarrierStates.{BarrierState, arrivals_of, arrived_in, with_arrival, opened_where_due}
use Rattle.dsm_barrier.specs.Histories.{Coming, barrier_after, arrivals_by}
use Rattle.dsm_barrier.proofs.Comings.{since, not_early, not_late}
use Rattle.dsm_net.specs.declared.trace.Group.{Group}
use Rattle.dsm_net.specs.Processor.{Own, Processor}
use Rattle.dsm_net.specs.Turns.{OwnTurn, dirty_lines}
use Rattle.dsm_net.specs.Messages.{manager_of, keeper_of, with_carry}
use Rattle.dsm_net.specs.Effects.{Effect, counts, effect_of, effect_of_body, release_of, body_of, processor_after, effect_of_telling_to, effect_of_telling}
use Rattle.dsm_net.specs.Net.{Net}
use Rattle.dsm_net.specs.Fits.{FitsUnits, run_of}
use Rattle.dsm_net.specs.Story.{history}
use Rattle.dsm_laws_runs.specs.OwnPart.{arrived_of}
use Rattle.dsm_laws_runs.specs.Versions.{AllAskFirst}
use Rattle.dsm_laws_runs.proofs.Epochs.{comes_to, arrived_step}
use Rattle.dsm_laws_protocol.specs.Courses.{upto}
use Rattle.dsm_laws_protocol.specs.Due.{Item, items, due, IsFirstDue, Word, asked, gave, arrived, word_for}
use Rattle.dsm_laws_protocol.specs.Flows.{words_in, words, IsFlow}
use Rattle.dsm_laws_protocol.specs.Holding.{AreWithin}
use Rattle.dsm_laws_protocol.specs.Steps.{Step, steps_of, turns_of}
use Rattle.dsm_laws_protocol.specs.Worlds.{World}
use Rattle.dsm_laws_protocol.proofs.Families.{one_changed, if_same, same_number, turned_false}
use Rattle.dsm_laws_protocol.proofs.Courses.{upto_grown, upto_all, upto_length, upto_upto}
use Rattle.dsm_laws_protocol.proofs.Due.{append_empty, due_grown}
use Rattle.dsm_laws_protocol.proofs.Flows.{IsTold, told_came, IsPassed, other_came, order_within}
use Rattle.dsm_laws_protocol.proofs.Own.{IsOwnTurn}
use Rattle.dsm_laws_protocol.proofs.Quiet.{ask_label, give_word, came_label}
use Rattle.dsm_laws_protocol.proofs.Reached.{IsReached, after_turn, after_delivery}
use Rattle.dsm_laws_protocol.proofs.Reaching.{start_world, Keeps, Holds, trace_holds}
use Rattle.dsm_laws_history.specs.Desks.{RestIsUnderWay}
use Rattle.dsm_laws_history.specs.NewerLines.{IsArrivalIn, IsTrue}
use Rattle.dsm_laws_history.specs.Openings.{comings_upto, IsOpenedByAll, HasOpened, OpenWhenAllCame}
use Rattle.dsm_laws_history.proofs.Lines.{both_true}
use Rattle.dsm_laws_history.proofs.Reached.{HasHistory}
use Rattle.dsm_laws_history.proofs.PlainTurns.{is_turn}
use Rattle.dsm_laws_history.proofs.Told.{turn_told}
use Rattle.dsm_laws_history.proofs.Histories.{has_history}
use Rattle.dsm_laws_history.proofs.Agreement.{steps_are}

-- Where a manager is due nothing, nobody has come to its barriers.

no_items : {B : Type 0} (turn : ℕ) (o : Option B) → items turn o ≡ [] → o ≡ None
no_items turn None e = refl
no_items turn (Some body) e = cc

module _ (setup : Setup) (manager bar : ℕ) (is_manager : (manager_of setup bar == manager) ≡ true) where
  untold : (before : List Label) (label : Label) → word_for setup manager before label ≡ None → arrived_of (label ∷ before) bar ≡ arrived_of before bar
  untold before (Label.Arrive other) e =
      elim (eqb_tells bar other.0) [
        | inl (t, i) ↦ absurd (let k : (manager_of setup other.0 == manager) ≡ true = rw (sym i) is_manager in let n : Some (arrived other) ≡ None = rw k at e in cc)
        | inr (t, _) ↦ rw t refl
      ]
  untold before label e = refl

  quiet_arrivals : (k : ℕ) (course : List Label) → due (word_for setup manager) k course ≡ [] → arrived_of course bar ≡ arrived_of (upto k course) bar
  quiet_arrivals k [] e = refl
  quiet_arrivals k (label ∷ before) e =
      elim (leb_tells k (length before)) [
        | inl (_, less) ↦ (
            let both : (due (word_for setup manager) k before ≡ []) × (items (length before + 1) (word_for setup manager before label) ≡ []) = append_empty _ _ (sym (due_grown (word_for setup manager) k label before less) ∙ e) in
            untold before label (no_items (length before + 1) _ both.1) ∙ quiet_arrivals k before both.0 ∙ ap (λ c. arrived_of c bar) (sym (upto_grown k label before less)))
        | inr (_, more) ↦ ap (λ c. arrived_of c bar) (sym (upto_all k (label ∷ before) (omega arith)))
      ]

  -- what was done before the first that is due
  before_first : (k : ℕ) (course : List Label) (item : Item Word) (rest : List (Item Word)) (first : IsFirstDue (word_for setup manager) k course item rest) → arrived_of first.before bar ≡ arrived_of (upto k course) bar
  before_first k course item rest first = quiet_arrivals k first.before first.is_quiet ∙ ap (λ c. arrived_of c bar) first.same_past

  -- the first that is due is no arrival at this barrier
  first_other : (k : ℕ) (course : List Label) (item : Item Word) (rest : List (Item Word)) (first : IsFirstDue (word_for setup manager) k course item rest) → comes_to bar first.label ≡ false →
      arrived_of (upto item.turn course) bar ≡ arrived_of (upto k course) bar
  first_other k course item rest first none = ap (λ c. arrived_of c bar) first.is_next ∙ arrived_step (arrived_of first.before) first.label bar ∙ rw none (before_first k course item rest first)

  -- it is one
  first_comes : (k : ℕ) (course : List Label) (item : Item Word) (rest : List (Item Word)) (first : IsFirstDue (word_for setup manager) k course item rest) → comes_to bar first.label ≡ true →
      arrived_of (upto item.turn course) bar ≡ arrived_of (upto k course) bar + 1
  first_comes k course item rest first comes =
      ap (λ c. arrived_of c bar) first.is_next ∙ arrived_step (arrived_of first.before) first.label bar ∙ rw comes (ap (λ n. n + 1) (before_first k course item rest first))

  -- what the sender had done before it
  before_is : (k : ℕ) (course : List Label) (item : Item Word) (rest : List (Item Word)) (first : IsFirstDue (word_for setup manager) k course item rest) → upto (item.turn - 1) course ≡ first.before
  before_is k course item rest first =
      let n : length (upto item.turn course) ≡ item.turn = upto_length item.turn course first.within in
      let m : length (upto item.turn course) ≡ suc (length first.before) = ap length first.is_next in
      sym (upto_upto (item.turn - 1) item.turn course (omega arith)) ∙ ap (upto (item.turn - 1)) first.is_next
      ∙ upto_grown (item.turn - 1) first.label first.before (omega arith) ∙ upto_all (item.turn - 1) first.before (omega arith)

-- What bodies do to barriers.

-- no arrival at this barrier
abbrev IsOther : ℕ → Body → Type 0
IsOther bar (Body.Arrive other epoch lines) = (bar == other.0) ≡ false
IsOther bar _ = Unit {0}

abbrev IsOtherTold : ℕ → Option Body → Type 0
IsOtherTold bar None = Unit {0}
IsOtherTold bar (Some body) = IsOther bar body

module _ {S : Type 0} (setup : Setup) (me : ℕ) (s : Processor S) where
  effect_other : (from turn bar : ℕ) (body : Body) → IsOther bar body → (effect_of setup me s from turn body).processor.barriers bar ≡ s.barriers bar
  effect_other from turn bar (Body.Req lock mode version) is = refl
  effect_other from turn bar (Body.Release lock mode version lines) is = refl
  effect_other from turn bar (Body.Arrive other epoch lines) is = rw is refl
  effect_other from turn bar _ is = refl

  body_other : (from turn bar : ℕ) (body : Body) → IsOther bar body → (effect_of_body setup me s from turn body).processor.barriers bar ≡ s.barriers bar
  body_other from turn bar body is = go (counts s from turn body) refl
    where
      go : (b : Bool) → counts s from turn body ≡ b → (effect_of_body setup me s from turn body).processor.barriers bar ≡ s.barriers bar
      go true e = rw e (effect_other from turn bar body is)
      go false e = rw e refl

  told_other : (bar : ℕ) (body : Option Body) → IsOtherTold bar body → (effect_of_telling setup me s body).processor.barriers bar ≡ s.barriers bar
  told_other bar None is = refl
  told_other bar (Some body) is = to_keeper (keeper_of setup body)
    where
      to_keeper : (keeper : Option ℕ) → (effect_of_telling_to setup me s body keeper).processor.barriers bar ≡ s.barriers bar
      to_keeper None = refl
      to_keeper (Some keeper) = go (keeper == me) refl
        where
          go : (b : Bool) → (keeper == me) ≡ b → (effect_of_telling_to setup me s body (Some keeper)).processor.barriers bar ≡ s.barriers bar
          go true e = rw e (body_other me s.own.turns bar body is)
          go false e = rw e refl

  arrival_counts : (from turn : ℕ) (bar : Bar) (epoch : ℕ) (lines : List Line) → counts s from turn (Body.Arrive bar epoch lines) ≡ true →
      (effect_of_body setup me s from turn (Body.Arrive bar epoch lines)).processor.barriers bar.0 ≡ opened_where_due setup.procs (with_arrival (s.barriers bar.0) from (arrived_in turn lines))
  arrival_counts from turn bar epoch lines e =
      let now : BarrierState = with_arrival (s.barriers bar.0) from (arrived_in turn lines) in
      rw e (if_same bar.0 (opened_where_due setup.procs (update s.barriers bar.0 now bar.0)) (update s.barriers bar.0 now bar.0)
      ∙ ap (opened_where_due setup.procs) (if_same bar.0 now (s.barriers bar.0)))

-- a turn that is no arrival at a barrier tells of none
told_by : {S : Type 0} (setup : Setup) (own : Own S) (bar : ℕ) (label : Label) → comes_to bar label ≡ false → IsOtherTold bar (body_of setup own label)
told_by setup own bar (Label.Arrive reached) none = turned_false bar reached.0 none
told_by setup own bar (Label.Ask lock mode) none = tt
told_by setup own bar (Label.Give lock) none = gives (own.held lock.0)
  where
    gives : (o : Option Mode) → IsOtherTold bar (release_of setup own lock o)
    gives None = tt
    gives (Some Mode.Shared) = tt
    gives (Some Mode.Excl) = tt
told_by setup own bar _ none = tt

some_processor : (setup : Setup) → 0 < setup.procs
some_processor setup = at_least setup.procs (both_true (nat_lt 1 setup.procs) _ (both_true _ _ (both_true _ _ (both_true _ _ (both_true (are_counts setup.procs setup.locks setup.bars setup.cells) _ setup.kept).0).0).0).0).0
  where
    at_least : (n : ℕ) → nat_lt 1 n ≡ true → 0 < n
    at_least n e = grind arith

module _ {S : Type 0} (setup : Setup) (first : ℕ → S) (threads : Semantics S) (ask_first : AllAskFirst setup first threads) where
  -- how often q has come to a barrier in the turns that a manager has handled
  abbrev counted : World S → ℕ → ℕ → ℕ → ℕ
  counted w manager bar q = arrived_of (upto (w.handled manager q) (w.courses q)) bar

  -- a manager has what arrivals leave of a barrier, as many of each as it has handled
  record IsManagedBy (w : World S) (manager bar : ℕ) : Type 0 where
    comings : List Coming
    is_after : (w.processors manager).barriers bar ≡ barrier_after setup.procs comings
    come : (q : ℕ) → length (arrivals_by q comings) ≡ counted w manager bar q

  abbrev AreManaged : World S → Type 0
  AreManaged w = (manager bar : ℕ) → manager_of setup bar ≡ manager → IsManagedBy w manager bar

  none_came : (w now : World S) (manager bar : ℕ) → IsManagedBy w manager bar → (now.processors manager).barriers bar ≡ (w.processors manager).barriers bar →
      ((q : ℕ) → counted now manager bar q ≡ counted w manager bar q) → IsManagedBy now manager bar
  none_came w now manager bar is state same = record { comings = is.comings; is_after = state ∙ is.is_after; come = λ q. is.come q ∙ sym (same q) }

  one_came : (w now : World S) (manager bar p : ℕ) (one : Arrived) → IsManagedBy w manager bar →
      (now.processors manager).barriers bar ≡ opened_where_due setup.procs (with_arrival ((w.processors manager).barriers bar) p one) →
      counted now manager bar p ≡ counted w manager bar p + 1 → ((q : ℕ) → (q == p) ≡ false → counted now manager bar q ≡ counted w manager bar q) → IsManagedBy now manager bar
  one_came w now manager bar p one is state mine others = record {
    comings = record { proc = p; arrived = one } ∷ is.comings;
    is_after = state ∙ ap (λ barrier. opened_where_due setup.procs (with_arrival barrier p one)) is.is_after;
    come = one_changed {P = λ q. length (arrivals_by q (record { proc = p; arrived = one } ∷ is.comings)) ≡ counted now manager bar q} p
        (λ here. rw here (length-append (arrivals_by p is.comings) (one ∷ []) ∙ (let a = is.come p in let b = mine in omega arith)))
        (λ q there. rw (turned_false p q there) (is.come q ∙ sym (others q there)));
  }

  -- the manager knows of as many arrivals
  arrivals_are : (w : World S) (manager bar q : ℕ) → IsManagedBy w manager bar → q < setup.procs → arrivals_of ((w.processors manager).barriers bar) q ≡ counted w manager bar q
  arrivals_are w manager bar q is lt =
      ap (λ barrier. arrivals_of barrier q) is.is_after
      ∙ ap (λ ones. (barrier_after setup.procs is.comings).opened + length ones) (since setup.procs is.comings q lt)
      ∙ ap (λ n. (barrier_after setup.procs is.comings).opened + n) (length-drop (barrier_after setup.procs is.comings).opened (arrivals_by q is.comings))
      ∙ (let le = not_early setup.procs is.comings q lt in omega arith)
      ∙ is.come q

  start_managed : AreManaged (start_world setup first threads ask_first (HasHistory setup first threads))
  start_managed manager bar is = record { comings = []; is_after = refl; come = λ q. refl }

  new_counts : (last turn epoch arrivals : ℕ) → last < turn → epoch ≡ arrivals → (nat_lt last turn && (epoch == arrivals)) ≡ true
  new_counts last turn epoch arrivals lt e = grind arith

  module _ (w : World S) (steps : List Step) (h : IsReached setup first threads w) (is : HasHistory setup first threads w steps) (managed : AreManaged w) where
    abbrev run : List Turn
    run = turns_of steps

    handled_within : (manager q : ℕ) → w.handled manager q ≤ length (w.courses q)
    handled_within manager q = elim (eqb_tells q manager) [
      | inl (_, i) ↦ subst (λ r. w.handled manager r ≤ length (w.courses r)) (sym i) (let k = h.own_handled manager in omega arith)
      | inr (t, _) ↦ order_within (w.handled manager q) (length (w.courses q)) (w.channels q manager) (h.flows q manager t).in_order
    ]

    -- A turn.

    module _ (p : ℕ) (lt : p < setup.procs) (turn : OwnTurn) (own : IsOwnTurn setup threads p (w.processors p) turn) where
      abbrev s : Processor S
      s = w.processors p

      abbrev moved : Processor S
      moved = processor_after setup threads s turn

      abbrev told : Effect S
      told = effect_of_telling setup p moved (body_of setup s.own turn.label)

      abbrev after : World S
      after = after_turn setup first threads w h p turn.label told.processor told.sends

      turns : s.own.turns ≡ length (w.courses p)
      turns = (h.owns p).turns

      at_other : (manager bar : ℕ) → (manager == p) ≡ false → IsManagedBy w manager bar → IsManagedBy after manager bar
      at_other manager bar ne was = none_came w after manager bar was (rw ne refl) (λ q. elim (eqb_tells q p) [
        | inl (t, i) ↦ rw (ne, t) (ap (λ c. arrived_of c bar) (subst (λ r. upto (w.handled manager r) (turn.label ∷ w.courses p) ≡ upto (w.handled manager r) (w.courses r)) (sym i)
            (upto_grown (w.handled manager p) turn.label (w.courses p) (handled_within manager p))))
        | inr (t, _) ↦ rw (ne, t) refl
      ])

      -- the own course is handled whole, before and after
      own_before : (bar : ℕ) → counted w p bar p ≡ arrived_of (w.courses p) bar
      own_before bar = ap (λ c. arrived_of c bar) (upto_all (w.handled p p) (w.courses p) (let k = h.own_handled p in omega arith))

      own_now : (bar : ℕ) → counted after p bar p ≡ arrived_of (turn.label ∷ w.courses p) bar
      own_now bar =
          ap₂ (λ n c. arrived_of (upto n c) bar)
          (ap (λ f. f p) (if_same p (update (w.handled p) p (length (w.courses p) + 1)) (w.handled p)) ∙ if_same p (length (w.courses p) + 1) (w.handled p p))
          (if_same p (turn.label ∷ w.courses p) (w.courses p))
          ∙ ap (λ c. arrived_of c bar) (upto_all (length (w.courses p) + 1) (turn.label ∷ w.courses p) (omega arith))

      others_now : (bar q : ℕ) → (q == p) ≡ false → counted after p bar q ≡ counted w p bar q
      others_now bar q ne = rw (same_number p, ne) refl

      state_now : (bar : ℕ) → (after.processors p).barriers bar ≡ told.processor.barriers bar
      state_now bar = ap (λ (x : Processor S). x.barriers bar) (if_same p told.processor s)

      at_none : (bar : ℕ) → comes_to bar turn.label ≡ false → IsManagedBy w p bar → IsManagedBy after p bar
      at_none bar none was = none_came w after p bar was (state_now bar ∙ told_other setup p moved bar (body_of setup s.own turn.label) (told_by setup s.own bar turn.label none))
          (one_changed {P = λ q. counted after p bar q ≡ counted w p bar q} p (λ here. own_now bar ∙ arrived_step (arrived_of (w.courses p)) turn.label bar ∙ rw none (sym (own_before bar))) (λ q there. others_now bar q there))

      at_arrival : (bar : Bar) → turn.label ≡ Label.Arrive bar → manager_of setup bar.0 ≡ p → IsManagedBy w p bar.0 → IsManagedBy after p bar.0
      at_arrival bar comes is_manager was = one_came w after p bar.0 p (arrived_in moved.own.turns lines) was (state_now bar.0 ∙ state)
          (own_now bar.0 ∙ ap (λ l. arrived_of (l ∷ w.courses p) bar.0) comes ∙ once (arrived_of (w.courses p)) bar.0 ∙ ap (λ n. n + 1) (sym (own_before bar.0)))
          (λ q there. others_now bar.0 q there)
        where
          epoch : ℕ
          epoch = s.own.crossed bar.0

          lines : List Line
          lines = dirty_lines setup s.own (Object.Bar bar)

          once : (f : ℕ → ℕ) (n : ℕ) → update f n (f n + 1) n ≡ f n + 1
          once f n = grind arith

          is_true : IsTrue setup first threads (record { proc = p; label = turn.label } ∷ run) p p (s.own.turns + 1) (Body.Arrive bar epoch lines)
          is_true = turn_told setup first threads ask_first w steps is p lt turn.label (is_turn setup first threads ask_first w steps h is p lt turn own) (Label.Arrive bar) comes p

          labels_now : labels_of p (record { proc = p; label = turn.label } ∷ run) ≡ turn.label ∷ w.courses p
          labels_now = rw (same_number p) (ap (λ c. turn.label ∷ c) (sym (is.courses p)))

          is_epoch : epoch ≡ arrivals_of (s.barriers bar.0) p
          is_epoch =
              is_true.is_epoch
              ∙ ap (λ c. arrived_of (upto (s.own.turns + 1 - 1) c) bar.0) labels_now
              ∙ ap (λ c. arrived_of c bar.0) (let n = turns in upto_grown (s.own.turns + 1 - 1) turn.label (w.courses p) (omega arith) ∙ upto_all (s.own.turns + 1 - 1) (w.courses p) (omega arith))
              ∙ sym (own_before bar.0) ∙ sym (arrivals_are w p bar.0 p was lt)

          it_counts : counts moved p moved.own.turns (Body.Arrive bar epoch lines) ≡ true
          it_counts = new_counts (s.peers p).last (s.own.turns + 1) epoch (arrivals_of (s.barriers bar.0) p) (let l = h.last p p in let k = h.own_handled p in let n = turns in omega arith) is_epoch

          state : told.processor.barriers bar.0 ≡ opened_where_due setup.procs (with_arrival (s.barriers bar.0) p (arrived_in moved.own.turns lines))
          state = subst (λ l. (effect_of_telling setup p moved (body_of setup s.own l)).processor.barriers bar.0 ≡ opened_where_due setup.procs (with_arrival (s.barriers bar.0) p (arrived_in moved.own.turns lines))) (sym comes)
              (rw (is_manager, same_number p) (arrival_counts setup p moved p moved.own.turns bar epoch lines it_counts))

      at_own : (bar : ℕ) → manager_of setup bar ≡ p → IsManagedBy w p bar → IsManagedBy after p bar
      at_own bar is_manager was = go turn.label refl
        where
          go : (label : Label) → turn.label ≡ label → IsManagedBy after p bar
          go (Label.Arrive reached) e = elim (eqb_tells reached.0 bar) [
            | inl (_, i) ↦ subst (IsManagedBy after p) i (at_arrival reached e (ap (manager_of setup) i ∙ is_manager) (subst (IsManagedBy w p) (sym i) was))
            | inr (t, _) ↦ at_none bar (ap (comes_to bar) e ∙ t) was
          ]
          go label e = at_none bar (ap (comes_to bar) e) was

      turn_managed : AreManaged after
      turn_managed manager bar is_manager = elim (eqb_tells manager p) [
        | inl (_, i) ↦ subst (λ m. IsManagedBy after m bar) (sym i) (at_own bar (is_manager ∙ i) (managed p bar (is_manager ∙ i)))
        | inr (t, _) ↦ at_other manager bar t (managed manager bar is_manager)
      ]

    -- A delivery.

    module _ (p q : ℕ) (ne : (p == q) ≡ false) (msg : Msg) (others : List Msg) (oldest : w.channels p q ≡ msg ∷ others) where
      abbrev heard : Processor S
      heard = with_carry (w.processors q) p msg.carry

      abbrev done : Body → Effect S
      done body = effect_of_body setup q heard p msg.carry.turn body

      abbrev delivered : Body → World S
      delivered body = after_delivery setup first threads w h p q msg.carry.turn others (done body).processor (done body).sends

      flow : IsFlow setup q (w.courses p) (w.handled q p) (msg ∷ others)
      flow = subst (IsFlow setup q (w.courses p) (w.handled q p)) oldest (h.flows p q ne)

      is_true : IsTrue setup first threads run p q msg.carry.turn msg.body
      is_true = (subst (AllByRecursion (λ (m : Msg). IsTrue setup first threads run p q m.carry.turn m.body)) oldest (is.under_way p q)).0

      at_other_manager : (body : Body) (manager bar : ℕ) → (manager == q) ≡ false → IsManagedBy w manager bar → IsManagedBy (delivered body) manager bar
      at_other_manager body manager bar apart was = none_came w (delivered body) manager bar was (rw apart refl) (λ r. rw apart refl)

      module _ (bar : ℕ) (is_manager : manager_of setup bar ≡ q) (was : IsManagedBy w q bar) where
        manages : (manager_of setup bar == q) ≡ true
        manages = rw is_manager (same_number q)

        sender_now : (body : Body) → counted (delivered body) q bar p ≡ arrived_of (upto msg.carry.turn (w.courses p)) bar
        sender_now body = rw (same_number q, same_number p) refl

        others_same : (body : Body) (r : ℕ) → (r == p) ≡ false → counted (delivered body) q bar r ≡ counted w q bar r
        others_same body r apart = rw (same_number q, apart) refl

        state_is : (body : Body) → ((delivered body).processors q).barriers bar ≡ (done body).processor.barriers bar
        state_is body = ap (λ (x : Processor S). x.barriers bar) (if_same q (done body).processor (w.processors q))

        at_no_arrival : (body : Body) → IsOther bar body → arrived_of (upto msg.carry.turn (w.courses p)) bar ≡ counted w q bar p → IsManagedBy (delivered body) q bar
        at_no_arrival body other same = none_came w (delivered body) q bar was (state_is body ∙ body_other setup q heard p msg.carry.turn bar body other)
            (one_changed {P = λ r. counted (delivered body) q bar r ≡ counted w q bar r} p (λ here. sender_now body ∙ same) (λ r there. others_same body r there))

        -- a body that tells of no arrival
        passed : words_in msg.carry.turn msg.body ≡ [] → arrived_of (upto msg.carry.turn (w.courses p)) bar ≡ counted w q bar p
        passed none =
            let pass : IsPassed setup q (w.courses p) (w.handled q p) msg others = other_came setup q (w.courses p) (w.handled q p) msg others flow none in
            quiet_arrivals setup q bar manages (w.handled q p) (upto msg.carry.turn (w.courses p)) pass.is_quiet
            ∙ ap (λ c. arrived_of c bar) (upto_upto (w.handled q p) msg.carry.turn (w.courses p) flow.in_order.0)

        said : (word : Word) → words_in msg.carry.turn msg.body ≡ record { turn = msg.carry.turn; body = word } ∷ [] → IsTold setup q (w.courses p) (w.handled q p) msg word others
        said word tells = told_came setup q (w.courses p) (w.handled q p) msg word others flow tells

        at_request : (lock : Lock) (mode : Mode) (version : ℕ) → msg.body ≡ Body.Req lock mode version → IsManagedBy (delivered (Body.Req lock mode version)) q bar
        at_request lock mode version e =
            let told_it = said (asked lock mode version) (ap (words_in msg.carry.turn) e) in
            at_no_arrival (Body.Req lock mode version) tt (first_other setup q bar manages (w.handled q p) (w.courses p) _ _ told_it.first
            (ap (comes_to bar) (ask_label setup q told_it.first.before told_it.first.label lock mode version told_it.first.is_body)))

        at_release : (lock : Lock) (mode : Mode) (version : ℕ) (lines : List Line) → msg.body ≡ Body.Release lock mode version lines → IsManagedBy (delivered (Body.Release lock mode version lines)) q bar
        at_release lock mode version lines e =
            let told_it = said (gave lock mode version) (ap (words_in msg.carry.turn) e) in
            at_no_arrival (Body.Release lock mode version lines) tt (first_other setup q bar manages (w.handled q p) (w.courses p) _ _ told_it.first
            (ap (comes_to bar) (give_word setup q told_it.first.before told_it.first.label lock mode version told_it.first.is_body).is_label))

        module _ (reached : Bar) (epoch : ℕ) (lines : List Line) (e : msg.body ≡ Body.Arrive reached epoch lines) where
          abbrev arrival : Body
          arrival = Body.Arrive reached epoch lines

          told_it : IsTold setup q (w.courses p) (w.handled q p) msg (arrived reached) others
          told_it = said (arrived reached) (ap (words_in msg.carry.turn) e)

          is_label : told_it.first.label ≡ Label.Arrive reached
          is_label = came_label setup q told_it.first.before told_it.first.label reached told_it.first.is_body

          at_other_barrier : (reached.0 == bar) ≡ false → IsManagedBy (delivered arrival) q bar
          at_other_barrier apart = at_no_arrival arrival (turned_false bar reached.0 apart)
              (first_other setup q bar manages (w.handled q p) (w.courses p) _ _ told_it.first (ap (comes_to bar) is_label ∙ apart))

          later : w.handled q p < msg.carry.turn
          later = told_it.first.later

          sender_within : p < setup.procs
          sender_within = h.is_in p (let a = later in let b : msg.carry.turn ≤ length (w.courses p) = told_it.first.within in omega arith)

          at_this : reached.0 ≡ bar → IsManagedBy (delivered arrival) q bar
          at_this i = one_came w (delivered arrival) q bar p (arrived_in msg.carry.turn lines) was
              (state_is arrival ∙ subst (λ b. (done arrival).processor.barriers b ≡ opened_where_due setup.procs (with_arrival ((w.processors q).barriers b) p (arrived_in msg.carry.turn lines))) i
              (arrival_counts setup q heard p msg.carry.turn reached epoch lines it_counts))
              (sender_now arrival ∙ first_comes setup q bar manages (w.handled q p) (w.courses p) _ _ told_it.first (ap (comes_to bar) is_label ∙ rw i (same_number bar)))
              (λ r there. others_same arrival r there)
            where
              arrives : IsArrivalIn setup run p msg.carry.turn reached.0 epoch lines
              arrives = subst (IsTrue setup first threads run p q msg.carry.turn) e is_true

              is_epoch : epoch ≡ arrivals_of ((w.processors q).barriers reached.0) p
              is_epoch =
                  arrives.is_epoch
                  ∙ ap (λ c. arrived_of (upto (msg.carry.turn - 1) c) reached.0) (sym (is.courses p))
                  ∙ ap (λ c. arrived_of c reached.0) (before_is setup q bar manages (w.handled q p) (w.courses p) _ _ told_it.first)
                  ∙ ap (λ b. arrived_of told_it.first.before b) i
                  ∙ before_first setup q bar manages (w.handled q p) (w.courses p) _ _ told_it.first
                  ∙ sym (arrivals_are w q bar p was sender_within)
                  ∙ ap (λ b. arrivals_of ((w.processors q).barriers b) p) (sym i)

              same_last : (heard.peers p).last ≡ ((w.processors q).peers p).last
              same_last = rw (same_number p) refl

              it_counts : counts heard p msg.carry.turn arrival ≡ true
              it_counts = new_counts (heard.peers p).last msg.carry.turn epoch (arrivals_of ((w.processors q).barriers reached.0) p) (let l = h.last p q in let k = same_last in let m = later in omega arith) is_epoch

          at_arrived : IsManagedBy (delivered arrival) q bar
          at_arrived = elim (eqb_tells reached.0 bar) [ inl (_, i) ↦ at_this i | inr (t, _) ↦ at_other_barrier t ]

        at_manager : (body : Body) → msg.body ≡ body → IsManagedBy (delivered body) q bar
        at_manager (Body.Req lock mode version) e = at_request lock mode version e
        at_manager (Body.Release lock mode version lines) e = at_release lock mode version lines e
        at_manager (Body.Arrive reached epoch lines) e = at_arrived reached epoch lines e
        at_manager body e = at_no_arrival body tt (passed (ap (words_in msg.carry.turn) e))

      delivery_managed : AreManaged (delivered msg.body)
      delivery_managed manager bar is_manager = elim (eqb_tells manager q) [
        | inl (_, i) ↦ subst (λ m. IsManagedBy (delivered msg.body) m bar) (sym i) (at_manager bar (is_manager ∙ i) (managed q bar (is_manager ∙ i)) msg.body refl)
        | inr (t, _) ↦ at_other_manager msg.body manager bar t (managed manager bar is_manager)
      ]

  -- After all units.

  record Has (w : World S) (steps : List Step) : Type 0 where
    history_is : HasHistory setup first threads w steps
    managed : AreManaged w

  has_managed : Keeps setup first threads ask_first Has
  has_managed = record {
    start = record { history_is = (has_history setup first threads ask_first).start; managed = start_managed };
    turn = λ w steps h p lt turn own is. record {
      history_is = (has_history setup first threads ask_first).turn w steps h p lt turn own is.history_is;
      managed = turn_managed w steps h is.history_is is.managed p lt turn own;
    };
    delivery = λ w steps h p q ne msg others oldest is. record {
      history_is = (has_history setup first threads ask_first).delivery w steps h p q ne msg others oldest is.history_is;
      managed = delivery_managed w steps h is.history_is is.managed p q ne msg others oldest;
    };
  }

  module _ (acts : List Act) (trace : List Group) (fits : FitsUnits setup first threads acts trace) (within : AreWithin setup acts) where
    abbrev net : Net S
    net = (run_of setup first threads fits.done).net

    holds : Holds setup first threads ask_first Has net (steps_of trace)
    holds = trace_holds setup first threads ask_first Has has_managed acts trace fits within

    abbrev world : World S
    world = holds.world

    abbrev turns_run : List Turn
    turns_run = turns_of (steps_of trace)

    module _ (p : ℕ) where
      counted_is : (bar q : ℕ) → counted world p bar q ≡ comings_upto turns_run bar q (world.handled p q)
      counted_is bar q = ap (λ c. arrived_of (upto (world.handled p q) c) bar) (holds.kept.history_is.courses q)

      by_all : (bar : ℕ) → manager_of setup bar ≡ p → IsOpenedByAll setup turns_run bar (world.handled p) ((world.processors p).barriers bar)
      by_all bar is_manager =
          let it : IsManagedBy world p bar = holds.kept.managed p bar is_manager in
          let count : (q : ℕ) → length (arrivals_by q it.comings) ≡ comings_upto turns_run bar q (world.handled p q) = λ q. it.come q ∙ counted_is bar q in
          record {
            each_counts = λ q lt. arrivals_are world p bar q it lt ∙ counted_is bar q;
            no_early = λ q lt. (let a = not_early setup.procs it.comings q lt in let b = count q in let c : ((world.processors p).barriers bar).opened ≡ (barrier_after setup.procs it.comings).opened = ap (λ (x : BarrierState). x.opened) it.is_after in omega arith);
            no_late =
                ap (λ (x : BarrierState). all_below setup.procs (λ q. nat_lt x.opened (comings_upto turns_run bar q (world.handled p q)))) it.is_after
                ∙ all_same setup.procs (λ q. nat_lt (barrier_after setup.procs it.comings).opened (comings_upto turns_run bar q (world.handled p q))) (λ q. nat_lt (barrier_after setup.procs it.comings).opened (length (arrivals_by q it.comings)))
                (λ q lt. ap (nat_lt (barrier_after setup.procs it.comings).opened) (sym (count q)))
                ∙ not_late setup.procs it.comings (some_processor setup);
          }

      own_handled : world.handled p p ≡ length (labels_of p turns_run)
      own_handled = holds.reached.own_handled p ∙ ap length (holds.kept.history_is.courses p)

      rest : RestIsUnderWay setup turns_run p (world.handled p) net.channels
      rest q other = elim (eqb_tells q p) [
        | inl (_, i) ↦ absurd (other i)
        | inr (t, _) ↦ ap words (holds.is_net.under_way q p) ∙ ((holds.reached.flows q p t).is_due ∙ ap (due (word_for setup p) (world.handled p q)) (holds.kept.history_is.courses q))
      ]

      has_opened : HasOpened setup turns_run p (world.processors p).barriers net.channels
      has_opened = record {
        handled = world.handled p;
        in_course = λ q. subst (λ labels. world.handled p q ≤ length labels) (holds.kept.history_is.courses q) (handled_within world (steps_of trace) holds.reached holds.kept.history_is holds.kept.managed p q);
        own = own_handled;
        rest = rest;
        barriers_are = by_all;
      }

    same_some : (a b : Processor S) → Some a ≡ Some b → a ≡ b
    same_some a b e = cc

    pub opens_when_all_came : OpenWhenAllCame setup (history trace) net
    opens_when_all_came p s e = subst (λ r. HasOpened setup r p s.barriers net.channels) (steps_are trace)
        (subst (λ (x : Processor S). HasOpened setup turns_run p x.barriers net.channels) (same_some (world.processors p) s (sym (holds.is_net.up p) ∙ e)) (has_opened p))

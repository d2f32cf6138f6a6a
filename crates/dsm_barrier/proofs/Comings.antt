-- A barrier has opened as often as all have come, and what waits is what came since.
use Rattle.std.proofs.Common.{◌≡◌, ◌≢◌, ℕ, zero, suc, ◌+◌, ◌-◌, ◌<◌, ◌≤◌, Bool, true, false, ◌==◌, if◌then◌else◌, List, [], ◌∷◌, ◌++◌, length, drop, refl, sym, ap, subst, ◌∙◌, arith, ⊎_elim, true≢false}
use Rattle.std.specs.Prelude.{nat_lt}
use Rattle.std.proofs.lemmas.Bool.{cases_Bool, cases_eq, cases_lt}
use Rattle.std.proofs.lemmas.List.{drop-drop, length-append, length-drop}
use Rattle.dsm_base.specs.Family.{update, all_below}
use Rattle.dsm_base.proofs.Families.{update_same, update_other, all_at, all_from, all_same}
use Rattle.dsm_barrier.specs.declared.arrived.Arrived.{Arrived}
use Rattle.dsm_barrier.specs.BarrierStates.{BarrierState, start_barrier, with_arrival, have_all_come, once_opened, opened_where_due}
use Rattle.dsm_barrier.specs.Histories.{Coming, barrier_after, arrivals_by}

-- Lists from a place on.

drop_append : {A : Type 0} (k : ℕ) (items : List A) (item : A) → k ≤ length items → drop k (items ++ item ∷ []) ≡ drop k items ++ item ∷ []
drop_append zero items item le = refl
drop_append (suc k) [] item le = absurd (omega arith)
drop_append (suc k) (first ∷ others) item le = drop_append k others item (omega arith)

-- something is left exactly where there are more
some_left : {A : Type 0} (k : ℕ) (items : List A) → nat_lt 0 (length (drop k items)) ≡ nat_lt k (length items)
some_left k items = rw (length-drop k items) (more k (length items))
  where
    is_true : (a b : ℕ) → a < b → nat_lt a b ≡ true
    is_true a b lt = grind arith

    is_false : (a b : ℕ) → b ≤ a → nat_lt a b ≡ false
    is_false a b le = grind arith

    more : (k n : ℕ) → nat_lt 0 (n - k) ≡ nat_lt k n
    more k n =
        ⊎_elim
        (λ lt. is_true 0 (n - k) (omega arith) ∙ sym (is_true k n lt))
        (λ ge. is_false 0 (n - k) (omega arith) ∙ sym (is_false k n ge))
        (cases_lt k n)

by_mine : (p : ℕ) (one : Coming) (before : List Coming) → one.proc ≡ p → arrivals_by p (one ∷ before) ≡ arrivals_by p before ++ one.arrived ∷ []
by_mine p one before e = grind arith

by_other : (p : ℕ) (one : Coming) (before : List Coming) → one.proc ≢ p → arrivals_by p (one ∷ before) ≡ arrivals_by p before
by_other p one before ne = grind arith

-- what waits of p is what came behind so many arrivals, of which there are as many
pub record IsSince (barrier : BarrierState) (come : List Arrived) (p : ℕ) : Type 0 where
  pub enough : barrier.opened ≤ length come
  pub waiting : barrier.waiting p ≡ drop barrier.opened come

module _ (procs : ℕ) where
  -- each processor's arrivals wait since, and not all have come
  record IsBetween (barrier : BarrierState) (comings : List Coming) : Type 0 where
    pub each : (p : ℕ) → p < procs → IsSince barrier (arrivals_by p comings) p
    pub not_all : 0 < procs → have_all_come procs barrier ≡ false

  -- one more has come
  with_one : (barrier : BarrierState) (before : List Coming) (one : Coming) → ((p : ℕ) → p < procs → IsSince barrier (arrivals_by p before) p) →
      (p : ℕ) → p < procs → IsSince (with_arrival barrier one.proc one.arrived) (arrivals_by p (one ∷ before)) p
  with_one barrier before one was p lt =
      ⊎_elim
      (λ mine. subst (λ come. IsSince (with_arrival barrier one.proc one.arrived) come p) (sym (by_mine p one before mine)) (record {
        enough = rw (length-append (arrivals_by p before) (one.arrived ∷ [])) (let le : barrier.opened ≤ length (arrivals_by p before) = (was p lt).enough in omega arith);
        waiting = subst (λ q. update barrier.waiting q (barrier.waiting q ++ one.arrived ∷ []) p ≡ barrier.waiting p ++ one.arrived ∷ []) (sym mine) (update_same barrier.waiting p (barrier.waiting p ++ one.arrived ∷ []))
            ∙ ap (λ items. items ++ one.arrived ∷ []) (was p lt).waiting ∙ sym (drop_append barrier.opened (arrivals_by p before) one.arrived (was p lt).enough);
      }))
      (λ ne. subst (λ come. IsSince (with_arrival barrier one.proc one.arrived) come p) (sym (by_other p one before ne)) (record {
        enough = (was p lt).enough;
        waiting = update_other barrier.waiting one.proc (barrier.waiting one.proc ++ one.arrived ∷ []) p (λ e. ne (sym e)) ∙ (was p lt).waiting;
      }))
      (cases_eq one.proc p)

  is_less : (n : ℕ) → nat_lt 0 n ≡ true → 0 < n
  is_less n e = grind arith

  less_is : (n : ℕ) → 0 < n → nat_lt 0 n ≡ true
  less_is n lt = grind arith

  -- all have come, and the barrier opens
  opened_since : (barrier : BarrierState) (comings : List Coming) → have_all_come procs barrier ≡ true → ((p : ℕ) → p < procs → IsSince barrier (arrivals_by p comings) p) →
      (p : ℕ) → p < procs → IsSince (once_opened barrier) (arrivals_by p comings) p
  opened_since barrier comings come was p lt =
      let some : 0 < length (drop barrier.opened (arrivals_by p comings)) =
      subst (λ items. 0 < length items) (was p lt).waiting (is_less (length (barrier.waiting p)) (all_at procs (λ q. nat_lt 0 (length (barrier.waiting q))) p lt come)) in
      record {
        enough = over barrier.opened (length (arrivals_by p comings)) (rw (length-drop barrier.opened (arrivals_by p comings)) at some);
        waiting = ap (drop 1) (was p lt).waiting ∙ drop-drop 1 barrier.opened (arrivals_by p comings);
      }
    where
      over : (k n : ℕ) → 0 < n - k → k + 1 ≤ n
      over k n lt = omega arith

  -- where not all had come before the last arrival, not all have come once the barrier has opened
  not_twice : (barrier : BarrierState) (q : ℕ) (arrived : Arrived) → have_all_come procs barrier ≡ false → have_all_come procs (once_opened (with_arrival barrier q arrived)) ≡ false
  not_twice barrier q arrived none =
      ⊎_elim
      (λ all. absurd (clash (all_from procs (λ p. nat_lt 0 (length (barrier.waiting p))) (λ p lt.
      had p (all_at procs (λ p. nat_lt 0 (length (drop 1 (update barrier.waiting q (barrier.waiting q ++ arrived ∷ []) p)))) p lt all)))))
      (λ not_all. not_all)
      (cases_Bool (have_all_come procs (once_opened (with_arrival barrier q arrived))))
    where
      clash : have_all_come procs barrier ≡ true → ⊥
      clash all = true≢false (sym all ∙ none)

      more : (items : List Arrived) → 0 < length (drop 1 (items ++ arrived ∷ [])) → 0 < length items
      more [] lt = lt
      more (first ∷ others) lt = omega arith

      fewer : (items : List Arrived) → 0 < length (drop 1 items) → 0 < length items
      fewer [] lt = lt
      fewer (first ∷ others) lt = omega arith

      had : (p : ℕ) → nat_lt 0 (length (drop 1 (update barrier.waiting q (barrier.waiting q ++ arrived ∷ []) p))) ≡ true → nat_lt 0 (length (barrier.waiting p)) ≡ true
      had p some =
          ⊎_elim
          (λ same. less_is (length (barrier.waiting p)) (more (barrier.waiting p)
          (subst (λ items. 0 < length (drop 1 items)) (subst (λ r. update barrier.waiting r (barrier.waiting r ++ arrived ∷ []) p ≡ barrier.waiting p ++ arrived ∷ []) same
          (update_same barrier.waiting p (barrier.waiting p ++ arrived ∷ []))) (is_less _ some))))
          (λ ne. less_is (length (barrier.waiting p)) (fewer (barrier.waiting p)
          (subst (λ items. 0 < length (drop 1 items)) (update_other barrier.waiting q (barrier.waiting q ++ arrived ∷ []) p ne) (is_less _ some))))
          (cases_eq p q)

  between : (comings : List Coming) → IsBetween (barrier_after procs comings) comings
  between [] = record {
    each = λ p lt. record { enough = omega arith; waiting = refl };
    not_all = λ some. none_come procs some;
  }
    where
      none_come : (n : ℕ) → 0 < n → all_below n (λ p. false) ≡ false
      none_come zero lt = absurd (omega arith)
      none_come (suc n) lt = refl
  between (one ∷ before) =
      let was = between before in
      let now = with_arrival (barrier_after procs before) one.proc one.arrived in
      let each : (p : ℕ) → p < procs → IsSince now (arrivals_by p (one ∷ before)) p = with_one (barrier_after procs before) before one was.each in
      ⊎_elim
      (λ all. subst (λ state. IsBetween state (one ∷ before)) (sym (opens all)) (record {
        each = opened_since now (one ∷ before) all each;
        not_all = λ some. not_twice (barrier_after procs before) one.proc one.arrived (was.not_all some);
      }))
      (λ none. subst (λ state. IsBetween state (one ∷ before)) (sym (stays none)) (record { each = each; not_all = λ some. none }))
      (cases_Bool (have_all_come procs now))
    where
      opens : have_all_come procs (with_arrival (barrier_after procs before) one.proc one.arrived) ≡ true →
          barrier_after procs (one ∷ before) ≡ once_opened (with_arrival (barrier_after procs before) one.proc one.arrived)
      opens all = rw all refl

      stays : have_all_come procs (with_arrival (barrier_after procs before) one.proc one.arrived) ≡ false →
          barrier_after procs (one ∷ before) ≡ with_arrival (barrier_after procs before) one.proc one.arrived
      stays none = rw none refl

  pub since : (comings : List Coming) (p : ℕ) → p < procs → (barrier_after procs comings).waiting p ≡ drop (barrier_after procs comings).opened (arrivals_by p comings)
  since comings p lt = ((between comings).each p lt).waiting

  pub not_early : (comings : List Coming) (p : ℕ) → p < procs → (barrier_after procs comings).opened ≤ length (arrivals_by p comings)
  not_early comings p lt = ((between comings).each p lt).enough

  pub not_late : (comings : List Coming) → 0 < procs → all_below procs (λ p. nat_lt (barrier_after procs comings).opened (length (arrivals_by p comings))) ≡ false
  not_late comings some =
      all_same procs (λ p. nat_lt (barrier_after procs comings).opened (length (arrivals_by p comings))) (λ p. nat_lt 0 (length ((barrier_after procs comings).waiting p)))
      (λ p lt. sym (some_left (barrier_after procs comings).opened (arrivals_by p comings)) ∙ ap (λ items. nat_lt 0 (length items)) (sym (since comings p lt)))
      ∙ (between comings).not_all some

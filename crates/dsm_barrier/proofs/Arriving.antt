-- Barriers in the code, and what arrivals and openings make of them.
use Rattle.std.proofs.Common.{Result, Ok, Err, OnOk}
use Rattle.std.proofs.Common.{◌≡◌, ◌≢◌, ℕ, zero, suc, ◌+◌, ◌-◌, ◌<◌, ◌≤◌, Bool, true, false, ◌&&◌, ◌==◌, if◌then◌else◌, List, [], ◌∷◌, ◌++◌, length, take, drop, get_or, set, replicate, refl, sym, ap, subst, ◌∙◌, arith, ⊎_elim, get_or-set_same, get_or-set_other}
use Rattle.std.specs.Prelude.{nat_lt, nat_le, map}
use Rattle.std.specs.List.{All, list_all, range_with_len, remove}
use Rattle.std.proofs.Math.Path.{fun_ext}
use Rattle.std.proofs.lemmas.Bool.{cases_eq, cases_lt}
use Rattle.std.proofs.lemmas.List.{map-append, length-map, map-set, get_or-map, get_or_default}
use Rattle.std.proofs.lemmas.List.Elements.{All-nil, All-cons, All-append, All-push, All-set, All-get_or, All-drop, All-head, All-tail}
use Rattle.dsm_base.specs.Family.{update, all_below, family_of}
use Rattle.dsm_base.proofs.Families.{family_of_set, family_of_push, all_items, all_at}
use Rattle.dsm_lines.specs.declared.list.Line.{Line}
use Rattle.dsm_lines.specs.LineLists.{are_lines}
use Rattle.dsm_lines.proofs.Ranges.{range_split}
use Rattle.dsm_barrier.specs.declared.arrived.Arrived.{Arrived}
use Rattle.dsm_barrier.specs.declared.barrier.Barrier.{Barrier}
use Rattle.dsm_barrier.specs.Joined.{with_lines}
use Rattle.dsm_barrier.specs.BarrierStates.{BarrierState, start_barrier, oldest, lines_of_others, arrivals_of, counts, arrived_in, with_arrival}
use Rattle.dsm_barrier.specs.Barriers.{HasLines, brought_by, barrier_of}
use Rattle.dsm_barrier.proofs.Joining.{others_joined}

-- what holds of a result holds of what follows from it
pub on_ok : {A E : Type 0} {P Q : Type 0} (result : Result A E) → OnOk result P → (P → Q) → OnOk result Q
on_ok (Ok a) p f = f p
on_ok (Err e) p f = tt

-- the member of a list that was found at an index is that of the family
pub found_at : {A : Type 0} (default : ℕ → A) (items : List A) (i p : ℕ) (item : A) → item ≡ get_or items i item → i ≡ p → p < length items → family_of default items p ≡ item
found_at default items i p item found same within =
    get_or_default items p (default p) item within ∙ ap (λ n. get_or items n item) (sym same) ∙ sym found

-- none past the end
pub none_past : {A : Type 0} (items : List (List A)) (k : ℕ) → length items ≤ k → family_of (λ p. []) items k ≡ []
none_past [] k le = refl
none_past (first ∷ others) zero le = absurd (omega arith)
none_past (first ∷ others) (suc k) le = none_past others k (omega arith)

-- one number more in a range
pub map_more : {A : Type 0} (f : ℕ → A) (n : ℕ) → map f (range_with_len 0 (n + 1)) ≡ map f (range_with_len 0 n) ++ f n ∷ []
map_more f n = ap (map f) (range_split 0 n 1 ∙ ap (λ k. range_with_len 0 n ++ k ∷ []) (from_zero n)) ∙ map-append f (range_with_len 0 n) (n ∷ [])
  where
    from_zero : (n : ℕ) → 0 + n ≡ n
    from_zero n = omega arith

-- the lines of the oldest arrival are a list of lines
pub oldest_has_lines : (waiting : List Arrived) → All HasLines waiting → are_lines (oldest waiting).lines ≡ true
oldest_has_lines [] all = refl
oldest_has_lines (first ∷ others) all = All-head HasLines first others all

-- an epoch is the one that is ended next
pub is_next : (opened epoch come : ℕ) → (nat_le opened epoch && ((epoch - opened) == come)) ≡ (epoch == opened + come)
is_next opened epoch come = grind arith

-- whether all have come
pub all_come : (waiting : List (List Arrived)) → list_all (λ one. nat_lt 0 (length one)) waiting ≡ all_below (length waiting) (λ p. nat_lt 0 (length (family_of (λ q. []) waiting p)))
all_come waiting = all_items (λ one. nat_lt 0 (length one)) (λ q. []) waiting

-- The lines of others.

pub joined_on : (waiting : List (List Arrived)) (lines : List Line) (k p : ℕ) (item : List Arrived) → k < length waiting → item ≡ get_or waiting k item →
    lines ≡ lines_of_others (brought_by waiting) k p → k ≢ p → with_lines lines (oldest item).lines ≡ lines_of_others (brought_by waiting) (k + 1) p
joined_on waiting lines k p item lt found was ne =
    ap (λ before. with_lines before (oldest item).lines) was
    ∙ ap (λ one. with_lines (lines_of_others (brought_by waiting) k p) (oldest one).lines) (sym (found_at (λ q. []) waiting k k item found refl lt))
    ∙ sym (others_joined (brought_by waiting) k p ne)

-- The next epoch begins.

module _ (start : List (List Arrived)) where
  -- of the processors below a number the oldest arrival is taken away
  abbrev pub AreTaken : ℕ → List (List Arrived) → Type 0
  AreTaken k now = (q : ℕ) → family_of (λ p. []) now q ≡ (if nat_lt q k then drop 1 (family_of (λ p. []) start q) else family_of (λ p. []) start q)

  at_present : (k : ℕ) (now : List (List Arrived)) → AreTaken k now → family_of (λ p. []) now k ≡ family_of (λ p. []) start k
  at_present k now taken = taken k ∙ untaken (nat_lt k k) (grind arith)
    where
      untaken : (b : Bool) → b ≡ false → (if b then drop 1 (family_of (λ p. []) start k) else family_of (λ p. []) start k) ≡ family_of (λ p. []) start k
      untaken b e = rw e refl

  pub still_waits : (procs k : ℕ) (now : List (List Arrived)) (item : List Arrived) → item ≡ get_or now k item → k < length now → AreTaken k now →
      all_below procs (λ p. nat_lt 0 (length (family_of (λ q. []) start p))) ≡ true → k < procs → 0 < length item
  still_waits procs k now item found lt taken come below =
      let same : item ≡ family_of (λ p. []) start k = sym (found_at (λ p. []) now k k item found refl lt) ∙ at_present k now taken in
      let some : nat_lt 0 (length (family_of (λ p. []) start k)) ≡ true = all_at procs (λ p. nat_lt 0 (length (family_of (λ q. []) start p))) k below come in
      subst (λ one. 0 < length one) (sym same) (is_lt (length (family_of (λ p. []) start k)) some)
    where
      is_lt : (n : ℕ) → nat_lt 0 n ≡ true → 0 < n
      is_lt n e = grind arith

  pub one_taken : (k : ℕ) (now : List (List Arrived)) (item new : List Arrived) → item ≡ get_or now k item → k < length now → new ≡ remove item 0 → AreTaken k now → AreTaken (k + 1) (set now k new)
  one_taken k now item new found lt is taken q =
      let puts : family_of (λ p. []) (set now k new) q ≡ update (family_of (λ p. []) now) k new q = ap (λ f. f q) (family_of_set (λ p. []) now k new lt) in
      ⊎_elim
      (λ same. puts ∙ at_it (family_of (λ p. []) now) same ∙ is ∙ ap (λ one. remove one 0) (sym (found_at (λ p. []) now k k item found refl lt) ∙ at_present k now taken)
      ∙ ap (λ n. drop 1 (family_of (λ p. []) start n)) (sym same) ∙ sym (is_taken (nat_lt q (k + 1)) (grind arith)))
      (λ ne. puts ∙ beside (family_of (λ p. []) now) ne ∙ taken q ∙ ap (λ b. if b then drop 1 (family_of (λ p. []) start q) else family_of (λ p. []) start q) (as_before ne))
      (cases_eq q k)
    where
      at_it : (f : ℕ → List Arrived) → q ≡ k → update f k new q ≡ new
      at_it f same = grind arith

      beside : (f : ℕ → List Arrived) → q ≢ k → update f k new q ≡ f q
      beside f ne = grind arith

      as_before : q ≢ k → nat_lt q k ≡ nat_lt q (k + 1)
      as_before ne = grind arith

      is_taken : (b : Bool) → b ≡ true → (if b then drop 1 (family_of (λ p. []) start q) else family_of (λ p. []) start q) ≡ drop 1 (family_of (λ p. []) start q)
      is_taken b e = rw e refl

  all_taken : (procs k : ℕ) (now : List (List Arrived)) → length start ≡ procs → procs ≤ k → AreTaken k now → family_of (λ p. []) now ≡ (λ p. drop 1 (family_of (λ q. []) start p))
  all_taken procs k now count past taken =
      fun_ext (λ q. taken q ∙ ⊎_elim
      (λ lt. within q (nat_lt q k) (below q lt))
      (λ ge. outside q (nat_lt q k) (none_past start q (rw count ge)))
      (cases_lt q procs))
    where
      below : (q : ℕ) → q < procs → nat_lt q k ≡ true
      below q lt = let le : q < k = omega arith in grind arith

      within : (q : ℕ) (b : Bool) → b ≡ true → (if b then drop 1 (family_of (λ p. []) start q) else family_of (λ p. []) start q) ≡ drop 1 (family_of (λ p. []) start q)
      within q b e = rw e refl

      outside : (q : ℕ) (b : Bool) → family_of (λ p. []) start q ≡ [] → (if b then drop 1 (family_of (λ p. []) start q) else family_of (λ p. []) start q) ≡ drop 1 (family_of (λ p. []) start q)
      outside q true e = refl
      outside q false e = e ∙ sym (ap (drop 1) e)

  pub begun : (procs k opened before : ℕ) (now : List (List Arrived)) → length start ≡ procs → procs ≤ k → AreTaken k now → opened ≡ before →
      let one : BarrierState = record { opened = opened + 1; waiting = family_of (λ p. []) now } in one ≡ record { opened = before + 1; waiting = λ p. drop 1 (family_of (λ q. []) start p) }
  begun procs k opened before now count past taken same = λ i. record { opened = same i + 1; waiting = all_taken procs k now count past taken i }

-- the lists of lines stay when the oldest arrival of a processor is taken away
pub lines_kept : (now : List (List Arrived)) (k : ℕ) (item new : List Arrived) → All (All HasLines) now → item ≡ get_or now k item → k < length now → new ≡ remove item 0 → All (All HasLines) (set now k new)
lines_kept now k item new all found lt is =
    let has : All HasLines item = subst (All HasLines) (sym found) (all k item lt) in
    All-set (All HasLines) now k new (subst (All HasLines) (sym is) (All-drop HasLines 1 item has)) all

-- A processor comes.

pub came : (opened : ℕ) (items : List (List Arrived)) (i p : ℕ) (item new : List Arrived) (arrived : Arrived) → item ≡ get_or items i item → i ≡ p → p < length items → new ≡ item ++ arrived ∷ [] →
    let one : BarrierState = record { opened = opened; waiting = family_of (λ q. []) (set items i new) } in one ≡ with_arrival (record { opened = opened; waiting = family_of (λ q. []) items }) p arrived
came opened items i p item new arrived found same lt is =
    let waits : family_of (λ q. []) (set items i new) ≡ update (family_of (λ q. []) items) p (family_of (λ q. []) items p ++ arrived ∷ []) =
    ap (λ n. family_of (λ q. []) (set items n new)) same ∙ family_of_set (λ q. []) items p new lt
    ∙ ap (update (family_of (λ q. []) items) p) (is ∙ ap (λ one. one ++ arrived ∷ []) (sym (found_at (λ q. []) items i p item found same lt))) in
    λ j. record { opened = opened; waiting = waits j }

-- The barriers of a manager.

pub barrier_found : (items : List Barrier) (i b : ℕ) (barrier : Barrier) → barrier ≡ get_or items i barrier → i ≡ b → b < length items → family_of (λ bar. start_barrier) (map barrier_of items) b ≡ barrier_of barrier
barrier_found items i b barrier found same lt =
    get_or-map barrier_of items b barrier start_barrier lt ∙ ap (λ n. barrier_of (get_or items n barrier)) (sym same) ∙ ap barrier_of (sym found)

pub barrier_put : (items : List Barrier) (i b : ℕ) (new : Barrier) → i ≡ b → b < length items →
    family_of (λ bar. start_barrier) (map barrier_of (set items i new)) ≡ update (family_of (λ bar. start_barrier) (map barrier_of items)) b (barrier_of new)
barrier_put items i b new same lt =
    ap (λ n. family_of (λ bar. start_barrier) (map barrier_of (set items n new))) same
    ∙ ap (family_of (λ bar. start_barrier)) (map-set barrier_of items b new)
    ∙ family_of_set (λ bar. start_barrier) (map barrier_of items) b (barrier_of new) (rw (length-map items barrier_of) lt)

pub one_started : (items : List Barrier) (barrier : Barrier) → barrier_of barrier ≡ start_barrier → ((bar : ℕ) → family_of (λ b. start_barrier) (map barrier_of items) bar ≡ start_barrier) →
    (bar : ℕ) → family_of (λ b. start_barrier) (map barrier_of (items ++ barrier ∷ [])) bar ≡ start_barrier
one_started items barrier is before bar =
    ap (λ states. family_of (λ b. start_barrier) states bar) (map-append barrier_of items (barrier ∷ []))
    ∙ family_of_push (λ b. start_barrier) (map barrier_of items) (barrier_of barrier) is before bar

-- an arrival counts that passes the tests
pub it_counts : (items : List Barrier) (lasts : List ℕ) (i b p turn epoch last : ℕ) (barrier : Barrier) (awaits : Bool) → barrier ≡ get_or items i barrier → i ≡ b → b < length items →
    awaits ≡ (epoch == arrivals_of (barrier_of barrier) p) → awaits ≡ true → last ≡ family_of (λ q. 0) lasts p → last < turn →
    counts (family_of (λ bar. start_barrier) (map barrier_of items) b) (family_of (λ q. 0) lasts p) p turn epoch ≡ true
it_counts items lasts i b p turn epoch last barrier awaits found same lt is awaited was later =
    both (nat_lt (family_of (λ q. 0) lasts p) turn) (epoch == arrivals_of (family_of (λ bar. start_barrier) (map barrier_of items) b) p)
    (rw (← was) (is_lt last later))
    (ap (λ state. epoch == arrivals_of state p) (barrier_found items i b barrier found same lt) ∙ sym is ∙ awaited)
  where
    both : (x y : Bool) → x ≡ true → y ≡ true → (x && y) ≡ true
    both x y e f = grind arith

    is_lt : (n : ℕ) → n < turn → nat_lt n turn ≡ true
    is_lt n lt = grind arith

-- the barrier that it makes
pub arrival_put : (items : List Barrier) (i b p turn : ℕ) (barrier : Barrier) (copy lines : List Line) → barrier ≡ get_or items i barrier → i ≡ b → b < length items → copy ≡ lines →
    with_arrival (barrier_of barrier) p (record { turn = turn + 1; lines = copy }) ≡ with_arrival (family_of (λ bar. start_barrier) (map barrier_of items) b) p (arrived_in turn lines)
arrival_put items i b p turn barrier copy lines found same lt is =
    ap (λ state. with_arrival state p (record { turn = turn + 1; lines = copy })) (sym (barrier_found items i b barrier found same lt))
    ∙ ap (λ lines. with_arrival (family_of (λ bar. start_barrier) (map barrier_of items) b) p (record { turn = turn + 1; lines = lines })) is

-- the choice that a test makes that passes
pub chosen : {A : Type 0} (b : Bool) (one other : A) → b ≡ true → one ≡ (if b then one else other)
chosen b one other e = rw e refl

-- The last turns of a processor, by the calls on its tail.
use Rattle.std.proofs.Common.{◌≡◌, ◌∙◌, ◌≤◌, inl, inr, ℕ, true, false, not, if◌then◌else◌, nat_lt, max, List, [], ◌∷◌, ◌++◌, refl, sym, ap, subst, append_assoc, append-nil, arith}
use Rattle.std.specs.List.{All}
use Rattle.std.proofs.lemmas.Bool.{cases_Bool, cond-true, cond-false}
use Rattle.std.proofs.lemmas.List.Elements.{All-append, All-cons, All-head, All-nil, All-tail, All-weaker, filter-append, filter_passes}
use Rattle.dsm_base.specs.declared.lists.PendingLine.{PendingLine}
use Rattle.dsm_base.specs.declared.lists.Record.{Record}
use Rattle.dsm_acqlog.specs.Tails.{beyond, is_safe, learned, safe_lines, unsafe_lines}
use Rattle.dsm_acqlog.specs.Histories.{TailEvent, took, printed, told, IsInOrder, answered, held_by, lines_of, tail_after, takes_of, unheld, waiting}

-- What is known as held, and the records beyond.

pub known_is : (events : List TailEvent) → (tail_after events).known ≡ held_by events
known_is [] = refl
known_is (took taken ∷ before) = known_is before
known_is (printed line ∷ before) = known_is before
known_is (told turn ∷ before) = ap (λ k. max k turn) (known_is before)

-- what is beyond a greater turn is so among those beyond a smaller one
beyond_twice : (low high : ℕ) → low ≤ high → (records : List Record) → beyond high (beyond low records) ≡ beyond high records
beyond_twice low high le [] = refl
beyond_twice low high le (taken ∷ records) = elim (cases_Bool (nat_lt low taken.turn)) [
  | inl over ↦
      ap (beyond high) (cond-true (nat_lt low taken.turn) (taken ∷ beyond low records) (beyond low records) over)
      ∙ ap (λ (l : List Record). if nat_lt high taken.turn then taken ∷ l else l) (beyond_twice low high le records)
  | inr under ↦
      ap (beyond high) (cond-false (nat_lt low taken.turn) (taken ∷ beyond low records) (beyond low records) under)
      ∙ beyond_twice low high le records
      ∙ sym (cond-false (nat_lt high taken.turn) (taken ∷ beyond high records) (beyond high records) (not_over under))
]
  where
    not_over : nat_lt low taken.turn ≡ false → nat_lt high taken.turn ≡ false
    not_over e = grind arith

-- a take is a record where its turn is beyond what is known
take_noted : (known : ℕ) (records takes : List Record) (taken : Record) → records ≡ beyond known takes
    → (if nat_lt known taken.turn then records ++ taken ∷ [] else records) ≡ beyond known (takes ++ taken ∷ [])
take_noted known records takes taken is = elim (cases_Bool (nat_lt known taken.turn)) [
  | inl over ↦
      cond-true (nat_lt known taken.turn) (records ++ taken ∷ []) records over
      ∙ ap (λ (l : List Record). l ++ taken ∷ []) is
      ∙ ap (λ (l : List Record). beyond known takes ++ l) (sym (cond-true (nat_lt known taken.turn) (taken ∷ []) [] over))
      ∙ sym (filter-append (λ (one : Record). nat_lt known one.turn) takes (taken ∷ []))
  | inr under ↦
      cond-false (nat_lt known taken.turn) (records ++ taken ∷ []) records under
      ∙ is
      ∙ sym (append-nil (beyond known takes))
      ∙ ap (λ (l : List Record). beyond known takes ++ l) (sym (cond-false (nat_lt known taken.turn) (taken ∷ []) [] under))
      ∙ sym (filter-append (λ (one : Record). nat_lt known one.turn) takes (taken ∷ []))
]

pub records_are : (events : List TailEvent) → (tail_after events).records ≡ unheld events
records_are [] = refl
records_are (took taken ∷ before) =
    ap (λ k. if nat_lt k taken.turn then (tail_after before).records ++ taken ∷ [] else (tail_after before).records) (known_is before)
    ∙ take_noted (held_by before) (tail_after before).records (takes_of before) taken (records_are before)
records_are (printed line ∷ before) = records_are before
records_are (told turn ∷ before) =
    ap (λ k. beyond (max k turn) (tail_after before).records) (known_is before)
    ∙ ap (beyond (max (held_by before) turn)) (records_are before)
    ∙ beyond_twice (held_by before) (max (held_by before) turn) (omega arith) (takes_of before)

pub lines_are : (events : List TailEvent) → (tail_after events).lines ≡ waiting events
lines_are [] = refl
lines_are (took taken ∷ before) = lines_are before
lines_are (printed line ∷ before) = ap (λ (l : List PendingLine). l ++ line ∷ []) (lines_are before)
lines_are (told turn ∷ before) =
    ap (λ (r : List Record). unsafe_lines r (tail_after before).lines) (records_are (told turn ∷ before))
    ∙ ap (unsafe_lines (unheld (told turn ∷ before))) (lines_are before)

-- Lines of rising turns.

abbrev pub Rises : List PendingLine → Type 0
Rises [] = Unit {0}
Rises (line ∷ lines) = All (λ (later : PendingLine). line.turn ≤ later.turn) lines × Rises lines

all_front : {A : Type 0} (P : A → Type 0) (xs ys : List A) → All P (xs ++ ys) → All P xs
all_front P [] ys all = All-nil P
all_front P (x ∷ xs) ys all = All-cons P x xs (All-head P x (xs ++ ys) all) (all_front P xs ys (All-tail P x (xs ++ ys) all))

rises_push : (lines : List PendingLine) (line : PendingLine) → Rises lines → All (λ (other : PendingLine). other.turn ≤ line.turn) lines → Rises (lines ++ line ∷ [])
rises_push [] line rises all = (All-nil (λ (later : PendingLine). line.turn ≤ later.turn), tt)
rises_push (first ∷ lines) line rises all = (
  All-append (λ (later : PendingLine). first.turn ≤ later.turn) lines (line ∷ []) rises.0
      (All-cons (λ (later : PendingLine). first.turn ≤ later.turn) line [] (All-head (λ (other : PendingLine). other.turn ≤ line.turn) first lines all)
      (All-nil (λ (later : PendingLine). first.turn ≤ later.turn))),
  rises_push lines line rises.1 (All-tail (λ (other : PendingLine). other.turn ≤ line.turn) first lines all),
)

rises_back : (xs ys : List PendingLine) → Rises (xs ++ ys) → Rises ys
rises_back [] ys rises = rises
rises_back (x ∷ xs) ys rises = rises_back xs ys rises.1

pub lines_rise : (events : List TailEvent) → IsInOrder events → Rises (lines_of events)
lines_rise [] order = tt
lines_rise (took taken ∷ before) order = lines_rise before order.1
lines_rise (printed line ∷ before) order = rises_push (lines_of before) line (lines_rise before order.1) order.0
lines_rise (told turn ∷ before) order = lines_rise before order

-- Safe lines.

-- an earlier line is safe where a later one is
safe_down : (records : List Record) (line later : PendingLine) → line.turn ≤ later.turn → is_safe records later ≡ true → is_safe records line ≡ true
safe_down [] line later le safe = refl
safe_down (taken ∷ records) line later le safe = grind (arith, safe_down records line later le)

-- where a line isn't safe, no later one is
later_unsafe : (records : List Record) (line later : PendingLine) → line.turn ≤ later.turn → is_safe records line ≡ false → is_safe records later ≡ false
later_unsafe records line later le not_safe = elim (cases_Bool (is_safe records later)) [
  | inl safe ↦ let bad : true ≡ false = sym (safe_down records line later le safe) ∙ not_safe in absurd (cc)
  | inr not_later ↦ not_later
]

none_safe : (records : List Record) (line : PendingLine) (lines : List PendingLine) → is_safe records line ≡ false
    → All (λ (later : PendingLine). line.turn ≤ later.turn) lines → safe_lines records lines ≡ []
none_safe records line [] not_safe all = refl
none_safe records line (later ∷ lines) not_safe all =
    cond-false (is_safe records later) (later ∷ safe_lines records lines) (safe_lines records lines)
    (later_unsafe records line later (All-head (λ (one : PendingLine). line.turn ≤ one.turn) later lines all) not_safe)
    ∙ none_safe records line lines not_safe (All-tail (λ (one : PendingLine). line.turn ≤ one.turn) later lines all)

all_unsafe : (records : List Record) (line : PendingLine) (lines : List PendingLine) → is_safe records line ≡ false
    → All (λ (later : PendingLine). line.turn ≤ later.turn) lines → unsafe_lines records lines ≡ lines
all_unsafe records line [] not_safe all = refl
all_unsafe records line (later ∷ lines) not_safe all =
    cond-true (not (is_safe records later)) (later ∷ unsafe_lines records lines) (unsafe_lines records lines)
    (ap not (later_unsafe records line later (All-head (λ (one : PendingLine). line.turn ≤ one.turn) later lines all) not_safe))
    ∙ ap (λ (l : List PendingLine). later ∷ l) (all_unsafe records line lines not_safe (All-tail (λ (one : PendingLine). line.turn ≤ one.turn) later lines all))

-- where turns rise, the safe lines come first
parted : (records : List Record) (lines : List PendingLine) → Rises lines → safe_lines records lines ++ unsafe_lines records lines ≡ lines
parted records [] rises = refl
parted records (line ∷ lines) rises = elim (cases_Bool (is_safe records line)) [
  | inl safe ↦
      ap (λ (l : List PendingLine). l ++ unsafe_lines records (line ∷ lines)) (cond-true (is_safe records line) (line ∷ safe_lines records lines) (safe_lines records lines) safe)
      ∙ ap (λ (l : List PendingLine). line ∷ (safe_lines records lines ++ l)) (cond-false (not (is_safe records line)) (line ∷ unsafe_lines records lines) (unsafe_lines records lines) (ap not safe))
      ∙ ap (λ (l : List PendingLine). line ∷ l) (parted records lines rises.1)
  | inr not_safe ↦
      ap (λ (l : List PendingLine). l ++ unsafe_lines records (line ∷ lines))
      (cond-false (is_safe records line) (line ∷ safe_lines records lines) (safe_lines records lines) not_safe ∙ none_safe records line lines not_safe rises.0)
      ∙ cond-true (not (is_safe records line)) (line ∷ unsafe_lines records lines) (unsafe_lines records lines) (ap not not_safe)
      ∙ ap (λ (l : List PendingLine). line ∷ l) (all_unsafe records line lines not_safe rises.0)
]

abbrev pub AreSafe : List Record → List PendingLine → Type 0
AreSafe records lines = All (λ (line : PendingLine). is_safe records line ≡ true) lines

module _ (records : List Record) where
  safe_kept : (lines : List PendingLine) → AreSafe records lines → safe_lines records lines ≡ lines
  safe_kept [] all = refl
  safe_kept (line ∷ lines) all =
      cond-true (is_safe records line) (line ∷ safe_lines records lines) (safe_lines records lines) (All-head (λ (one : PendingLine). is_safe records one ≡ true) line lines all)
      ∙ ap (λ (l : List PendingLine). line ∷ l) (safe_kept lines (All-tail (λ (one : PendingLine). is_safe records one ≡ true) line lines all))

  safe_dropped : (lines : List PendingLine) → AreSafe records lines → unsafe_lines records lines ≡ []
  safe_dropped [] all = refl
  safe_dropped (line ∷ lines) all =
      cond-false (not (is_safe records line)) (line ∷ unsafe_lines records lines) (unsafe_lines records lines)
      (ap not (All-head (λ (one : PendingLine). is_safe records one ≡ true) line lines all))
      ∙ safe_dropped lines (All-tail (λ (one : PendingLine). is_safe records one ≡ true) line lines all)

  safe_of_unsafe : (lines : List PendingLine) → safe_lines records (unsafe_lines records lines) ≡ []
  safe_of_unsafe [] = refl
  safe_of_unsafe (line ∷ lines) = elim (cases_Bool (is_safe records line)) [
    | inl safe ↦
        ap (safe_lines records) (cond-false (not (is_safe records line)) (line ∷ unsafe_lines records lines) (unsafe_lines records lines) (ap not safe))
        ∙ safe_of_unsafe lines
    | inr not_safe ↦
        ap (safe_lines records) (cond-true (not (is_safe records line)) (line ∷ unsafe_lines records lines) (unsafe_lines records lines) (ap not not_safe))
        ∙ cond-false (is_safe records line) (line ∷ safe_lines records (unsafe_lines records lines)) (safe_lines records (unsafe_lines records lines)) not_safe
        ∙ safe_of_unsafe lines
  ]

-- What is safe stays safe.

-- among fewer records
safe_beyond : (known : ℕ) (line : PendingLine) (records : List Record) → is_safe records line ≡ true → is_safe (beyond known records) line ≡ true
safe_beyond known line [] safe = refl
safe_beyond known line (taken ∷ records) safe = elim (cases_Bool (nat_lt known taken.turn)) [
  | inl over ↦
      ap (λ (r : List Record). is_safe r line) (cond-true (nat_lt known taken.turn) (taken ∷ beyond known records) (beyond known records) over)
      ∙ grind (arith, safe, safe_beyond known line records)
  | inr under ↦
      ap (λ (r : List Record). is_safe r line) (cond-false (nat_lt known taken.turn) (taken ∷ beyond known records) (beyond known records) under)
      ∙ safe_beyond known line records (grind (arith, safe))
]

-- when a lock is taken in a later turn
safe_more : (line : PendingLine) (records : List Record) (taken : Record) → line.turn ≤ taken.turn → is_safe records line ≡ true → is_safe (records ++ taken ∷ []) line ≡ true
safe_more line [] taken le safe = grind arith
safe_more line (first ∷ records) taken le safe = grind (arith, safe, safe_more line records taken le)

module _ (taken : Record) (known : ℕ) (takes : List Record) where
  noted_safe : (line : PendingLine) → line.turn ≤ taken.turn → is_safe (beyond known takes) line ≡ true
      → is_safe (if nat_lt known taken.turn then beyond known takes ++ taken ∷ [] else beyond known takes) line ≡ true
  noted_safe line le safe = elim (cases_Bool (nat_lt known taken.turn)) [
    | inl over ↦
        ap (λ (r : List Record). is_safe r line) (cond-true (nat_lt known taken.turn) (beyond known takes ++ taken ∷ []) (beyond known takes) over)
        ∙ safe_more line (beyond known takes) taken le safe
    | inr under ↦
        ap (λ (r : List Record). is_safe r line) (cond-false (nat_lt known taken.turn) (beyond known takes ++ taken ∷ []) (beyond known takes) under)
        ∙ safe
  ]

  more_noted : (line : PendingLine) → line.turn ≤ taken.turn → is_safe (beyond known takes) line ≡ true → is_safe (beyond known (takes ++ taken ∷ [])) line ≡ true
  more_noted line le safe =
      ap (λ (r : List Record). is_safe r line) (sym (take_noted known (beyond known takes) takes taken refl)) ∙ noted_safe line le safe

  all_noted : (lines : List PendingLine) → All (λ (line : PendingLine). line.turn ≤ taken.turn) lines → AreSafe (beyond known takes) lines → AreSafe (beyond known (takes ++ taken ∷ [])) lines
  all_noted [] le safe = All-nil (λ (line : PendingLine). is_safe (beyond known (takes ++ taken ∷ [])) line ≡ true)
  all_noted (line ∷ lines) le safe =
      All-cons (λ (one : PendingLine). is_safe (beyond known (takes ++ taken ∷ [])) one ≡ true) line lines
      (more_noted line (All-head (λ (one : PendingLine). one.turn ≤ taken.turn) line lines le) (All-head (λ (one : PendingLine). is_safe (beyond known takes) one ≡ true) line lines safe))
      (all_noted lines (All-tail (λ (one : PendingLine). one.turn ≤ taken.turn) line lines le) (All-tail (λ (one : PendingLine). is_safe (beyond known takes) one ≡ true) line lines safe))

-- What has been answered, and what waits.

-- each line has been answered once, in order, or waits
pub answered_first : (events : List TailEvent) → IsInOrder events → answered events ++ (tail_after events).lines ≡ lines_of events
answered_first [] order = refl
answered_first (took taken ∷ before) order = answered_first before order.1
answered_first (printed line ∷ before) order =
    sym (append_assoc (answered before) (tail_after before).lines (line ∷ [])) ∙ ap (λ (l : List PendingLine). l ++ line ∷ []) (answered_first before order.1)
answered_first (told turn ∷ before) order =
    let records = (learned (tail_after before) turn).records in
    let lines = (tail_after before).lines in
    let first = answered_first before order in
    append_assoc (answered before) (safe_lines records lines) (unsafe_lines records lines)
    ∙ ap (λ (l : List PendingLine). answered before ++ l) (parted records lines (rises_back (answered before) lines (subst Rises (sym first) (lines_rise before order))))
    ∙ first

answered_safe : (events : List TailEvent) → IsInOrder events → AreSafe (unheld events) (answered events)
answered_safe [] order = All-nil (λ (line : PendingLine). is_safe [] line ≡ true)
answered_safe (took taken ∷ before) order =
    all_noted taken (held_by before) (takes_of before) (answered before)
    (all_front (λ (line : PendingLine). line.turn ≤ taken.turn) (answered before) (tail_after before).lines
    (subst (All (λ (line : PendingLine). line.turn ≤ taken.turn)) (sym (answered_first before order.1)) order.0))
    (answered_safe before order.1)
answered_safe (printed line ∷ before) order = answered_safe before order.1
answered_safe (told turn ∷ before) order =
    let events = told turn ∷ before in
    let known = max (held_by before) turn in
    let lines = (tail_after before).lines in
    All-append (λ (line : PendingLine). is_safe (unheld events) line ≡ true) (answered before) (safe_lines (tail_after events).records lines)
    (All-weaker (λ (line : PendingLine). is_safe (unheld before) line ≡ true) (λ (line : PendingLine). is_safe (unheld events) line ≡ true)
    (λ line safe. ap (λ (r : List Record). is_safe r line) (sym (beyond_twice (held_by before) known (omega arith) (takes_of before))) ∙ safe_beyond known line (unheld before) safe)
    (answered before) (answered_safe before order))
    (subst (λ (r : List Record). All (λ (line : PendingLine). is_safe r line ≡ true) (safe_lines (tail_after events).records lines)) (records_are events)
    (filter_passes (is_safe (tail_after events).records) lines))

-- once the tail is told something, all lines that are safe have been answered
pub answered_is : (turn : ℕ) (before : List TailEvent) → IsInOrder before
    → answered (told turn ∷ before) ≡ safe_lines (unheld (told turn ∷ before)) (lines_of before)
answered_is turn before order =
    let events = told turn ∷ before in
    let records = unheld events in
    let lines = (tail_after before).lines in
    let left : (tail_after events).lines ≡ unsafe_lines records lines = ap (λ (r : List Record). unsafe_lines r lines) (records_are events) in
    sym (ap (safe_lines records) (sym (answered_first events order))
    ∙ filter-append (is_safe records) (answered events) (tail_after events).lines
    ∙ ap (λ (l : List PendingLine). l ++ safe_lines records (tail_after events).lines) (safe_kept records (answered events) (answered_safe events order))
    ∙ ap (λ (l : List PendingLine). answered events ++ safe_lines records l) left
    ∙ ap (λ (l : List PendingLine). answered events ++ l) (safe_of_unsafe records lines)
    ∙ append-nil (answered events))

-- what is carried is all that isn't safe
pub carried_is : (events : List TailEvent) → IsInOrder events
    → unsafe_lines (tail_after events).records (tail_after events).lines ≡ unsafe_lines (unheld events) (lines_of events)
carried_is events order =
    let records = unheld events in
    let lines = (tail_after events).lines in
    ap (λ (r : List Record). unsafe_lines r lines) (records_are events)
    ∙ sym (ap (unsafe_lines records) (sym (answered_first events order))
    ∙ filter-append (λ (line : PendingLine). not (is_safe records line)) (answered events) lines
    ∙ ap (λ (l : List PendingLine). l ++ unsafe_lines records lines) (safe_dropped records (answered events) (answered_safe events order)))

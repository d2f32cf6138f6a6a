-- Records that are kept stand once, in order of turn.
use Rattle.std.proofs.Common.{◌≡◌, ◌∙◌, inl, inr, ℕ, ◌<◌, true, nat_le, nat_lt, List, [], ◌∷◌, ◌++◌, Option, Some, refl, sym, ap, subst, append-nil, lt-ltb, arith}
use Rattle.std.specs.Option.{option_map}
use Rattle.std.proofs.lemmas.Bool.{cases_Bool, cond-true, cond-false}
use Rattle.dsm_base.specs.declared.lists.Record.{Record}
use Rattle.dsm_segments.specs.Entries.{IsRising}
use Rattle.dsm_segments.proofs.Lists.{newest-append}
use Rattle.dsm_acqlog.specs.Logs.{AreOnce, is_later, last_turn, later, records_behind, records_over, with_records}
use Rattle.dsm_acqlog.proofs.Keeping.{with_later, without, with_records_step}

turn_over : (last turn : ℕ) → nat_lt last turn ≡ true → last < turn
turn_over last turn e = grind arith

-- the last of a list with more than one is the last of the rest
last_of_rest : (first next : Record) (records : List Record) → last_turn (first ∷ next ∷ records) ≡ last_turn (next ∷ records)
last_of_rest first next records = ap (option_map (λ (one : Record). one.turn)) (newest-append (first ∷ []) (next ∷ records) (omega arith))

push_once : (kept : List Record) (taken : Record) → AreOnce kept → is_later (last_turn kept) taken.turn ≡ true → AreOnce (kept ++ taken ∷ [])
push_once [] taken once later = tt
push_once (first ∷ []) taken once later = (turn_over first.turn taken.turn later, tt)
push_once (first ∷ next ∷ kept) taken once later =
    (once.0, push_once (next ∷ kept) taken once.1 (subst (λ (last : Option ℕ). is_later last taken.turn ≡ true) (last_of_rest first next kept) later))

one_once : (kept : List Record) (taken : Record) → AreOnce kept → AreOnce (with_records kept (taken ∷ []))
one_once kept taken once = elim (cases_Bool (is_later (last_turn kept) taken.turn)) [
  | inl is ↦ subst AreOnce (sym (with_later kept taken is)) (push_once kept taken once is)
  | inr is ↦ subst AreOnce (sym (without kept taken is)) once
]

pub kept_once : (kept records : List Record) → AreOnce kept → AreOnce (with_records kept records)
kept_once kept [] once = subst AreOnce (sym (append-nil kept)) once
kept_once kept (taken ∷ records) once =
    subst AreOnce (with_records_step kept taken records) (kept_once (with_records kept (taken ∷ [])) records (one_once kept taken once))

once_rest : (first : Record) (records : List Record) → AreOnce (first ∷ records) → AreOnce records
once_rest first [] once = tt
once_rest first (next ∷ records) once = once.1

pub left_once : (upto : ℕ) (records : List Record) → AreOnce records → AreOnce (records_behind upto records)
left_once upto [] once = tt
left_once upto (first ∷ records) once = elim (cases_Bool (nat_le first.turn upto)) [
  | inl old ↦ subst AreOnce (sym (cond-true (nat_le first.turn upto) (records_behind upto records) (first ∷ records) old)) (left_once upto records (once_rest first records once))
  | inr new ↦ subst AreOnce (sym (cond-false (nat_le first.turn upto) (records_behind upto records) (first ∷ records) new)) once
]

pub once_rises : (records : List Record) → AreOnce records → IsRising (λ (taken : Record). taken.turn) records
once_rises [] once = tt
once_rises (first ∷ []) once = tt
once_rises (first ∷ next ∷ records) once = (omega (arith, once.0), once_rises (next ∷ records) once.1)

all_later : (first : Record) (records : List Record) → AreOnce (first ∷ records) → later (Some first.turn) records ≡ records
all_later first [] once = refl
all_later first (next ∷ records) once =
    cond-true (nat_lt first.turn next.turn) (next ∷ later (Some next.turn) records) (later (Some first.turn) records) (lt-ltb first.turn next.turn once.0)
    ∙ ap (λ (l : List Record). next ∷ l) (all_later next records once.1)

all_over : (last : ℕ) (first : Record) (records : List Record) → last < first.turn → AreOnce (first ∷ records) → records_over last records ≡ records
all_over last first [] over once = refl
all_over last first (next ∷ records) over once =
    let more : last < next.turn = omega (arith, over, once.0) in
    cond-true (nat_lt last next.turn) (next ∷ records_over last records) (records_over last records) (lt-ltb last next.turn more)
    ∙ ap (λ (l : List Record). next ∷ l) (all_over last next records more once.1)

later_over : (last : ℕ) (records : List Record) → AreOnce records → later (Some last) records ≡ records_over last records
later_over last [] once = refl
later_over last (first ∷ records) once = elim (cases_Bool (nat_lt last first.turn)) [
  | inl is ↦
      cond-true (nat_lt last first.turn) (first ∷ later (Some first.turn) records) (later (Some last) records) is
      ∙ ap (λ (l : List Record). first ∷ l) (all_later first records once ∙ sym (all_over last first records (turn_over last first.turn is) once))
      ∙ sym (cond-true (nat_lt last first.turn) (first ∷ records_over last records) (records_over last records) is)
  | inr is ↦
      cond-false (nat_lt last first.turn) (first ∷ later (Some first.turn) records) (later (Some last) records) is
      ∙ later_over last records (once_rest first records once)
      ∙ sym (cond-false (nat_lt last first.turn) (first ∷ records_over last records) (records_over last records) is)
]

pub brought_first : (records : List Record) → AreOnce records → with_records [] records ≡ records
brought_first [] once = refl
brought_first (first ∷ records) once = ap (λ (l : List Record). first ∷ l) (all_later first records once)

pub brought_over : (kept : List Record) (last : ℕ) (records : List Record) → AreOnce records → last_turn kept ≡ Some last
    → with_records kept records ≡ kept ++ records_over last records
brought_over kept last records once is =
    ap (λ (o : Option ℕ). kept ++ later o records) is ∙ ap (λ (l : List Record). kept ++ l) (later_over last records once)

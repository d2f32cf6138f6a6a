-- Entries that rows say.
use Rattle.std.specs.Prelude.{◌≡◌, ◌≤◌, ℕ, ◌+◌, Bool, true, false, if◌then◌else◌, List, [], ◌∷◌, ◌++◌, length, map, Option, Some, None, Result, Ok}
use Rattle.std.specs.List.{list_all}
use Rattle.std.proofs.Common.{refl, ap, ◌∙◌, sym, subst, arith, length-append}
use Rattle.std.proofs.lemmas.List.Folds.{list_all-append}
use Rattle.dsm_base.specs.declared.act.SchedErr.{SchedErr}
use Rattle.dsm_sched.specs.Words.{Row}
use Rattle.dsm_sched.specs.Entries.{entry_at, all_or_refusal}
use Rattle.dsm_sched.proofs.Entries.{behind, behind_more}
use Rattle.dsm_sched.specs.declared.picks.PickEntry.{PickEntry}
use Rattle.dsm_sched.specs.declared.picks.entry.Form.{Form}
use Rattle.dsm_sched.specs.Picks.{is_entry}
use Rattle.dsm_sched.specs.PickTexts.{form_of, entry_of, entry_in, pick_at}

-- the numbers of an entry that a row says are in their ranges
pub said_in_range : (procs : ℕ) (row : Row) (entry : PickEntry) → pick_at procs row ≡ Ok entry → is_entry procs entry ≡ true
said_in_range procs row entry is = of_form (form_of row.words) is
  where
    of_test : (form : Form) (test : Bool) → is_entry procs (entry_of form) ≡ test →
        entry_at {F = Form} row.line (Some form) (λ form. if test then Some (entry_of form) else None) ≡ Ok entry → is_entry procs entry ≡ true
    of_test form true passes said = let same : entry_of form ≡ entry = cc in subst (λ one. is_entry procs one ≡ true) same passes
    of_test form false passes said = cc

    of_form : (form : Option Form) → entry_at row.line form (entry_in procs) ≡ Ok entry → is_entry procs entry ≡ true
    of_form None said = cc
    of_form (Some form) said = of_test form (is_entry procs (entry_of form)) refl said

-- one more row is read, and says an entry
module _ (procs : ℕ) (entries next : List PickEntry) (entry : PickEntry) (row : Row) (left rest : List Row)
    (rows : left ≡ row ∷ rest) (said : pick_at procs row ≡ Ok entry) (pushed : next ≡ entries ++ entry ∷ []) where
  pub next_said : (all : Result (List PickEntry) SchedErr) → behind entries (all_or_refusal (map (pick_at procs) left)) ≡ all → behind next (all_or_refusal (map (pick_at procs) rest)) ≡ all
  next_said all is =
      ap (λ known. behind known (all_or_refusal (map (pick_at procs) rest))) pushed ∙ sym (behind_more entries entry (pick_at procs row) (map (pick_at procs) rest) said)
      ∙ ap (λ all. behind entries (all_or_refusal (map (pick_at procs) all))) (sym rows) ∙ is

  pub next_kept : list_all (is_entry procs) entries ≡ true → list_all (is_entry procs) next ≡ true
  next_kept kept = let one : is_entry procs entry ≡ true = said_in_range procs row entry said in rw (pushed, list_all-append, kept, one) refl

  pub next_few : (most : ℕ) → length entries + length left ≤ most → length next + length rest ≤ most
  next_few most few = omega (arith, ap length pushed, length-append entries (entry ∷ []), ap length rows, few)

-- Entries of schedules that rows say, one after another.
use Rattle.std.specs.Prelude.{◌≡◌, ◌≤◌, ◌==◌, ℕ, ◌+◌, Bool, true, false, not, nat_lt, nat_le, List, [], ◌∷◌, ◌++◌, length, reverse, Option, Some, None, option_map, option_and_then, option_to_list, Result, Ok, Err, codes}
use Rattle.std.specs.List.{list_all}
use Rattle.std.specs.Option.{ok_or}
use Rattle.std.specs.Result.{result_ok}
use Rattle.std.proofs.Common.{refl, ap, ap₂, ◌∙◌, sym, subst, arith, cond, length-append, append_assoc}
use Rattle.std.proofs.lemmas.List.{reverse-append}
use Rattle.std.proofs.lemmas.List.Folds.{list_all-append}
use Rattle.dsm_base.specs.declared.names.Proc.{Proc}
use Rattle.dsm_base.specs.declared.act.Act.{Act}
use Rattle.dsm_base.specs.declared.act.SchedErr.{SchedErr}
use Rattle.dsm_sched.specs.Words.{Row}
use Rattle.dsm_sched.specs.Entries.{◌>>=◌, Gives, is_count, entry_at, all_or_refusal, begins_with, procs_at, headed}
use Rattle.dsm_sched.specs.declared.schedule.Entry.{Entry}
use Rattle.dsm_sched.specs.declared.schedule.form.Form.{Form}
use Rattle.dsm_sched.specs.Schedules.{is_act, is_entry}
use Rattle.dsm_sched.specs.ScheduleTexts.{form_of, proc_in, deliver_in, torn_in, counted, entry_in, placed, said_at, said_behind}
use Rattle.dsm_sched.specs.Built.{is_built, first_unbuilt, unbuilt_line, unbuilt_in}
use Rattle.dsm_sched.proofs.Entries.{behind, behind_more}

-- Numbers are in their ranges.

one_within : (procs number : ℕ) (made : Proc → Act) → ((p : Proc) → is_act procs (made p) ≡ nat_lt p.0 procs) → (act : Act) → option_map made (proc_in procs number) ≡ Some act → is_act procs act ≡ true
one_within procs number made within act is = by (nat_lt number procs) refl is
  where
    by : (b : Bool) → nat_lt number procs ≡ b → option_map made (cond b (Some record { 0 = number }) None) ≡ Some act → is_act procs act ≡ true
    by true e said = let same : made record { 0 = number } ≡ act = cc in subst (λ one. is_act procs one ≡ true) same (within record { 0 = number } ∙ e)
    by false e said = cc

deliver_within : (procs from to : ℕ) (act : Act) → deliver_in procs from to ≡ Some act → is_act procs act ≡ true
deliver_within procs from to act is = by (nat_lt from procs) refl (nat_lt to procs) refl (from == to) refl is
  where
    by : (x : Bool) → nat_lt from procs ≡ x → (y : Bool) → nat_lt to procs ≡ y → (z : Bool) → (from == to) ≡ z
        → option_and_then (λ (f : Proc). option_and_then (λ (t : Proc). cond (not (f.0 == t.0)) (Some (Act.Deliver f t)) None) (cond y (Some record { 0 = to }) None)) (cond x (Some record { 0 = from }) None) ≡ Some act
        → is_act procs act ≡ true
    by true e true f true g said = let bad = rw g at said in cc
    by true e true f false g said =
        let found = rw g at said in
        let same : Act.Deliver record { 0 = from } record { 0 = to } ≡ act = cc in
        subst (λ one. is_act procs one ≡ true) same (rw (e, f, g) refl)
    by true e false f z g said = cc
    by false e y f z g said = cc

torn_within : (procs proc kept : ℕ) (act : Act) → torn_in procs proc kept ≡ Some act → is_act procs act ≡ true
torn_within procs proc kept act is = by (nat_lt proc procs) refl (nat_le kept 512) refl is
  where
    by : (x : Bool) → nat_lt proc procs ≡ x → (y : Bool) → nat_le kept 512 ≡ y
        → option_and_then (λ (p : Proc). cond y (Some (Act.Torn p kept)) None) (cond x (Some record { 0 = proc }) None) ≡ Some act → is_act procs act ≡ true
    by true e true f said = let same : Act.Torn record { 0 = proc } kept ≡ act = cc in subst (λ one. is_act procs one ≡ true) same (rw (e, f) refl)
    by true e false f said = cc
    by false e y f said = cc

counted_within : (procs : ℕ) (act : Option Act) (count : ℕ) (entry : Entry) → ((a : Act) → act ≡ Some a → is_act procs a ≡ true) → counted act count ≡ Some entry → is_entry procs entry ≡ true
counted_within procs None count entry within is = cc
counted_within procs (Some act) count entry within is = by (is_count count) refl is
  where
    by : (b : Bool) → is_count count ≡ b → cond b (Some (Entry.Unit act count)) None ≡ Some entry → is_entry procs entry ≡ true
    by true few said = let same : Entry.Unit act count ≡ entry = cc in subst (λ one. is_entry procs one ≡ true) same (rw (within act refl, few) refl)
    by false few said = cc

finish_within : (procs rounds : ℕ) (entry : Entry) → entry_in procs (Form.Finish rounds) ≡ Some entry → is_entry procs entry ≡ true
finish_within procs rounds entry is = by (is_count rounds) refl is
  where
    by : (b : Bool) → is_count rounds ≡ b → cond b (Some (Entry.Finish rounds)) None ≡ Some entry → is_entry procs entry ≡ true
    by true few said = let same : Entry.Finish rounds ≡ entry = cc in subst (λ one. is_entry procs one ≡ true) same few
    by false few said = cc

form_within : (procs : ℕ) (form : Form) (entry : Entry) → entry_in procs form ≡ Some entry → is_entry procs entry ≡ true
form_within procs (Form.Step proc count) entry is = counted_within procs _ count entry (one_within procs proc Act.Step (λ p. refl)) is
form_within procs (Form.Deliver from to count) entry is = counted_within procs _ count entry (deliver_within procs from to) is
form_within procs (Form.Finish rounds) entry is = finish_within procs rounds entry is
form_within procs (Form.Ckpt proc) entry is = counted_within procs _ 1 entry (one_within procs proc Act.Ckpt (λ p. refl)) is
form_within procs (Form.Block proc count) entry is = counted_within procs _ count entry (one_within procs proc Act.Block (λ p. refl)) is
form_within procs (Form.Crash proc) entry is = counted_within procs _ 1 entry (one_within procs proc Act.Crash (λ p. refl)) is
form_within procs (Form.Torn proc kept) entry is = counted_within procs _ 1 entry (torn_within procs proc kept) is
form_within procs (Form.Restart proc) entry is = counted_within procs _ 1 entry (one_within procs proc Act.Restart (λ p. refl)) is

-- the numbers of an entry that a row says are in their ranges
pub row_within : (procs line : ℕ) (form : Option Form) (entry : Entry) → entry_at line form (entry_in procs) ≡ Ok entry → is_entry procs entry ≡ true
row_within procs line None entry is = cc
row_within procs line (Some form) entry is = by (entry_in procs form) refl is
  where
    by : (found : Option Entry) → entry_in procs form ≡ found → ok_or found (SchedErr.OutOfRange line) ≡ Ok entry → is_entry procs entry ≡ true
    by None e said = cc
    by (Some one) e said = let same : one ≡ entry = cc in subst (λ one. is_entry procs one ≡ true) same (form_within procs form one e)

-- One row after another.

-- a refusal is given as it is
pub gives_refusal : {X A : Type 0} (view : X → A) (refusal : SchedErr) (said : Result A SchedErr) → said ≡ Err refusal → Gives view (Err refusal) said
gives_refusal view SchedErr.NoProcs said is = is
gives_refusal view (SchedErr.BadEntry line) said is = is
gives_refusal view (SchedErr.OutOfRange line) said is = is
gives_refusal view (SchedErr.SecondCrash line) said is = is
gives_refusal view (SchedErr.NoCrash line) said is = is
gives_refusal view (SchedErr.TooMany count) said is = is
gives_refusal view (SchedErr.TooLong bytes) said is = is
gives_refusal view (SchedErr.NotBuilt line) said is = is
gives_refusal view SchedErr.Memory said is = tt

abbrev pub or_else : Option ℕ → Option ℕ → Option ℕ
or_else None next = next
or_else (Some line) next = Some line

one_unbuilt : (known : Option ℕ) (line : ℕ) (entry : Entry) (later : Option ℕ) → or_else (first_unbuilt known line entry) later ≡ or_else known (cond (is_built entry) later (Some line))
one_unbuilt (Some known) line entry later = refl
one_unbuilt None line entry later = by (is_built entry)
  where
    by : (b : Bool) → or_else (cond b None (Some line)) later ≡ cond b later (Some line)
    by true = refl
    by false = refl

pub still_built : (known : Option ℕ) (line : ℕ) (entries next : List Entry) (entry : Entry) → next ≡ entries ++ entry ∷ [] → (known ≡ None → list_all is_built entries ≡ true)
    → first_unbuilt known line entry ≡ None → list_all is_built next ≡ true
still_built (Some known) line entries next entry pushed so is = cc
still_built None line entries next entry pushed so is = by (is_built entry) refl is
  where
    by : (b : Bool) → is_built entry ≡ b → cond b None (Some line) ≡ None → list_all is_built next ≡ true
    by true e none = let front : list_all is_built entries ≡ true = so refl in rw (pushed, list_all-append, front, e) refl
    by false e none = cc

-- what a row says, by its form and by what stands before it
pub said_placed : (procs line : ℕ) (before : List Entry) (row : Row) (entry : Entry) (found : Result Entry SchedErr) → line ≡ row.line → entry_at row.line (form_of row.words) (entry_in procs) ≡ Ok entry
    → placed line before entry ≡ found → said_at procs before row ≡ found
said_placed procs line before row entry found at form place =
    ap (λ one. one >>= placed row.line before) form ∙ ap (λ line. placed line before entry) (sym at) ∙ place

pub reverse_pushed : (entries next : List Entry) (entry : Entry) → next ≡ entries ++ entry ∷ [] → entry ∷ reverse entries ≡ reverse next
reverse_pushed entries next entry pushed = sym (ap reverse pushed ∙ reverse-append entries (entry ∷ []))

module _ (procs : ℕ) (entries : List Entry) (row : Row) (left rest : List Row) (rows : left ≡ row ∷ rest) where
  abbrev said : Result Entry SchedErr
  said = said_at procs (reverse entries) row

  abbrev others : List (Result Entry SchedErr)
  others = said_behind procs (option_to_list (result_ok said) ++ reverse entries) rest

  at_row : behind entries (all_or_refusal (said_behind procs (reverse entries) left)) ≡ behind entries (all_or_refusal (said ∷ others))
  at_row = ap (λ rows. behind entries (all_or_refusal (said_behind procs (reverse entries) rows))) rows

  -- it is refused
  pub row_refused : (refusal : SchedErr) (all : Result (List Entry) SchedErr) → said_at procs (reverse entries) row ≡ Err refusal
      → behind entries (all_or_refusal (said_behind procs (reverse entries) left)) ≡ all → all ≡ Err refusal
  row_refused refusal all is known = sym known ∙ at_row ∙ ap (λ one. behind entries (all_or_refusal (one ∷ others))) is

  -- it says an entry
  module _ (next : List Entry) (entry : Entry) (is : said_at procs (reverse entries) row ≡ Ok entry) (pushed : next ≡ entries ++ entry ∷ []) where
    before_next : option_to_list (result_ok said) ++ reverse entries ≡ reverse next
    before_next = ap (λ one. option_to_list (result_ok one) ++ reverse entries) is ∙ sym (ap reverse pushed ∙ reverse-append entries (entry ∷ []))

    pub next_said : (all : Result (List Entry) SchedErr) → behind entries (all_or_refusal (said_behind procs (reverse entries) left)) ≡ all
        → behind next (all_or_refusal (said_behind procs (reverse next) rest)) ≡ all
    next_said all known =
        ap₂ (λ known before. behind known (all_or_refusal (said_behind procs before rest))) pushed (sym before_next)
        ∙ sym (behind_more entries entry said others is) ∙ sym at_row ∙ known

    pub next_kept : is_entry procs entry ≡ true → list_all (is_entry procs) entries ≡ true → list_all (is_entry procs) next ≡ true
    next_kept one kept = rw (pushed, list_all-append, kept, one) refl

    pub next_few : (most : ℕ) → length entries + length left ≤ most → length next + length rest ≤ most
    next_few most few = omega (arith, ap length pushed, length-append entries (entry ∷ []), ap length rows, few)

    pub next_unbuilt : (known : Option ℕ) (all : List Row) → ((more : List Entry) → or_else known (unbuilt_line left more) ≡ unbuilt_line all (entries ++ more))
        → (more : List Entry) → or_else (first_unbuilt known row.line entry) (unbuilt_line rest more) ≡ unbuilt_line all (next ++ more)
    next_unbuilt known all so more =
        one_unbuilt known row.line entry (unbuilt_line rest more)
        ∙ ap (λ rows. or_else known (unbuilt_line rows (entry ∷ more))) (sym rows)
        ∙ so (entry ∷ more)
        ∙ ap (unbuilt_line all) (sym (ap (λ front. front ++ more) pushed ∙ append_assoc entries (entry ∷ []) more))

-- The first entry.

abbrev with_rows : List Row → ℕ → Result (ℕ × List Row) SchedErr
with_rows rows procs = Ok (procs, rows)

abbrev second : Result (ℕ × List Row) SchedErr → List Row
second (Ok head) = head.1
second (Err error) = []

-- what can't be run yet, by the rows behind the first
pub unbuilt_behind : (rows rest : List Row) (procs : ℕ) (entries : List Entry) → headed rows ≡ Ok (procs, rest)
    → unbuilt_in rows entries ≡ unbuilt_line rest entries
unbuilt_behind [] rest procs entries head = cc
unbuilt_behind (first ∷ rows) rest procs entries head =
    ap (λ rows. unbuilt_line rows entries) (by (begins_with (codes "procs") first.words) head)
  where
    by_count : (count : Result ℕ SchedErr) → (count >>= with_rows rows) ≡ Ok (procs, rest) → rows ≡ rest
    by_count (Ok count) is = ap second is
    by_count (Err error) is = cc

    by : (begins : Bool) → cond begins (procs_at first >>= with_rows rows) (Err SchedErr.NoProcs) ≡ Ok (procs, rest) → rows ≡ rest
    by true is = by_count (procs_at first) is
    by false is = cc

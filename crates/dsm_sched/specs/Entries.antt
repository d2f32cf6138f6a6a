-- Texts of entries: what their rows say, and why they are refused.
use Rattle.std.specs.Prelude.{◌≡◌, ℕ, Bool, false, ◌&&◌, if◌then◌else◌, nat_le, min, List, [], ◌∷◌, length, sum_by, Option, Some, None, option_map, option_and_then, Result, Ok, Err, codes}
use Rattle.std.specs.Option.{ok_or}
use Rattle.std.specs.Str.{bytes_eq}
use Rattle.dsm_base.specs.declared.act.SchedErr.{SchedErr}
use Rattle.dsm_base.specs.Setups.{is_proc_count}
use Rattle.dsm_sched.specs.Words.{Row, rows_of, number_of}

-- one after the other, unless the first is refused
infixl 10 ◌>>=◌
-- one reading and then another; the first refusal stands
abbrev pub ◌>>=◌ : {A B : Type 0} → Result A SchedErr → (A → Result B SchedErr) → Result B SchedErr
(Ok a) >>= more = more a
(Err refusal) >>= more = Err refusal

-- what a line says: a bad entry where it is of no form, and out of range where a number of its form is
abbrev pub entry_at : {F E : Type 0} → ℕ → Option F → (F → Option E) → Result E SchedErr
entry_at line None in_range = Err (SchedErr.BadEntry line)
entry_at line (Some form) in_range = ok_or (in_range form) (SchedErr.OutOfRange line)

-- all entries, or the first refusal
abbrev pub all_or_refusal : {E : Type 0} → List (Result E SchedErr) → Result (List E) SchedErr
all_or_refusal [] = Ok []
all_or_refusal (said ∷ others) = do
  entry ← said
  entries ← all_or_refusal others
  Ok (entry ∷ entries)

-- a number of units or rounds
abbrev pub is_count : ℕ → Bool
is_count count = nat_le 1 count && nat_le count 500000

-- The numbers that stand behind a name.

-- one number alone
abbrev pub one_number : List (List ℕ) → Option ℕ
one_number (word ∷ []) = number_of word
one_number _ = None

-- two numbers
abbrev pub two_numbers : List (List ℕ) → Option (ℕ × ℕ)
two_numbers (first ∷ second ∷ []) = option_and_then (λ a. option_map (λ b. (a, b)) (number_of second)) (number_of first)
two_numbers _ = None

-- one number, and how many units, which is 1 where it is left out
abbrev pub counted_number : List (List ℕ) → Option (ℕ × ℕ)
counted_number (word ∷ []) = option_map (λ number. (number, 1)) (number_of word)
counted_number words = two_numbers words

-- two numbers, and how many units
abbrev pub counted_numbers : List (List ℕ) → Option (ℕ × ℕ × ℕ)
counted_numbers (first ∷ second ∷ []) = option_map (λ both. (both.0, both.1, 1)) (two_numbers (first ∷ second ∷ []))
counted_numbers (first ∷ second ∷ count ∷ []) =
    option_and_then (λ both. option_map (λ count. (both.0, both.1, count)) (number_of count)) (two_numbers (first ∷ second ∷ []))
counted_numbers _ = None

-- The first entry.

-- whether this word comes first
abbrev pub begins_with : List ℕ → List (List ℕ) → Bool
begins_with name [] = false
begins_with name (word ∷ words) = bytes_eq word name

-- the number of `procs N`
abbrev pub procs_form : List (List ℕ) → Option ℕ
procs_form (name ∷ count ∷ []) = number_of count
procs_form _ = None

-- how many processors a row says that there are
abbrev pub procs_at : Row → Result ℕ SchedErr
procs_at row = entry_at row.line (procs_form row.words) (λ procs. if is_proc_count procs then Some procs else None)

-- how many processors, and the rows behind the first, which is `procs N`
abbrev pub headed : List Row → Result (ℕ × List Row) SchedErr
headed [] = Err SchedErr.NoProcs
headed (first ∷ rows) =
    if begins_with (codes "procs") first.words then (procs_at first >>= λ procs. Ok (procs, rows)) else Err SchedErr.NoProcs

-- entries of at most 500,000 units
abbrev pub limited : {E : Type 0} → (E → ℕ) → List E → Result (List E) SchedErr
limited units entries = if nat_le (sum_by units entries) 500000 then Ok entries else Err (SchedErr.TooMany (sum_by units entries))

-- a kind of entries: what each row behind the first says for so many processors, and the units of an entry
pub record EntryKind (E : Type 0) : Type 0 where
  pub says : ℕ → List Row → List (Result E SchedErr)
  pub units : ℕ → E → ℕ

-- what rows say: how many processors there are, and the entries
abbrev pub said_by : {E : Type 0} → EntryKind E → List Row → Result (ℕ × List E) SchedErr
said_by kind rows = do
  head ← headed rows
  entries ← all_or_refusal (kind.says head.0 head.1)
  few ← limited (kind.units head.0) entries
  Ok (head.0, few)

-- what a text says, which has at most 4,194,304 bytes
abbrev pub said_by_text : {E : Type 0} → EntryKind E → List ℕ → Result (ℕ × List E) SchedErr
said_by_text kind text =
    if nat_le (length text) 4194304 then said_by kind (rows_of text) else Err (SchedErr.TooLong (min (length text) 4294967295))

-- a text is too long to be read
abbrev pub too_long : List ℕ → SchedErr
too_long text = SchedErr.TooLong (min (length text) 4294967295)

-- a call gives what is said, seen by view, unless memory ran out
abbrev pub Gives : {X A : Type 0} → (X → A) → Result X SchedErr → Result A SchedErr → Type 0
Gives view (Ok x) said = said ≡ Ok (view x)
Gives view (Err SchedErr.Memory) said = Unit {0}
Gives view (Err refusal) said = said ≡ Err refusal

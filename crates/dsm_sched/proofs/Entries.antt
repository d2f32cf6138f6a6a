-- What rows say, as they are read one after another.
use Rattle.std.specs.Prelude.{◌≡◌, ◌≤◌, ℕ, Bool, true, false, ◌++◌, if◌then◌else◌, List, [], ◌∷◌, length, Result, Ok, Err, codes}
use Rattle.std.proofs.Common.{refl, ap, sym, ◌∙◌, append_assoc, arith}
use Rattle.dsm_base.specs.declared.act.SchedErr.{SchedErr}
use Rattle.dsm_sched.specs.Words.{Row}
use Rattle.dsm_sched.specs.Entries.{◌>>=◌, all_or_refusal, begins_with, procs_at, headed}

-- entries that are known, in front of what the rows after them say
abbrev pub behind : {E : Type 0} → List E → Result (List E) SchedErr → Result (List E) SchedErr
behind entries said = said >>= λ more. Ok (entries ++ more)

-- one more entry is known
pub behind_more : {E : Type 0} (entries : List E) (entry : E) (first : Result E SchedErr) (others : List (Result E SchedErr)) → first ≡ Ok entry →
    behind entries (all_or_refusal (first ∷ others)) ≡ behind (entries ++ entry ∷ []) (all_or_refusal others)
behind_more {E = E} entries entry first others is = ap (λ one. behind entries (all_or_refusal (one ∷ others))) is ∙ regrouped (all_or_refusal others)
  where
    regrouped : (said : Result (List E) SchedErr) → behind entries (said >>= λ more. Ok (entry ∷ more)) ≡ behind (entries ++ entry ∷ []) said
    regrouped (Ok more) = ap Ok (sym (append_assoc entries (entry ∷ []) more))
    regrouped (Err error) = refl

abbrev with_rows : List Row → ℕ → Result (ℕ × List Row) SchedErr
with_rows rows procs = Ok (procs, rows)

abbrev second : Result (ℕ × List Row) SchedErr → List Row
second (Ok head) = head.1
second (Err error) = []

-- the rows behind the first entry are fewer
pub fewer_rows : (rows rest : List Row) (procs : ℕ) → headed rows ≡ Ok (procs, rest) → length rest ≤ length rows
fewer_rows [] rest procs head = cc
fewer_rows (first ∷ rows) rest procs head = by (begins_with (codes "procs") first.words) head
  where
    by_count : (count : Result ℕ SchedErr) → (count >>= with_rows rows) ≡ Ok (procs, rest) → length rest ≤ length (first ∷ rows)
    by_count (Ok count) is = let same : rows ≡ rest = ap second is in omega (arith, ap length same)
    by_count (Err error) is = cc

    by : (begins : Bool) → (if begins then (procs_at first >>= with_rows rows) else Err SchedErr.NoProcs) ≡ Ok (procs, rest) → length rest ≤ length (first ∷ rows)
    by true is = by_count (procs_at first) is
    by false is = cc

-- The schedule of the large job.
use Rattle.std.specs.Prelude.{◌≡◌, ℕ, ◌+◌, ◌/◌, ◌%◌, ◌==◌, nat_lt, if◌then◌else◌, List, [], ◌∷◌, ◌++◌, map}
use Rattle.std.specs.List.{range_with_len}
use Rattle.dsm_base.specs.declared.act.Act.{Act}
use Rattle.dsm_base.specs.declared.names.Proc.{Proc}
use Rattle.dsm_sched.specs.declared.schedule.Entry.{Entry}
use Rattle.dsm_load.specs.Draws.{state_after, drawn}

-- the processor of a number that was drawn
abbrev pub first_of : ℕ → Proc
first_of number = record { 0 = number / 16 % 4 }

-- another processor
abbrev pub second_of : ℕ → Proc
second_of number = record { 0 = (number / 16 % 4 + 1 + number / 64 % 3) % 4 }

-- the unit of a number that was drawn: a step in half of the cases, and else mostly a delivery
abbrev pub act_of : ℕ → Act
act_of number =
    if nat_lt (number % 16) 8 then Act.Step (first_of number)
    else if nat_lt (number % 16) 14 then Act.Deliver (first_of number) (second_of number)
    else if number % 16 == 14 then Act.Ckpt (first_of number)
    else Act.Block (first_of number)

-- the entry of one unit
abbrev pub once : Act → Entry
once act = Entry.Unit act 1

-- so many drawn entries, after so many others
unfoldable pub drawn_entries : ℕ → ℕ → ℕ → List Entry
drawn_entries seed from count = map (λ k. once (act_of (drawn seed k))) (range_with_len from count)

-- the processor that crashes and restarts
abbrev pub victim : ℕ → Proc
victim seed = record { 0 = seed % 4 }

-- 40,000 drawn entries, a crash before the 20,000th and a restart before the 20,050th, counted from 0, and rounds until all is done
abbrev pub job_of : ℕ → List Entry
job_of seed =
    drawn_entries seed 0 20000
    ++ once (Act.Crash (victim seed)) ∷ drawn_entries seed 20000 50
    ++ once (Act.Restart (victim seed)) ∷ drawn_entries seed 20050 19950
    ++ Entry.Finish 10000 ∷ []

-- drawn entries were appended, and the state is the one behind them
pub record AppendsDrawn (seed from count : ℕ) (before now : List Entry) (left : ℕ) : Type 0 where
  pub entries : now ≡ before ++ drawn_entries seed from count
  pub state : left ≡ state_after seed (from + count)

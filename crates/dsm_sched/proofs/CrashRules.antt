-- How far crashes have come, and the entries before.
use Rattle.std.specs.Prelude.{◌≡◌, ℕ, Bool, true, false, ◌==◌, List, [], ◌∷◌, Result, Ok, Err}
use Rattle.std.specs.List.{list_any}
use Rattle.std.proofs.Common.{refl, ◌∙◌, cond, eqb-true}
use Rattle.dsm_base.specs.declared.act.Act.{Act}
use Rattle.dsm_base.specs.declared.act.SchedErr.{SchedErr}
use Rattle.dsm_base.specs.declared.names.Proc.{Proc}
use Rattle.dsm_sched.specs.declared.schedule.Entry.{Entry}
use Rattle.dsm_sched.specs.declared.schedule.crashes.Crashes.{Crashes}
use Rattle.dsm_sched.specs.ScheduleTexts.{is_crash, is_down, placed}
use Rattle.dsm_sched.specs.Crashes.{crash_behind, restart_behind, crashes_behind}

abbrev has_crashed : Crashes → Bool
has_crashed Crashes.Before = false
has_crashed (Crashes.Down down) = true
has_crashed Crashes.After = true

abbrev down_in : Crashes → ℕ → Bool
down_in Crashes.Before proc = false
down_in (Crashes.Down down) proc = down.0 == proc
down_in Crashes.After proc = false

-- this is how far crashes have come behind these entries, the newest first
pub record IsBehind (known : Crashes) (before : List Entry) : Type 0 where
  pub any : list_any is_crash before ≡ has_crashed known
  pub down : (proc : ℕ) → is_down proc before ≡ down_in known proc

pub nothing_before : IsBehind Crashes.Before []
nothing_before = record { any = refl; down = λ proc. refl }

-- an entry may stand behind others, or is refused there
abbrev pub PlacesBehind : ℕ → Entry → List Entry → Result Crashes SchedErr → Type 0
PlacesBehind line entry before (Ok next) = (placed line before entry ≡ Ok entry) × IsBehind next (entry ∷ before)
PlacesBehind line entry before (Err refusal) = placed line before entry ≡ Err refusal

same_test : (b : Bool) → cond b true false ≡ b
same_test true = refl
same_test false = refl

module _ (line : ℕ) (before : List Entry) where
  crash_places : (known : Crashes) (proc : Proc) (count : ℕ) → IsBehind known before →
      PlacesBehind line (Entry.Unit (Act.Crash proc) count) before (crash_behind known line proc)
  crash_places Crashes.Before proc count s = (rw s.any refl, record { any = refl; down = λ p. rw (s.down p) (same_test (proc.0 == p)) })
  crash_places (Crashes.Down down) proc count s = rw s.any refl
  crash_places Crashes.After proc count s = rw s.any refl

  torn_places : (known : Crashes) (proc : Proc) (kept count : ℕ) → IsBehind known before →
      PlacesBehind line (Entry.Unit (Act.Torn proc kept) count) before (crash_behind known line proc)
  torn_places Crashes.Before proc kept count s = (rw s.any refl, record { any = refl; down = λ p. rw (s.down p) (same_test (proc.0 == p)) })
  torn_places (Crashes.Down down) proc kept count s = rw s.any refl
  torn_places Crashes.After proc kept count s = rw s.any refl

  up_again : (down proc : Proc) (p : ℕ) → (down.0 == proc.0) ≡ true → (b : Bool) → (proc.0 == p) ≡ b → cond b false (down.0 == p) ≡ false
  up_again down proc p same true e = refl
  up_again down proc p same false e = let is : down.0 ≡ proc.0 = eqb-true down.0 proc.0 same in rw is e

  by_test : (down proc : Proc) (count : ℕ) → IsBehind (Crashes.Down down) before → (b : Bool) → (down.0 == proc.0) ≡ b →
      PlacesBehind line (Entry.Unit (Act.Restart proc) count) before (cond b (Ok Crashes.After) (Err (SchedErr.NoCrash line)))
  by_test down proc count s true e =
      let down_is : is_down proc.0 before ≡ true = s.down proc.0 ∙ e in
      (rw down_is refl, record { any = s.any; down = λ p. rw (s.down p) (up_again down proc p e (proc.0 == p) refl) })
  by_test down proc count s false e =
      let down_is : is_down proc.0 before ≡ false = s.down proc.0 ∙ e in
      rw down_is refl

  restart_places : (known : Crashes) (proc : Proc) (count : ℕ) → IsBehind known before →
      PlacesBehind line (Entry.Unit (Act.Restart proc) count) before (restart_behind known line proc)
  restart_places Crashes.Before proc count s = rw (s.down proc.0) refl
  restart_places (Crashes.Down down) proc count s = by_test down proc count s (down.0 == proc.0) refl
  restart_places Crashes.After proc count s = rw (s.down proc.0) refl

  pub entry_places : (known : Crashes) (entry : Entry) → IsBehind known before → PlacesBehind line entry before (crashes_behind known line entry)
  entry_places known (Entry.Unit (Act.Crash proc) count) s = crash_places known proc count s
  entry_places known (Entry.Unit (Act.Torn proc kept) count) s = torn_places known proc kept count s
  entry_places known (Entry.Unit (Act.Restart proc) count) s = restart_places known proc count s
  entry_places known (Entry.Unit (Act.Step proc) count) s = (refl, record { any = s.any; down = s.down })
  entry_places known (Entry.Unit (Act.Deliver from to) count) s = (refl, record { any = s.any; down = s.down })
  entry_places known (Entry.Unit (Act.Ckpt proc) count) s = (refl, record { any = s.any; down = s.down })
  entry_places known (Entry.Unit (Act.Block proc) count) s = (refl, record { any = s.any; down = s.down })
  entry_places known (Entry.Finish rounds) s = (refl, record { any = s.any; down = s.down })

-- The units of a schedule name its processors.
use Rattle.std.specs.Prelude.{◌≡◌, ◌≢◌, ℕ, zero, suc, ◌<◌, ◌&&◌, ◌==◌, not, nat_lt, nat_le, true, List, [], ◌∷◌, slice_get, Option, Some, None, IfSome, IsTrue}
use Rattle.std.specs.List.{AllByRecursion, list_all}
use Rattle.std.specs.Cmp.{first_so, second_so}
use Rattle.std.proofs.Common.{arith}
use Rattle.std.proofs.lemmas.Grind.{common_steps}
use Rattle.dsm_base.specs.declared.act.Act.{Act}
use Rattle.dsm_base.specs.declared.setup.Setup.{Setup}
use Rattle.dsm_base.specs.Setups.{is_proc_count}
use Rattle.dsm_net.specs.Fits.{IsWithin}
use Rattle.dsm_sched.specs.declared.schedule.Schedule.{Schedule}
use Rattle.dsm_sched.specs.Schedules.{is_act, is_entry}
use Rattle.dsm_sched.specs.ScheduleTexts.{units_of}
use Rattle.dsm_sched.proofs.Passing.{unit_within}

below : (n procs count : ℕ) → count ≡ procs → nat_lt n procs ≡ true → n < count
below n procs count same is = grind (arith, common_steps, same, is)

differs : (a b : ℕ) → not (a == b) ≡ true → a ≢ b
differs a b is same = grind (arith, common_steps, is, same)

-- a unit that names processors below the number of a setup is one of the setup
pub act_within : (setup : Setup) (procs : ℕ) (act : Act) → setup.procs ≡ procs → is_act procs act ≡ true → IsWithin setup act
act_within setup procs (Act.Step p) same is = below p.0 procs setup.procs same is
act_within setup procs (Act.Deliver p q) same is =
    let both = first_so (nat_lt p.0 procs && nat_lt q.0 procs) (not (p.0 == q.0)) is in (
      below p.0 procs setup.procs same (first_so (nat_lt p.0 procs) (nat_lt q.0 procs) both),
      below q.0 procs setup.procs same (second_so (nat_lt p.0 procs) (nat_lt q.0 procs) both),
      differs p.0 q.0 (second_so (nat_lt p.0 procs && nat_lt q.0 procs) (not (p.0 == q.0)) is),
    )
act_within setup procs (Act.Ckpt p) same is = below p.0 procs setup.procs same is
act_within setup procs (Act.Block p) same is = below p.0 procs setup.procs same is
act_within setup procs (Act.Crash p) same is = below p.0 procs setup.procs same is
act_within setup procs (Act.Torn p bytes) same is = below p.0 procs setup.procs same (first_so (nat_lt p.0 procs) (nat_le bytes 512) is)
act_within setup procs (Act.Restart p) same is = below p.0 procs setup.procs same is

-- what holds at each place of a list holds of each member
each_place : {A : Type 0} → (P : A → Type 0) (items : List A) → ((index : ℕ) → IfSome (slice_get items index) P) → AllByRecursion P items
each_place P [] here = tt
each_place P (item ∷ items) here = (here zero, each_place P items (λ index. here (suc index)))

here_within : (setup : Setup) (procs : ℕ) (act : Option Act) → setup.procs ≡ procs → IfSome act (λ one. is_act procs one ≡ true) → IfSome act (IsWithin setup)
here_within setup procs None same is = tt
here_within setup procs (Some act) same is = act_within setup procs act same is

-- a schedule is for 2 to 16 processors
pub some_procs : (schedule : Schedule) → IsTrue (is_proc_count schedule.procs)
some_procs schedule =
    let entries = list_all (is_entry schedule.procs) schedule.entries in
    first_so (is_proc_count schedule.procs) entries (first_so (is_proc_count schedule.procs && entries) _ schedule.kept)

-- and so do all units of a schedule for as many processors
pub all_within : (setup : Setup) (schedule : Schedule) → setup.procs ≡ schedule.procs → AllByRecursion (IsWithin setup) (units_of schedule)
all_within setup schedule same =
    let entries = list_all (is_entry schedule.procs) schedule.entries in
    let are : entries ≡ true = second_so (is_proc_count schedule.procs) entries (first_so (is_proc_count schedule.procs && entries) _ schedule.kept) in
    each_place (IsWithin setup) (units_of schedule)
    (λ index. here_within setup schedule.procs (slice_get (units_of schedule) index) same (unit_within schedule.procs schedule.entries index are))

use Rattle.std.proofs.Common.{rules, arith, ◌≡◌, ◌<◌, ◌≤◌, ◌*◌, ◌-◌, ◌/◌, ◌%◌, ◌∙◌, ℕ, suc, Some, slice_get, ap, sym, subst}
use Rattle.dsm_base.specs.declared.act.Act.{Act}
use Rattle.dsm_sched.specs.Schedules.{round_of}
use Rattle.dsm_sched.proofs.Turns.{step_at, deliver_below, deliver_above}
use Rattle.dsm_sched.proofs.schedule.units.round_unit.Goals as goal
use Rattle.dsm_sched.proofs.schedule.units.round_unit.Goals.{then-place-proc, else-place-proc}

lower : (procs number count other : ℕ) → number < procs * procs → count ≡ procs → (number % count ≡ 0 → ⊥) → number % count ≤ number / count → other ≡ number % count - 1
    → slice_get (round_of procs) number ≡ Some (Act.Deliver record { 0 = number / count } record { 0 = other })
lower procs number count other h same =
    let P : ℕ → Type 0 = λ count. (number % count ≡ 0 → ⊥) → number % count ≤ number / count → other ≡ number % count - 1
    → slice_get (round_of procs) number ≡ Some (Act.Deliver record { 0 = number / count } record { 0 = other }) in
    subst P (sym same) (λ some low is.
    deliver_below procs number h (number % procs - 1) (omega arith) (omega arith)
    ∙ ap (λ o. Some (Act.Deliver record { 0 = number / procs } record { 0 = o })) (sym is))

upper : (procs number count other : ℕ) → number < procs * procs → count ≡ procs → (number % count ≡ 0 → ⊥) → number / count < number % count → other ≡ number % count
    → slice_get (round_of procs) number ≡ Some (Act.Deliver record { 0 = number / count } record { 0 = other })
upper procs number count other h same =
    let P : ℕ → Type 0 = λ count. (number % count ≡ 0 → ⊥) → number / count < number % count → other ≡ number % count
    → slice_get (round_of procs) number ≡ Some (Act.Deliver record { 0 = number / count } record { 0 = other }) in
    subst P (sym same) (λ some high is.
    let place : suc (number % procs - 1) ≡ other = omega (arith, some, is) in
    deliver_above procs number h (number % procs - 1) (omega arith) (omega arith)
    ∙ ap (λ o. Some (Act.Deliver record { 0 = number / procs } record { 0 = o })) place)

pub returns-then-place-eq0 : goal.returns-then-place-eq0
returns-then-place-eq0 c =
    let procs = c.args.procs in
    let number = c.args.number in
    let count : c.from-count.result ≡ c.args.procs = search rules in
    let first : number % procs ≡ 0 = ap (λ n. number % n) (sym count) ∙ c.if-place-eq0.true in
    step_at procs number c.requires first ∙ ap (λ n. Some (Act.Step record { 0 = number / n })) (sym count)

pub returns : goal.returns
returns c =
    let count : c.from-count.result ≡ c.args.procs = search rules in
    elim c.if-place-proc.branch [
      | then-place-proc w ↦ lower c.args.procs c.args.number c.from-count.result c.if-place-proc.other c.requires count c.if-place-eq0.false w.if-place-proc.true w.other-is
      | else-place-proc w ↦ upper c.args.procs c.args.number c.from-count.result c.if-place-proc.other c.requires count c.if-place-eq0.false w.if-place-proc.false w.other-is
    ]

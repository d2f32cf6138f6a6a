-- Threads of code take a lock right after they have asked for it, cross a barrier right after they have come to it, and do so at no other time.
use Rattle.std.proofs.Common.{◌≡◌, ℕ, ℤ, true, Option, Some, None, refl, sym, ap, subst}
use Rattle.dsm_base.specs.declared.names.Lock.{Lock}
use Rattle.dsm_base.specs.declared.names.Bar.{Bar}
use Rattle.dsm_base.specs.declared.names.Mode.{Mode}
use Rattle.dsm_base.specs.declared.label.Want.{Want}
use Rattle.dsm_base.specs.Threads.{AsksFirst}
use Rattle.dsm_base.specs.Steps.{Move, goes, asks, want_of, Over}
use Rattle.dsm_base.proofs.StepsSettle.{settled_keeps}
use Rattle.dsm_code.specs.declared.instruction.Instr.{Instr}
use Rattle.dsm_code.specs.Instructions.{is_free}
use Rattle.dsm_code.specs.Programs.{Program}
use Rattle.dsm_code.specs.Machine.{State, step, weight, ready, code_machine, code_semantics, started, first_state}
use Rattle.dsm_code.specs.Valid.{is_valid}
use Rattle.dsm_code.specs.Typed.{IsGoing}
use Rattle.dsm_code.proofs.Lands.{free_at, IsFreeGoing, WillWant, LandsAt, Lands}
use Rattle.dsm_code.proofs.Falls.{step_falls}
use Rattle.dsm_code.proofs.Keeping.{IsFreeIn, IsFreeState, free_state, on, on_going, going_lands, started_free}
use Rattle.dsm_code.proofs.AskingFirst.{WaitsFor, Leaves, Keeps, asks_first}

-- what a take or a crossing leaves
abbrev Frees : Want → State → Type 0
Frees (Want.Take lock mode) t = IsFreeState t
Frees (Want.Cross bar) t = IsFreeState t
Frees _ t = Unit {0}

frees_at : (i : Instr) (s : State) (want : Want) (t : State) → LandsAt i s want t → Frees want t
frees_at i s (Want.Take lock mode) t lands = free_state t lands.1
frees_at i s (Want.Cross bar) t lands = free_state t lands.1
frees_at i s _ t lands = tt

-- a thread that is over wants neither
over_frees : (want : Want) (t : State) → Want.Over ≡ want → Frees want t
over_frees (Want.Take lock mode) t is = cc (is)
over_frees (Want.Cross bar) t is = cc (is)
over_frees _ t is = tt

wait_frees : (s : State) (want : Want) (after : ℤ → State) → IsGoing s → step s ≡ asks want after → (answer : ℤ) → Frees want (after answer)
wait_frees s want after going is answer = of s.life is
  where
    of : (life : Option Over) → step (record s { life = life }) ≡ asks want after → Frees want (after answer)
    of None e =
        let lands = subst (Lands going.inner.row.instr (on s)) e (going_lands s going) in
        frees_at going.inner.row.instr (on s) want (after answer) (lands.1 answer)
    of (Some way) e = over_frees want (after answer) (ap want_of e)

will_wait_lock : (lock : Lock) (mode : Mode) (t : State) → WillWant (Want.Take lock mode) t → WaitsFor code_machine IsFreeState (Want.Take lock mode) t
will_wait_lock lock mode t will = record { after = will.after; is = will.is; free = λ answer. wait_frees t (Want.Take lock mode) will.after will.going will.is answer }

will_wait_bar : (bar : Bar) (t : State) → WillWant (Want.Cross bar) t → WaitsFor code_machine IsFreeState (Want.Cross bar) t
will_wait_bar bar t will = record { after = will.after; is = will.is; free = λ answer. wait_frees t (Want.Cross bar) will.after will.going will.is answer }

-- a free instruction leaves a free state, or one that waits right after its ask or its arrival
leaves_at : (i : Instr) (s t : State) (want : Want) → is_free i ≡ true → IsFreeState s → LandsAt i s want t → Leaves code_machine IsFreeState want t
leaves_at i s t (Want.Stop fault line) kind free lands = subst IsFreeState (sym lands) free
leaves_at i s t Want.Over kind free lands = absurd lands
leaves_at i s t Want.End kind free lands = subst IsFreeState (sym lands) tt
leaves_at i s t (Want.Ask lock mode line) kind free lands = will_wait_lock lock mode t lands
leaves_at i s t (Want.Arrive bar) kind free lands = will_wait_bar bar t lands
leaves_at i s t (Want.Take lock mode) kind free lands = cc (kind, lands.0)
leaves_at i s t (Want.Cross bar) kind free lands = cc (kind, lands.0)
leaves_at i s t Want.Quiet kind free lands = free_state t lands
leaves_at i s t (Want.Load cell line) kind free lands = free_state t lands
leaves_at i s t (Want.Store cell value line) kind free lands = free_state t lands
leaves_at i s t (Want.Give lock line) kind free lands = free_state t lands
leaves_at i s t Want.Line kind free lands = free_state t lands

leaves_move : (i : Instr) (s : State) (move : Move State) → is_free i ≡ true → IsFreeState s → Lands i s move → Keeps code_machine IsFreeState move
leaves_move i s (goes t) kind free lands = free_state t lands
leaves_move i s (asks want after) kind free lands = λ answer. leaves_at i s (after answer) want kind free (lands.1 answer)

free_in : (s : State) (life : Option Over) → IsFreeIn s life → Keeps code_machine IsFreeState (step (record s { life = life }))
free_in s None free =
    let row = free.going.inner.row in
    let kind : is_free row.instr ≡ true = subst (λ o. free_at o ≡ true) free.going.inner.is free.free in
    let still : IsFreeGoing (on s) = record { going = on_going s free.going; free = free.free } in
    leaves_move row.instr (on s) (step (on s)) kind still (going_lands s free.going)
free_in s (Some way) free = λ answer. tt

free_keeps : (s : State) → IsFreeState s → Keeps code_machine IsFreeState (step s)
free_keeps s free = free_in s s.life free

ready_free : (s : State) → IsFreeState s → IsFreeState (ready s)
ready_free s free = settled_keeps step weight step_falls IsFreeState (λ s t p is. subst (Keeps code_machine IsFreeState) is (free_keeps s p)) s free

pub code_asks_first : (program : Program) (procs me : ℕ) → is_valid program ≡ true → AsksFirst code_semantics (first_state program procs me)
code_asks_first program procs me valid =
    asks_first code_machine IsFreeState step_falls free_keeps (λ s way. tt) (λ s way. refl) (first_state program procs me)
    (ready_free (started program procs me) (free_state (started program procs me) (started_free program valid procs me)))

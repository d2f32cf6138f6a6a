-- What each step keeps: a thread stands at a place of the code, with the operands that the code has there.
use Rattle.std.proofs.Common.{◌≡◌, ℕ, ◌≤◌, true, ℤ, pos, [], ◌∷◌, length, Option, Some, None, refl, sym, subst, arith}
use Rattle.std.specs.Prelude.{replicate}
use Rattle.std.proofs.lemmas.List.{length-replicate}
use Rattle.dsm_base.specs.declared.label.Want.{Want}
use Rattle.dsm_base.specs.Steps.{Move, goes, asks, Over}
use Rattle.dsm_base.proofs.StepsSettle.{settled_keeps}
use Rattle.dsm_code.specs.declared.instruction.Instr.{Instr}
use Rattle.dsm_code.specs.Instructions.{is_free}
use Rattle.dsm_code.specs.Programs.{Program, function_at}
use Rattle.dsm_code.specs.Machine.{State, new_slots, step, weight, ready, started}
use Rattle.dsm_code.specs.Valid.{is_valid}
use Rattle.dsm_code.specs.Typed.{IsGoing, IsTypedIn, IsTyped, NamesIn}
use Rattle.dsm_code.specs.Finished.{finished_in}
use Rattle.dsm_code.proofs.Facts.{valid_facts}
use Rattle.dsm_code.proofs.Lengths.{slots_length}
use Rattle.dsm_code.proofs.Lands.{free_there, IsFreeGoing, LandsAt, Lands, arrives, here_lands, here_acts, here_finishes}
use Rattle.dsm_code.proofs.Falls.{step_falls}

-- a thread that goes on is one that goes on or is over
pub going_typed : (s : State) → IsGoing s → IsTyped s
going_typed s going = of s.life
  where
    of : (life : Option Over) → IsTypedIn s life
    of None = going
    of (Some way) = tt

-- A state that is over, or that goes on at neither a take nor a crossing.
abbrev pub IsFreeIn : State → Option Over → Type 0
IsFreeIn s None = IsFreeGoing s
IsFreeIn s (Some way) = Unit {0}

abbrev pub IsFreeState : State → Type 0
IsFreeState s = IsFreeIn s s.life

pub free_state : (s : State) → IsFreeGoing s → IsFreeState s
free_state s free = of s.life
  where
    of : (life : Option Over) → IsFreeIn s life
    of None = free
    of (Some way) = tt

-- what a step of a typed state leads to
abbrev pub KeepsTyped : State → Move State → Type 0
KeepsTyped s (goes t) = IsTyped t
KeepsTyped s (asks want after) = NamesIn s.program want × ((answer : ℤ) → IsTyped (after answer))

typed_at : (i : Instr) (s t : State) (want : Want) → IsTyped s → LandsAt i s want t → IsTyped t
typed_at i s t (Want.Stop fault line) typed lands = subst IsTyped (sym lands) typed
typed_at i s t Want.Over typed lands = absurd lands
typed_at i s t Want.End typed lands = subst IsTyped (sym lands) tt
typed_at i s t (Want.Ask lock mode line) typed lands = going_typed t lands.going
typed_at i s t (Want.Arrive bar) typed lands = going_typed t lands.going
typed_at i s t (Want.Take lock mode) typed lands = going_typed t lands.1.going
typed_at i s t (Want.Cross bar) typed lands = going_typed t lands.1.going
typed_at i s t Want.Quiet typed lands = going_typed t lands.going
typed_at i s t (Want.Load cell line) typed lands = going_typed t lands.going
typed_at i s t (Want.Store cell value line) typed lands = going_typed t lands.going
typed_at i s t (Want.Give lock line) typed lands = going_typed t lands.going
typed_at i s t Want.Line typed lands = going_typed t lands.going

typed_move : (i : Instr) (s : State) (move : Move State) → IsTyped s → Lands i s move → KeepsTyped s move
typed_move i s (goes t) typed lands = going_typed t lands.going
typed_move i s (asks want after) typed lands = (lands.0, λ answer. typed_at i s (after answer) want typed (lands.1 answer))

-- the same state, going on
abbrev pub on : State → State
on s = record s { life = None }

abbrev pub on_going : (s : State) → IsGoing s → IsGoing (on s)
on_going s going = record { valid = going.valid; inner = going.inner; outer = going.outer; few = going.few; own = going.own }

-- the step of a state that goes on
pub going_lands : (s : State) (going : IsGoing s) → Lands going.inner.row.instr (on s) (step (on s))
going_lands s going =
    let is = on_going s going in
    subst (Lands going.inner.row.instr (on s)) (sym (here_acts s.program s.function s.place s.operands s.slots s.outer s.own is))
    (here_lands s.program s.function s.place s.operands s.slots s.outer s.own is)

typed_in : (s : State) (life : Option Over) → IsTypedIn s life → KeepsTyped (record s { life = life }) (step (record s { life = life }))
typed_in s None going = typed_move going.inner.row.instr (on s) (step (on s)) (on_going s going) (going_lands s going)
typed_in s (Some way) typed = (tt, λ answer. tt)

pub step_keeps : (s : State) → IsTyped s → KeepsTyped s (step s)
step_keeps s typed = typed_in s s.life typed

-- what is finished of a labelled step
pub finished_typed : (s : State) (answer : ℤ) → IsTyped s → IsTyped (finished_in s answer s.life)
finished_typed s answer typed = of s.life typed
  where
    of : (life : Option Over) → IsTypedIn s life → IsTyped (finished_in (record s { life = life }) answer life)
    of None going =
        here_finishes s.program s.function s.place s.operands s.slots s.outer s.own (on_going s going) answer
    of (Some way) typed = tt

goes_typed : (s t : State) → IsTyped s → step s ≡ goes t → IsTyped t
goes_typed s t typed is = subst (KeepsTyped s) is (step_keeps s typed)

pub ready_typed : (s : State) → IsTyped s → IsTyped (ready s)
ready_typed s typed = settled_keeps step weight step_falls IsTyped goes_typed s typed

-- the thread before its first step
pub started_free : (program : Program) → is_valid program ≡ true → (procs me : ℕ) → IsFreeGoing (started program procs me)
started_free program valid procs me =
    let facts = valid_facts program valid in
    let main = function_at program program.main in
    let sound = facts.sound program.main facts.main in
    let arguments = pos me ∷ pos procs ∷ [] in
    let some : length arguments ≤ main.slots = omega (arith, facts.main_params, sound.params) in
    record {
      going = arrives is_free program program.main 0 0 [] (new_slots main arguments) [] (replicate program.private_cells (pos 0))
          valid facts.main sound.start refl (sym (slots_length main arguments some)) refl (omega arith) (length-replicate program.private_cells (pos 0));
      free = free_there program main 0 0 sound.start;
    }

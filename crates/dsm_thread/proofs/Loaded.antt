-- Threads that are saved, and loaded.
use Rattle.std.proofs.Common.{◌≡◌, ◌∙◌, ℕ, ◌≤◌, true, List, length, Some, Result, Ok, Err, refl, sym, ap, subst}
use Rattle.std.specs.Prelude.{IfOk}
use Rattle.dsm_base.specs.declared.errors.MemFault.{MemFault}
use Rattle.dsm_base.specs.declared.errors.LoadErr.{LoadErr}
use Rattle.dsm_base.specs.declared.errors.LoadErr.TheVariants as errors
use Rattle.dsm_base.specs.Steps.{Over, ended, stopped}
use Rattle.dsm_code.specs.Programs.{Program}
use Rattle.dsm_code.specs.Valid.{is_valid}
use Rattle.dsm_code.specs.Machine.{State, step}
use Rattle.dsm_code.specs.Typed.{IsTyped}
use Rattle.dsm_saved.specs.declared.saved.Saved.{Saved}
use Rattle.dsm_saved.specs.Answers.{IsSaved, Spells, IsAnswer, OrMemory}
use Rattle.dsm_saved.specs.States.{saved_of, bare, state_of, Asks, IsOverIn, IsState, SpellsState, IsLoaded}
use Rattle.dsm_fields.specs.Fields.{are_held}
use Rattle.dsm_fields.proofs.Writing.{fit_fields}
use Rattle.dsm_saved.specs.Spelling.{saved_fields}
use Rattle.dsm_saved.proofs.Saving.{saved_kept, saved_shaped, state_again}
use Rattle.dsm_saved.proofs.Loading.{saved_state, saved_again}
use Rattle.dsm_machine.specs.declared.machine.Machine.{Machine}
use Rattle.dsm_machine.specs.declared.machine.Life.{Life}
use Rattle.dsm_machine.specs.States.{state_in, life_of, IsBare, IsRoomyIn, IsFit}

-- ---- a thread that stands is a state of its code

bare_is : (machine : Machine) (way : Over) → life_of machine.life ≡ Some way → IsBare machine → state_in machine ≡ bare machine.code.value machine.own.items way
bare_is machine way life is = rw (is.function, is.place, is.operands, is.slots, is.outer, life) refl

over_in : (machine : Machine) (life : Life) → machine.life ≡ life → IsRoomyIn machine life → IsOverIn (state_in machine) (life_of life)
over_in machine Life.Going is roomy = tt
over_in machine Life.Ended is bare = (bare.own, bare_is machine ended (ap life_of is) bare)
over_in machine (Life.Stopped fault line) is bare = (bare.own, bare_is machine (stopped fault line) (ap life_of is) bare)

pub fit_state : (machine : Machine) → IsFit machine → Asks (step (state_in machine)) → IsState machine.code.value (state_in machine)
fit_state machine fit stands = record { program_is = refl; typed = fit.typed; asks = stands; over = over_in machine machine.life refl fit.roomy }

-- what was written of a state, each field with room, is a saved thread of its code
pub saved_is : (program : Program) (s : State) → IsState program s → are_held (saved_fields program (saved_of s)) ≡ true → IsSaved program (saved_of s)
saved_is program s is held = record { shaped = saved_shaped s; fit = fit_fields (saved_fields program (saved_of s)) held (saved_kept program s is) }

-- ---- a machine that goes on from what was saved

restored : (program : Program) (saved : Saved) (machine : Machine) → IsState program (state_of program saved) → state_in machine ≡ state_of program saved → IsRoomyIn machine machine.life → IsFit machine
restored program saved machine is state roomy = record { typed = subst IsTyped (sym state) is.typed; roomy = roomy }

pub restored_fit : (program : Program) (saved : Saved) (result : Result Machine MemFault) → IsState program (state_of program saved) → IfOk result (λ machine. state_in machine ≡ state_of program saved)
    → IfOk result (λ machine. IsRoomyIn machine machine.life) → IfOk result IsFit
restored_fit program saved (Ok machine) is state roomy = restored program saved machine is state roomy
restored_fit program saved (Err fault) is state roomy = tt

-- a machine that goes on from what was saved stands
pub restored_asks : (program : Program) (saved : Saved) (machine : Machine) → IsState program (state_of program saved) → state_in machine ≡ state_of program saved → Asks (step (state_in machine))
restored_asks program saved machine is state = subst (λ (s : State). Asks (step s)) (sym state) is.asks

-- ---- what was read

module _ (program : Program) (bytes : List ℕ) where
  abbrev refused : LoadErr → Result State LoadErr
  refused e = Err e

  abbrev unread : LoadErr → Result Saved LoadErr
  unread e = Err e

  pub bad_fits : (e : LoadErr) → OrMemory (unread e) (IsAnswer program (Err e) bytes) → OrMemory (refused e) (IsLoaded program (Err e) bytes)
  bad_fits (errors.BadImage place) fits = fits
  bad_fits (errors.Damaged kept found) fits = fits
  bad_fits errors.StoreFault fits = fits
  bad_fits errors.Memory fits = tt

  abbrev Only : Result Saved LoadErr → Type 0
  Only read = (other : Result Saved LoadErr) → IsAnswer program other bytes → OrMemory read (read ≡ other)

  same_error : (e other : LoadErr) → OrMemory (unread e) (unread e ≡ unread other) → OrMemory (refused e) (refused e ≡ refused other)
  same_error (errors.BadImage place) other same = cc
  same_error (errors.Damaged kept found) other same = cc
  same_error errors.StoreFault other same = cc
  same_error errors.Memory other same = tt

  no_value : (e : LoadErr) (saved : Saved) (s : State) → OrMemory (unread e) (unread e ≡ Ok saved) → OrMemory (refused e) (refused e ≡ Ok s)
  no_value (errors.BadImage place) saved s same = absurd cc
  no_value (errors.Damaged kept found) saved s same = absurd cc
  no_value errors.StoreFault saved s same = absurd cc
  no_value errors.Memory saved s same = tt

  same_answer : (e other : LoadErr) → IsLoaded program (Err other) bytes → IsAnswer program (Err other) bytes
  same_answer e (errors.BadImage place) is = is
  same_answer e (errors.Damaged kept found) is = is
  same_answer e errors.StoreFault is = is
  same_answer e errors.Memory is = is

  pub bad_only : (e : LoadErr) → Only (unread e) → (other : Result State LoadErr) → IsLoaded program other bytes → OrMemory (refused e) (refused e ≡ other)
  bad_only e only (Ok s) is = no_value e (saved_of s) s (only (Ok (saved_of s)) is.spells)
  bad_only e only (Err other) is = same_error e other (only (Err other) (same_answer e other is))

  pub good_fits : (saved : Saved) (s : State) → is_valid program ≡ true → Spells program bytes saved → length saved.frames ≤ 256 → s ≡ state_of program saved → SpellsState program bytes s
  good_fits saved s valid spells few is =
      let state = saved_state program saved valid spells.is few in
      let same = saved_again program saved spells.is in
      subst (SpellsState program bytes) (sym is) (record { is = state; spells = subst (Spells program bytes) (sym same) spells })

  abbrev loaded : State → Result State LoadErr
  loaded s = Ok s

  pub good_only : (saved : Saved) (s : State) → Only (Ok saved) → s ≡ state_of program saved → (other : Result State LoadErr) → IsLoaded program other bytes → loaded s ≡ other
  good_only saved s only is (Ok t) fits =
      let said = only (Ok (saved_of t)) fits.spells in
      let same : saved ≡ saved_of t = cc in
      ap loaded (is ∙ ap (state_of program) same ∙ state_again program t fits.is)
  good_only saved s only is (Err e) fits = let said = only (Err e) (same_answer e e fits) in absurd cc

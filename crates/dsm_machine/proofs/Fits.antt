-- What a step of the code says of the machine.
use Rattle.std.proofs.Common.{◌≡◌, ℕ, ◌+◌, ◌<◌, ◌≤◌, ℤ, List, ◌∷◌, length, Option, Some, None, Result, Ok, Err, true, refl, sym, ap, ◌∙◌, subst, arith}
use Rattle.std.specs.Prelude.{IfOk}
use Rattle.dsm_base.specs.declared.errors.MemFault.{MemFault}
use Rattle.dsm_code.specs.Valid.{is_valid}
use Rattle.dsm_code.proofs.Within.{started_typed}
use Rattle.dsm_base.specs.declared.names.Fault.{Fault}
use Rattle.dsm_base.specs.declared.label.Label.{Label}
use Rattle.dsm_base.specs.declared.label.Want.{Want}
use Rattle.dsm_base.specs.Threads.{Completes}
use Rattle.dsm_base.specs.Steps.{Move, goes, asks, want_of, stopped}
use Rattle.dsm_base.proofs.StepsSettle.{Falls, settled_goes, settled_asks}
use Rattle.dsm_code.specs.declared.instruction.Instr.{Instr}
use Rattle.dsm_code.specs.declared.parts.Row.{Row}
use Rattle.dsm_code.specs.Programs.{Program, function_at, row_at}
use Rattle.dsm_code.specs.Machine.{Frame, State, over, act, act_at, step_in, step, ready, weight, completed, started}
use Rattle.dsm_code.specs.Finished.{finished, finished_at, finished_in}
use Rattle.dsm_code.proofs.Finishing.{IsNoStop, no_stop, finished_is}
use Rattle.dsm_code.specs.Valid.{takes, depth_after}
use Rattle.dsm_code.specs.Typed.{IsFine, AllWait, IsGoing, IsTypedIn, IsTyped}
use Rattle.dsm_code.proofs.Facts.{row_fine, there_facts}
use Rattle.dsm_code.proofs.Falls.{step_falls}
use Rattle.dsm_code.proofs.Keeping.{KeepsTyped, step_keeps}
use Rattle.dsm_code.specs.Instructions.{is_free}
use Rattle.dsm_machine.specs.declared.machine.Machine.{Machine}
use Rattle.dsm_machine.specs.declared.machine.Life.{Life}
use Rattle.dsm_machine.specs.Standing.{Asks}
use Rattle.dsm_machine.specs.States.{life_of, state_in, row_here, Makes, IsRoomy, IsRoomyIn, IsFit, CanDo, CanReturn}

pub roomy_in : (machine : Machine) → IsRoomy machine → IsRoomyIn machine machine.life
roomy_in machine is = subst (IsRoomyIn machine) (sym is.going) is

-- however a machine stands, it has all private cells
own_in : (machine : Machine) (life : Life) → IsRoomyIn machine life → length machine.own.items ≡ machine.code.value.private_cells
own_in machine Life.Going is = is.own
own_in machine Life.Ended is = is.own
own_in machine (Life.Stopped fault line) is = is.own

pub own_of : (machine : Machine) → IsFit machine → length machine.own.items ≡ machine.code.value.private_cells
own_of machine fit = own_in machine machine.life fit.roomy

-- what is known of a machine that goes on
pub going_of : (machine : Machine) → machine.life ≡ Life.Going → IsFit machine → IsGoing (state_in machine)
going_of machine is fit = subst (λ life. IsTypedIn (state_in machine) (life_of life)) is fit.typed

pub roomy_of : (machine : Machine) → machine.life ≡ Life.Going → IsFit machine → IsRoomy machine
roomy_of machine is fit = subst (IsRoomyIn machine) is fit.roomy

-- a machine at an instruction can do it
pub can_do : (machine : Machine) (row : Row) → IsGoing (state_in machine) → IsRoomy machine → Some row ≡ row_at machine.code.value machine.frame.function machine.frame.place
    → IsFine machine.code.value (function_at machine.code.value machine.frame.function) row → CanDo machine row.instr
can_do machine row going roomy is fine =
    let same : going.inner.row ≡ row = cc (is, going.inner.is) in
    let depth : row.depth ≡ length machine.frame.operands.values = ap (λ r. r.depth) (sym same) ∙ going.inner.depth in
    let program = machine.code.value in
    record {
      operands = subst (λ d. takes program row.instr ≤ d) depth fine.operands;
      room = let low = subst (λ d. depth_after program d row.instr ≤ program.deepest) depth fine.low in omega (arith, low, roomy.frame.operands);
      place = going.inner.small;
      small = fine.small;
    }

-- as the code has it: no instruction is missing
pub row_there : (machine : Machine) → IsGoing (state_in machine) → None ≡ row_at machine.code.value machine.frame.function machine.frame.place → ⊥
row_there machine going none = cc (none, going.inner.is)

-- a caller has room for the value that it waits for
can_return : (s : State) (caller : Frame) (callers : List Frame) → IsGoing s → AllWait s.program s.function (caller ∷ callers) → CanReturn s.program caller
can_return s caller callers going waits =
    let here = waits.0 in
    let row : Row = record { instr = Instr.Enter s.function here.line; depth = here.depth } in
    let fine = row_fine s.program caller.function caller.place row going.valid here.is in
    let next = there_facts is_free s.program (function_at s.program caller.function) (depth_after s.program here.depth row.instr) (caller.place + 1) fine.on in
    record { room = omega (arith, here.operands, fine.low); place = omega (arith, next.small) }

pub callers_can : (s : State) → IsGoing s → (caller : Frame) (callers : List Frame) → s.outer ≡ caller ∷ callers → CanReturn s.program caller
callers_can s going caller callers is = can_return s caller callers going (subst (AllWait s.program s.function) is going.outer)

module _ (old new : State) (told : Option Want) where
  typed_of : (move : Move State) → IsTyped old → KeepsTyped old move → Makes move old new told → IsTyped new
  typed_of (goes t) is keeps made = subst IsTyped (sym made.1) keeps
  typed_of (asks want after) is keeps made = subst IsTyped (sym made.1) is

  pub still_typed : IsTyped old → Makes (step old) old new told → IsTyped new
  still_typed is made = typed_of (step old) is (step_keeps old is) made

  -- what is not told was a step without a label
  goes_of : (move : Move State) → told ≡ None → Makes move old new told → move ≡ goes new
  goes_of (goes t) is made = ap goes (sym made.1)
  goes_of (asks want after) is made = cc (is, made.0)

  module _ (made : Makes (step old) old new told) where
    pub same_ready : told ≡ None → ready new ≡ ready old
    same_ready is = sym (settled_goes step weight step_falls old new (goes_of (step old) is made))

    pub less_left : told ≡ None → weight new < weight old
    less_left is = subst (Falls weight (weight old)) (goes_of (step old) is made) (step_falls old)

    -- what is told is wanted, and all is as it was
    wants_of : (want : Want) (move : Move State) → told ≡ Some want → step old ≡ move → Makes move old new told
        → (want ≡ want_of move) × (ready old ≡ old) × (new ≡ old)
    wants_of want (goes t) is steps made = cc (is, made.0)
    wants_of want (asks wanted after) is steps made =
        let same : want ≡ wanted = cc (is, made.0) in
        (same, settled_asks step weight step_falls old wanted after steps, made.1)

    wants : (want : Want) → told ≡ Some want → (want ≡ want_of (step old)) × (ready old ≡ old) × (new ≡ old)
    wants want is = wants_of want (step old) is refl made

    pub is_wanted : (want : Want) → told ≡ Some want → want ≡ want_of (step old)
    is_wanted want is = (wants want is).0

    pub is_same : (want : Want) → told ≡ Some want → new ≡ old
    is_same want is = (wants want is).2

    asks_of : (want : Want) (move : Move State) → told ≡ Some want → step old ≡ move → Makes move old new told → Asks (step new)
    asks_of want (goes t) is steps m = cc (is, m.0)
    asks_of want (asks wanted after) is steps m = subst (λ s. Asks (step s)) (sym m.1) (subst Asks (sym steps) tt)

    pub now_stands : (want : Want) → told ≡ Some want → Asks (step new)
    now_stands want is = asks_of want (step old) is refl made

    pub is_settled : (want : Want) → told ≡ Some want → new ≡ ready old
    is_settled want is = (wants want is).2 ∙ sym (wants want is).1

    -- where something is wanted, no step is made
    pub told_some : Asks (step old) → told ≡ None → ⊥
    told_some asks_there is = of (step old) asks_there made
      where
        of : (move : Move State) → Asks move → Makes move old new told → ⊥
        of (goes t) a m = a
        of (asks want after) a m = cc (is, m.0)

-- What is left of a thread is what a label that completes its want leaves.
module _ (s t : State) (want : Want) (answer : ℤ) (label : Label) (told : want ≡ want_of (step s)) (completes : Completes (want_of (step s)) answer label) where
  pub stop_completed : (fault : Fault) (line : ℕ) → want ≡ Want.Stop fault line → t ≡ over s (stopped fault line) → t ≡ completed s label
  stop_completed fault line is left =
      let stops : label ≡ Label.Stop fault line = subst (λ w. Completes w answer label) (sym told ∙ is) completes in
      left ∙ sym (ap (completed s) stops)

  pub step_completed : ((fault : Fault) (line : ℕ) → want ≡ Want.Stop fault line → ⊥) → (given : ℤ) → given ≡ answer → t ≡ finished_in s given s.life → t ≡ completed s label
  step_completed other given same left =
      let no = subst IsNoStop told (no_stop want other) in
      left ∙ ap (λ a. finished_in s a s.life) same ∙ sym (finished_is s answer label completes no)

-- a thread before its first step
fit_at : (machine : Machine) (s : State) → state_in machine ≡ s → IsTyped s → IsRoomy machine → IsFit machine
fit_at machine s is typed roomy = record { typed = subst IsTyped (sym is) typed; roomy = roomy_in machine roomy }

pub start_fit : (program : Program) (procs me : ℕ) (result : Result Machine MemFault) → is_valid program ≡ true → IfOk result (λ machine. state_in machine ≡ started program procs me)
    → IfOk result IsRoomy → IfOk result IsFit
start_fit program procs me (Ok machine) valid is roomy = fit_at machine (started program procs me) is (started_typed program procs me valid) roomy
start_fit program procs me (Err fault) valid is roomy = tt

-- the step of a machine that goes on, and what is finished of it, are those of its instruction
module _ (machine : Machine) (row : Row) (going : machine.life ≡ Life.Going) (is : Some row ≡ row_here machine) where
  abbrev at : State
  at = state_in machine

  pub acts_at : step at ≡ act at row.instr
  acts_at = ap (λ life. step_in at (life_of life)) going ∙ ap (act_at at) (sym is)

  pub finishes_at : (answer : ℤ) → finished_in at answer at.life ≡ finished at answer row.instr
  finishes_at answer = ap (λ life. finished_in at answer (life_of life)) going ∙ ap (finished_at at answer) (sym is)

-- what is left once a thread has gone on from what a label left
pub done_is : (s t u r : State) (given answer : ℤ) (label : Label) → s ≡ r → given ≡ answer → ((l : Label) → Completes (want_of (step s)) given l → t ≡ completed s l) → u ≡ ready t
    → Completes (want_of (step r)) answer label → u ≡ ready (completed r label)
done_is s t u r given answer label view same left stood completes =
    let here : Completes (want_of (step r)) given label = subst (λ a. Completes (want_of (step r)) a label) (sym same) completes in
    let there : Completes (want_of (step s)) given label = subst (λ x. Completes (want_of (step x)) given label) (sym view) here in
    stood ∙ ap ready (left label there) ∙ ap (λ x. ready (completed x label)) view

-- Threads of code want only cells, locks and barriers of their program, whatever labels come.
use Rattle.std.proofs.Common.{◌≡◌, ℕ, ◌≤◌, true, ℤ, pos, List, [], ◌∷◌, Option, Some, None, refl, ◌∙◌, subst, arith}
use Rattle.std.specs.Prelude.{IsSome}
use Rattle.dsm_base.specs.declared.label.Want.{Want}
use Rattle.dsm_base.specs.declared.label.Label.{Label}
use Rattle.dsm_base.specs.declared.setup.Setup.{Setup}
use Rattle.dsm_base.specs.Threads.{Names, StaysWithin, state_after}
use Rattle.dsm_base.specs.Steps.{Move, goes, asks, want_of, next_of, Over}
use Rattle.dsm_base.proofs.StepsSettle.{Asks, settled_keeps, settled_reaches}
use Rattle.dsm_code.specs.Programs.{Program}
use Rattle.dsm_code.specs.declared.instruction.Instr.{Instr}
use Rattle.dsm_code.specs.Machine.{State, step, weight, ready, completed, code_semantics, started}
use Rattle.dsm_code.specs.Valid.{takes, is_valid}
use Rattle.dsm_code.specs.Typed.{IsGoing, IsTypedIn, IsTyped, NamesIn, FindsAll}
use Rattle.dsm_code.proofs.Facts.{row_fine}
use Rattle.dsm_code.proofs.Lands.{LandsAt, Lands}
use Rattle.dsm_code.proofs.Falls.{IsSame, step_same, step_falls}
use Rattle.dsm_code.proofs.Keeping.{KeepsTyped, step_keeps, on, going_lands, ready_typed, started_free}

module _ (program : Program) where
  -- a typed state of the program
  record IsIn (s : State) : Type 0 where
    typed : IsTyped s
    same : s.program ≡ program

  goes_in : (s t : State) → IsIn s → step s ≡ goes t → IsIn t
  goes_in s t at is = record {
    typed = subst (KeepsTyped s) is (step_keeps s at.typed);
    same = subst (IsSame s) is (step_same s) ∙ at.same;
  }

  ready_in : (s : State) → IsIn s → IsIn (ready s)
  ready_in s at = settled_keeps step weight step_falls IsIn goes_in s at

  next_in : (s : State) (answer : ℤ) → IsIn s → IsIn (next_of s answer (step s))
  next_in s answer at = of (step s) (step_keeps s at.typed) (step_same s)
    where
      of : (move : Move State) → KeepsTyped s move → IsSame s move → IsIn (next_of s answer move)
      of (goes t) keeps same = at
      of (asks want after) keeps same = record { typed = keeps.1 answer; same = same answer ∙ at.same }

  completed_in : (s : State) (label : Label) → IsIn s → IsIn (completed s label)
  completed_in s (Label.Stop fault line) at = record { typed = tt; same = at.same }
  completed_in s Label.End at = record { typed = tt; same = at.same }
  completed_in s Label.Quiet at = next_in s (pos 0) at
  completed_in s (Label.Load cell value) at = next_in s value at
  completed_in s (Label.Store cell value) at = next_in s (pos 0) at
  completed_in s (Label.Ask lock mode) at = next_in s (pos 0) at
  completed_in s (Label.Take lock mode version) at = next_in s (pos 0) at
  completed_in s (Label.Give lock) at = next_in s (pos 0) at
  completed_in s (Label.Arrive bar) at = next_in s (pos 0) at
  completed_in s (Label.Cross bar epoch) at = next_in s (pos 0) at
  completed_in s (Label.Line text) at = next_in s (pos 0) at

  reached_in : (s : State) (labels : List Label) → IsIn s → IsIn (state_after code_semantics s labels)
  reached_in s [] at = at
  reached_in s (label ∷ before) at = ready_in _ (completed_in (state_after code_semantics s before) label (reached_in s before at))

  names_in : (s : State) → IsIn s → NamesIn program (want_of (step s))
  names_in s at = subst (λ p. NamesIn p (want_of (step s))) at.same (of (step s) (step_keeps s at.typed))
    where
      of : (move : Move State) → KeepsTyped s move → NamesIn s.program (want_of move)
      of (goes t) keeps = tt
      of (asks want after) keeps = keeps.0

  module _ (setup : Setup) (cells : program.cells ≤ setup.cells) (locks : program.locks ≤ setup.locks) (bars : program.bars ≤ setup.bars) where
    names_of : (want : Want) → NamesIn program want → Names setup want
    names_of (Want.Load cell line) n = omega (arith, cells, n)
    names_of (Want.Store cell value line) n = omega (arith, cells, n)
    names_of (Want.Ask lock mode line) n = omega (arith, locks, n)
    names_of (Want.Take lock mode) n = omega (arith, locks, n)
    names_of (Want.Give lock line) n = omega (arith, locks, n)
    names_of (Want.Arrive bar) n = omega (arith, bars, n)
    names_of (Want.Cross bar) n = omega (arith, bars, n)
    names_of _ n = tt

    stays : (s : State) → IsIn s → StaysWithin setup code_semantics s
    stays s at = λ labels. names_of _ (names_in (state_after code_semantics s labels) (reached_in s labels at))

pub code_stays_within : (setup : Setup) (s : State) → IsTyped s → s.program.cells ≤ setup.cells → s.program.locks ≤ setup.locks → s.program.bars ≤ setup.bars
    → StaysWithin setup code_semantics s
code_stays_within setup s typed cells locks bars = stays s.program setup cells locks bars s (record { typed = typed; same = refl })

pub completed_typed : (s : State) (label : Label) → IsTyped s → IsTyped (completed s label)
completed_typed s label typed = (completed_in s.program s label (record { typed = typed; same = refl })).typed

-- a thread that is at an instruction is not over
over_in : (s : State) (life : Option Over) → IsTypedIn s life → Asks (step (record s { life = life })) → want_of (step (record s { life = life })) ≡ Want.Over → IsSome life
over_in s None going a is = absurd (of (step (on s)) (going_lands s going) a is)
  where
    at : (i : Instr) (t : State) (want : Want) → LandsAt i (on s) want t → want ≡ Want.Over → ⊥
    at i t want lands is = subst (λ w. LandsAt i (on s) w t) is lands

    of : (move : Move State) → Lands going.inner.row.instr (on s) move → Asks move → want_of move ≡ Want.Over → ⊥
    of (goes t) lands a is = absurd a
    of (asks want after) lands a is = at going.inner.row.instr (after (pos 0)) want (lands.1 (pos 0)) is
over_in s (Some way) typed a is = refl

pub over_only : (s : State) → IsTyped s → want_of (step (ready s)) ≡ Want.Over → IsSome (ready s).life
over_only s typed is = over_in (ready s) (ready s).life (ready_typed s typed) (settled_reaches step weight step_falls s) is

-- a thread finds its operands and what it names
pub finds_all : (s : State) → IsGoing s → FindsAll s
finds_all s going =
    let row = going.inner.row in
    let fine = row_fine s.program s.function s.place row going.valid going.inner.is in
    record {
      row = row;
      is = going.inner.is;
      operands = subst (λ d. takes s.program row.instr ≤ d) going.inner.depth fine.operands;
      names = fine.names;
    }

pub started_typed : (program : Program) (procs me : ℕ) → is_valid program ≡ true → IsTyped (started program procs me)
started_typed program procs me valid = (started_free program valid procs me).going

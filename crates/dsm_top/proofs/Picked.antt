-- What one more pick leaves of a run in the code.
use Rattle.std.specs.Prelude.{◌≡◌, ◌≤◌, ◌<◌, ◌+◌, ℕ, zero, suc, slice_get, List, [], ◌∷◌, ◌++◌, length, take, Option, Some, None}
use Rattle.std.proofs.Common.{refl, sym, ap, ◌∙◌, arith, subst, append-nil}
use Rattle.std.proofs.Math.ListN.{get_or}
use Rattle.std.proofs.lemmas.Option.{slice_get_within, get_or_from_slice_get}
use Rattle.dsm_base.specs.declared.names.Proc.{Proc}
use Rattle.dsm_base.specs.declared.errors.ReadErr.{ReadErr}
use Rattle.dsm_base.specs.declared.label.Label.{Label}
use Rattle.dsm_base.specs.declared.setup.Setup.{Setup}
use Rattle.dsm_base.specs.Output.{line_text, printed_of, printed_lines}
use Rattle.dsm_base.specs.Plain.{Turn, PlainState, plain_turn, plain_after}
use Rattle.dsm_base.specs.Threads.{Semantics}
use Rattle.dsm_base.specs.Sink.{appended, TakesPart}
use Rattle.dsm_check.specs.Programs.{Program}
use Rattle.dsm_semantics.specs.States.{State}
use Rattle.dsm_semantics.specs.Programs.{first_states, threads_of}
use Rattle.dsm_top.specs.declared.plain.PlainRun.{PlainRun}
use Rattle.dsm_plain.specs.Machine.{machine_of}
use Rattle.dsm_plain.specs.declared.waiting.Picked.{Picked}
use Rattle.dsm_plain.specs.Waiting.{IsPick}
use Rattle.dsm_top.specs.PickRuns.{with_turn, program_run}
use Rattle.dsm_top.specs.PlainRuns.{program_in, IsAt, next_turns}
use Rattle.dsm_top.specs.Runs.{WroteCut}
use Rattle.dsm_top.proofs.Applied.{part_cut}
use Rattle.dsm_top.proofs.PickRuns.{next_is, next_pick}
use Rattle.dsm_top.proofs.Pieces.{part_of, next_taken}

-- a pick that is no turn leaves the machine as it was
pub no_turn : (setup : Setup) (threads : Semantics State) (old : PlainState State) (p : ℕ) (new : PlainState State) (picked : Picked) → ((label : Label) → picked ≡ Picked.Did label → ⊥) → IsPick setup threads old p new picked
    → (plain_turn setup threads old p ≡ None) × (new ≡ old)
no_turn setup threads old p new (Picked.Did label) other is = absurd (other label refl)
no_turn setup threads old p new (Picked.Blocked holders) other is = (is.0, is.1)
no_turn setup threads old p new (Picked.Missing procs) other is = (is.0, is.1)
no_turn setup threads old p new Picked.Over other is = (is.0, is.1)

-- a pick of a list, and the end of the list

pub pick_at : {A : Type 0} → (items : List A) (index : ℕ) (item : A) → Some item ≡ slice_get items index → (index < length items) × (item ≡ get_or items index item)
pick_at items index item is = (slice_get_within items index item (sym is), sym (get_or_from_slice_get items index item item (sym is)))

pub pick_past : {A : Type 0} → (items : List A) (index : ℕ) → None ≡ slice_get items index → length items ≤ index
pick_past [] index is = omega arith
pick_past (item ∷ items) zero is = absurd (cc)
pick_past (item ∷ items) (suc index) is = let past = pick_past items index is in omega (arith, past)

-- a turn that was found is the one that is added, and what the parts of the run show of it
module _ (program : Program) (setup : Setup) (old new : PlainRun) (turns : List Turn) (p : Proc) (at : IsAt program setup old turns)
    (same_program : program_in new ≡ program_in old) (same_setup : new.machine.setup ≡ old.machine.setup) where
  added : (found : Option Label) → plain_turn old.machine.setup (threads_of (program_in old)) (machine_of old.machine) p.0 ≡ found → next_turns program setup turns p ≡ with_turn turns p.0 found
  added found is =
      let here : plain_turn setup (threads_of program) (machine_of old.machine) p.0 ≡ found =
      (λ i. plain_turn (sym at.setup_is i) (threads_of (sym at.program_is i)) (machine_of old.machine) p.0) ∙ is in
      next_is setup (first_states program setup.procs) (threads_of program) (machine_of old.machine) turns p found at.machine here

  pub at_turn : (label : Label) → plain_turn old.machine.setup (threads_of (program_in old)) (machine_of old.machine) p.0 ≡ Some label
      → machine_of new.machine ≡ plain_after (threads_of (program_in old)) (machine_of old.machine) p.0 label
      → IsAt program setup new (next_turns program setup turns p)
  at_turn label is machine = subst (IsAt program setup new) (sym (added (Some label) is)) record {
    program_is = same_program ∙ at.program_is;
    setup_is = same_setup ∙ at.setup_is;
    machine = machine ∙ (λ i. plain_after (threads_of (at.program_is i)) (at.machine i) p.0 label);
  }

  pub line_turn : (label : Label) (line : List ℕ) → plain_turn old.machine.setup (threads_of (program_in old)) (machine_of old.machine) p.0 ≡ Some label → line ≡ printed_of p.0 (line_text label)
      → printed_lines (next_turns program setup turns p) ≡ printed_lines turns ++ line
  line_turn label line is printed = ap printed_lines (added (Some label) is) ∙ ap (λ bytes. printed_lines turns ++ bytes) (sym printed)

  pub at_none : plain_turn old.machine.setup (threads_of (program_in old)) (machine_of old.machine) p.0 ≡ None
      → machine_of new.machine ≡ machine_of old.machine → IsAt program setup new (next_turns program setup turns p)
  at_none is machine = subst (IsAt program setup new) (sym (added None is)) record {
    program_is = same_program ∙ at.program_is;
    setup_is = same_setup ∙ at.setup_is;
    machine = machine ∙ at.machine;
  }

  pub line_none : (line : List ℕ) → plain_turn old.machine.setup (threads_of (program_in old)) (machine_of old.machine) p.0 ≡ None → line ≡ []
      → printed_lines (next_turns program setup turns p) ≡ printed_lines turns ++ line
  line_none line is empty = ap printed_lines (added None is) ∙ (sym (append-nil (printed_lines turns)) ∙ ap (λ bytes. printed_lines turns ++ bytes) (sym empty))

-- one more pick of a list
module _ (program : Program) (setup : Setup) (picks : List Proc) (old new : ℕ) (p : Proc) (is : p ≡ get_or picks old p) (inside : old < length picks) (units : new ≡ old + 1) where
  pub more_turns : program_run program setup (take new picks) ≡ next_turns program setup (program_run program setup (take old picks)) p
  more_turns =
      ap (λ n. program_run program setup (take n picks)) units ∙ next_pick setup (first_states program setup.procs) (threads_of program) picks old p is inside

  more_lines : (line : List ℕ) → printed_lines (next_turns program setup (program_run program setup (take old picks)) p) ≡ printed_lines (program_run program setup (take old picks)) ++ line
      → printed_lines (program_run program setup (take new picks)) ≡ printed_lines (program_run program setup (take old picks)) ++ line
  more_lines line prints = ap printed_lines more_turns ∙ prints

  pub wrote_more : (held before after : Option (List ℕ)) (line bytes : List ℕ) → printed_lines (next_turns program setup (program_run program setup (take old picks)) p) ≡ printed_lines (program_run program setup (take old picks)) ++ line
      → bytes ≡ line → before ≡ appended held (printed_lines (program_run program setup (take old picks))) → after ≡ appended before bytes
      → after ≡ appended held (printed_lines (program_run program setup (take new picks)))
  wrote_more held before after line bytes prints same so_far more =
      next_taken held before after (printed_lines (program_run program setup (take old picks))) line bytes so_far more same ∙ ap (appended held) (sym (more_lines line prints))

  pub wrote_cut : (held before after : Option (List ℕ)) (line : List ℕ) (e : ReadErr) → printed_lines (next_turns program setup (program_run program setup (take old picks)) p) ≡ printed_lines (program_run program setup (take old picks)) ++ line
      → before ≡ appended held (printed_lines (program_run program setup (take old picks))) → TakesPart before after line
      → WroteCut held after (printed_lines (program_run program setup (take new picks))) e
  wrote_cut held before after line e prints so_far part =
      let done = printed_lines (program_run program setup (take old picks)) in
      let all : done ++ (line ++ []) ≡ printed_lines (program_run program setup (take new picks)) = ap (λ one. done ++ one) (append-nil line) ∙ sym (more_lines line prints) in
      part_cut held after (printed_lines (program_run program setup (take new picks))) e
      (subst (TakesPart held after) all (part_of held before after done line [] so_far part))

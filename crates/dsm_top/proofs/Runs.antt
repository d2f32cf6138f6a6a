-- What a run leaves.
use Rattle.std.specs.Prelude.{◌≡◌, ◌≤◌, ℕ, List, [], ◌∷◌, ◌++◌, length, take, reverse, Result, Ok, Err, IfOk}
use Rattle.std.proofs.Common.{refl, sym, ap, ◌∙◌, arith, subst, inl, inr}
use Rattle.dsm_base.specs.Causes.{Rose, IfFailed}
use Rattle.dsm_base.specs.declared.errors.ReadErr.{ReadErr}
use Rattle.dsm_base.specs.Sink.{appended, TakesPart}
use Rattle.dsm_base.specs.declared.act.Act.{Act}
use Rattle.dsm_base.specs.declared.errors.MemFault.{MemFault}
use Rattle.dsm_base.specs.declared.finished.Finished.{Finished}
use Rattle.dsm_base.specs.declared.setup.Setup.{Setup}
use Rattle.dsm_base.specs.Endings.{endings_of, finished_by}
use Rattle.dsm_base.specs.Output.{printed_lines}
use Rattle.dsm_base.specs.Plain.{labels_of}
use Rattle.dsm_check.specs.Programs.{Program}
use Rattle.dsm_check.specs.Setups.{IsSetupOf}
use Rattle.dsm_semantics.specs.Programs.{first_states, threads_of}
use Rattle.dsm_code.specs.Machine.{State, code_semantics, first_state}
use Rattle.dsm_code.specs.Programs as code
use Rattle.dsm_laws_code.specs.Programs.{code_of}
use Rattle.dsm_laws_same.specs.Images.{without_threads}
use Rattle.dsm_net.specs.declared.trace.Group.{Group}
use Rattle.dsm_net.specs.Fits.{IsWithin, Done, FitsUnits, acts_of, run_of}
use Rattle.dsm_net.specs.Story.{history, own_turns_of, labels_of_turns}
use Rattle.dsm_laws_protocol.specs.Holding.{AreWithin}
use Rattle.dsm_laws_protocol.specs.OwnParts.{HasOwnParts}
use Rattle.dsm_laws_history.specs.Output.{output_of}
use Rattle.dsm_network.specs.World.{setup_of, groups_of, units_of, net_of, ending_at}
use Rattle.dsm_top.specs.declared.shown.Asked.{Asked}
use Rattle.dsm_top.specs.declared.status.Status.{Status}
use Rattle.dsm_top.specs.Ended.{Left, TakesFront, IsRun, Ran, shown_after}
use Rattle.dsm_top.specs.Lawful.{IsLawful, AreLawful}
use Rattle.dsm_top.specs.Runs.{CodeWorld, first_by, code_kind, first_in, IsMadeBy, HasAll, FitsFirst, IsSameRun, WroteCutShowing, shown_of}
use Rattle.dsm_top.specs.Shown.{shown_by}
use Rattle.dsm_top.specs.Statuses.{status_of_finished, status_of_write}
use Rattle.dsm_top.proofs.Applied.{made_fits}
use Rattle.dsm_top.proofs.Compiled.{same_groups, same_shown}
use Rattle.dsm_top.proofs.Endings.{endings_are}
use Rattle.dsm_top.proofs.Units.{all_front}
use Rattle.dsm_top.proofs.Went.{went_showing}

-- the laws of traces, for the threads of programs

abbrev pub Law : Type 0
Law = (program : Program) (setup : Setup) (acts : List Act) (trace : List Group) (fits : FitsUnits setup (first_states program setup.procs) (threads_of program) acts trace) → AreWithin setup acts →
    IsLawful setup (first_states program setup.procs) (threads_of program) (run_of setup (first_states program setup.procs) (threads_of program) fits.done).net trace

-- a run is lawful after each unit of it
pub all_lawful : (program : Program) (setup : Setup) (law : Law) (done : List Done) → AreWithin setup (acts_of done) → AreLawful setup (first_states program setup.procs) (threads_of program) done
all_lawful program setup law [] within = law program setup [] [] record { done = []; same_acts = refl; is_trace = refl } within
all_lawful program setup law (one ∷ before) within =
    (law program setup (acts_of (one ∷ before)) _ record { done = one ∷ before; same_acts = refl; is_trace = refl } within, all_lawful program setup law before within.1)

-- threads of its code make the same of the same units
abbrev pub Same : Program → Type 0
Same program = (procs : ℕ) (setup : Setup) (done : List Done) →
    without_threads (run_of setup (first_state (code_of program) procs) code_semantics done) ≡ without_threads (run_of setup (first_states program procs) (threads_of program) done)

-- and the laws for threads of code

abbrev pub Output : Type 0
Output = (setup : Setup) (first : ℕ → State) (acts : List Act) (trace : List Group) → FitsUnits setup first code_semantics acts trace → output_of trace ≡ printed_lines (history trace)

abbrev pub OwnParts : Type 0
OwnParts = (setup : Setup) (first : ℕ → State) (acts : List Act) (trace : List Group) (fits : FitsUnits setup first code_semantics acts trace) →
    HasOwnParts setup first code_semantics (run_of setup first code_semantics fits.done).net trace

abbrev pub OwnLabels : Type 0
OwnLabels = (trace : List Group) (p : ℕ) → labels_of_turns (own_turns_of p trace) ≡ labels_of p (history trace)

-- how each thread of a world came to be over
world_endings : (own : OwnParts) (labels : OwnLabels) (schedule : List Act) (world : CodeWorld) → IsMadeBy schedule world → (p : ℕ) →
    ending_at ((net_of code_kind first_by world).processors p) ≡ endings_of (history (groups_of world)) p
world_endings own labels schedule world made p =
    let fits : FitsFirst world schedule = record { done = made.done; same_acts = made.acts; is_trace = ap (λ ran. ran.groups) made.run.ran } in
    ap (λ ran. ending_at (ran.net.processors p)) (sym made.run.ran)
    ∙ endings_are (setup_of world) (first_in world) code_semantics (reverse (take (units_of world) schedule)) (groups_of world) fits
    (own (setup_of world) (first_in world) (reverse (take (units_of world) schedule)) (groups_of world) fits) (labels (groups_of world)) p

-- what a world keeps while units are applied
pub is_setup_still : (program : Program) (procs : ℕ) (old new : CodeWorld) → IsSameRun old new → IsSetupOf program procs (setup_of old) → IsSetupOf program procs (setup_of new)
is_setup_still program procs old new same is = subst (IsSetupOf program procs) (sym same.setup) is

pub first_still : (program : Program) (old new : CodeWorld) → IsSameRun old new → first_in old ≡ first_state (code_of program) (setup_of old).procs → first_in new ≡ first_state (code_of program) (setup_of new).procs
first_still program old new same is = same.first ∙ (is ∙ ap (λ (setup : Setup). first_state (code_of program) setup.procs) (sym same.setup))

-- the first states of a world whose maker has the code of a program
pub first_by_code : (result : Result CodeWorld MemFault) (program : Program) (made : code.Program) (setup : Setup) → made ≡ code_of program → IfOk result (λ world. first_in world ≡ first_state made setup.procs) → IfOk result (λ world. setup_of world ≡ setup)
    → IfOk result (λ world. first_in world ≡ first_state (code_of program) (setup_of world).procs)
first_by_code (Ok world) program made setup is first same = first ∙ (λ i. first_state (is i) (sym same i).procs)
first_by_code (Err error) program made setup is first same = tt

module _ (program : Program) (procs : ℕ) (schedule : List Act) (law : Law) (output : Output) (same : Same program) (asked : Asked) (world : CodeWorld) (left : Left)
    (is_setup : IsSetupOf program procs (setup_of world)) (first : first_in world ≡ first_state (code_of program) (setup_of world).procs) (all_within : AreWithin (setup_of world) schedule)
    (within : units_of world ≤ length schedule) (trace : left.trace ≡ groups_of world) (units : left.units ≡ units_of world) where
  -- the same units, where the first states are named by the code of the program
  pub same_run : (done : List Done) → run_of (setup_of world) (first_state (code_of program) (setup_of world).procs) code_semantics done ≡ run_of (setup_of world) (first_in world) code_semantics done
  same_run done = ap (λ from. run_of (setup_of world) from code_semantics done) (sym first)

  abbrev pub run : FitsFirst world schedule → IsRun program (setup_of world) schedule left.units left.trace
  run fits = record {
    within = omega (arith, within, units);
    fits = record {
      done = fits.done;
      same_acts = fits.same_acts ∙ ap (λ n. reverse (take n schedule)) (sym units);
      is_trace = same_groups program (setup_of world).procs (setup_of world) fits.done (same (setup_of world).procs (setup_of world) fits.done) ∙ (ap (λ ran. ran.groups) (same_run fits.done) ∙ (fits.is_trace ∙ sym trace));
    };
    lawful = all_lawful program (setup_of world) law fits.done
        (subst (AreWithin (setup_of world)) (sym fits.same_acts) (all_front (IsWithin (setup_of world)) schedule (units_of world) all_within));
  }

  -- what went out is what the history prints
  out : FitsFirst world schedule → output_of (groups_of world) ≡ printed_lines (history left.trace)
  out fits =
      output (setup_of world) (first_in world) (reverse (take (units_of world) schedule)) (groups_of world) fits
      ∙ ap (λ t. printed_lines (history t)) (sym trace)

  -- with what was asked for behind it
  shown : (made : IsMadeBy schedule world) → output_of (groups_of world) ++ shown_of asked world ≡ printed_lines (history left.trace) ++ shown_after asked (run (made_fits world schedule made))
  shown made =
      let printed = out (made_fits world schedule made) in
      let net_is = ap (λ ran. ran.net) (sym made.run.ran) ∙ ap (λ ran. ran.net) (sym (same_run made.done)) in
      (λ i. printed i ++ shown_by asked (setup_of world) (net_is i) (sym trace i))
      ∙ ap (λ text. printed_lines (history left.trace) ++ text) (same_shown program (setup_of world).procs (setup_of world) made.done (same (setup_of world).procs (setup_of world) made.done) asked left.trace)

  pub ran_whole : (own : OwnParts) (labels : OwnLabels) (made : IsMadeBy schedule world) (finished : Finished) (status : Status) →
      finished ≡ finished_by (setup_of world).procs (λ p. ending_at ((net_of code_kind first_by world).processors p)) → status ≡ status_of_finished finished →
      units_of world ≡ length schedule → left.after ≡ appended left.before (output_of (groups_of world) ++ shown_of asked world) → Ran program procs schedule asked left status
  ran_whole own labels made finished status is named all wrote =
      let ended : finished_by (setup_of world).procs (λ p. ending_at ((net_of code_kind first_by world).processors p)) ≡ finished_by (setup_of world).procs (endings_of (history (groups_of world))) =
      (λ i. finished_by (setup_of world).procs (λ p. world_endings own labels schedule world made p i)) in
      let stands : finished_by procs (endings_of (history left.trace)) ≡ finished =
      ap (λ t. finished_by procs (endings_of (history t))) trace ∙ (ap (λ n. finished_by n (endings_of (history (groups_of world)))) (sym is_setup.procs) ∙ (sym ended ∙ sym is)) in
      record {
        setup = setup_of world;
        is_setup = is_setup;
        is_run = run (made_fits world schedule made);
        went = went_showing (length schedule) (finished_by procs (endings_of (history left.trace))) finished (printed_lines (history left.trace)) (shown_after asked (run (made_fits world schedule made))) left status stands named
            (units ∙ all) (wrote ∙ ap (appended left.before) (shown made));
      }

  -- what the sink has where the run was cut short
  pub cut_by : (fits : FitsFirst world schedule) (error : ReadErr) → WroteCutShowing left.before left.after (output_of (groups_of world)) (shown_of asked world) (HasAll schedule world) error
      → IfFailed error (Rose left.faults_before left.faults_after) → Ran program procs schedule asked left (status_of_write error)
  cut_by fits ReadErr.Failed (inl part) rose =
      record { setup = setup_of world; is_setup = is_setup; is_run = run fits; went = inl record { part = subst (TakesPart left.before left.after) (out fits) part; rose = rose } }
  cut_by fits ReadErr.Failed (inr behind) rose = record {
    setup = setup_of world;
    is_setup = is_setup;
    is_run = run (made_fits world schedule behind.0.made);
    went = inr (units ∙ behind.0.all, record { part = subst (TakesPart left.before left.after) (shown behind.0.made) behind.1; rose = rose });
  }
  cut_by fits ReadErr.Memory (inl front) rose =
      record { setup = setup_of world; is_setup = is_setup; is_run = run fits; went = inl (subst (TakesFront left.before left.after) (out fits) front) }
  cut_by fits ReadErr.Memory (inr behind) rose = record {
    setup = setup_of world;
    is_setup = is_setup;
    is_run = run (made_fits world schedule behind.0.made);
    went = inr (units ∙ behind.0.all, subst (TakesPart left.before left.after) (shown behind.0.made) behind.1);
  }

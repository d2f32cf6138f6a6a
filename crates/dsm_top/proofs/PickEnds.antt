-- What a run by picks leaves at its end.
use Rattle.std.specs.Prelude.{◌≡◌, ◌≤◌, ℕ, List, length, take}
use Rattle.std.proofs.Common.{refl, sym, ap, ◌∙◌}
use Rattle.dsm_base.specs.Causes.{Rose, IfFailed}
use Rattle.dsm_base.specs.declared.errors.ReadErr.{ReadErr}
use Rattle.dsm_base.specs.Output.{printed_lines}
use Rattle.dsm_base.specs.Sink.{appended}
use Rattle.dsm_base.specs.declared.names.Proc.{Proc}
use Rattle.dsm_base.specs.declared.setup.Setup.{Setup}
use Rattle.dsm_check.specs.Programs.{Program}
use Rattle.dsm_check.specs.Setups.{IsSetupOf}
use Rattle.dsm_base.specs.declared.finished.Finished.{Finished}
use Rattle.dsm_base.specs.Endings.{endings_of, finished_by}
use Rattle.dsm_base.specs.Plain.{Turn, PlainState, after_run}
use Rattle.dsm_semantics.specs.States.{State, ending_of}
use Rattle.dsm_semantics.specs.Programs.{first_states, threads_of}
use Rattle.dsm_plain.specs.Machine.{endings_at}
use Rattle.dsm_top.specs.declared.plain.PlainRun.{PlainRun}
use Rattle.dsm_top.specs.declared.status.Status.{Status}
use Rattle.dsm_top.specs.Statuses.{status_of_finished, status_of_write}
use Rattle.dsm_top.specs.Ended.{Left, IsRunByFirst, RanPlain}
use Rattle.dsm_top.specs.Runs.{WroteCut}
use Rattle.dsm_top.specs.PickRuns.{program_run}
use Rattle.dsm_top.specs.PlainRuns.{IsAt}
use Rattle.dsm_top.proofs.Went.{went_through}

-- the law of endings, for threads of programs
abbrev pub Law : Type 0
Law = (program : Program) (procs : ℕ) (run : List Turn) (p : ℕ) →
    ending_of ((after_run (first_states program procs) (threads_of program) run).threads p) ≡ endings_of run p

-- how the threads of a machine came to be over is how those of its run did
machine_endings : Law → (program : Program) (setup : Setup) (run : PlainRun) (turns : List Turn) → IsAt program setup run turns → endings_at run.machine ≡ endings_of turns
machine_endings law program setup run turns at =
    ap (λ (s : PlainState State). λ p. ending_of (s.threads p)) at.machine ∙ (λ i p. law program setup.procs turns p i)

module _ (program : Program) (procs : ℕ) (setup : Setup) (is_setup : IsSetupOf program procs setup) (picks : List Proc) (left : Left) (within : left.units ≤ length picks) where
  is_run : IsRunByFirst program procs picks left.units (program_run program setup (take left.units picks))
  is_run = record { within = within; is_run = record { setup = setup; is_setup = is_setup; is_run = refl } }

  pub plain_whole : Law → (run : PlainRun) (finished : Finished) (status : Status) → finished ≡ finished_by run.machine.setup.procs (endings_at run.machine) → status ≡ status_of_finished finished →
      IsAt program setup run (program_run program setup (take left.units picks)) → left.units ≡ length picks → left.after ≡ appended left.before (printed_lines (program_run program setup (take left.units picks))) → RanPlain program procs picks left status
  plain_whole law run finished status is named at all wrote =
      let turns = program_run program setup (take left.units picks) in
      let stands : finished_by procs (endings_of turns) ≡ finished =
      sym (is ∙ (λ i. finished_by ((ap (λ (s : Setup). s.procs) at.setup_is ∙ is_setup.procs) i) (machine_endings law program setup run turns at i))) in
      record {
        turns = turns;
        is_run = is_run;
        went = went_through (length picks) (finished_by procs (endings_of turns)) finished (printed_lines turns) left status stands named all wrote;
      }

  -- what the sink has where the run was cut short
  pub plain_cut : (error : ReadErr) → WroteCut left.before left.after (printed_lines (program_run program setup (take left.units picks))) error → IfFailed error (Rose left.faults_before left.faults_after) → RanPlain program procs picks left (status_of_write error)
  plain_cut ReadErr.Failed cut rose = record { turns = program_run program setup (take left.units picks); is_run = is_run; went = record { part = cut; rose = rose } }
  plain_cut ReadErr.Memory cut rose = record { turns = program_run program setup (take left.units picks); is_run = is_run; went = cut }

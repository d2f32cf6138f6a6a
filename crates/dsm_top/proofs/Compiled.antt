-- What is asked for of a run of code is what is asked for of the run of the tree's threads.
use Rattle.std.specs.Prelude.{◌≡◌, ℕ, List, ◌++◌, Option, Some, None, reverse}
use Rattle.std.specs.List.{range_with_len, flat_map}
use Rattle.std.proofs.Common.{refl, sym, ap, ◌∙◌}
use Rattle.dsm_base.specs.declared.setup.Setup.{Setup}
use Rattle.dsm_check.specs.Programs.{Program}
use Rattle.dsm_semantics.specs.Programs.{first_states, threads_of}
use Rattle.dsm_semantics.specs.States as t
use Rattle.dsm_code.specs.Machine.{State, code_semantics, first_state}
use Rattle.dsm_laws_code.specs.Programs.{code_of}
use Rattle.dsm_laws_same.specs.Images.{net_by, processor_by, up_by, without_threads}
use Rattle.dsm_net.specs.declared.trace.Group.{Group}
use Rattle.dsm_net.specs.Fits.{Done, Ran, run_of}
use Rattle.dsm_net.specs.Messages.{home_of}
use Rattle.dsm_net.specs.Net.{Net}
use Rattle.dsm_net.specs.Processor.{Processor, Standing, live}
use Rattle.dsm_records.specs.Texts.{as_line, trace_text}
use Rattle.dsm_state.specs.States.{processor_text, lock_at, lock_text, state_text}
use Rattle.dsm_top.specs.declared.shown.Asked.{Asked}
use Rattle.dsm_top.specs.Shown.{piece_if, shown_by}

-- The state's text is the same whatever the threads' states are.

module _ {P S : Type 0} (g : P → S) (setup : Setup) where
  processor_same : (p : ℕ) (state : Option (Processor P)) (trace : List Group) → processor_text p (up_by g state) trace ≡ processor_text p state trace
  processor_same p None trace = refl
  processor_same p (Some s) trace = refl

  home_same : (lock : ℕ) (s : Processor P) (standing : Standing) → lock_at setup lock (processor_by g s) standing ≡ lock_at setup lock s standing
  home_same lock s live = refl
  home_same lock s _ = refl

  lock_same : (lock : ℕ) (state : Option (Processor P)) → lock_text setup lock (up_by g state) ≡ lock_text setup lock state
  lock_same lock None = refl
  lock_same lock (Some s) = home_same lock s s.standing

  state_same : (net : Net P) (trace : List Group) → state_text setup (net_by g net) trace ≡ state_text setup net trace
  state_same net trace =
      (λ i. flat_map (λ p. as_line (processor_same p (net.processors p) trace i)) (range_with_len 0 setup.procs)
      ++ flat_map (λ lock. as_line (lock_same lock (net.processors (home_of setup lock)) i)) (range_with_len 0 setup.locks))

  pub shown_same : (asked : Asked) (net : Net P) (trace : List Group) → shown_by asked setup (net_by g net) trace ≡ shown_by asked setup net trace
  shown_same asked net trace =
      ap (λ text. piece_if asked.trace (trace_text (reverse trace)) ++ piece_if asked.state text) (state_same net (reverse trace))

module _ (program : Program) (procs : ℕ) (setup : Setup) (done : List Done) where
  abbrev pub code_ran : Ran State
  code_ran = run_of setup (first_state (code_of program) procs) code_semantics done

  abbrev pub tree_ran : Ran t.State
  tree_ran = run_of setup (first_states program procs) (threads_of program) done

  module _ (same : without_threads code_ran ≡ without_threads tree_ran) where
    -- the same units make the same trace
    pub same_groups : tree_ran.groups ≡ code_ran.groups
    same_groups = ap (λ ran. ran.groups) (sym same)

    -- and the same texts
    pub same_shown : (asked : Asked) (trace : List Group) → shown_by asked setup code_ran.net trace ≡ shown_by asked setup tree_ran.net trace
    same_shown asked trace =
        sym (shown_same (λ (state : State). tt) setup asked code_ran.net trace)
        ∙ (ap (λ ran. shown_by asked setup ran.net trace) same ∙ shown_same (λ (state : t.State). tt) setup asked tree_ran.net trace)

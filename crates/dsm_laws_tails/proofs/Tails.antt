-- A history with one tail last or first, and what settles or is lost by its length.
use Rattle.std.specs.Prelude.{ℕ, ◌==◌, if◌then◌else◌, List, [], ◌++◌}
use Rattle.std.proofs.Common.{arith, refl, sym, append-nil}
use Rattle.dsm_base.specs.declared.label.Label.{Label}
use Rattle.dsm_base.specs.declared.setup.Setup.{Setup}
use Rattle.dsm_base.specs.Threads.{Semantics}
use Rattle.dsm_base.specs.Plain.{Turn, IsPlainRun}
use Rattle.dsm_laws_runs.specs.Swap.{IsRunLike}
use Rattle.dsm_laws_tails.specs.Fronts.{upto, past, turns_by, AreWith}
use Rattle.dsm_laws_tails.specs.Histories.{turns_of_tails, whole_of, IsHistory, IsHistoryLike}
use Rattle.dsm_laws_tails.proofs.Fronts.{past_upto}
use Rattle.dsm_laws_tails.proofs.Histories.{older_run, settles, settled_like, last_like, loses}

-- the tails without one
abbrev pub tails_but : (ℕ → List Label) → ℕ → ℕ → List Label
tails_but tails p q = if q == p then [] else tails q

pub but_one : (tails : ℕ → List Label) (p : ℕ) → AreWith tails p [] (tails_but tails p)
but_one tails p = record { own = grind arith; same = λ q ne. grind arith }

module _ {S : Type 0} (setup : Setup) (first : ℕ → S) (threads : Semantics S) (settled : List Turn) (tails : ℕ → List Label) (is : IsHistory setup first threads settled tails) (p : ℕ) where
  pub tail_last : (others : ℕ → List Label) → AreWith tails p [] others → IsRunLike setup first threads (turns_by p (tails p) ++ whole_of setup settled others) (whole_of setup settled tails)
  tail_last others are = last_like setup first threads settled tails is p (tails p) [] (sym (append-nil (tails p))) others are

  pub tail_first : (others : ℕ → List Label) → AreWith tails p [] others → IsRunLike setup first threads (whole_of setup (turns_by p (tails p) ++ settled) others) (whole_of setup settled tails)
  tail_first others are = settled_like setup first threads settled tails is p [] (tails p) refl others are

  -- the settled turns and one tail
  pub tail_alone : IsPlainRun setup first threads (turns_by p (tails p) ++ settled)
  tail_alone =
      older_run setup first threads (turns_of_tails setup.procs (tails_but tails p)) (turns_by p (tails p) ++ settled) (tail_first (tails_but tails p) (but_one tails p)).is_run

  module _ (k : ℕ) (others : ℕ → List Label) where
    -- the oldest k of p's turns settle, or all but them are lost
    pub oldest_settle : AreWith tails p (past k (tails p)) others → IsHistoryLike setup first threads (turns_by p (upto k (tails p)) ++ settled) others (whole_of setup settled tails)
    oldest_settle are = settles setup first threads settled tails is p (past k (tails p)) (upto k (tails p)) (sym (past_upto k (tails p))) others are

    pub newest_lost : AreWith tails p (upto k (tails p)) others → IsHistory setup first threads settled others
    newest_lost are = loses setup first threads settled tails is p (past k (tails p)) (upto k (tails p)) (sym (past_upto k (tails p))) others are

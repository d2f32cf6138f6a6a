-- How far a run came, by its status.
use Rattle.std.specs.Prelude.{◌≡◌, ℕ, List, ◌++◌}
use Rattle.std.proofs.Common.{ap, sym, subst}
use Rattle.dsm_base.specs.Sink.{appended}
use Rattle.dsm_base.specs.declared.finished.Finished.{Finished}
use Rattle.dsm_top.specs.declared.status.Status.{Status}
use Rattle.dsm_top.specs.Statuses.{status_of_finished}
use Rattle.dsm_top.specs.Ended.{Left, Went, WentThrough, WentShowing}

by_finished : (finished : Finished) (units : ℕ) (here : Finished) (lines : List ℕ) (left : Left) → WentThrough units here lines left (status_of_finished finished) → Went units here lines left (status_of_finished finished)
by_finished Finished.Done units here lines left went = went
by_finished Finished.Stopped units here lines left went = went
by_finished Finished.Unfinished units here lines left went = went

-- a run that went through, where the threads stand as the code found
pub went_through : (units : ℕ) (here finished : Finished) (lines : List ℕ) (left : Left) (status : Status) → here ≡ finished → status ≡ status_of_finished finished → left.units ≡ units → left.after ≡ appended left.before lines →
    Went units here lines left status
went_through units here finished lines left status same named all wrote =
    subst (Went units here lines left) (sym named)
    (by_finished finished units here lines left record { all = all; stands = ap status_of_finished (sym same); wrote = wrote })

showing_by_finished : (finished : Finished) (units : ℕ) (here : Finished) (lines shown : List ℕ) (left : Left) → WentThrough units here (lines ++ shown) left (status_of_finished finished)
    → WentShowing units here lines shown left (status_of_finished finished)
showing_by_finished Finished.Done units here lines shown left went = went
showing_by_finished Finished.Stopped units here lines shown left went = went
showing_by_finished Finished.Unfinished units here lines shown left went = went

-- the same of a run with what was asked for behind its lines
pub went_showing : (units : ℕ) (here finished : Finished) (lines shown : List ℕ) (left : Left) (status : Status) → here ≡ finished → status ≡ status_of_finished finished → left.units ≡ units
    → left.after ≡ appended left.before (lines ++ shown) → WentShowing units here lines shown left status
went_showing units here finished lines shown left status same named all wrote =
    subst (WentShowing units here lines shown left) (sym named)
    (showing_by_finished finished units here lines shown left record { all = all; stands = ap status_of_finished (sym same); wrote = wrote })

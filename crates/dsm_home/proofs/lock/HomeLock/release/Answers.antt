use Rattle.std.proofs.Common.{map, ap, ◌∙◌}
use Rattle.dsm_home.specs.LockStates.{LockState, holder_of, lock_after_release}
use Rattle.dsm_home.proofs.Holds.{without_granted}
use Rattle.dsm_home.proofs.lock.HomeLock.release.Goals as goal

pub returns : goal.returns
returns c =
    (λ i. record {
      holders = (ap (map holder_of) c.let_go.ensures ∙ without_granted c.args.proc.0 c.self.inside.granted) i;
      queue = c.self.inside.queue;
      version = c.in_ok-version.ensures i;
    })
    ∙ ap (λ (lock : LockState). lock_after_release lock c.args.proc.0 c.args.mode) c.self.view_is

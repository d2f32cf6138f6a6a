-- Managers of one barrier.
use Rattle.std.specs.Prelude.{◌≡◌}
use Rattle.dsm_barrier.specs.declared.manager.Manager.{Manager}
use Rattle.dsm_barrier.specs.Managers.{bar_count}

-- processor 0 of three is the manager of one barrier
pub record IsOfThree (manager : Manager) : Type 0 where
  pub me : manager.me.0 ≡ 0
  pub procs : manager.procs ≡ 3
  pub bars : bar_count manager ≡ 1

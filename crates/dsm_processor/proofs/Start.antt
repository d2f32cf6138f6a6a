-- Before the first turn.
use Rattle.std.proofs.Common.{◌≡◌, ◌<◌}
use Rattle.std.proofs.lemmas.List.Elements.{All-nil}
use Rattle.dsm_base.specs.declared.setup.Setup.{Setup}
use Rattle.dsm_home.specs.declared.waiting.Waiting.{Waiting}
use Rattle.dsm_processor.specs.Names.{AreOfSetup}
use Rattle.dsm_home.specs.HomeStates.{HomeState, start_home}

pub nobody_waits : (setup : Setup) (home : HomeState) → home ≡ start_home → AreOfSetup setup home.locks
nobody_waits setup home begins = λ lock. rw begins (All-nil (λ (one : Waiting). one.proc.0 < setup.procs))

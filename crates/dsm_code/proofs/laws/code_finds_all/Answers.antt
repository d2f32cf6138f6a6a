use Rattle.dsm_code.proofs.Keeping.{ready_typed}
use Rattle.dsm_code.proofs.Within.{completed_typed, over_only, finds_all, started_typed}
use Rattle.dsm_code.proofs.laws.code_finds_all.Goals as goal

pub returns : goal.returns
returns c = record { started = started_typed; label = completed_typed; ready = ready_typed; finds = finds_all; over = over_only }

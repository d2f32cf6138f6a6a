-- What a processor that makes its turns again was told.
use Rattle.std.specs.Prelude.{None}
use Rattle.dsm_base.specs.Family.{family_of}
use Rattle.dsm_replay.specs.declared.replay.Replay.{Replay}
use Rattle.dsm_replay.specs.Inputs.{Told}

abbrev pub told_to : Replay → Told
told_to replay = record {
  me = replay.me.0;
  procs = replay.procs;
  reports = family_of (λ q. None) replay.reports.items;
}

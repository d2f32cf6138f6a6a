use Rattle.std.proofs.Common.{◌≡◌, ◌-◌, ◌^◌, length, min, subst}
use Rattle.dsm_segments.specs.Entries.{entries}
use Rattle.dsm_verlog.proofs.log.VersionLog.kept.Goals as goal

pub returns : goal.returns
returns c = subst (λ n. c.count.result ≡ min (length (entries c.args.self.now.versions n)) (2 ^ 64 - 1)) c.index.ensures c.count.ensures

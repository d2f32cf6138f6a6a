use Rattle.std.proofs.Common.{◌≡◌, ◌+◌, ◌/◌, ◌≤◌, length, subst}
use Rattle.dsm_segments.specs.Entries.{entries, segments}
use Rattle.dsm_verlog.proofs.log.VersionLog.segments.Goals as goal

pub returns-clause-value : goal.returns-clause-value
returns-clause-value c = subst (λ n. c.segments.result ≡ length (segments c.args.self.now.versions n)) c.index.ensures c.segments.ensures.value

pub returns-clause-few : goal.returns-clause-few
returns-clause-few c = subst (λ n. c.segments.result ≤ length (entries c.args.self.now.versions n) / 64 + 2) c.index.ensures c.segments.ensures.few

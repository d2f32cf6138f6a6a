use Rattle.std.proofs.Common.{◌≡◌, IfOk, subst}
use Rattle.dsm_segments.specs.Entries.{entries, over}
use Rattle.dsm_verlog.proofs.log.VersionLog.since.Goals as goal

pub returns : goal.returns
returns c =
    subst (λ n. IfOk c.since.result (λ found. found ≡ over (λ made. made.version) c.args.version (entries c.args.self.now.versions n))) c.index.ensures c.since.ensures

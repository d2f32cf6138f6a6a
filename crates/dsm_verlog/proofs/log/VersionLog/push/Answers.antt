use Rattle.std.proofs.Common.{◌≡◌, ◌++◌, ◌∷◌, [], OnOk, subst}
use Rattle.dsm_base.specs.Family.{update}
use Rattle.dsm_segments.specs.Entries.{entries}
use Rattle.dsm_verlog.proofs.log.VersionLog.push.Goals as goal

pub returns-clause-pushed : goal.returns-clause-pushed
returns-clause-pushed c =
    subst (λ n. OnOk c.push.result (entries c.push.new.self ≡ update (entries c.args.self.now.versions) n (entries c.args.self.now.versions n ++ record { lock = c.args.lock; version = c.args.version; lines = c.args.lines } ∷ [])))
    c.index.ensures c.push.ensures

use Rattle.std.proofs.Common.{◌≡◌, ◌++◌, ◌∷◌, [], OnOk, subst}
use Rattle.dsm_base.specs.Family.{update}
use Rattle.dsm_segments.specs.Entries.{entries}
use Rattle.dsm_acqlog.proofs.log.AcquireLog.grant.Goals as goal

pub returns-clause-logged : goal.returns-clause-logged
returns-clause-logged c =
    subst (λ n. OnOk c.push.result (entries c.push.new.self ≡ update (entries c.args.self.now.grants) n (entries c.args.self.now.grants n ++ record { turn = c.args.turn; lock = c.args.lock; mode = c.args.mode; version = c.args.version } ∷ [])))
    c.index.ensures c.push.ensures

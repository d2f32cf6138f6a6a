use Rattle.std.proofs.Common.{◌≡◌, ◌++◌, ◌∷◌, [], OnOk, subst}
use Rattle.dsm_base.specs.Family.{update}
use Rattle.dsm_segments.specs.Entries.{entries}
use Rattle.dsm_acqlog.proofs.log.AcquireLog.opening.Goals as goal

pub returns-clause-logged : goal.returns-clause-logged
returns-clause-logged c =
    subst (λ n. OnOk c.push.result (entries c.push.new.self ≡ update (entries c.args.self.now.openings) n (entries c.args.self.now.openings n ++ record { turn = c.args.turn; bar = c.args.bar; epoch = c.args.epoch } ∷ [])))
    c.index.ensures c.push.ensures

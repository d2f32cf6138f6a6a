use Rattle.std.proofs.Common.{◌≡◌, subst}
use Rattle.dsm_base.specs.Family.{update}
use Rattle.dsm_segments.specs.Entries.{IsRising, behind, entries, over}
use Rattle.dsm_verlog.proofs.log.VersionLog.prune.Goals as goal

pub returns-clause-front : goal.returns-clause-front
returns-clause-front c =
    subst (λ n. entries c.prune.new.self ≡ update (entries c.args.self.now.versions) n (behind (λ made. made.version) c.args.upto (entries c.args.self.now.versions n))) c.index.ensures c.prune.ensures.front

pub returns-clause-pruned : goal.returns-clause-pruned
returns-clause-pruned c =
    subst (λ n. IsRising (λ made. made.version) (entries c.args.self.now.versions n) → entries c.prune.new.self n ≡ over (λ made. made.version) c.args.upto (entries c.args.self.now.versions n)) c.index.ensures c.prune.ensures.pruned

use Rattle.std.proofs.Common.{◌≡◌, subst}
use Rattle.dsm_base.specs.Family.{update}
use Rattle.dsm_segments.specs.Entries.{IsRising, behind, entries, over}
use Rattle.dsm_acqlog.proofs.log.AcquireLog.prune.Goals as goal

pub returns-clause-grants : goal.returns-clause-grants
returns-clause-grants c =
    subst (λ n. entries c.prune.new.self ≡ update (entries c.args.self.now.grants) n (behind (λ grant. grant.turn) c.args.upto (entries c.args.self.now.grants n))) c.index.ensures c.prune.ensures.front

pub returns-clause-pruned_grants : goal.returns-clause-pruned_grants
returns-clause-pruned_grants c =
    subst (λ n. IsRising (λ grant. grant.turn) (entries c.args.self.now.grants n) → entries c.prune.new.self n ≡ over (λ grant. grant.turn) c.args.upto (entries c.args.self.now.grants n)) c.index.ensures c.prune.ensures.pruned

pub returns-clause-openings : goal.returns-clause-openings
returns-clause-openings c =
    subst (λ n. entries c.prune-2.new.self ≡ update (entries c.args.self.now.openings) n (behind (λ opening. opening.turn) c.args.upto (entries c.args.self.now.openings n))) c.index-2.ensures c.prune-2.ensures.front

pub returns-clause-pruned_openings : goal.returns-clause-pruned_openings
returns-clause-pruned_openings c =
    subst (λ n. IsRising (λ opening. opening.turn) (entries c.args.self.now.openings n) → entries c.prune-2.new.self n ≡ over (λ opening. opening.turn) c.args.upto (entries c.args.self.now.openings n)) c.index-2.ensures c.prune-2.ensures.pruned

pub returns-clause-records : goal.returns-clause-records
returns-clause-records c =
    subst (λ n. entries c.prune-3.new.self ≡ update (entries c.args.self.now.records) n (behind (λ taken. taken.turn) c.args.upto (entries c.args.self.now.records n))) c.index-3.ensures c.prune-3.ensures.front

pub returns-clause-pruned_records : goal.returns-clause-pruned_records
returns-clause-pruned_records c =
    subst (λ n. IsRising (λ taken. taken.turn) (entries c.args.self.now.records n) → entries c.prune-3.new.self n ≡ over (λ taken. taken.turn) c.args.upto (entries c.args.self.now.records n)) c.index-3.ensures c.prune-3.ensures.pruned

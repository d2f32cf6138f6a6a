use Rattle.std.proofs.Common.{◌≡◌, ◌∙◌, ◌+◌, ap, arith, filter, nat_le, subst, sym}
use Rattle.dsm_base.specs.Family.{update}
use Rattle.dsm_base.proofs.Families.{update_back}
use Rattle.dsm_lines.specs.declared.of_objects.Arrival.{Arrival}
use Rattle.dsm_segments.specs.Entries.{behind, entries}
use Rattle.dsm_verlog.specs.Logs.{arrivals_from}
use Rattle.dsm_verlog.proofs.Epochs.{all_from_zero, from_behind, from_zero, none_before}
use Rattle.dsm_verlog.proofs.log.VersionLog.prune_arrivals.Goals as goal

pub returns-in-Some-clause-front : goal.returns-in-Some-clause-front
returns-in-Some-clause-front c =
    let next : c.args.below ≡ c.in-Some.last + 1 = omega (arith, c.in-Some.ensures.0, c.in-Some.ensures.1) in
    subst (λ n. entries c.prune.new.self ≡ update (entries c.args.self.now.arrivals) n (behind (λ made. made.epoch) c.in-Some.last (entries c.args.self.now.arrivals n))) c.index.ensures c.prune.ensures.front
    ∙ ap (λ l. update (entries c.args.self.now.arrivals) c.args.bar.0 l) (from_behind c.args.below c.in-Some.last next (entries c.args.self.now.arrivals c.args.bar.0))

pub returns-in_default-clause-front : goal.returns-in_default-clause-front
returns-in_default-clause-front c =
    let none : c.args.below ≡ 0 = none_before c.args.below c.checked_sub.result c.checked_sub.ensures c.in_default.not-Some in
    sym (ap (λ l. update (entries c.args.self.now.arrivals) c.args.bar.0 l) (ap (λ n. arrivals_from n (entries c.args.self.now.arrivals c.args.bar.0)) none ∙ from_zero (entries c.args.self.now.arrivals c.args.bar.0))
    ∙ update_back (entries c.args.self.now.arrivals) c.args.bar.0)

pub returns-in_default-clause-pruned : goal.returns-in_default-clause-pruned
returns-in_default-clause-pruned c = λ rising.
    let none : c.args.below ≡ 0 = none_before c.args.below c.checked_sub.result c.checked_sub.ensures c.in_default.not-Some in
    sym (ap (λ n. filter (λ (made : Arrival). nat_le n made.epoch) (entries c.args.self.now.arrivals c.args.bar.0)) none ∙ all_from_zero (entries c.args.self.now.arrivals c.args.bar.0))

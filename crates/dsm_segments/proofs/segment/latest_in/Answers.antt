use Rattle.std.proofs.Common.{◌≡◌, ◌∙◌, ◌+◌, ◌-◌, None, drop, subst, sym, arith}
use Rattle.dsm_segments.specs.Entries.{latest}
use Rattle.dsm_segments.proofs.Lists.{latest_here}
use Rattle.dsm_segments.proofs.segment.latest_in.Goals as goal

pub returns-then-number : goal.returns-then-number
returns-then-number g c =
    let on : c.loop-rest.rest ≡ c.loop-rest.rest - 1 + 1 = omega (arith, c.loop-rest-test.true) in
    sym (latest_here g.T.Numbered.log_number c.args.number c.args.entries.now (c.loop-rest.rest - 1) c.index-entries-rest.result (omega (arith, c.loop-rest-test.true, c.loop-rest.invariant.within)) c.index-entries-rest.is (sym c.number.ensures ∙ c.if-number.true)
    (subst (λ n. latest g.T.Numbered.log_number c.args.number (drop n c.args.entries.now) ≡ None) on c.loop-rest.invariant.none))

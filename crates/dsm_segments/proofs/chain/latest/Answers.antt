use Rattle.std.proofs.Common.{◌≡◌, ◌∙◌, ◌+◌, ◌-◌, None, drop, ap, subst, sym, arith}
use Rattle.std.specs.Option.{option_copied}
use Rattle.dsm_segments.specs.Entries.{latest}
use Rattle.dsm_segments.specs.Chains.{entries_of}
use Rattle.dsm_segments.proofs.Reading.{copied_is_some, latest_found, latest_missing, latest_none}
use Rattle.dsm_segments.proofs.chain.latest.Goals as goal

pub returns-then-is_some : goal.returns-then-is_some
returns-then-is_some g c =
    let on : c.loop-rest.rest ≡ c.loop-rest.rest - 1 + 1 = omega (arith, c.loop-rest-test.true) in
    latest_found c.args.slab.now g.T.Numbered.log_number c.args.number c.args.keys.now (c.loop-rest.rest - 1) (option_copied c.latest_in-found.result) (omega (arith, c.loop-rest-test.true, c.loop-rest.invariant.within))
    (c.latest_in-found.ensures ∙ ap (latest g.T.Numbered.log_number c.args.number) c.entries_at.ensures)
    (copied_is_some c.latest_in-found.result ∙ sym c.if-is_some.ensures)
    (subst (λ n. latest g.T.Numbered.log_number c.args.number (entries_of c.args.slab.now (drop n c.args.keys.now)) ≡ None) on c.loop-rest.invariant.none)

pub loop-rest-preserved : goal.loop-rest-preserved
loop-rest-preserved g c =
    let on : c.loop-rest.rest ≡ c.loop-rest.rest - 1 + 1 = omega (arith, c.loop-rest-test.true) in
    record {
      within = omega (arith, c.loop-rest.invariant.within);
      none = latest_none c.args.slab.now g.T.Numbered.log_number c.args.number c.args.keys.now (c.loop-rest.rest - 1) (omega (arith, c.loop-rest-test.true, c.loop-rest.invariant.within))
          (latest_missing c.args.slab.now g.T.Numbered.log_number c.args.number c.args.keys.now (c.loop-rest.rest - 1) (option_copied c.latest_in-found.result)
          (c.latest_in-found.ensures ∙ ap (latest g.T.Numbered.log_number c.args.number) c.entries_at.ensures)
          (copied_is_some c.latest_in-found.result ∙ sym c.if-is_some.ensures))
          (subst (λ n. latest g.T.Numbered.log_number c.args.number (entries_of c.args.slab.now (drop n c.args.keys.now)) ≡ None) on c.loop-rest.invariant.none);
    }

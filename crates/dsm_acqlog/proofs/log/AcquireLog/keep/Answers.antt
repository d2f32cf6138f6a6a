use Rattle.std.proofs.Common.{◌≡◌, ◌∙◌, ◌+◌, ◌∷◌, [], suc, List, get_or, drop, drop-cons, ap, sym, subst, arith}
use Rattle.dsm_base.specs.declared.lists.Record.{Record}
use Rattle.dsm_base.specs.Family.{update}
use Rattle.dsm_segments.specs.Entries.{entries}
use Rattle.dsm_acqlog.specs.Logs.{records_of, with_records}
use Rattle.dsm_acqlog.proofs.Keeping.{own_kept, others_kept}
use Rattle.dsm_acqlog.proofs.log.AcquireLog.keep.Goals as goal

pub loop-taken-preserved : goal.loop-taken-preserved
loop-taken-preserved c =
    let items = c.as_slice-taken-items.result.now in
    let at = c.loop-taken.taken-index in
    let taken : Record = get_or items at record { turn = 0; lock = record { 0 = 0 }; version = 0 } in
    let first = records_of c.args.self.now in
    let old = records_of c.loop-taken.self in
    let new = entries c.keep_later.new.records in
    let step : new ≡ update old c.args.from.0 (with_records (old c.args.from.0) (taken ∷ [])) =
    subst (λ n. new ≡ update old n (with_records (old n) (taken ∷ []))) c.index.ensures c.in_ok-keep_later.ensures in
    let on : suc at ≡ at + 1 = omega arith in
    let rest : drop at c.args.records.now ≡ taken ∷ drop (at + 1) c.args.records.now =
    subst (λ (l : List Record). drop at l ≡ taken ∷ drop (at + 1) l) c.as_slice-taken-items.ensures
    (drop-cons items at record { turn = 0; lock = record { 0 = 0 }; version = 0 } c.loop-taken-test.true ∙ ap (λ n. taken ∷ drop n items) on) in
    record {
      own =
          own_kept first old new c.args.from.0 taken step (drop (at + 1) c.args.records.now) (with_records (first c.args.from.0) c.args.records.now)
          (ap (λ (l : List Record). with_records (old c.args.from.0) l) (sym rest) ∙ c.loop-taken.invariant.own);
      others = others_kept first old new c.args.from.0 taken step c.loop-taken.invariant.others;
      grants = c.loop-taken.invariant.grants;
      openings = c.loop-taken.invariant.openings;
    }

use Rattle.std.proofs.Common.{◌≡◌, ◌++◌, ◌∷◌, ◌+◌, drop, sym, ap, ◌∙◌, arith, append_assoc, subst}
use Rattle.std.proofs.lemmas.Result.{err_from_is_err_and}
use Rattle.dsm_base.specs.Sink.{TakesPart}
use Rattle.dsm_top.specs.Runs.{joined}
use Rattle.dsm_top.proofs.Faults.{cause_before}
use Rattle.dsm_top.proofs.Pieces.{part_of, drop_at, next_taken}
use Rattle.dsm_top.proofs.lines.put_lines.Goals as goal

pub returns-in_err-put_all-clause-part : goal.returns-in_err-put_all-clause-part
returns-in_err-put_all-clause-part g c =
    let rest = joined (drop (c.loop-line.line-index + 1) c.as_slice-line-items.result.now) in
    let done = c.loop-line.invariant.0 in
    let step : drop c.loop-line.line-index c.as_slice-line-items.result.now ≡ c.line-item.result ∷ drop (c.loop-line.line-index + 1) c.as_slice-line-items.result.now = drop_at c.as_slice-line-items.result.now c.loop-line.line-index c.line-item.result c.line-item.is c.loop-line-test.true in
    let whole : done ++ (c.line-item.result ++ rest) ≡ joined c.args.lines.now = ap (λ lines. done ++ joined lines) (sym step) ∙ c.loop-line.invariant.1.left in
    let p = err_from_is_err_and c.from_residual.result c.from_residual.ensures.1 in
    rw (p.1) (subst (TakesPart (g.K.Sink.sink_holds c.args.out.now) (g.K.Sink.sink_holds c.put_all.new.out)) whole
    (part_of (g.K.Sink.sink_holds c.args.out.now) (g.K.Sink.sink_holds c.loop-line.out) (g.K.Sink.sink_holds c.put_all.new.out) done c.line-item.result rest c.loop-line.invariant.1.taken (subst (TakesPart (g.K.Sink.sink_holds c.loop-line.out) (g.K.Sink.sink_holds c.put_all.new.out)) c.as_slice.ensures c.in_err-put_all.ensures.part)))

pub returns-in_err-put_all-clause-cause : goal.returns-in_err-put_all-clause-cause
returns-in_err-put_all-clause-cause g c =
    let p = err_from_is_err_and c.from_residual.result c.from_residual.ensures.1 in
    rw (p.1, p.2) (cause_before (g.K.Sink.sink_faults c.args.out.now) (g.K.Sink.sink_faults c.loop-line.out) (g.K.Sink.sink_faults c.put_all.new.out) c.in_err-put_all.field-0.0 c.loop-line.invariant.1.later c.in_err-put_all.ensures.cause)

pub loop-line-preserved : goal.loop-line-preserved
loop-line-preserved g c =
    let rest = joined (drop (c.loop-line.line-index + 1) c.as_slice-line-items.result.now) in
    let done = c.loop-line.invariant.0 in
    let step : drop c.loop-line.line-index c.as_slice-line-items.result.now ≡ c.line-item.result ∷ drop (c.loop-line.line-index + 1) c.as_slice-line-items.result.now = drop_at c.as_slice-line-items.result.now c.loop-line.line-index c.line-item.result c.line-item.is c.loop-line-test.true in (
      done ++ c.line-item.result,
      record {
        taken = next_taken (g.K.Sink.sink_holds c.args.out.now) (g.K.Sink.sink_holds c.loop-line.out) (g.K.Sink.sink_holds c.put_all.new.out) done c.line-item.result c.as_slice.result.now c.loop-line.invariant.1.taken c.in_ok-put_all.ensures.whole c.as_slice.ensures;
        left = append_assoc done c.line-item.result rest ∙ (ap (λ lines. done ++ joined lines) (sym step) ∙ c.loop-line.invariant.1.left);
        later = omega (arith, c.loop-line.invariant.1.later, c.put_all.ensures.cause.later);
      },
    )

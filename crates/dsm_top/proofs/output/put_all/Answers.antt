use Rattle.std.proofs.Common.{arith}
use Rattle.std.proofs.lemmas.List.{length-drop}
use Rattle.dsm_top.proofs.Pieces.{more_taken}
use Rattle.dsm_top.proofs.output.put_all.Goals as goal

pub loop-done-preserved : goal.loop-done-preserved
loop-done-preserved g c =
    let bytes = c.args.bytes.now in
    let taken = c.in_ok-done.ensures.taken in
    record {
      within = omega (arith, c.loop-done.invariant.within, taken.front, length-drop c.loop-done.done bytes);
      taken = more_taken (g.K.Sink.sink_holds c.args.out.now) (g.K.Sink.sink_holds c.loop-done.out) (g.K.Sink.sink_holds c.put.new.self) c.loop-done.done c.in_ok-done.field-0 bytes c.loop-done.invariant.taken taken.taken;
      later = omega (arith, c.loop-done.invariant.later, c.put.ensures.cause.later);
    }

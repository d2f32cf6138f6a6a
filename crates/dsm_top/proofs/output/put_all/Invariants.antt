use Rattle.std.proofs.Common.{◌≡◌, ◌≤◌, ◌-◌, length, take}
use Rattle.dsm_base.specs.Sink.{appended}
use Rattle.dsm_top.proofs.output.put_all.Given as goal

-- the bytes so far were taken, and no call has failed
abbrev pub invariant-loop-done : goal.invariant-loop-done
invariant-loop-done g l = record {
  within : l.done ≤ length l.bytes;
  taken : g.K.Sink.sink_holds l.out ≡ appended (g.K.Sink.sink_holds l.fn.out) (take l.done l.bytes);
  later : g.K.Sink.sink_faults l.fn.out ≤ g.K.Sink.sink_faults l.out;
}

abbrev pub decreases-loop-done : goal.decreases-loop-done
decreases-loop-done g l = length l.bytes - l.done

use Rattle.std.proofs.Common.{◌≡◌, ◌++◌, ◌≤◌, drop, List, ℕ}
use Rattle.dsm_base.specs.Sink.{appended}
use Rattle.dsm_top.specs.Runs.{joined}
use Rattle.dsm_top.proofs.lines.put_lines.Given as goal

-- the bytes so far were taken, those of the lines that are left come next, and no call has failed
abbrev pub invariant-loop-line : goal.invariant-loop-line
invariant-loop-line g l =
    (done : List ℕ) × record {
      taken : g.K.Sink.sink_holds l.out ≡ appended (g.K.Sink.sink_holds l.fn.out) done;
      left : done ++ joined (drop l.line-index l.line-items) ≡ joined l.fn.lines;
      later : g.K.Sink.sink_faults l.fn.out ≤ g.K.Sink.sink_faults l.out;
    }

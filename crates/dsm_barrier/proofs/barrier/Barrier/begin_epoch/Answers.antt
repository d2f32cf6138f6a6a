use Rattle.std.proofs.Common.{◌<◌, ◌≤◌, ◌∙◌, length, arith}
use Rattle.std.proofs.lemmas.List.{length-set}
use Rattle.dsm_barrier.proofs.Arriving.{still_waits, one_taken, lines_kept, begun}
use Rattle.dsm_barrier.proofs.barrier.Barrier.begin_epoch.Goals as goal

pub remove-requires : goal.remove-requires
remove-requires c =
    let below : c.loop-proc.proc < c.args.procs = omega (arith, c.loop-proc-test.true, c.from-proc-end.ensures) in
    let within : c.loop-proc.proc < length c.loop-proc.self.waiting.items = omega (arith, below, c.loop-proc.invariant.whole.count) in
    still_waits c.args.self.now.waiting.items c.args.procs c.loop-proc.proc c.loop-proc.self.waiting.items c.index_mut.result.now c.index_mut.ensures.value within c.loop-proc.invariant.taken
    c.requires.come below

pub loop-proc-preserved : goal.loop-proc-preserved
loop-proc-preserved c =
    let below : c.loop-proc.proc < c.args.procs = omega (arith, c.loop-proc-test.true, c.from-proc-end.ensures) in
    let within : c.loop-proc.proc < length c.loop-proc.self.waiting.items = omega (arith, below, c.loop-proc.invariant.whole.count) in
    record {
      whole = record {
        count = length-set c.loop-proc.self.waiting.items c.loop-proc.proc c.remove.new.self ∙ c.loop-proc.invariant.whole.count;
        lines = lines_kept c.loop-proc.self.waiting.items c.loop-proc.proc c.index_mut.result.now c.remove.new.self c.loop-proc.invariant.whole.lines c.index_mut.ensures.value within c.remove.ensures.rest;
      };
      opened = c.loop-proc.invariant.opened;
      taken = one_taken c.args.self.now.waiting.items c.loop-proc.proc c.loop-proc.self.waiting.items c.index_mut.result.now c.remove.new.self c.index_mut.ensures.value within c.remove.ensures.rest
          c.loop-proc.invariant.taken;
    }

pub returns-clause-state : goal.returns-clause-state
returns-clause-state c =
    let past : c.args.procs ≤ c.loop-proc.proc = omega (arith, c.loop-proc-test.false, c.from-proc-end.ensures) in
    begun c.args.self.now.waiting.items c.args.procs c.loop-proc.proc c.loop-proc.self.opened c.args.self.now.opened c.loop-proc.self.waiting.items c.requires.whole.count past
    c.loop-proc.invariant.taken c.loop-proc.invariant.opened

pub returns-clause-whole : goal.returns-clause-whole
returns-clause-whole c = record { count = c.loop-proc.invariant.whole.count; lines = c.loop-proc.invariant.whole.lines }

use Rattle.std.proofs.Common.{◌≤◌, ◌+◌, ap, length, arith}
use Rattle.dsm_sched.specs.Words.{rows_left}
use Rattle.dsm_sched.proofs.FirstLines.{few_rows}
use Rattle.dsm_sched.proofs.Entries.{fewer_rows}
use Rattle.dsm_sched.proofs.Numbers.{units_fit}
use Rattle.dsm_sched.proofs.schedule.reader.read_whole.Goals as goal

pub count_units-count-requires : goal.count_units-count-requires
count_units-count-requires c =
    let rest = rows_left c.read_heading.new.rows in
    let fewer : length rest ≤ length (rows_left c.new-rows.result) = fewer_rows (rows_left c.new-rows.result) rest c.in_ok-procs.procs c.in_ok-procs.ensures.said in
    let few : length c.in_ok-read.read.entries ≤ length c.args.bytes.now + 1 =
    omega (arith, c.in_ok-read.ensures.few, fewer, ap length c.new-rows.ensures, few_rows 1 c.args.bytes.now) in
    rw c.as_slice.ensures (units_fit c.in_ok-procs.procs (length c.args.bytes.now) c.in_ok-read.read.entries c.in_ok-procs.ensures.count few c.in_ok-test_length.ensures c.in_ok-read.ensures.kept)

use Rattle.std.proofs.Common.{◌≡◌, ◌∷◌, sym, Ok}
use Rattle.dsm_sched.specs.Words.{rows_left}
use Rattle.dsm_sched.specs.PickTexts.{pick_at}
use Rattle.dsm_sched.proofs.PickForms.{next_said, next_kept, next_few}
use Rattle.dsm_sched.proofs.picks.reader.read_entries.Goals as goal

pub rows-preserved : goal.rows-preserved
rows-preserved c =
    let procs = c.args.procs in
    let entry = c.in_ok-entry_at.field-0 in
    let row = c.in-Some.row in
    let left = rows_left c.rows.rows in
    let rest = rows_left c.next.new.self in
    let rows : left ≡ row ∷ rest = rw c.in-Some.is at c.in_ok-row.ensures in
    let said : pick_at procs row ≡ Ok entry = sym c.in_ok-entry_at.ensures in
    record {
      said = next_said procs c.rows.entries c.push.new.self entry row left rest rows said c.in_ok-push.ensures.ok _ c.rows.invariant.said;
      kept = next_kept procs c.rows.entries c.push.new.self entry row left rest rows said c.in_ok-push.ensures.ok c.rows.invariant.kept;
      few = next_few procs c.rows.entries c.push.new.self entry row left rest rows said c.in_ok-push.ensures.ok _ c.rows.invariant.few;
    }

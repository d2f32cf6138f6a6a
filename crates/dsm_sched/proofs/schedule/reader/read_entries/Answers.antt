use Rattle.std.proofs.Common.{rules, ◌≡◌, ◌∷◌, ◌∙◌, sym, Ok, Err, reverse, subst, Result, List}
use Rattle.dsm_base.specs.declared.act.SchedErr.{SchedErr}
use Rattle.dsm_sched.specs.Words.{rows_left}
use Rattle.dsm_sched.specs.declared.schedule.Entry.{Entry}
use Rattle.dsm_sched.specs.declared.schedule.reader.Read.{Read}
use Rattle.dsm_sched.specs.declared.schedule.crashes.Crashes.{Crashes}
use Rattle.dsm_sched.specs.ScheduleTexts.{form_of, said_at}
use Rattle.dsm_sched.proofs.CrashRules.{IsBehind, PlacesBehind, entry_places}
use Rattle.dsm_sched.proofs.ScheduleRows.{said_placed, reverse_pushed, still_built, row_within, row_refused, gives_refusal, next_said, next_kept, next_few, next_unbuilt}
use Rattle.dsm_sched.proofs.schedule.reader.read_entries.Goals as goal

pub returns-in_err-crashes-clause-said : goal.returns-in_err-crashes-clause-said
returns-in_err-crashes-clause-said c =
    let procs = c.args.procs in
    let entries = c.rows.entries in
    let entry = c.in_ok-entry.entry in
    let row = c.in-Some.row in
    let left = rows_left c.rows.rows in
    let rest = rows_left c.next.new.self in
    let refusal = c.in_err-crashes.field-0.0 in
    let failed : c.behind.result ≡ Err refusal = search rules in
    let gives : c.from_residual-in_err-crashes.result ≡ Err refusal = search rules in
    let rows : left ≡ row ∷ rest = rw c.in-Some.is at c.in_ok-row.ensures in
    let P : Result Crashes SchedErr → Type 0 = λ r. PlacesBehind c.line.result entry (reverse entries) r in
    let place : P (Err refusal) = subst P (sym c.behind.ensures ∙ failed) (entry_places c.line.result (reverse entries) c.rows.crashes entry c.rows.invariant.crashes) in
    let said : said_at procs (reverse entries) row ≡ Err refusal = said_placed procs c.line.result (reverse entries) row entry (Err refusal) c.line.ensures (sym c.in_ok-entry.ensures) place in
    rw gives (gives_refusal (λ (read : Read). read.entries) refusal _ (row_refused procs entries row left rest rows refusal _ said c.rows.invariant.said))

pub rows-preserved : goal.rows-preserved
rows-preserved c =
    let procs = c.args.procs in
    let entries = c.rows.entries in
    let next = c.push.new.self in
    let entry = c.in_ok-entry.entry in
    let row = c.in-Some.row in
    let left = rows_left c.rows.rows in
    let rest = rows_left c.next.new.self in
    let rows : left ≡ row ∷ rest = rw c.in-Some.is at c.in_ok-row.ensures in
    let pushed = c.in_ok-push.ensures.ok in
    let form = sym c.in_ok-entry.ensures in
    let P : Result Crashes SchedErr → Type 0 = λ r. PlacesBehind c.line.result entry (reverse entries) r in
    let places : P (Ok c.in_ok-crashes.crashes) = subst P (sym c.in_ok-crashes.ensures) (entry_places c.line.result (reverse entries) c.rows.crashes entry c.rows.invariant.crashes) in
    let said : said_at procs (reverse entries) row ≡ Ok entry = said_placed procs c.line.result (reverse entries) row entry (Ok entry) c.line.ensures form places.0 in
    let Q : List Entry → Type 0 = λ before. IsBehind c.in_ok-crashes.crashes before in
    let unbuilt = c.first_unbuilt-unbuilt.ensures in
    record {
      said = next_said procs entries row left rest rows next entry said pushed _ c.rows.invariant.said;
      kept = next_kept procs entries row left rest rows next entry said pushed (row_within procs row.line (form_of row.words) entry form) c.rows.invariant.kept;
      few = next_few procs entries row left rest rows next entry said pushed _ c.rows.invariant.few;
      crashes = subst Q (reverse_pushed entries next entry pushed) places.1;
      unbuilt = λ more. rw (unbuilt, c.line-in-Some.ensures) (next_unbuilt procs entries row left rest rows next entry said pushed c.rows.unbuilt _ c.rows.invariant.unbuilt more);
      built = λ none. still_built c.rows.unbuilt c.line-in-Some.result entries next entry pushed c.rows.invariant.built (sym unbuilt ∙ none);
    }

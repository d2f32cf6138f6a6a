use Rattle.std.proofs.Common.{rules, arith, ◌≡◌, ◌<◌, ◌≤◌, ◌-◌, ◌∙◌, ℕ, zero, suc, List, [], ◌∷◌, length, get_or, true, Some, None, IfSome, slice_get, ap, sym, subst}
use Rattle.std.specs.Cmp.{first_so, second_so}
use Rattle.std.specs.List.{list_all}
use Rattle.std.specs.List.Sorted.{IsNonDecreasing}
use Rattle.std.proofs.lemmas.Option.{slice_get-get_or, slice_get_within}
use Rattle.dsm_base.specs.declared.act.Act.{Act}
use Rattle.dsm_base.specs.Setups.{is_proc_count}
use Rattle.dsm_sched.specs.declared.schedule.Entry.{Entry}
use Rattle.dsm_sched.specs.Schedules.{is_act, is_entry, units_of_entry, unit_count, units_by, ends_of}
use Rattle.dsm_sched.specs.Built.{is_built_act}
use Rattle.dsm_sched.specs.Places.{IsPlace, start_of}
use Rattle.dsm_sched.proofs.Ends.{no_entry, same_entry, ends_grow, length-ends, is_in, unit_in, no_unit}
use Rattle.dsm_sched.proofs.Passing.{unit_within, unit_built}
use Rattle.dsm_sched.proofs.schedule.Schedule.act.Goals as goal

past : (entries : List Entry) (place : ℕ) → slice_get entries place ≡ None → length entries ≤ place
past [] place e = omega arith
past (entry ∷ entries) zero e = cc
past (entry ∷ entries) (suc place) e = omega (arith, past entries place e)

along : (P : Act → Type 0) (units : List Act) (index : ℕ) (act : Act) → slice_get units index ≡ Some act → IfSome (slice_get units index) P → P act
along P units index act is all = rw is at all

module _ (procs : ℕ) (entries : List Entry) (ends : List ℕ) (index place : ℕ) (is : ends ≡ ends_of procs entries) (found : IsPlace ends index place) where
  here : IsPlace (ends_of procs entries) index place
  here = subst (λ ends. IsPlace ends index place) is found

  none : slice_get entries place ≡ None → slice_get (units_by procs entries) index ≡ None
  none e = no_unit procs entries index place here (omega (arith, past entries place e, here.within, length-ends procs entries))

  module _ (start : ℕ) (entry : Entry) (at : slice_get entries place ≡ Some entry) (starts : start ≡ start_of ends place) where
    below : place < length entries
    below = slice_get_within entries place entry at

    same : get_or entries place no_entry ≡ entry
    same = same_entry _ _ (sym (slice_get-get_or entries place no_entry below) ∙ at)

    start_is : start_of (ends_of procs entries) place ≡ start
    start_is = ap (λ e. start_of e place) (sym is) ∙ sym starts

    within : index - start < unit_count procs entry
    within =
        let one = is_in procs entries index place here below in
        let P : ℕ → Type 0 = λ s. index - s < unit_count procs (get_or entries place no_entry) in
        let Q : Entry → Type 0 = λ e. index - start < unit_count procs e in
        subst Q same (subst P start_is one.within)

    unit : (act : Act) → slice_get (units_of_entry procs entry) (index - start) ≡ Some act → slice_get (units_by procs entries) index ≡ Some act
    unit act e =
        let P : ℕ → Type 0 = λ s. slice_get (units_of_entry procs (get_or entries place no_entry)) (index - s) ≡ Some act in
        let Q : Entry → Type 0 = λ e. slice_get (units_of_entry procs e) (index - start) ≡ Some act in
        unit_in procs entries index place here act below (subst P (sym start_is) (subst Q (sym same) e))

pub place_of-place-requires : goal.place_of-place-requires
place_of-place-requires c =
    let schedule = c.args.self.now in
    let is : c.as_slice-ends.result.now ≡ ends_of schedule.procs schedule.entries = c.as_slice-ends.ensures ∙ schedule.are_ends in
    let P : List ℕ → Type 0 = λ ends. IsNonDecreasing ends in
    subst P (sym is) (ends_grow schedule.procs schedule.entries)

pub returns-in_err-entry-clause-unit : goal.returns-in_err-entry-clause-unit
returns-in_err-entry-clause-unit c =
    let schedule = c.args.self.now in
    let is : c.as_slice-ends.result.now ≡ ends_of schedule.procs schedule.entries = c.as_slice-ends.ensures ∙ schedule.are_ends in
    let missing : slice_get schedule.entries c.place_of-place.result ≡ None = search rules in
    let gives : c.from_residual.result ≡ None = search rules in
    gives ∙ sym (none schedule.procs schedule.entries c.as_slice-ends.result.now c.args.index c.place_of-place.result is c.place_of-place.ensures missing)

pub unit-requires : goal.unit-requires
unit-requires c =
    let schedule = c.args.self.now in
    let is : c.as_slice-ends.result.now ≡ ends_of schedule.procs schedule.entries = c.as_slice-ends.ensures ∙ schedule.are_ends in
    let at : slice_get schedule.entries c.place_of-place.result ≡ Some c.in_ok-entry.entry = search rules in
    within schedule.procs schedule.entries c.as_slice-ends.result.now c.args.index c.place_of-place.result is c.place_of-place.ensures c.start_of-start.result c.in_ok-entry.entry at c.start_of-start.ensures

pub returns-clause-unit : goal.returns-clause-unit
returns-clause-unit c =
    let schedule = c.args.self.now in
    let is : c.as_slice-ends.result.now ≡ ends_of schedule.procs schedule.entries = c.as_slice-ends.ensures ∙ schedule.are_ends in
    let at : slice_get schedule.entries c.place_of-place.result ≡ Some c.in_ok-entry.entry = search rules in
    sym (unit schedule.procs schedule.entries c.as_slice-ends.result.now c.args.index c.place_of-place.result is c.place_of-place.ensures c.start_of-start.result c.in_ok-entry.entry at c.start_of-start.ensures c.unit.result c.unit.ensures)

pub returns-clause-within : goal.returns-clause-within
returns-clause-within c =
    let schedule = c.args.self.now in
    let is : c.as_slice-ends.result.now ≡ ends_of schedule.procs schedule.entries = c.as_slice-ends.ensures ∙ schedule.are_ends in
    let at : slice_get schedule.entries c.place_of-place.result ≡ Some c.in_ok-entry.entry = search rules in
    let found = unit schedule.procs schedule.entries c.as_slice-ends.result.now c.args.index c.place_of-place.result is c.place_of-place.ensures c.start_of-start.result c.in_ok-entry.entry at c.start_of-start.ensures c.unit.result c.unit.ensures in
    let kept : list_all (is_entry schedule.procs) schedule.entries ≡ true = second_so (is_proc_count schedule.procs) _ (first_so _ _ schedule.kept) in
    along (λ act. is_act schedule.procs act ≡ true) (units_by schedule.procs schedule.entries) c.args.index c.unit.result found (unit_within schedule.procs schedule.entries c.args.index kept)

pub returns-clause-built : goal.returns-clause-built
returns-clause-built c are =
    let schedule = c.args.self.now in
    let is : c.as_slice-ends.result.now ≡ ends_of schedule.procs schedule.entries = c.as_slice-ends.ensures ∙ schedule.are_ends in
    let at : slice_get schedule.entries c.place_of-place.result ≡ Some c.in_ok-entry.entry = search rules in
    let found = unit schedule.procs schedule.entries c.as_slice-ends.result.now c.args.index c.place_of-place.result is c.place_of-place.ensures c.start_of-start.result c.in_ok-entry.entry at c.start_of-start.ensures c.unit.result c.unit.ensures in
    along (λ act. is_built_act act ≡ true) (units_by schedule.procs schedule.entries) c.args.index c.unit.result found (unit_built schedule.procs schedule.entries c.args.index are)

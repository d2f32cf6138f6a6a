use Rattle.std.proofs.Common.{◌∙◌, ◌+◌, ap}
use Rattle.dsm_check.specs.CheckedViews.{program_of}
use Rattle.dsm_plain.specs.Machine.{machine_of, semantics_of}
use Rattle.dsm_top.specs.declared.plain.PlainRun.{PlainRun}
use Rattle.dsm_top.proofs.Picked.{no_turn, at_turn, at_none, line_turn, line_none}
use Rattle.dsm_top.proofs.plain.PlainRun.pick.Goals.{in-Did+in_ok-line-in-Did, in_default}
use Rattle.dsm_top.proofs.plain.PlainRun.pick.Goals as goal

pub returns-clause-at : goal.returns-clause-at
returns-clause-at c program setup turns at =
    let old : PlainRun = c.args.self.now in
    let new : PlainRun = record { machine = c.pick.new.self; units = old.units + 1 } in
    let same_program = ap program_of c.pick.ensures.program in
    let same_setup = c.pick.ensures.setup in
    elim c.match-branch-2.branch [
      | in-Did+in_ok-line-in-Did w ↦
          let turn = rw w.in-Did.is at c.in_ok-label.ensures.picked in
          at_turn program setup old new turns c.args.proc at same_program same_setup w.in-Did.label turn.0 turn.1
      | in_default w ↦
          let none = no_turn old.machine.setup (semantics_of old.machine) (machine_of old.machine) c.args.proc.0 (machine_of c.pick.new.self) c.in_ok-label.field-0 w.in_default.not-Did c.in_ok-label.ensures.picked in
          at_none program setup old new turns c.args.proc at same_program same_setup none.0 none.1
    ]

pub returns-clause-line : goal.returns-clause-line
returns-clause-line c program setup turns at =
    let old : PlainRun = c.args.self.now in
    let new : PlainRun = record { machine = c.pick.new.self; units = old.units + 1 } in
    let same_program = ap program_of c.pick.ensures.program in
    let same_setup = c.pick.ensures.setup in
    elim c.match-branch-2.branch [
      | in-Did+in_ok-line-in-Did w ↦
          let turn = rw w.in-Did.is at c.in_ok-label.ensures.picked in
          rw w.line-is (line_turn program setup old new turns c.args.proc at same_program same_setup w.in-Did.label w.in_ok-line-in-Did.line turn.0 w.in_ok-line-in-Did.ensures)
      | in_default w ↦
          let none = no_turn old.machine.setup (semantics_of old.machine) (machine_of old.machine) c.args.proc.0 (machine_of c.pick.new.self) c.in_ok-label.field-0 w.in_default.not-Did c.in_ok-label.ensures.picked in
          rw w.line-is (line_none program setup old new turns c.args.proc at same_program same_setup w.from_vec-line.result none.0 (w.from_vec-line.ensures ∙ w.new.ensures.items))
    ]

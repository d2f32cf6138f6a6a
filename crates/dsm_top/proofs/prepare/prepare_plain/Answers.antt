use Rattle.std.proofs.Common.{string_bytes, subst, sym, ◌∙◌}
use Rattle.std.proofs.lemmas.Result.{err_from_is_err_and}
use Rattle.dsm_check.specs.CheckedViews.{program_of}
use Rattle.dsm_top.specs.Accepted.{HasChecked, HasPicks}
use Rattle.dsm_top.proofs.Parts.{later_part, plain_program, plain_picks, plain_owner}
use Rattle.dsm_top.proofs.prepare.prepare_plain.Goals as goal

pub returns-in_err-found-clause-refused : goal.returns-in_err-found-clause-refused
returns-in_err-found-clause-refused g c =
    let p = err_from_is_err_and c.from_residual.result c.from_residual.ensures.1 in
    rw (p.1, p.2) (λ given part. plain_program given (string_bytes c.args.program.now) (string_bytes c.args.picks.now) c.in_err-found.field-0.0 (c.in_err-found.ensures.refused given part))

pub returns-in_err-picks-clause-refused : goal.returns-in_err-picks-clause-refused
returns-in_err-picks-clause-refused g c =
    let p = err_from_is_err_and c.from_residual-in_err-picks.result c.from_residual-in_err-picks.ensures.1 in
    let program = program_of c.in_ok-found.found in
    rw (p.1, p.2) (λ given part.
    plain_picks given (string_bytes c.args.program.now) (string_bytes c.args.picks.now) program c.in_err-picks.field-0.0
    (subst (λ files. HasChecked files (string_bytes c.args.program.now) program) (sym part.same)
    c.in_ok-found.ensures.program)
    (c.in_err-picks.ensures.refused given (later_part given (g.F.Files.files_hold c.args.files.now) (g.F.Files.files_hold c.checked_of.new.files) (g.F.Files.files_faults c.args.files.now) (g.F.Files.files_faults c.checked_of.new.files) (g.F.Files.files_faults c.picks_of.new.files) c.checked_of.ensures.keeps part)))

pub returns-in_err-test_owners-clause-refused : goal.returns-in_err-test_owners-clause-refused
returns-in_err-test_owners-clause-refused g c =
    let p = err_from_is_err_and c.from_residual-in_err-test_owners.result c.from_residual-in_err-test_owners.ensures.1 in
    let program = program_of c.in_ok-found.found in
    let picks = c.in_ok-picks.picks in
    rw (p.1, p.2) (λ given part.
    plain_owner given (string_bytes c.args.program.now) (string_bytes c.args.picks.now) program picks.procs picks.entries c.in_err-test_owners.field-0.0
    (subst (λ files. HasChecked files (string_bytes c.args.program.now) program) (sym part.same)
    c.in_ok-found.ensures.program)
    (subst (λ files. HasPicks files (string_bytes c.args.picks.now) picks.procs picks.entries) (c.checked_of.ensures.keeps.same ∙ sym part.same) c.in_ok-picks.ensures.picks) c.in_err-test_owners.ensures)

pub returns-clause-picks : goal.returns-clause-picks
returns-clause-picks g c =
    let picks = c.in_ok-picks.picks in
    subst (λ files. HasPicks files (string_bytes c.args.picks.now) picks.procs picks.entries) c.checked_of.ensures.keeps.same c.in_ok-picks.ensures.picks

pub returns-clause-accepted : goal.returns-clause-accepted
returns-clause-accepted g c = record {
  has_program = c.in_ok-found.ensures.program;
  fits = c.in_ok-test_owners.ensures;
}

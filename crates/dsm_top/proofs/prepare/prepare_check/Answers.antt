use Rattle.std.proofs.Common.{string_bytes, subst, sym}
use Rattle.std.proofs.lemmas.Result.{err_from_is_err_and}
use Rattle.dsm_check.specs.CheckedViews.{program_of}
use Rattle.dsm_top.specs.Accepted.{HasChecked}
use Rattle.dsm_top.proofs.Parts.{check_program, check_owner}
use Rattle.dsm_top.proofs.prepare.prepare_check.Goals as goal

pub returns-in_err-found-clause-refused : goal.returns-in_err-found-clause-refused
returns-in_err-found-clause-refused g c =
    let p = err_from_is_err_and c.from_residual.result c.from_residual.ensures.1 in
    rw (p.1, p.2) (λ given part. check_program given (string_bytes c.args.program.now) c.args.procs c.in_err-found.field-0.0 (c.in_err-found.ensures.refused given part))

pub returns-in_err-test_owners-clause-refused : goal.returns-in_err-test_owners-clause-refused
returns-in_err-test_owners-clause-refused g c =
    let p = err_from_is_err_and c.from_residual-in_err-test_owners.result c.from_residual-in_err-test_owners.ensures.1 in
    let program = program_of c.in_ok-found.found in
    rw (p.1, p.2) (λ given part. check_owner given (string_bytes c.args.program.now) c.args.procs program c.in_err-test_owners.field-0.0
    (subst (λ files. HasChecked files (string_bytes c.args.program.now) program) (sym part.same)
    c.in_ok-found.ensures.program) c.in_err-test_owners.ensures)

pub returns-clause-accepted : goal.returns-clause-accepted
returns-clause-accepted g c = record {
  has_program = c.in_ok-found.ensures.program;
  fits = c.in_ok-test_owners.ensures;
}

use Rattle.std.proofs.Common.{FitsSigned, w64, rules}
use Rattle.std.proofs.lemmas.Int.{to_z-of_z}
use Rattle.dsm_values.proofs.Arithmetic.{remainder_fits}
use Rattle.dsm_values.proofs.value.remainder.Goals as goal

pub returns-in-Some : goal.returns-in-Some
returns-in-Some c =
    let within : FitsSigned w64 c.in-Some.rest = search rules in
    let a_fits : FitsSigned w64 c.args.a = c.ranges.a in
    let b_fits : FitsSigned w64 c.args.b = c.ranges.b in
    remainder_fits c.args.a c.args.b c.in-Some.rest c.if-b-eq0.false (simp to_z-of_z at c.in-Some.ensures) within

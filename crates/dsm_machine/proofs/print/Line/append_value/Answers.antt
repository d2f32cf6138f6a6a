use Rattle.std.proofs.Common.{sym, ap, ◌∙◌, subst, FitsSigned, w64}
use Rattle.std.specs.Fmt.{signed_decimal}
use Rattle.std.proofs.lemmas.Int.{to_z-of_z}
use Rattle.dsm_base.specs.Output.{ArePrintable}
use Rattle.dsm_machine.proofs.Printing.{value_printable}
use Rattle.dsm_machine.proofs.print.Line.append_value.Goals as goal

-- a value in decimal is printable
pub append-requires-clause-printable : goal.append-requires-clause-printable
append-requires-clause-printable c =
    let value = c.args.value in
    let fits : FitsSigned w64 value = c.ranges.value in
    subst ArePrintable (sym (c.as_bytes.ensures.value ∙ c.format.ensures.text ∙ ap signed_decimal (to_z-of_z w64 value fits))) (value_printable value fits)

use Rattle.std.proofs.Common.{◌∙◌, sym, ap}
use Rattle.dsm_code.specs.Machine.{text_at, text_in}
use Rattle.dsm_machine.specs.States.{state_in, life_of}
use Rattle.dsm_machine.proofs.standing.write_line.Goals as goal

pub returns-in-Going : goal.returns-in-Going
returns-in-Going c =
    let s = state_in c.args.machine.now in
    c.write_row.ensures ∙ ap (text_at s) c.row_here.ensures.value ∙ sym (ap (λ life. text_in s (life_of life)) c.in-Going.is)

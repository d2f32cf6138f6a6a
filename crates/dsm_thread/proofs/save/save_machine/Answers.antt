use Rattle.std.proofs.Common.{List, ℤ, subst}
use Rattle.std.proofs.lemmas.Result.{on_ok_weaker}
use Rattle.dsm_fields.specs.Fields.{Appends}
use Rattle.dsm_fields.proofs.Writing.{fields_first}
use Rattle.dsm_saved.specs.Spelling.{own_fields}
use Rattle.dsm_thread.proofs.save.save_machine.Goals as goal

pub returns : goal.returns
returns c = on_ok_weaker c.save_stack.result (λ behind.
    let program = c.args.machine.now.code.value in
    fields_first c.in_ok-save_life.ensures
    (fields_first (subst (λ (w : List ℤ). Appends (own_fields program w) c.save_life.new.out.items c.put_own.new.out.items) c.as_slice.ensures.value (c.in_ok-put_own.ensures program)) (behind program))) c.save_stack.ensures

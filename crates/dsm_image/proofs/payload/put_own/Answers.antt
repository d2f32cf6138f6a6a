use Rattle.std.proofs.Common.{true}
use Rattle.std.specs.Prelude.{◌==◌}
use Rattle.std.proofs.lemmas.Result.{on_ok_weaker}
use Rattle.dsm_lines.specs.Places.{lines}
use Rattle.dsm_fields.proofs.Writing.{fields_first}
use Rattle.dsm_image_parts.specs.Spelling.{cell_fields, marked_fields, own_lock_fields, own_bar_fields}
use Rattle.dsm_image_parts.proofs.Writing.{of_listed}
use Rattle.dsm_image.proofs.payload.put_own.Goals as goal

pub returns : goal.returns
returns c = on_ok_weaker c.put_listed-4.result (λ behind. λ scope.
    let me = c.args.image.now.me in
    fields_first (of_listed (λ n. n == scope.cells) (cell_fields scope) c.as_slice.ensures (c.in_ok-put_listed.ensures (λ n. n == scope.cells) scope me))
    (fields_first (of_listed (λ _. true) (marked_fields (lines scope.table)) c.as_slice-2.ensures (c.in_ok-put_listed-2.ensures (λ _. true) scope (lines scope.table)))
    (fields_first (of_listed (λ n. n == scope.locks) own_lock_fields c.as_slice-3.ensures (c.in_ok-put_listed-3.ensures (λ n. n == scope.locks) scope me))
    (of_listed (λ n. n == scope.bars) own_bar_fields c.as_slice-4.ensures (behind (λ n. n == scope.bars) scope me))))) c.put_listed-4.ensures

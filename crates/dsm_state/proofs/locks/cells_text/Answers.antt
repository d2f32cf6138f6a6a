use Rattle.std.proofs.Common.{ℕ, ℤ, ◌≡◌, List, ap, sym, ◌∙◌, ◌++◌, append_assoc}
use Rattle.std.specs.Prelude.{codes, string_bytes}
use Rattle.std.specs.List.{flat_map}
use Rattle.dsm_processor.specs.Node.{processor_of}
use Rattle.dsm_state.specs.States.{cell_text, cells_of}
use Rattle.dsm_state.proofs.More.{next_cell, other_cell}
use Rattle.dsm_state.proofs.locks.cells_text.Goals.{then-is_of_lock+in_ok-one+in_ok-push_str, else-is_of_lock}
use Rattle.dsm_state.proofs.locks.cells_text.Goals as goal

pub loop-cell-preserved : goal.loop-cell-preserved
loop-cell-preserved g c =
    let values : ℕ → ℤ = (processor_of g.T.Task.kind c.args.node.now).lines.values in
    let pieces = c.args.table.now in
    let lock = c.args.lock.0 in
    let cell = c.loop-cell.cell in
    let before : List ℕ = flat_map (cell_text values) (cells_of pieces cell lock) in
    elim c.if-is_of_lock.branch [
      | then-is_of_lock+in_ok-one+in_ok-push_str w ↦
          let pushed : string_bytes w.push_str.new.self ≡ string_bytes c.loop-cell.text ++ string_bytes w.in_ok-one.one =
          w.in_ok-push_str.ensures.bytes ∙ ap (λ text. string_bytes c.loop-cell.text ++ text) w.deref.ensures in
          rw (w.text-is)
          (pushed
          ∙ (ap (λ text. text ++ string_bytes w.in_ok-one.one) c.loop-cell.invariant
          ∙ (append_assoc (codes "cells") before (string_bytes w.in_ok-one.one)
          ∙ (ap (λ text. codes "cells" ++ (before ++ text)) w.in_ok-one.ensures ∙ ap (λ text. codes "cells" ++ text) (sym (next_cell values pieces lock cell (sym c.is_of_lock.ensures ∙ w.if-is_of_lock.true)))))))
      | else-is_of_lock w ↦
          rw (w.text-is) (c.loop-cell.invariant ∙ ap (λ text. codes "cells" ++ text) (sym (other_cell values pieces lock cell (sym c.is_of_lock.ensures ∙ w.if-is_of_lock.false))))
    ]

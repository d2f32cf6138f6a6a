use Rattle.std.proofs.Common.{rules, ◌≡◌, map, [], ◌∷◌, sym, ap, ◌∙◌, subst, arith}
use Rattle.dsm_check.specs.Views.{view_part}
use Rattle.dsm_semantics.specs.Within.{AreItemsWithin, most_bytes}
use Rattle.dsm_interpreter.specs.declared.item.Item.{Item}
use Rattle.dsm_base.specs.Output.{IsLine}
use Rattle.dsm_interpreter.specs.Lines.{Grows}
use Rattle.dsm_interpreter.specs.Threads.{item_of}
use Rattle.dsm_interpreter.proofs.Lines.{print_fits}
use Rattle.dsm_interpreter.proofs.execution.Execution.text.Goals as goal
use Rattle.dsm_interpreter.proofs.execution.Execution.text.Goals.{in-Some+in-Print+in_ok-write_parts, in-Some+in_default-item, in_default}

pub returns-clause-line : goal.returns-clause-line
returns-clause-line c extent within = elim c.match-top.branch [
  | in-Some+in-Print+in_ok-write_parts w ↦
      let parts = map view_part w.in-Print.parts.now in
      let rest = w.in-Some.ensures.0 in
      let first : c.args.self.now.frame.todo ≡ Item.Print w.in-Print.parts ∷ rest = w.in-Some.ensures.1 ∙ ap (λ item. item ∷ rest) w.in-Print.is in
      let fits : AreItemsWithin extent (map item_of (Item.Print w.in-Print.parts ∷ rest)) = subst (λ todo. AreItemsWithin extent (map item_of todo)) first within.0 in
      let from : c.new-line.result.items ≡ [] = search rules in
      let text : c.from_vec.result ≡ w.write_parts.new.line.items = search rules in
      let grows = w.in_ok-write_parts.ensures.grows extent fits.0.0 in
      print_fits extent parts c.from_vec.result fits.0 (subst (λ longer. Grows (most_bytes parts) [] longer) (sym text) (subst (λ before. Grows (most_bytes parts) before w.write_parts.new.line.items) from grows))
  | in-Some+in_default-item w ↦ let none : c.from_vec.result ≡ [] = search rules in subst IsLine (sym none) (omega arith, tt)
  | in_default w ↦ let none : c.from_vec.result ≡ [] = search rules in subst IsLine (sym none) (omega arith, tt)
]

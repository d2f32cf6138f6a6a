use Rattle.std.proofs.Common.{◌≡◌, ◌≤◌, ◌<◌, ◌∙◌, sym, ap, arith, length, get_or, drop, rules}
use Rattle.std.specs.Prelude.{◌+◌, pos, min, List}
use Rattle.dsm_base.specs.declared.setup.Piece.{Piece}
use Rattle.dsm_base.specs.Family.{update}
use Rattle.dsm_lines.specs.Places.{cells_in}
use Rattle.dsm_lines.specs.Copies.{laid}
use Rattle.dsm_lines.specs.LinePages.{pages_pieces, pages_memory}
use Rattle.dsm_lines.proofs.Paging.{laid_more, laid_done}
use Rattle.dsm_lines.proofs.pages.LinePages.lay.Goals as goal

pub set-requires : goal.set-requires
set-requires c =
    let pieces : pages_pieces c.loop-at.self ≡ c.deref.result.now = c.loop-at.invariant.pieces ∙ sym c.deref.ensures in
    omega (arith, c.cells_in.ensures, c.min-at-end.ensures, ap (λ (ps : List Piece). length (cells_in ps c.args.line)) pieces)

pub loop-at-preserved : goal.loop-at-preserved
loop-at-preserved c =
    let width : c.cells_in.result ≡ length (cells_in (pages_pieces c.args.self.now) c.args.line) =
    c.cells_in.ensures
    ∙ ap (λ (ps : List Piece). length (cells_in ps c.args.line)) c.deref.ensures in
    let here : c.loop-at.at < length (cells_in (pages_pieces c.args.self.now) c.args.line) = omega (arith, c.min-at-end.ensures) in
    let fits : c.loop-at.at < length c.args.values.now = omega (arith, c.min-at-end.ensures) in
    let set_here : pages_memory c.set.new.self ≡ update (pages_memory c.loop-at.self) (get_or (cells_in (pages_pieces c.loop-at.self) c.args.line) c.loop-at.at 0) (get_or c.args.values.now c.loop-at.at (pos 0)) =
    search rules in
    let set_is : pages_memory c.set.new.self ≡ update (pages_memory c.loop-at.self) (get_or (cells_in (pages_pieces c.args.self.now) c.args.line) c.loop-at.at 0) (get_or c.args.values.now c.loop-at.at (pos 0)) =
    set_here
    ∙ ap (λ (ps : List Piece). update (pages_memory c.loop-at.self) (get_or (cells_in ps c.args.line) c.loop-at.at 0) (get_or c.args.values.now c.loop-at.at (pos 0))) c.loop-at.invariant.pieces in
    record {
      memory =
          ap (λ memory. laid memory (drop (c.loop-at.at + 1) (cells_in (pages_pieces c.args.self.now) c.args.line)) (drop (c.loop-at.at + 1) c.args.values.now)) set_is
          ∙ laid_more (pages_memory c.loop-at.self) (cells_in (pages_pieces c.args.self.now) c.args.line) c.args.values.now c.loop-at.at here fits
          ∙ c.loop-at.invariant.memory;
      pieces = c.set.ensures.pieces ∙ c.loop-at.invariant.pieces;
    }

pub returns-clause-memory : goal.returns-clause-memory
returns-clause-memory c =
    let width : c.cells_in.result ≡ length (cells_in (pages_pieces c.args.self.now) c.args.line) =
    c.cells_in.ensures
    ∙ ap (λ (ps : List Piece). length (cells_in ps c.args.line)) c.deref.ensures in
    let done : min (length (cells_in (pages_pieces c.args.self.now) c.args.line)) (length c.args.values.now) ≤ c.loop-at.at = omega (arith, c.min-at-end.ensures, c.loop-at-test.false) in
    sym (laid_done (pages_memory c.loop-at.self) (cells_in (pages_pieces c.args.self.now) c.args.line) c.args.values.now c.loop-at.at done)
    ∙ c.loop-at.invariant.memory

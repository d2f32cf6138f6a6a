use Rattle.std.proofs.Common.{◌≡◌, ℕ, suc, ◌+◌, ◌-◌, List, ◌++◌, ◌∷◌, [], sym, ap, ◌∙◌, append_assoc, arith}
use Rattle.std.proofs.lemmas.List.{append-nil}
use Rattle.dsm_base.specs.declared.setup.Piece.{Piece}
use Rattle.dsm_check.specs.Bindings.{lock_piece, lock_pieces}
use Rattle.dsm_check.proofs.Pieces.{one_more}
use Rattle.dsm_check.proofs.bindings.Binder.add_pieces.Goals as goal

pub overflow_add-cell : goal.overflow_add-cell
overflow_add-cell c =
    let left = one_more c.args.size c.loop.counter c.args.count c.loop-test.true in
    omega (arith, left, c.loop.invariant.cell, c.requires.cells)

pub loop-preserved : goal.loop-preserved
loop-preserved c =
    let invariant = c.loop.invariant in
    let n = c.args.size - (c.loop.counter + 1) in
    let left = one_more c.args.size c.loop.counter c.args.count c.loop-test.true in
    let same : c.args.size - c.loop.counter ≡ suc n = omega (arith, c.loop-test.true) in
    let piece = lock_piece c.loop.next c.loop.cell c.args.count in
    let next = lock_pieces (c.loop.next + 1) (c.loop.cell + c.args.count) c.args.count n in
    record {
      names = invariant.names;
      next = omega (arith, invariant.next);
      cell = omega (arith, left, invariant.cell);
      pieces = ap (λ (pieces : List Piece). pieces ++ next) (c.in_ok-push.ensures.ok ∙ ap (λ (p : Piece). c.loop.self.pieces ++ p ∷ []) c.lock_piece.ensures)
          ∙ append_assoc c.loop.self.pieces (piece ∷ []) next
          ∙ ap (λ (m : ℕ). c.loop.self.pieces ++ lock_pieces c.loop.next c.loop.cell c.args.count m) (sym same)
          ∙ invariant.pieces;
    }

pub returns-clause-pieces : goal.returns-clause-pieces
returns-clause-pieces c =
    let none : c.args.size - c.loop.counter ≡ 0 = omega (arith, c.loop-test.false) in
    sym (append-nil c.loop.self.pieces)
    ∙ ap (λ (m : ℕ). c.loop.self.pieces ++ lock_pieces c.loop.next c.loop.cell c.args.count m) (sym none)
    ∙ c.loop.invariant.pieces

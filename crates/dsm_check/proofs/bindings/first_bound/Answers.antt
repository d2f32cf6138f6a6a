use Rattle.std.proofs.Common.{◌≡◌, ℕ, get_or, Option, ◌+◌, ◌∷◌, [], List, take, sym, ap, ◌∙◌}
use Rattle.std.proofs.lemmas.List.{take_more, take_all}
use Rattle.dsm_base.specs.declared.setup.Object.{Object}
use Rattle.dsm_base.specs.declared.setup.Piece.{Piece}
use Rattle.dsm_check.specs.Bindings.{first_bound}
use Rattle.dsm_check.specs.Overlaps.{overlap, earlier}
use Rattle.dsm_check.proofs.Bounds.{first_bound-none, first_bound-one, first_bound-more}
use Rattle.dsm_check.proofs.bindings.first_bound.Goals as goal

abbrev nothing : Piece
nothing = record { object = Object.Lock (record { 0 = 0 }); first = record { 0 = 0 }; count = 0; owner = 0; phase = 0; period = 0 }

pub loop-piece-init : goal.loop-piece-init
loop-piece-init c = sym (first_bound-none c.args.first c.args.count)

pub loop-piece-preserved : goal.loop-piece-preserved
loop-piece-preserved c =
    let pieces = c.args.pieces.now in
    let first = c.args.first in
    let count = c.args.count in
    let i = c.loop-piece.piece-index in
    let piece = get_or pieces i nothing in
    let ends : c.from.result + c.from-2.result ≡ first + count = cc in
    let longer = ap (λ (ps : List Piece). first_bound ps first count) (take_more pieces i nothing c.loop-piece-test.true) in
    c.earlier-found.ensures
    ∙ ap (λ (later : Option ℕ). earlier c.loop-piece.found later) (c.overlap.ensures ∙ ap (overlap piece first) ends ∙ sym (first_bound-one piece first count))
    ∙ ap (λ (found : Option ℕ). earlier found (first_bound (piece ∷ []) first count)) c.loop-piece.invariant
    ∙ sym (first_bound-more (take i pieces) piece first count)
    ∙ sym longer

pub returns : goal.returns
returns c =
    let pieces = c.args.pieces.now in
    c.loop-piece.invariant
    ∙ ap (λ (ps : List Piece). first_bound ps c.args.first c.args.count) (take_all _ pieces c.loop-piece-test.false)

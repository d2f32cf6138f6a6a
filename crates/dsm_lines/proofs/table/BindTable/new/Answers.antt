use Rattle.std.proofs.Common.{◌∙◌, arith, ap}
use Rattle.dsm_lines.specs.Building.{widths_of}
use Rattle.dsm_lines.specs.Places.{lines}
use Rattle.dsm_lines.proofs.Pieces.{room_of, widths_are, is_table}
use Rattle.dsm_lines.proofs.table.BindTable.new.Goals as goal

pub overflow_cast-len : goal.overflow_cast-len
overflow_cast-len c =
    let room = room_of c.args.setup.now in
    let many = widths_are c.args.setup.now.bindings c.in_ok-widths.widths (c.in_ok-widths.ensures ∙ ap widths_of c.as_slice-pieces.ensures) in
    omega (arith, c.len.ensures, room.few, many)

pub places_of-requires-clause-all : goal.places_of-requires-clause-all
places_of-requires-clause-all c =
    c.len.ensures ∙ widths_are c.as_slice-pieces.result.now c.in_ok-widths.widths c.in_ok-widths.ensures

pub spans_of_locks-requires-clause-few : goal.spans_of_locks-requires-clause-few
spans_of_locks-requires-clause-few c =
    let room = room_of c.args.setup.now in
    omega (arith, room.few, ap lines c.as_slice-pieces.ensures)

pub spans_of_bars-requires-clause-few : goal.spans_of_bars-requires-clause-few
spans_of_bars-requires-clause-few c =
    let room = room_of c.args.setup.now in
    omega (arith, room.few, ap lines c.as_slice-pieces.ensures)

pub invariant_of-result : goal.invariant_of-result
invariant_of-result c =
    is_table c.args.setup.now c.in_ok-from_slice.field-0 c.as_slice-pieces.result.now c.in_ok-places.places c.in_ok-widths.widths c.in_ok-lock_spans.lock_spans c.in_ok-bar_spans.bar_spans
    c.in_ok-from_slice.ensures c.as_slice-pieces.ensures c.in_ok-places.ensures c.in_ok-widths.ensures c.in_ok-lock_spans.ensures c.in_ok-bar_spans.ensures

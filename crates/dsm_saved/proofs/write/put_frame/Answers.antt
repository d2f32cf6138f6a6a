use Rattle.std.proofs.Common.{◌≡◌, ◌∙◌, ◌+◌, ◌++◌, ◌^◌, ◌<◌, ℕ, true, List, None, length, sym, ap, subst, arith}
use Rattle.std.specs.Prelude.{◌==◌, nat_lt}
use Rattle.std.proofs.lemmas.Bool.{ltb-true}
use Rattle.std.proofs.lemmas.List.{length-append}
use Rattle.std.proofs.lemmas.Result.{on_ok_weaker}
use Rattle.byteorder.specs.Endian.{big_bytes}
use Rattle.dsm_fields.specs.Fields.{Field, number, Appends}
use Rattle.dsm_fields.proofs.Writing.{field_first, fields_first}
use Rattle.dsm_code.specs.Programs.{row_at}
use Rattle.dsm_saved.specs.Stops.{is_place, value_count}
use Rattle.dsm_saved.specs.Spelling.{value_fields, is_due}
use Rattle.dsm_saved.proofs.Writing.{last_after, numbered_append}
use Rattle.dsm_saved.proofs.write.put_frame.Goals as goal

pub returns : goal.returns
returns c = on_ok_weaker c.put_values-2.result (λ behind. λ program is_last next.
    let function = c.args.function in
    let place = c.args.place in
    let slots = c.args.slots.now in
    let operands = c.args.operands.now in
    let row = row_at program function place in
    let count = length (slots ++ operands) in
    let fields = value_fields row count in
    let small : c.saturating_add.result < 256 ^ 2 = ltb-true c.saturating_add.result (256 ^ 2) c.in_ok-put_length.ensures.1 in
    let sum : c.saturating_add.result ≡ count = omega (arith, small, c.saturating_add.ensures, length-append slots operands) in
    let values = subst (λ (fs : List Field). Appends fs c.put_length.new.out.items c.put_values-2.new.out.items) (sym (numbered_append fields 0 None slots operands))
    (fields_first (c.in_ok-put_values.ensures row count 0 None) (behind row count (0 + length slots) (last_after None slots))) in
    field_first (number 2 function (is_due next function)) c.in_ok-put_short.ensures.written c.in_ok-put_short.ensures.held
    (field_first (number 4 place (is_place program is_last row)) c.in_ok-put_count.ensures.0 c.in_ok-put_count.ensures.1
    (field_first (number 2 count (count == value_count program is_last function row)) (c.in_ok-put_length.ensures.0 ∙ ap (λ (n : ℕ). c.put_count.new.out.items ++ big_bytes 2 n) sum) (subst (λ (n : ℕ). nat_lt n (256 ^ 2) ≡ true) sum c.in_ok-put_length.ensures.1) values))) c.put_values-2.ensures

use Rattle.std.proofs.Common.{◌≡◌, ◌∙◌, ◌++◌, ℕ, List, ap, arith}
use Rattle.byteorder.specs.Endian.{big_bytes}
use Rattle.dsm_fields.specs.Fields.{bytes_of}
use Rattle.dsm_image.specs.Frame.{magic, sealed}
use Rattle.dsm_image.specs.Spelling.{payload_fields}
use Rattle.dsm_image.proofs.Writing.{front_is, in_order_is_image}
use Rattle.dsm_image.proofs.bytes.write_image.Goals as goal

pub returns : goal.returns
returns c = record {
  written = λ scope.
      let payload : c.put_payload.new.out.items ≡ bytes_of (payload_fields scope c.args.image.now) = (c.in_ok-put_payload.ensures scope).bytes ∙ ap (λ (w : List ℕ). w ++ bytes_of (payload_fields scope c.args.image.now)) c.new-payload.ensures.items in
      let mark : c.put_number.new.out.items ≡ big_bytes 4 magic = c.in_ok-put_number.ensures.written ∙ ap (λ (w : List ℕ). w ++ big_bytes 4 magic) c.new-front.ensures.items in
      let front = front_is scope c.args.image.now _ _ _ _ _ payload (omega arith) mark c.in_ok-put_count.ensures.0 (c.in_ok-extend_from_slice.ensures.items ∙ ap (λ (w : List ℕ). c.put_count.new.out.items ++ w) c.as_slice.ensures.value) in
      c.in_ok-extend_from_slice-2.ensures.items ∙ ap (λ (w : List ℕ). c.args.out.now.items ++ w) (c.as_slice-2.ensures.value ∙ c.in_ok-seal.ensures ∙ ap sealed front);
  image = λ scope.
      let payload : c.put_payload.new.out.items ≡ bytes_of (payload_fields scope c.args.image.now) = (c.in_ok-put_payload.ensures scope).bytes ∙ ap (λ (w : List ℕ). w ++ bytes_of (payload_fields scope c.args.image.now)) c.new-payload.ensures.items in
      in_order_is_image scope c.args.image.now _ _ payload (omega arith) c.in_ok-put_count.ensures.1 (c.in_ok-put_payload.ensures scope).held;
}

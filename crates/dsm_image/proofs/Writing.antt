-- What was written.
use Rattle.std.proofs.Common.{◌≡◌, ◌∙◌, ℕ, ◌+◌, ◌^◌, Bool, true, List, ◌++◌, length, Option, None, refl, ap, subst, arith, append_assoc}
use Rattle.std.specs.Prelude.{nat_lt}
use Rattle.byteorder.specs.Endian.{big_bytes}
use Rattle.dsm_fields.specs.Fields.{Field, numbered, bytes_of, are_held, Appends}
use Rattle.dsm_fields.proofs.Writing.{fit_fields}
use Rattle.dsm_image.specs.declared.image.Image.{Image}
use Rattle.dsm_image_parts.specs.declared.scope.Scope.{Scope}
use Rattle.dsm_image.specs.Frame.{magic}
use Rattle.dsm_image.specs.Spelling.{payload_fields, front_fields, size_of, IsInOrder, IsImage}
use Rattle.dsm_image_parts.specs.Spelling.{listed_with}

-- all before the digest, as it is written
pub front_is : (scope : Scope) (image : Image) (payload mark count front : List ℕ) (size : ℕ) → payload ≡ bytes_of (payload_fields scope image) → size ≡ length payload + 8
    → mark ≡ big_bytes 4 magic → count ≡ mark ++ big_bytes 4 size → front ≡ count ++ payload → front ≡ bytes_of (front_fields scope (size_of scope image) image)
front_is scope image payload mark count front size is size_is mark_is count_is all =
    let sized : size ≡ size_of scope image = omega (arith, size_is, ap length is) in
    let first = big_bytes 4 magic in
    let tail = bytes_of (payload_fields scope image) in
    all ∙ ap (λ (w : List ℕ). w ++ payload) count_is ∙ ap (λ (w : List ℕ). (w ++ big_bytes 4 size) ++ payload) mark_is
    ∙ ap (λ (w : List ℕ). (first ++ big_bytes 4 size) ++ w) is ∙ ap (λ (n : ℕ). (first ++ big_bytes 4 n) ++ tail) sized
    ∙ append_assoc first (big_bytes 4 (size_of scope image)) tail

-- an image that keeps its ranges and orders, written into fields with room, is one
pub in_order_is_image : (scope : Scope) (image : Image) (payload : List ℕ) (size : ℕ) → payload ≡ bytes_of (payload_fields scope image) → size ≡ length payload + 8 → nat_lt size (256 ^ 4) ≡ true → are_held (payload_fields scope image) ≡ true
    → IsInOrder scope image → IsImage scope image
in_order_is_image scope image payload size is size_is small held order =
    let sized : size ≡ size_of scope image = omega (arith, size_is, ap length is) in
    let room : nat_lt (size_of scope image) (256 ^ 4) ≡ true = subst (λ (n : ℕ). nat_lt n (256 ^ 4) ≡ true) sized small in
    record {
      shaped = order.shaped;
      fit = fit_fields (front_fields scope (size_of scope image) image) (rw (room, held) refl) (rw order.kept refl);
    }

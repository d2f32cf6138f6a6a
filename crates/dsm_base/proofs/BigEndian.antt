-- The bytes of a number that was read are those it was read from.
use Rattle.std.proofs.Common.{◌≡◌, ◌∙◌, ℕ, zero, suc, ◌+◌, ◌*◌, ◌^◌, ◌<◌, List, [], ◌∷◌, length, refl, sym, ap, arith}
use Rattle.std.proofs.Math.Nat.{mod-lt}
use Rattle.std.proofs.lemmas.Nat.{same_from_place}
use Rattle.std.proofs.lemmas.List.{append-nil}
use Rattle.std.specs.Int.{byte_at, bytes_high_first}
use Rattle.byteorder.specs.Endian.{big_from, big_bytes, big_number}
use Rattle.byteorder.specs.Numbers.{big_from-cons, big_from-lt, big_number-reads_back, length-bytes_high_first}
use Rattle.dsm_base.specs.BigEndian.{IsBytes}

byte_below : (k x : ℕ) → byte_at k x < 256
byte_below zero x = mod-lt x (omega arith)
byte_below (suc k) x = mod-lt _ (omega arith)

-- a number's bytes are bytes
pub bytes_small : (n x : ℕ) → IsBytes (bytes_high_first n x)
bytes_small zero x i = omega arith
bytes_small (suc n) x zero = byte_below n x
bytes_small (suc n) x (suc i) = bytes_small n x i

-- one number has one list of n bytes
one_list : (n : ℕ) (xs ys : List ℕ) → length xs ≡ n → length ys ≡ n → IsBytes xs → IsBytes ys
    → big_from 0 n xs ≡ big_from 0 n ys → xs ≡ ys
one_list zero [] [] lx ly sx sy e = refl
one_list zero (x ∷ xs) ys lx ly sx sy e = absurd (omega (arith, lx))
one_list zero [] (y ∷ ys) lx ly sx sy e = absurd (omega (arith, ly))
one_list (suc n) [] ys lx ly sx sy e = absurd (omega (arith, lx))
one_list (suc n) (x ∷ xs) [] lx ly sx sy e = absurd (omega (arith, ly))
one_list (suc n) (x ∷ xs) (y ∷ ys) lx ly sx sy e =
    let mx = big_from-cons 0 n x xs in
    let my = big_from-cons 0 n y ys in
    let bx = big_from-lt 0 n xs (λ i. sx (suc i)) in
    let by = big_from-lt 0 n ys (λ i. sy (suc i)) in
    let both : x * 256 ^ n + big_from 0 n xs ≡ y * 256 ^ n + big_from 0 n ys =
    ap (λ (r : ℕ). x * 256 ^ n + r) (sym mx) ∙ e ∙ ap (λ (r : ℕ). y * 256 ^ n + r) my in
    let parts = same_from_place x (big_from 0 n xs) y (big_from 0 n ys) (256 ^ n) bx by both in
    let rest = one_list n xs ys (omega (arith, lx)) (omega (arith, ly)) (λ i. sx (suc i)) (λ i. sy (suc i)) parts.1 in
    rw (parts.0, rest) refl

-- the law, over the width
pub read_number : (n : ℕ) (bytes : List ℕ) → length bytes ≡ n → IsBytes bytes → big_bytes n (big_number n bytes) ≡ bytes
read_number n bytes len small =
    let below = big_from-lt 0 n bytes small in
    let again : big_from 0 n (bytes_high_first n (big_from 0 n bytes)) ≡ big_from 0 n bytes =
    ap (big_from 0 n) (sym (append-nil (bytes_high_first n (big_from 0 n bytes)))) ∙ big_number-reads_back n (big_from 0 n bytes) [] below in
    one_list n _ bytes (length-bytes_high_first n (big_from 0 n bytes)) len (bytes_small n (big_from 0 n bytes)) small again

-- one list of bytes has one number
pub same_number : (n x y : ℕ) → x < 256 ^ n → y < 256 ^ n → big_bytes n x ≡ big_bytes n y → x ≡ y
same_number n x y bx by e =
    let back : (z : ℕ) → z < 256 ^ n → big_from 0 n (big_bytes n z) ≡ z =
    λ z bz. ap (big_from 0 n) (sym (append-nil (big_bytes n z))) ∙ big_number-reads_back n z [] bz in
    sym (back x bx) ∙ ap (big_from 0 n) e ∙ back y by

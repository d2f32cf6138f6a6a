-- Each reader of one field is exact.
use mir.Val.{sel}
use Rattle.std.proofs.Common.{replicate, ◌≡◌, ◌∙◌, ◌-◌, ℕ, ℤ, pos, negsuc, zero, suc, ◌<◌, ◌^◌, Bool, true, false, List, [], ◌∷◌, ◌++◌, length, Ok, Err, refl, sym, ap, subst, arith, true≢false, eqb-true}
use Rattle.std.specs.Prelude.{◌&&◌, ◌==◌, nat_lt}
use Rattle.std.specs.Int.{w64, cast_signed, cast_unsigned}
use Rattle.std.proofs.lemmas.Bool.{lt-ltb, le-ltb, ltb-true, eq-eqb}
use Rattle.std.proofs.lemmas.Bool.Decides.{Decides-int_eq}
use Rattle.std.proofs.lemmas.Int.{of_z-to_z}
use Rattle.std.proofs.lemmas.List.{append-nil, length-append, length-replicate, take_at, drop_at}
use Rattle.byteorder.specs.Endian.{big_from, big_bytes, big_number}
use Rattle.byteorder.specs.Numbers.{big_from-lt, big_number-reads_back, length-bytes_high_first}
use Rattle.dsm_base.specs.BigEndian.{IsBytes, signed_bytes}
use Rattle.dsm_base.proofs.BigEndian.{read_number, same_number}
use Rattle.dsm_base.specs.declared.names.Mode.{Mode}
use Rattle.dsm_base.specs.declared.names.Mode.TheVariants.{Shared, Excl}
use Rattle.dsm_fields.specs.Fields.{Any, Field, byte, number, is_signed, signed, text, mode_number, bool_number}
use Rattle.dsm_fields.specs.Reading.{Cut, Read, then_with, kept, byte_at, number_at, signed_at, mode_at, bool_at, text_at}
use Rattle.dsm_fields.proofs.Exact.{Exact, both_true}
use Rattle.dsm_fields.proofs.Atoms.{Whole, fits, none, IsAtom, atom}
use Rattle.dsm_fields.proofs.Formats.{Has}

-- by whether a test passes
pub bool_cases : (b : Bool) → (P : Type 0) → (b ≡ true → P) → (b ≡ false → P) → P
bool_cases true P when_true when_false = when_true refl
bool_cases false P when_true when_false = when_false refl

no_and : (a b : Bool) → (a ≡ true → b ≡ false) → (a && b) ≡ false
no_and true b h = h refl
no_and false b h = refl

-- ---- numbers

-- a number's bytes give it back
pub back : (width n : ℕ) → n < 256 ^ width → big_number width (big_bytes width n) ≡ n
back width n lt = ap (big_from 0 width) (sym (append-nil (big_bytes width n))) ∙ big_number-reads_back width n [] lt

reads_number : (width : ℕ) (x rest : List ℕ) → length x ≡ width → number_at width (x ++ rest) ≡ Ok (big_number width x, rest)
unfolding number_at
reads_number width x rest len =
    let long : nat_lt (length (x ++ rest)) width ≡ false = le-ltb _ _ (omega (arith, length-append x rest)) in
    rw (long, take_at x rest width len, drop_at x rest width len) refl

short_number : (width : ℕ) (bytes : List ℕ) → length bytes < width → number_at width bytes ≡ Err (Cut (length bytes))
unfolding number_at
short_number width bytes lt = rw (lt-ltb _ _ lt) refl

-- a number of these values, of which some are fit
number_atom : (width : ℕ) (Is : ℕ → Type 0) (keeps ok : ℕ → Bool) (value : ℕ) → Is value → ((n : ℕ) → Is n → keeps n ≡ true → ok n ≡ true) → ((n : ℕ) → ok n ≡ true → Is n) → ((n : ℕ) → ok n ≡ true → keeps n ≡ true)
    → IsAtom Is (λ n. number width n (keeps n)) width (kept ok (number_at width))
number_atom width Is keeps ok value is to from so = record {
  value = value;
  is = is;
  wide = λ n is. length-bytes_high_first width n;
  short = λ bytes lt. rw (short_number width bytes lt) refl;
  again = λ n rest is fit.
      let both = both_true (nat_lt n (256 ^ width)) (keeps n) fit in
      let read = reads_number width (big_bytes width n) rest (length-bytes_high_first width n) in
      let value = back width n (ltb-true _ _ both.0) in
      rw (read, value, to n is both.1) refl;
  whole = λ x rest len small.
      let n = big_number width x in
      let same = read_number width x len small in
      let lt : n < 256 ^ width = big_from-lt 0 width x small in
      let read = reads_number width x rest len in
      bool_cases (ok n) (Whole Is (λ m. number width m (keeps m)) (kept ok (number_at width)) x rest)
      (λ passed. fits n (from n passed) same (rw (lt-ltb _ _ lt, so n passed) refl))
      (λ failed. none
      (λ m is bytes. no_and (nat_lt m (256 ^ width)) (keeps m) (λ wide.
      let one : m ≡ n = same_number width m n (ltb-true _ _ wide) lt (bytes ∙ sym same) in
      bool_cases (keeps m) (keeps m ≡ false) (λ fit. absurd (true≢false (sym (to m is fit) ∙ ap ok one ∙ failed))) (λ unfit. unfit)))
      (rw (read, failed) refl));
}

unkept : {A : Type 0} (read : List ℕ → Read A) (bytes : List ℕ) → kept (λ _. true) read bytes ≡ read bytes
unkept {A} read bytes = whole (read bytes)
  where
    whole : (r : Read A) → then_with r (λ value rest. Ok (value, rest)) ≡ r
    whole (Ok x) = refl
    whole (Err fault) = refl

plain : {A : Type 0} (Is : A → Type 0) (field : A → Field) (width : ℕ) (read : List ℕ → Read A) → IsAtom Is field width (kept (λ _. true) read) → Exact Is (λ a. field a ∷ []) read
plain Is field width read p = let same : kept (λ _. true) read ≡ read = (λ i bytes. unkept read bytes i) in subst (Exact Is (λ a. field a ∷ [])) same (atom Is field width (kept (λ _. true) read) p)

pub number_exact : (width : ℕ) (ok : ℕ → Bool) → Exact Any (λ n. number width n (ok n) ∷ []) (kept ok (number_at width))
number_exact width ok = atom Any (λ n. number width n (ok n)) width (kept ok (number_at width)) (number_atom width Any ok ok 0 tt (λ n is e. e) (λ n e. tt) (λ n e. e))

pub any_number : (width : ℕ) → Exact Any (λ n. number width n true ∷ []) (number_at width)
any_number width = plain Any (λ n. number width n true) width (number_at width) (number_atom width Any (λ _. true) (λ _. true) 0 tt (λ n is e. refl) (λ n e. tt) (λ n e. refl))

-- one number alone
pub this_number : (width value : ℕ) → Exact (λ n. n ≡ value) (λ n. number width n true ∷ []) (kept (λ n. n == value) (number_at width))
this_number width value =
    atom (λ n. n ≡ value) (λ n. number width n true) width (kept (λ n. n == value) (number_at width))
    (number_atom width (λ n. n ≡ value) (λ _. true) (λ n. n == value) value refl (λ n is e. eq-eqb n value is) (λ n e. eqb-true n value e) (λ n e. refl))

-- ---- bytes

one_byte : (x : List ℕ) → length x ≡ 1 → (b : ℕ) × (x ≡ b ∷ [])
one_byte [] len = absurd (omega (arith, len))
one_byte (b ∷ []) len = (b, refl)
one_byte (b ∷ c ∷ x) len = absurd (omega (arith, len))

byte_short : (bytes : List ℕ) → length bytes < 1 → byte_at bytes ≡ Err (Cut (length bytes))
unfolding byte_at
byte_short [] lt = refl
byte_short (b ∷ bytes) lt = absurd (omega (arith, lt))

byte_reads : (b : ℕ) (rest : List ℕ) → byte_at (b ∷ rest) ≡ Ok (b, rest)
unfolding byte_at
byte_reads b rest = refl

-- a byte of these values, of which some are fit
byte_atom : (Is : ℕ → Type 0) (keeps ok : ℕ → Bool) (value : ℕ) → Is value → ((n : ℕ) → Is n → keeps n ≡ true → ok n ≡ true) → ((n : ℕ) → ok n ≡ true → Is n) → ((n : ℕ) → ok n ≡ true → keeps n ≡ true)
    → IsAtom Is (λ n. byte n (keeps n)) 1 (kept ok byte_at)
byte_atom Is keeps ok value is to from kept_so = record {
  value = value;
  is = is;
  wide = λ n is. refl;
  short = λ bytes lt. rw (byte_short bytes lt) refl;
  again = λ n rest is fit. rw (byte_reads n rest, to n is fit) refl;
  whole = λ x rest len small.
      let one = one_byte x len in
      let b = one.0 in
      subst (λ (w : List ℕ). Whole Is (λ n. byte n (keeps n)) (kept ok byte_at) w rest) (sym one.1)
      (bool_cases (ok b) (Whole Is (λ n. byte n (keeps n)) (kept ok byte_at) (b ∷ []) rest)
      (λ passed. fits b (from b passed) refl (kept_so b passed))
      (λ failed. none
      (λ m is bytes. let same : m ≡ b = cc in bool_cases (keeps m) (keeps m ≡ false) (λ fit. absurd (true≢false (sym (to m is fit) ∙ ap ok same ∙ failed))) (λ unfit. unfit))
      (rw (byte_reads b rest, failed) refl)));
}

pub byte_exact : (ok : ℕ → Bool) → Exact Any (λ n. byte n (ok n) ∷ []) (kept ok byte_at)
byte_exact ok = atom Any (λ n. byte n (ok n)) 1 (kept ok byte_at) (byte_atom Any ok ok 0 tt (λ n is e. e) (λ n e. tt) (λ n e. e))

pub any_byte : Exact Any (λ n. byte n true ∷ []) byte_at
any_byte = plain Any (λ n. byte n true) 1 byte_at (byte_atom Any (λ _. true) (λ _. true) 0 tt (λ n is e. refl) (λ n e. tt) (λ n e. refl))

-- a byte of these values alone
pub some_byte : (ok keeps : ℕ → Bool) (Is : ℕ → Type 0) (value : ℕ) → Is value → ((n : ℕ) → Is n → keeps n ≡ true → ok n ≡ true) → ((n : ℕ) → ok n ≡ true → Is n) → ((n : ℕ) → ok n ≡ true → keeps n ≡ true)
    → Exact Is (λ n. byte n (keeps n) ∷ []) (kept ok byte_at)
some_byte ok keeps Is value is to from so = atom Is (λ n. byte n (keeps n)) 1 (kept ok byte_at) (byte_atom Is keeps ok value is to from so)

-- ---- modes and flags

mode_atom : IsAtom Any (λ mode. byte (mode_number mode) true) 1 mode_at
unfolding mode_at
mode_atom = record {
  value = Shared;
  is = tt;
  wide = λ mode is. refl;
  short = short;
  again = again;
  whole = whole;
}
  where
    short : (bytes : List ℕ) → length bytes < 1 → mode_at bytes ≡ Err (Cut (length bytes))
    short [] lt = refl
    short (b ∷ bytes) lt = absurd (omega (arith, lt))

    again : (mode : Mode) (rest : List ℕ) → Any mode → true ≡ true → mode_at (mode_number mode ∷ rest) ≡ Ok (mode, rest)
    again Shared rest is fit = refl
    again Excl rest is fit = refl

    differs : (b : ℕ) (mode : Mode) → mode_number mode ∷ [] ≡ suc (suc b) ∷ [] → ⊥
    differs b Shared e = let same : 0 ≡ suc (suc b) = cc in absurd (omega (arith, same))
    differs b Excl e = let same : 1 ≡ suc (suc b) = cc in absurd (omega (arith, same))

    whole : (x rest : List ℕ) → length x ≡ 1 → IsBytes x → Whole Any (λ mode. byte (mode_number mode) true) mode_at x rest
    whole [] rest len small = absurd (omega (arith, len))
    whole (b ∷ c ∷ x) rest len small = absurd (omega (arith, len))
    whole (zero ∷ []) rest len small = fits Shared tt refl refl
    whole (suc zero ∷ []) rest len small = fits Excl tt refl refl
    whole (suc (suc b) ∷ []) rest len small = none (λ mode is bytes. absurd (differs b mode bytes)) refl

pub mode_exact : Exact Any (λ mode. byte (mode_number mode) true ∷ []) mode_at
mode_exact = atom Any (λ mode. byte (mode_number mode) true) 1 mode_at mode_atom

bool_atom : IsAtom Any (λ flag. byte (bool_number flag) true) 1 bool_at
unfolding bool_at
bool_atom = record {
  value = false;
  is = tt;
  wide = λ flag is. refl;
  short = short;
  again = again;
  whole = whole;
}
  where
    short : (bytes : List ℕ) → length bytes < 1 → bool_at bytes ≡ Err (Cut (length bytes))
    short [] lt = refl
    short (b ∷ bytes) lt = absurd (omega (arith, lt))

    again : (flag : Bool) (rest : List ℕ) → Any flag → true ≡ true → bool_at (bool_number flag ∷ rest) ≡ Ok (flag, rest)
    again false rest is fit = refl
    again true rest is fit = refl

    differs : (b : ℕ) (flag : Bool) → bool_number flag ∷ [] ≡ suc (suc b) ∷ [] → ⊥
    differs b false e = let same : 0 ≡ suc (suc b) = cc in absurd (omega (arith, same))
    differs b true e = let same : 1 ≡ suc (suc b) = cc in absurd (omega (arith, same))

    whole : (x rest : List ℕ) → length x ≡ 1 → IsBytes x → Whole Any (λ flag. byte (bool_number flag) true) bool_at x rest
    whole [] rest len small = absurd (omega (arith, len))
    whole (b ∷ c ∷ x) rest len small = absurd (omega (arith, len))
    whole (zero ∷ []) rest len small = fits false tt refl refl
    whole (suc zero ∷ []) rest len small = fits true tt refl refl
    whole (suc (suc b) ∷ []) rest len small = none (λ flag is bytes. absurd (differs b flag bytes)) refl

pub bool_exact : Exact Any (λ flag. byte (bool_number flag) true ∷ []) bool_at
bool_exact = atom Any (λ flag. byte (bool_number flag) true) 1 bool_at bool_atom

-- ---- signed numbers

reads_signed : (x rest : List ℕ) → length x ≡ 8 → signed_at (x ++ rest) ≡ Ok (cast_signed w64 (big_number 8 x), rest)
unfolding signed_at
reads_signed x rest len =
    let long : nat_lt (length (x ++ rest)) 8 ≡ false = le-ltb _ _ (omega (arith, length-append x rest)) in
    rw (long, take_at x rest 8 len, drop_at x rest 8 len) refl

short_signed : (bytes : List ℕ) → length bytes < 8 → signed_at bytes ≡ Err (Cut (length bytes))
unfolding signed_at
short_signed bytes lt = rw (lt-ltb _ _ lt) refl

-- ---- texts

reads_text : (count : ℕ) (x rest : List ℕ) → length x ≡ count → text_at count (x ++ rest) ≡ Ok (x, rest)
unfolding text_at
reads_text count x rest len =
    let long : nat_lt (length (x ++ rest)) count ≡ false = le-ltb _ _ (omega (arith, length-append x rest)) in
    rw (long, take_at x rest count len, drop_at x rest count len) refl

short_text : (count : ℕ) (bytes : List ℕ) → length bytes < count → text_at count bytes ≡ Err (Cut (length bytes))
unfolding text_at
short_text count bytes lt = rw (lt-ltb _ _ lt) refl

text_atom : (passes : List ℕ → Bool) (count : ℕ) → IsAtom (Has count) (text passes) count (kept passes (text_at count))
text_atom passes count = record {
  value = replicate count 32;
  is = length-replicate count 32;
  wide = λ bytes len. len;
  short = λ bytes lt. rw (short_text count bytes lt) refl;
  again = λ bytes rest len fit. rw (reads_text count bytes rest len, fit) refl;
  whole = λ x rest len small.
      bool_cases (passes x) (Whole (Has count) (text passes) (kept passes (text_at count)) x rest)
      (λ passed. fits x len refl passed)
      (λ failed. none (λ m is bytes. ap passes bytes ∙ failed) (rw (reads_text count x rest len, failed) refl));
}

pub text_exact : (passes : List ℕ → Bool) (count : ℕ) → Exact (Has count) (λ bytes. text passes bytes ∷ []) (kept passes (text_at count))
text_exact passes count = atom (Has count) (text passes) count (kept passes (text_at count)) (text_atom passes count)

-- so many bytes, whatever they are
pub any_text : (count : ℕ) → Exact (Has count) (λ bytes. text (λ _. true) bytes ∷ []) (text_at count)
any_text count = plain (Has count) (text (λ _. true)) count (text_at count) (text_atom (λ _. true) count)

-- ---- eight bytes hold what they give back

chosen : (b : Bool) (n m : ℕ) → sel b (pos n) (negsuc m) ≡ pos n → b ≡ true
chosen true n m e = refl
chosen false n m e = absurd cc

small_value : (v : ℤ) → cast_signed w64 (cast_unsigned w64 v) ≡ v → cast_unsigned w64 v < 256 ^ 8
small_value (pos n) e =
    let low : n < 2 ^ 63 = ltb-true _ _ (chosen (nat_lt n (2 ^ 63)) n (2 ^ 64 - suc n) e) in
    omega arith
small_value (negsuc n) e = omega arith

signed_atom : (ok : ℤ → Bool) → IsAtom Any (λ v. signed v (ok v)) 8 (kept ok signed_at)
signed_atom ok = record {
  value = pos 0;
  is = tt;
  wide = λ v is. length-bytes_high_first 8 (cast_unsigned w64 v);
  short = λ bytes lt. rw (short_signed bytes lt) refl;
  again = λ v rest is fit.
      let both = both_true (is_signed v) (ok v) fit in
      let same = (Decides-int_eq (cast_signed w64 (cast_unsigned w64 v)) v).0 both.0 in
      let number = back 8 (cast_unsigned w64 v) (small_value v same) in
      let read : signed_at (signed_bytes v ++ rest) ≡ Ok (v, rest) =
      reads_signed (signed_bytes v) rest (length-bytes_high_first 8 (cast_unsigned w64 v)) ∙ ap (λ (n : ℕ). let read : Read ℤ = Ok (cast_signed w64 n, rest) in read) number ∙ ap (λ (z : ℤ). let read : Read ℤ = Ok (z, rest) in read) same in
      rw (read, both.1) refl;
  whole = λ x rest len small.
      let n = big_number 8 x in
      let v = cast_signed w64 n in
      let lt : n < 256 ^ 8 = big_from-lt 0 8 x small in
      let same : cast_unsigned w64 v ≡ n = of_z-to_z w64 n lt in
      let bytes : signed_bytes v ≡ x = ap (big_bytes 8) same ∙ read_number 8 x len small in
      let holds : is_signed v ≡ true = (Decides-int_eq (cast_signed w64 (cast_unsigned w64 v)) v).1 (ap (cast_signed w64) same) in
      let read = reads_signed x rest len in
      bool_cases (ok v) (Whole Any (λ w. signed w (ok w)) (kept ok signed_at) x rest)
      (λ passed. fits v tt bytes (rw (holds, passed) refl))
      (λ failed. none
      (λ w is same_bytes. no_and (is_signed w) (ok w) (λ held.
      let back_w = (Decides-int_eq (cast_signed w64 (cast_unsigned w64 w)) w).0 held in
      let one : cast_unsigned w64 w ≡ n = same_number 8 (cast_unsigned w64 w) n (small_value w back_w) lt (same_bytes ∙ sym (read_number 8 x len small)) in
      ap ok (sym back_w ∙ ap (cast_signed w64) one) ∙ failed))
      (rw (read, failed) refl));
}

pub signed_exact : (ok : ℤ → Bool) → Exact Any (λ v. signed v (ok v) ∷ []) (kept ok signed_at)
signed_exact ok = atom Any (λ v. signed v (ok v)) 8 (kept ok signed_at) (signed_atom ok)

pub any_signed : Exact Any (λ v. signed v true ∷ []) signed_at
any_signed = plain Any (λ v. signed v true) 8 signed_at (signed_atom (λ _. true))

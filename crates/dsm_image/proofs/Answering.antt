-- What follows for the answers from the reader of all before a digest being exact.
use Rattle.std.proofs.Common.{◌≡◌, ◌∙◌, ℕ, zero, suc, ◌+◌, ◌-◌, ◌^◌, ◌<◌, true, List, [], ◌∷◌, ◌++◌, length, take, drop, Result, Ok, Err, refl, sym, ap, subst, arith, inl, inr, append_assoc}
use Rattle.std.specs.Prelude.{◌⊎◌, ◌&&◌, slice_get, nat_lt}
use Rattle.std.proofs.lemmas.Bool.{cases_lt, ltb-true}
use Rattle.std.proofs.lemmas.List.{append-nil, length-append, length-take, take_at, drop_at, take-append-drop}
use Rattle.byteorder.specs.Endian.{big_bytes, big_number}
use Rattle.byteorder.specs.Numbers.{big_from-lt, length-bytes_high_first}
use Rattle.sha2.specs.Sha256.{sha256}
use Rattle.sha2.proofs.Facts256.{length-sha256}
use Rattle.dsm_base.specs.BigEndian.{IsBytes}
use Rattle.dsm_base.specs.declared.errors.Digest.{Digest}
use Rattle.dsm_base.specs.declared.errors.LoadErr.{LoadErr}
use Rattle.dsm_base.specs.declared.errors.LoadErr.TheVariants as errors
use Rattle.dsm_fields.specs.Fields.{are_fit, bytes_of}
use Rattle.dsm_fields.specs.Reading.{Cut, Broken, Read}
use Rattle.dsm_fields.proofs.Exact.{both_true}
use Rattle.dsm_fields.proofs.Atoms.{small_front}
use Rattle.dsm_fields.proofs.Numbers.{back}
use Rattle.dsm_image.specs.declared.image.Image.{Image}
use Rattle.dsm_image_parts.specs.declared.scope.Scope.{Scope}
use Rattle.dsm_image.specs.Frame.{magic, zero_count, size_in, front_of, kept_in, behind_in, zeros_behind, sealed, IsRoomy, IsSealed, IsFirstOther}
use Rattle.dsm_image.specs.Spelling.{payload_fields, front_fields, size_of, spelling, IsImage}
use Rattle.dsm_image.specs.Reading.{front_at}
use Rattle.dsm_image.specs.Answers.{IsDamaged, IsOpened, IsClosed, front_answer, IsFront, IsBad, no_room, cut, broken, between, behind, Spells, IsAnswer, OrMemory}
use Rattle.dsm_image.proofs.Fronts.{front_exact}
use Rattle.dsm_image.proofs.Zeros.{at_most}

abbrev Answer : Type 0
Answer = Result Image LoadErr

abbrev refused : LoadErr → Answer
refused e = Err e

abbrev misplaced : ℕ → Answer
misplaced place = Err (errors.BadImage place)

-- ---- out of memory, or else

pub or_weaker : {P Q : Type 0} (result : Answer) → (P → Q) → OrMemory result P → OrMemory result Q
or_weaker (Ok image) f p = f p
or_weaker (Err (errors.Damaged kept found)) f p = f p
or_weaker (Err (errors.BadImage place)) f p = f p
or_weaker (Err errors.StoreFault) f p = f p
or_weaker (Err errors.Memory) f p = tt

pub or_always : {P : Type 0} (result : Answer) → P → OrMemory result P
or_always (Ok image) p = p
or_always (Err (errors.Damaged kept found)) p = p
or_always (Err (errors.BadImage place)) p = p
or_always (Err errors.StoreFault) p = p
or_always (Err errors.Memory) p = tt

-- ---- the parts of sealed bytes

len_front : (bytes : List ℕ) → IsRoomy bytes → length (front_of bytes) ≡ size_in bytes
len_front bytes room = omega (arith, length-take (size_in bytes) bytes, room.digest)

-- the bytes are their three parts
whole : (bytes : List ℕ) → bytes ≡ front_of bytes ++ (kept_in bytes ++ behind_in bytes)
whole bytes =
    sym (take-append-drop (size_in bytes) bytes)
    ∙ ap (λ (w : List ℕ). front_of bytes ++ w) (sym (take-append-drop 32 (drop (size_in bytes) bytes)))

-- ---- the first place at which lists differ

one_first : (a b : ℕ) (found due : List ℕ) → IsFirstOther a found due → IsFirstOther b found due → a ≡ b
one_first a b found due one two =
    elim (cases_lt a b) [
      | inl lt ↦ absurd (one.other (two.same a lt))
      | inr le ↦ elim (cases_lt b a) [
        | inl lt ↦ absurd (two.other (one.same b lt))
        | inr more ↦ omega (arith, le, more)
      ]
    ]

none_first : (at : ℕ) (found due : List ℕ) → found ≡ due → IsFirstOther at found due → ⊥
none_first at found due same one = one.other (ap (λ (w : List ℕ). slice_get w at) same)

-- bytes behind others are bytes
small_behind : (n : ℕ) (bytes : List ℕ) → IsBytes bytes → IsBytes (drop n bytes)
small_behind zero bytes small i = small i
small_behind (suc n) [] small i = omega arith
small_behind (suc n) (byte ∷ bytes) small i = small_behind n bytes (λ k. small (suc k)) i

-- ---- how an answer comes about

-- all before the digest is an image's: then the zeros decide
abbrev EndsWith : Image → Answer → List ℕ → Type 0
EndsWith image answer bytes =
    ((behind_in bytes ≡ zeros_behind (size_in bytes)) × (answer ≡ Ok image))
    ⊎ ((at : ℕ) × (IsFirstOther at (behind_in bytes) (zeros_behind (size_in bytes)) × (answer ≡ misplaced (size_in bytes + (32 + at)))))

abbrev Ends : Answer → Answer → List ℕ → Type 0
Ends (Ok image) answer bytes = EndsWith image answer bytes
Ends (Err e) answer bytes = answer ≡ Err e

abbrev read_in : Scope → List ℕ → Read Image
read_in scope bytes = front_at scope (size_in bytes) (front_of bytes)

data Comes (scope : Scope) (answer : Answer) (bytes : List ℕ) : Type 0 where
  unroomy : (IsRoomy bytes → ⊥) → answer ≡ misplaced 4 → Comes scope answer bytes
  damaged : (kept found : Digest) → IsDamaged kept.0 found.0 bytes → answer ≡ refused (errors.Damaged kept found) → Comes scope answer bytes
  by_front : IsSealed bytes → Ends (front_answer (size_in bytes) (read_in scope bytes)) answer bytes → Comes scope answer bytes

same_digest : (a b : Digest) → a.0 ≡ b.0 → a ≡ b
same_digest a b e = ap (λ (w : List ℕ). let d : Digest = record { 0 = w } in d) e

same_damage : (a b c d : Digest) (bytes : List ℕ) → IsDamaged a.0 b.0 bytes → IsDamaged c.0 d.0 bytes → refused (errors.Damaged a b) ≡ refused (errors.Damaged c d)
same_damage a b c d bytes one two =
    let kept = same_digest a c (one.kept_is ∙ sym two.kept_is) in
    let found = same_digest b d (one.found_is ∙ sym two.found_is) in
    ap (λ (k : Digest). refused (errors.Damaged k b)) kept ∙ ap (λ (f : Digest). refused (errors.Damaged c f)) found

not_both : (kept found bytes : List ℕ) → IsDamaged kept found bytes → IsSealed bytes → ⊥
not_both kept found bytes one two = one.differ (one.kept_is ∙ two.same ∙ sym one.found_is)

same_zeros : (image : Image) (a b : Answer) (bytes : List ℕ) → EndsWith image a bytes → EndsWith image b bytes → a ≡ b
same_zeros image a b bytes (inl one) (inl two) = one.1 ∙ sym two.1
same_zeros image a b bytes (inl one) (inr two) = absurd (none_first two.0 (behind_in bytes) (zeros_behind (size_in bytes)) one.0 two.1.0)
same_zeros image a b bytes (inr one) (inl two) = absurd (none_first one.0 (behind_in bytes) (zeros_behind (size_in bytes)) two.0 one.1.0)
same_zeros image a b bytes (inr one) (inr two) =
    one.1.1 ∙ ap (λ (at : ℕ). misplaced (size_in bytes + (32 + at))) (one_first one.0 two.0 (behind_in bytes) (zeros_behind (size_in bytes)) one.1.0 two.1.0) ∙ sym two.1.1

same_end : (end a b : Answer) (bytes : List ℕ) → Ends end a bytes → Ends end b bytes → a ≡ b
same_end (Ok image) a b bytes one two = same_zeros image a b bytes one two
same_end (Err e) a b bytes one two = one ∙ sym two

one_answer : (scope : Scope) (a b : Answer) (bytes : List ℕ) → Comes scope a bytes → Comes scope b bytes → a ≡ b
one_answer scope a b bytes (unroomy small one) (unroomy other two) = one ∙ sym two
one_answer scope a b bytes (unroomy small one) (damaged kept found is two) = absurd (small is.room)
one_answer scope a b bytes (unroomy small one) (by_front is two) = absurd (small is.room)
one_answer scope a b bytes (damaged kept found is one) (unroomy small two) = absurd (small is.room)
one_answer scope a b bytes (damaged kept found is one) (damaged kept2 found2 is2 two) = one ∙ same_damage kept found kept2 found2 bytes is is2 ∙ sym two
one_answer scope a b bytes (damaged kept found is one) (by_front is2 two) = absurd (not_both kept.0 found.0 bytes is is2)
one_answer scope a b bytes (by_front is one) (unroomy small two) = absurd (small is.room)
one_answer scope a b bytes (by_front is one) (damaged kept found is2 two) = absurd (not_both kept.0 found.0 bytes is2 is)
one_answer scope a b bytes (by_front is one) (by_front is2 two) = same_end (front_answer (size_in bytes) (read_in scope bytes)) a b bytes one two

-- ---- an image's spelling

-- all before the digest is as long as it says
pub len_fields : (scope : Scope) (size : ℕ) (image : Image) → length (bytes_of (front_fields scope size image)) ≡ size_of scope image
len_fields scope size image =
    let payload = bytes_of (payload_fields scope image) in
    omega (arith, length-append (big_bytes 4 magic) (big_bytes 4 size ++ payload), length-append (big_bytes 4 size) payload, length-bytes_high_first 4 magic, length-bytes_high_first 4 size)

-- what the number behind the first four bytes is
says_size : (size : ℕ) (payload rest : List ℕ) → size < 256 ^ 4 → size_in ((big_bytes 4 magic ++ (big_bytes 4 size ++ payload)) ++ rest) ≡ size
says_size size payload rest small =
    let mark = big_bytes 4 magic in
    let number = big_bytes 4 size in
    let grouped : (mark ++ (number ++ payload)) ++ rest ≡ mark ++ (number ++ (payload ++ rest)) =
    append_assoc mark (number ++ payload) rest ∙ ap (λ (w : List ℕ). mark ++ w) (append_assoc number payload rest) in
    ap size_in grouped
    ∙ ap (λ (w : List ℕ). big_number 4 (take 4 w)) (drop_at mark (number ++ (payload ++ rest)) 4 (length-bytes_high_first 4 magic))
    ∙ ap (big_number 4) (take_at number (payload ++ rest) 4 (length-bytes_high_first 4 size))
    ∙ back 4 size small

record Unsealed (scope : Scope) (image : Image) (bytes : List ℕ) : Type 0 where
  is : IsSealed bytes
  size : size_in bytes ≡ size_of scope image
  front : front_of bytes ≡ bytes_of (front_fields scope (size_of scope image) image)
  zeros : behind_in bytes ≡ zeros_behind (size_in bytes)

-- the size of an image that is fit has room
size_fits : (scope : Scope) (image : Image) → IsImage scope image → size_of scope image < 256 ^ 4
size_fits scope image is =
    let size = size_of scope image in
    let both = both_true (nat_lt size (256 ^ 4) && true) (are_fit (payload_fields scope image)) is.fit in
    let field = both_true (nat_lt size (256 ^ 4)) true both.0 in
    ltb-true _ _ field.0

unsealed : (scope : Scope) (image : Image) → IsImage scope image → Unsealed scope image (spelling scope image)
unsealed scope image is =
    let size = size_of scope image in
    let front = bytes_of (front_fields scope size image) in
    let bytes = spelling scope image in
    let behind_front = sha256 front ++ zeros_behind (length front) in
    let len : length front ≡ size = len_fields scope size image in
    let says : size_in bytes ≡ size = says_size size (bytes_of (payload_fields scope image)) behind_front (size_fits scope image is) in
    let digest : length (sha256 front) ≡ 32 = length-sha256 front in
    let front_is : front_of bytes ≡ front = ap (λ (n : ℕ). take n bytes) says ∙ take_at front behind_front size len in
    let dropped : drop (size_in bytes) bytes ≡ behind_front = ap (λ (n : ℕ). drop n bytes) says ∙ drop_at front behind_front size len in
    let kept : kept_in bytes ≡ sha256 front = ap (take 32) dropped ∙ take_at (sha256 front) (zeros_behind (length front)) 32 digest in
    let after : behind_in bytes ≡ zeros_behind (length front) = ap (drop 32) dropped ∙ drop_at (sha256 front) (zeros_behind (length front)) 32 digest in
    let long = length-append front behind_front in
    let longer = length-append (sha256 front) (zeros_behind (length front)) in
    record {
      is = record {
        room = record { header = omega (arith, long, len); digest = omega (arith, long, longer, len, digest, says) };
        same = kept ∙ ap sha256 (sym front_is);
      };
      size = says;
      front = front_is;
      zeros = after ∙ ap zeros_behind (len ∙ sym says);
    }

-- what is read of an image's spelling
read_spelled : (scope : Scope) (image : Image) (bytes : List ℕ) → IsImage scope image → Unsealed scope image bytes → read_in scope bytes ≡ Ok (image, [])
read_spelled scope image bytes is u =
    let size = size_of scope image in
    ap (λ (n : ℕ). front_at scope n (front_of bytes)) u.size
    ∙ ap (front_at scope size) (u.front ∙ sym (append-nil (bytes_of (front_fields scope size image))))
    ∙ (front_exact scope size).again image [] is.shaped is.fit

-- an image that was read, with its zeros, is spelled so
pub spells : (scope : Scope) (image : Image) (bytes : List ℕ) → IsBytes bytes → IsSealed bytes → read_in scope bytes ≡ Ok (image, []) → behind_in bytes ≡ zeros_behind (size_in bytes) → Spells scope bytes image
spells scope image bytes small is read zeros =
    let took = (front_exact scope (size_in bytes)).took (front_of bytes) image [] (small_front (size_in bytes) bytes small) read in
    let fields = bytes_of (front_fields scope (size_in bytes) image) in
    let parts : front_of bytes ≡ fields = took.parts ∙ append-nil fields in
    let size : size_in bytes ≡ size_of scope image = sym (len_front bytes is.room) ∙ ap length parts ∙ len_fields scope (size_in bytes) image in
    let sized : front_of bytes ≡ bytes_of (front_fields scope (size_of scope image) image) = parts ∙ ap (λ (n : ℕ). bytes_of (front_fields scope n image)) size in
    let ends : behind_in bytes ≡ zeros_behind (length (front_of bytes)) = zeros ∙ ap zeros_behind (sym (len_front bytes is.room)) in
    record {
      is = record { shaped = took.is; fit = subst (λ (n : ℕ). are_fit (front_fields scope n image) ≡ true) size took.fit };
      spelled = whole bytes ∙ ap (λ (w : List ℕ). front_of bytes ++ (kept_in bytes ++ w)) ends ∙ ap (λ (w : List ℕ). front_of bytes ++ (w ++ zeros_behind (length (front_of bytes)))) is.same ∙ ap sealed sized;
    }

-- all before the digest was read
front_read : (scope : Scope) (image : Image) (rest bytes : List ℕ) → IsBytes bytes → read_in scope bytes ≡ Ok (image, rest) → IsFront scope bytes image rest
front_read scope image rest bytes small read =
    let took = (front_exact scope (size_in bytes)).took (front_of bytes) image rest (small_front (size_in bytes) bytes small) read in
    record { shaped = took.is; fit = took.fit; parts = took.parts }

-- ---- what comes about fits

-- how many bytes are left of those before the digest
left_in : (front back : List ℕ) (size left : ℕ) → length (front ++ back) ≡ size → left ≡ length back → size - left + left ≡ size
left_in front back size left len is = omega (arith, len, is, length-append front back)

bad_front : (scope : Scope) (bytes : List ℕ) (read : Read Image) (e : LoadErr) → IsBytes bytes → IsSealed bytes → read_in scope bytes ≡ read → front_answer (size_in bytes) read ≡ Err e → IsAnswer scope (Err e) bytes
bad_front scope bytes (Ok (image, [])) e small is read end = absurd cc
bad_front scope bytes (Ok (image, byte ∷ rest)) e small is read end =
    let front = front_read scope image (byte ∷ rest) bytes small read in
    let all : length (bytes_of (front_fields scope (size_in bytes) image) ++ byte ∷ rest) ≡ size_in bytes = sym (ap length front.parts) ∙ len_front bytes is.room in
    let same : errors.BadImage (size_in bytes - length (byte ∷ rest)) ≡ e = cc in
    subst (λ (x : LoadErr). IsAnswer scope (Err x) bytes) same
    (between image (byte ∷ rest) is front (omega arith) (left_in (bytes_of (front_fields scope (size_in bytes) image)) (byte ∷ rest) (size_in bytes) (length (byte ∷ rest)) all refl))
bad_front scope bytes (Err (Cut left)) e small is read end =
    let c = (front_exact scope (size_in bytes)).cut (front_of bytes) left (small_front (size_in bytes) bytes small) read in
    let all : length (bytes_of c.front ++ c.rest) ≡ size_in bytes = sym (ap length c.reaches.goes) ∙ len_front bytes is.room in
    let same : errors.BadImage (size_in bytes - left) ≡ e = cc in
    subst (λ (x : LoadErr). IsAnswer scope (Err x) bytes) same (cut left is c (left_in (bytes_of c.front) c.rest (size_in bytes) left all c.at))
bad_front scope bytes (Err (Broken left)) e small is read end =
    let b = (front_exact scope (size_in bytes)).broke (front_of bytes) left (small_front (size_in bytes) bytes small) read in
    let all : length (bytes_of b.front ++ b.rest) ≡ size_in bytes = sym (ap length b.reaches.goes) ∙ len_front bytes is.room in
    let same : errors.BadImage (size_in bytes - left) ≡ e = cc in
    subst (λ (x : LoadErr). IsAnswer scope (Err x) bytes) same (broken left is b (left_in (bytes_of b.front) b.rest (size_in bytes) left all b.at))

-- an image was read, and nothing behind it
read_whole : (scope : Scope) (bytes : List ℕ) (read : Read Image) (image : Image) → read_in scope bytes ≡ read → front_answer (size_in bytes) read ≡ Ok image → read_in scope bytes ≡ Ok (image, [])
read_whole scope bytes (Ok (other, [])) image read end =
    let same : other ≡ image = cc in
    read ∙ ap (λ (i : Image). let r : Read Image = Ok (i, []) in r) same
read_whole scope bytes (Ok (other, byte ∷ rest)) image read end = absurd cc
read_whole scope bytes (Err (Cut left)) image read end = absurd cc
read_whole scope bytes (Err (Broken left)) image read end = absurd cc

-- ---- the code's three ways to an answer

pub closed_fits : (scope : Scope) (e : LoadErr) (bytes : List ℕ) → IsClosed e bytes → OrMemory (Err e) (IsAnswer scope (Err e) bytes)
closed_fits scope (errors.Damaged kept found) bytes c = c
closed_fits scope (errors.BadImage place) bytes c = no_room c.1 c.0
closed_fits scope errors.StoreFault bytes c = absurd c
closed_fits scope errors.Memory bytes c = tt

-- what reading the front of opened bytes gives
in_front : (scope : Scope) (front after bytes : List ℕ) (answer : Answer) → IsOpened front after bytes → answer ≡ front_answer (length front) (front_at scope (length front) front) → front_answer (size_in bytes) (read_in scope bytes) ≡ answer
in_front scope front after bytes answer o is =
    let len : length front ≡ size_in bytes = ap length o.front_is ∙ len_front bytes o.is.room in
    sym (is ∙ ap (λ (n : ℕ). front_answer n (front_at scope n front)) len ∙ ap (λ (w : List ℕ). front_answer (size_in bytes) (front_at scope (size_in bytes) w)) o.front_is)

pub front_fits : (scope : Scope) (front after bytes : List ℕ) (e : LoadErr) → IsBytes bytes → IsOpened front after bytes
    → OrMemory (Err e) (refused e ≡ front_answer (length front) (front_at scope (length front) front)) → OrMemory (Err e) (IsAnswer scope (Err e) bytes)
front_fits scope front after bytes e small o said =
    or_weaker (Err e) (λ is. bad_front scope bytes (read_in scope bytes) e small o.is refl (in_front scope front after bytes (Err e) o is)) said

pub image_fits : (scope : Scope) (front after bytes : List ℕ) (image : Image) → IsBytes bytes → IsOpened front after bytes
    → Ok image ≡ front_answer (length front) (front_at scope (length front) front) → after ≡ zeros_behind (length front) → IsAnswer scope (Ok image) bytes
image_fits scope front after bytes image small o said zeros =
    let len : length front ≡ size_in bytes = ap length o.front_is ∙ len_front bytes o.is.room in
    let read = read_whole scope bytes (read_in scope bytes) image refl (in_front scope front after bytes (Ok image) o said) in
    spells scope image bytes small o.is read (sym o.behind_is ∙ zeros ∙ ap zeros_behind len)

pub zeros_fit : (scope : Scope) (front after bytes : List ℕ) (image : Image) (at place : ℕ) → IsBytes bytes → IsOpened front after bytes
    → Ok image ≡ front_answer (length front) (front_at scope (length front) front) → IsFirstOther at after (zeros_behind (length front)) → place ≡ length front + (32 + at) → IsBad scope bytes place
zeros_fit scope front after bytes image at place small o said first is =
    let len : length front ≡ size_in bytes = ap length o.front_is ∙ len_front bytes o.is.room in
    let read = read_whole scope bytes (read_in scope bytes) image refl (in_front scope front after bytes (Ok image) o said) in
    let due : IsFirstOther at (behind_in bytes) (zeros_behind (size_in bytes)) =
    subst (λ (w : List ℕ). IsFirstOther at w (zeros_behind (size_in bytes))) o.behind_is (subst (λ (n : ℕ). IsFirstOther at after (zeros_behind n)) len first) in
    behind image at o.is (front_read scope image [] bytes small read) due (is ∙ ap (λ (n : ℕ). n + (32 + at)) len)

-- the number behind the first four bytes has four bytes
size_small : (bytes : List ℕ) → IsBytes bytes → size_in bytes < 256 ^ 4
size_small bytes small = big_from-lt 0 4 (take 4 (drop 4 bytes)) (small_front 4 (drop 4 bytes) (small_behind 4 bytes small))

-- what a place that is wrong behind the digest is told as: the sums that lead to it are below 2^64
pub other_zeros_fit : (scope : Scope) (front after bytes : List ℕ) (image : Image) (at place : ℕ) (e : LoadErr) → IsBytes bytes → IsOpened front after bytes
    → Ok image ≡ front_answer (length front) (front_at scope (length front) front) → IsFirstOther at after (zeros_behind (length front))
    → (length front + (32 + at) < 2 ^ 63 → place ≡ length front + (32 + at)) → (e ≡ errors.Memory) ⊎ (e ≡ errors.BadImage place) → OrMemory (Err e) (IsAnswer scope (Err e) bytes)
other_zeros_fit scope front after bytes image at place e small o said first sum (inl is) =
    subst (λ (x : LoadErr). OrMemory (Err x) (IsAnswer scope (Err x) bytes)) (sym is) tt
other_zeros_fit scope front after bytes image at place e small o said first sum (inr is) =
    let len : length front ≡ size_in bytes = ap length o.front_is ∙ len_front bytes o.is.room in
    let few = at_most after (zero_count (length front)) at first in
    let place_is = sum (omega (arith, len, few, size_small bytes small)) in
    subst (λ (x : LoadErr). OrMemory (Err x) (IsAnswer scope (Err x) bytes)) (sym is) (zeros_fit scope front after bytes image at place small o said first place_is)

-- ---- what fits comes about

place_is : (place left size : ℕ) → place + left ≡ size → place ≡ size - left
place_is place left size e = omega (arith, e)

rest_answer : (size : ℕ) (image : Image) (rest : List ℕ) → 0 < length rest → front_answer size (Ok (image, rest)) ≡ misplaced (size - length rest)
rest_answer size image [] some = absurd (omega (arith, some))
rest_answer size image (byte ∷ rest) some = refl

read_front : (scope : Scope) (image : Image) (rest bytes : List ℕ) → IsFront scope bytes image rest → read_in scope bytes ≡ Ok (image, rest)
read_front scope image rest bytes f = ap (front_at scope (size_in bytes)) f.parts ∙ (front_exact scope (size_in bytes)).again image rest f.shaped f.fit

at_end : (scope : Scope) (read : Read Image) (answer : Answer) (bytes : List ℕ) → IsSealed bytes → read_in scope bytes ≡ read → Ends (front_answer (size_in bytes) read) answer bytes → Comes scope answer bytes
at_end scope read answer bytes is e ends = by_front is (subst (λ (r : Read Image). Ends (front_answer (size_in bytes) r) answer bytes) (sym e) ends)

bad_comes : (scope : Scope) (place : ℕ) (bytes : List ℕ) → IsBytes bytes → IsBad scope bytes place → Comes scope (misplaced place) bytes
bad_comes scope place bytes small (no_room tight is) = unroomy tight (ap misplaced is)
bad_comes scope place bytes small (cut left is c ends) =
    at_end scope (Err (Cut left)) (misplaced place) bytes is ((front_exact scope (size_in bytes)).ends (front_of bytes) left (small_front (size_in bytes) bytes small) c) (ap misplaced (place_is place left (size_in bytes) ends))
bad_comes scope place bytes small (broken left is b ends) =
    at_end scope (Err (Broken left)) (misplaced place) bytes is ((front_exact scope (size_in bytes)).breaks (front_of bytes) left (small_front (size_in bytes) bytes small) b) (ap misplaced (place_is place left (size_in bytes) ends))
bad_comes scope place bytes small (between image rest is front some ends) =
    at_end scope (Ok (image, rest)) (misplaced place) bytes is (read_front scope image rest bytes front)
    (subst (λ (a : Answer). Ends a (misplaced place) bytes) (sym (rest_answer (size_in bytes) image rest some)) (ap misplaced (place_is place (length rest) (size_in bytes) ends)))
bad_comes scope place bytes small (behind image at is front first e) =
    at_end scope (Ok (image, [])) (misplaced place) bytes is (read_front scope image [] bytes front) (inr (at, (first, ap misplaced e)))

spelled_comes : (scope : Scope) (image : Image) (bytes : List ℕ) → Spells scope bytes image → Comes scope (Ok image) bytes
spelled_comes scope image bytes s =
    let u = subst (Unsealed scope image) (sym s.spelled) (unsealed scope image s.is) in
    at_end scope (Ok (image, [])) (Ok image) bytes u.is (read_spelled scope image bytes s.is u) (inl (u.zeros, refl))

comes : (scope : Scope) (answer : Answer) (bytes : List ℕ) → IsBytes bytes → IsAnswer scope answer bytes → Comes scope answer bytes
comes scope (Ok image) bytes small s = spelled_comes scope image bytes s
comes scope (Err (errors.Damaged kept found)) bytes small d = damaged kept found d refl
comes scope (Err (errors.BadImage place)) bytes small b = bad_comes scope place bytes small b
comes scope (Err errors.StoreFault) bytes small never = absurd never
comes scope (Err errors.Memory) bytes small never = absurd never

-- two answers that fit are the same
pub same_answer : (scope : Scope) (a b : Answer) (bytes : List ℕ) → IsBytes bytes → IsAnswer scope a bytes → IsAnswer scope b bytes → a ≡ b
same_answer scope a b bytes small one two = one_answer scope a b bytes (comes scope a bytes small one) (comes scope b bytes small two)

-- two images with the same spelling are the same
pub same_spelling : (scope : Scope) (a b : Image) → IsImage scope a → IsImage scope b → spelling scope a ≡ spelling scope b → a ≡ b
same_spelling scope a b isa isb e =
    let one = spelled_comes scope a (spelling scope a) (record { is = isa; spelled = refl }) in
    let two = spelled_comes scope b (spelling scope a) (record { is = isb; spelled = e }) in
    let same = one_answer scope (Ok a) (Ok b) (spelling scope a) one two in
    cc

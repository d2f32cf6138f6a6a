-- A reader of one field is exact.
use Rattle.std.proofs.Common.{◌≡◌, ◌∙◌, ℕ, zero, suc, ◌<◌, true, false, List, [], ◌∷◌, ◌++◌, length, take, drop, Ok, Err, refl, sym, ap, subst, arith, inl, inr, true≢false}
use Rattle.std.proofs.lemmas.Bool.{cases_lt}
use Rattle.std.proofs.lemmas.List.{append-nil, length-append, length-take, take_at, take-append-drop}
use Rattle.dsm_base.specs.BigEndian.{IsBytes}
use Rattle.dsm_fields.specs.Fields.{Field, is_fit, are_fit, bytes_of, IsCut, Breaks}
use Rattle.dsm_fields.specs.Reading.{Cut, Broken, Read}
use Rattle.dsm_fields.proofs.Exact.{Took, Exact, both_true, small_rest, nothing_before, same_read}

-- what is known of a whole field's bytes: they are those of a fit value, or of none
pub data Whole {A : Type 0} (Is : A → Type 0) (field : A → Field) (read : List ℕ → Read A) (x rest : List ℕ) : Type 0 where
  fits : (a : A) → Is a → (field a).bytes ≡ x → is_fit (field a) ≡ true → Whole Is field read x rest
  none : ((a : A) → Is a → (field a).bytes ≡ x → is_fit (field a) ≡ false) → read (x ++ rest) ≡ Err (Broken (length (x ++ rest))) → Whole Is field read x rest

pub record IsAtom {A : Type 0} (Is : A → Type 0) (field : A → Field) (width : ℕ) (read : List ℕ → Read A) : Type 0 where
  pub value : A
  pub is : Is value
  pub wide : (a : A) → Is a → length (field a).bytes ≡ width
  pub short : (bytes : List ℕ) → length bytes < width → read bytes ≡ Err (Cut (length bytes))
  pub again : (a : A) (rest : List ℕ) → Is a → is_fit (field a) ≡ true → read ((field a).bytes ++ rest) ≡ Ok (a, rest)
  pub whole : (x rest : List ℕ) → length x ≡ width → IsBytes x → Whole Is field read x rest

data Seen {A : Type 0} (Is : A → Type 0) (field : A → Field) (width : ℕ) (read : List ℕ → Read A) (bytes : List ℕ) : Type 0 where
  is_short : length bytes < width → read bytes ≡ Err (Cut (length bytes)) → Seen Is field width read bytes
  is_fitting : (a : A) (rest : List ℕ) → Is a → is_fit (field a) ≡ true → bytes ≡ (field a).bytes ++ rest → read bytes ≡ Ok (a, rest) → Seen Is field width read bytes
  is_none : (x rest : List ℕ) → length x ≡ width → bytes ≡ x ++ rest → ((a : A) → Is a → (field a).bytes ≡ x → is_fit (field a) ≡ false) → read bytes ≡ Err (Broken (length bytes)) → Seen Is field width read bytes

-- the front of bytes is bytes
pub small_front : (n : ℕ) (bytes : List ℕ) → IsBytes bytes → IsBytes (take n bytes)
small_front zero bytes small i = omega arith
small_front (suc n) [] small i = omega arith
small_front (suc n) (byte ∷ bytes) small zero = small zero
small_front (suc n) (byte ∷ bytes) small (suc i) = small_front n bytes (λ k. small (suc k)) i

pub single : (field other : Field) (front back : List Field) → field ∷ [] ≡ front ++ other ∷ back → (front ≡ []) × (field ≡ other)
single field other [] back e = (refl, cc)
single field other (one ∷ front) back e = absurd (nothing_before front other back cc)

module _ {A : Type 0} (Is : A → Type 0) (field : A → Field) (width : ℕ) (read : List ℕ → Read A) (p : IsAtom Is field width read) where
  abbrev fields : A → List Field
  fields a = field a ∷ []

  see_whole : (x rest : List ℕ) → length x ≡ width → IsBytes x → Seen Is field width read (x ++ rest)
  see_whole x rest len small =
      elim (p.whole x rest len small) [
        | fits a is same fit ↦ is_fitting a rest is fit (ap (λ (w : List ℕ). w ++ rest) (sym same)) (ap (λ (w : List ℕ). read (w ++ rest)) (sym same) ∙ p.again a rest is fit)
        | none unfit e ↦ is_none x rest len refl unfit e
      ]

  see : (bytes : List ℕ) → IsBytes bytes → Seen Is field width read bytes
  see bytes small =
      elim (cases_lt (length bytes) width) [
        | inl lt ↦ is_short lt (p.short bytes lt)
        | inr le ↦ subst (Seen Is field width read) (take-append-drop width bytes) (see_whole (take width bytes) (drop width bytes) (omega (arith, length-take width bytes)) (small_front width bytes small))
      ]

  took : (bytes : List ℕ) (value : A) (rest : List ℕ) → IsBytes bytes → read bytes ≡ Ok (value, rest) → Took Is fields bytes value rest
  took bytes value rest small e =
      elim (see bytes small) [
        | is_short lt e1 ↦ absurd cc
        | is_fitting a left is fit parts ok ↦
            let both = same_read (read bytes) a value left rest ok e in
            let same : a ≡ value = both.0 in
            let behind : left ≡ rest = both.1 in
            let all : bytes ≡ (field value).bytes ++ rest = parts ∙ ap (λ (x : A). (field x).bytes ++ left) same ∙ ap (λ (w : List ℕ). (field value).bytes ++ w) behind in
            record {
              is = subst Is same is;
              fit = rw (subst (λ (x : A). is_fit (field x) ≡ true) same fit) refl;
              parts = all ∙ ap (λ (w : List ℕ). w ++ rest) (sym (append-nil (field value).bytes));
              small = small_rest (field value).bytes rest (subst IsBytes all small);
            }
        | is_none x left len parts unfit e1 ↦ absurd cc
      ]

  again : (value : A) (rest : List ℕ) → Is value → are_fit (fields value) ≡ true → read (bytes_of (fields value) ++ rest) ≡ Ok (value, rest)
  again value rest is fit = ap (λ (w : List ℕ). read (w ++ rest)) (append-nil (field value).bytes) ∙ p.again value rest is (both_true (is_fit (field value)) true fit).0

  apart : (a b : A) (more others : List Field) → Is a → Is b → are_fit (fields a) ≡ true → fields a ++ more ≡ fields b ++ others → a ≡ b
  apart a b more others isa isb fit e =
      let same : field a ≡ field b = cc in
      let fita = (both_true (is_fit (field a)) true fit).0 in
      let one = p.again a [] isa fita in
      let two = p.again b [] isb (subst (λ (f : Field). is_fit f ≡ true) same fita) in
      (same_read (read ((field a).bytes ++ [])) a b [] [] one (ap (λ (f : Field). read (f.bytes ++ [])) same ∙ two)).0

  cut : (bytes : List ℕ) (left : ℕ) → IsBytes bytes → read bytes ≡ Err (Cut left) → IsCut Is fields bytes left
  cut bytes left small e =
      elim (see bytes small) [
        | is_short lt e1 ↦ record { value = p.value; is = p.is; front = []; field = field p.value; rest = bytes; reaches = record { back = []; parts = refl; fit = refl; goes = refl }; short = omega (arith, p.wide p.value p.is); at = cc }
        | is_fitting a rest is fit parts ok ↦ absurd cc
        | is_none x rest len parts unfit e1 ↦ absurd cc
      ]

  broke : (bytes : List ℕ) (left : ℕ) → IsBytes bytes → read bytes ≡ Err (Broken left) → Breaks Is fields bytes left
  broke bytes left small e =
      elim (see bytes small) [
        | is_short lt e1 ↦ absurd cc
        | is_fitting a rest is fit parts ok ↦ absurd cc
        | is_none x rest len parts unfit e1 ↦
            let wide = p.wide p.value p.is in
            let taken : take (length (field p.value).bytes) bytes ≡ x = rw (wide, parts) (take_at x rest width len) in
            record {
              value = p.value;
              is = p.is;
              front = [];
              field = field p.value;
              rest = bytes;
              reaches = record { back = []; parts = refl; fit = refl; goes = refl };
              whole = omega (arith, wide, ap length parts, length-append x rest);
              at = cc;
              none = λ v other back isv parts same.
                  let one = (single (field v) other [] back parts).1 in
                  subst (λ (f : Field). is_fit f ≡ false) one (unfit v isv (ap (λ (f : Field). f.bytes) one ∙ same ∙ taken));
            }
      ]

  ends : (bytes : List ℕ) (left : ℕ) → IsBytes bytes → IsCut Is fields bytes left → read bytes ≡ Err (Cut left)
  ends bytes left small c =
      let one = single (field c.value) c.field c.front c.reaches.back c.reaches.parts in
      let goes : bytes ≡ c.rest = c.reaches.goes ∙ ap (λ (w : List Field). bytes_of w ++ c.rest) one.0 in
      p.short bytes (omega (arith, p.wide c.value c.is, ap (λ (f : Field). length f.bytes) one.1, c.short, ap length goes))
      ∙ ap (λ (n : ℕ). let read : Read A = Err (Cut n) in read) (ap length goes ∙ sym c.at)

  breaks : (bytes : List ℕ) (left : ℕ) → IsBytes bytes → Breaks Is fields bytes left → read bytes ≡ Err (Broken left)
  breaks bytes left small b =
      let one = single (field b.value) b.field b.front b.reaches.back b.reaches.parts in
      let goes : bytes ≡ b.rest = b.reaches.goes ∙ ap (λ (w : List Field). bytes_of w ++ b.rest) one.0 in
      let wide : length b.field.bytes ≡ width = ap (λ (f : Field). length f.bytes) (sym one.1) ∙ p.wide b.value b.is in
      elim (see bytes small) [
        | is_short lt e1 ↦ absurd (omega (arith, wide, b.whole, ap length goes))
        | is_fitting a rest is fit parts ok ↦
            let taken : take (length b.field.bytes) b.rest ≡ (field a).bytes = rw (wide, ← goes, parts) (take_at (field a).bytes rest width (p.wide a is)) in
            absurd (true≢false (sym fit ∙ b.none a (field a) [] is (ap (λ (w : List Field). w ++ field a ∷ []) (sym one.0)) (sym taken)))
        | is_none x rest len parts unfit e1 ↦ e1 ∙ ap (λ (n : ℕ). let read : Read A = Err (Broken n) in read) (ap length goes ∙ sym b.at)
      ]

pub atom : {A : Type 0} (Is : A → Type 0) (field : A → Field) (width : ℕ) (read : List ℕ → Read A) → IsAtom Is field width read → Exact Is (λ a. field a ∷ []) read
atom Is field width read p = record {
  took = took Is field width read p;
  again = again Is field width read p;
  apart = apart Is field width read p;
  cut = cut Is field width read p;
  broke = broke Is field width read p;
  ends = ends Is field width read p;
  breaks = breaks Is field width read p;
}

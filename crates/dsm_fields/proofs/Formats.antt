-- Exact readers of other values, and of lists.
use Rattle.std.proofs.Common.{replicate, ◌≡◌, ◌∙◌, ℕ, zero, suc, true, List, [], ◌∷◌, ◌++◌, length, Option, Some, None, Ok, refl, sym, ap, subst, arith}
use Rattle.std.proofs.lemmas.List.{append-nil, length-replicate}
use Rattle.dsm_fields.specs.Fields.{Field, number, are_fit, bytes_of, entries, numbered, AreNumbered, counted, Any, Reaches}
use Rattle.dsm_fields.specs.Reading.{Read, then_with, number_at, entries_at, numbered_at, counted_at}
use Rattle.dsm_fields.proofs.Exact.{Exact, done}
use Rattle.dsm_fields.proofs.Chain.{At, chain}

reach : {A : Type 0} (f g : A → List Field) (bytes : List ℕ) (value : A) (front : List Field) (field : Field) (left : List ℕ)
    → g value ≡ f value → Reaches f bytes value front field left → Reaches g bytes value front field left
reach f g bytes value front field left same r = record { back = r.back; parts = same ∙ r.parts; fit = r.fit; goes = r.goes }

-- the same values with the same fields, said otherwise
pub reworded : {A : Type 0} (Is Js : A → Type 0) (f g : A → List Field) (read : List ℕ → Read A)
    → ((a : A) → Is a → Js a) → ((a : A) → Js a → Is a) → ((a : A) → Js a → g a ≡ f a) → Exact Is f read → Exact Js g read
reworded {A} Is Js f g read to from same e = record {
  took = λ bytes value rest small r.
      let t = e.took bytes value rest small r in
      let is = to value t.is in
      record { is = is; fit = subst (λ (fs : List Field). are_fit fs ≡ true) (sym (same value is)) t.fit; parts = t.parts ∙ ap (λ (fs : List Field). bytes_of fs ++ rest) (sym (same value is)); small = t.small };
  again = λ value rest is fit.
      ap (λ (fs : List Field). read (bytes_of fs ++ rest)) (same value is) ∙ e.again value rest (from value is) (subst (λ (fs : List Field). are_fit fs ≡ true) (same value is) fit);
  apart = λ a b more others isa isb fit p.
      e.apart a b more others (from a isa) (from b isb) (subst (λ (fs : List Field). are_fit fs ≡ true) (same a isa) fit)
      (ap (λ (fs : List Field). fs ++ more) (sym (same a isa)) ∙ p ∙ ap (λ (fs : List Field). fs ++ others) (same b isb));
  cut = λ bytes left small r.
      let c = e.cut bytes left small r in
      let is = to c.value c.is in
      record { value = c.value; is = is; front = c.front; field = c.field; rest = c.rest; reaches = reach f g bytes c.value c.front c.field c.rest (same c.value is) c.reaches; short = c.short; at = c.at };
  broke = λ bytes left small r.
      let b = e.broke bytes left small r in
      let is = to b.value b.is in
      record {
        value = b.value;
        is = is;
        front = b.front;
        field = b.field;
        rest = b.rest;
        reaches = reach f g bytes b.value b.front b.field b.rest (same b.value is) b.reaches;
        whole = b.whole;
        at = b.at;
        none = λ v other back isv parts bs. b.none v other back (from v isv) (sym (same v isv) ∙ parts) bs;
      };
  ends = λ bytes left small c.
      e.ends bytes left small (record { value = c.value; is = from c.value c.is; front = c.front; field = c.field; rest = c.rest; reaches = reach g f bytes c.value c.front c.field c.rest (sym (same c.value c.is)) c.reaches; short = c.short; at = c.at });
  breaks = λ bytes left small b.
      e.breaks bytes left small (record {
        value = b.value;
        is = from b.value b.is;
        front = b.front;
        field = b.field;
        rest = b.rest;
        reaches = reach g f bytes b.value b.front b.field b.rest (sym (same b.value b.is)) b.reaches;
        whole = b.whole;
        at = b.at;
        none = λ v other back isv parts bs. let js = to v isv in b.none v other back js (same v js ∙ parts) bs;
      });
}

-- a value with its part, read by its part alone
pub of_part : {A Z : Type 0} (IsA : A → Type 0) (fa : A → List Field) (ra : List ℕ → Read A) (Is : Z → Type 0) (from : Z → A) (make : A → Z)
    → Exact IsA fa ra → ((a : A) → IsA a → Is (make a)) → ((a : A) → from (make a) ≡ a) → ((z : Z) → Is z → IsA (from z)) → ((z : Z) → Is z → z ≡ make (from z))
    → Exact Is (λ z. fa (from z)) (λ bytes. then_with (ra bytes) (λ a rest. Ok (make a, rest)))
of_part {A} {Z} IsA fa ra Is from make ea made back isa one =
    reworded Is Is (λ z. fa (from z) ++ []) (λ z. fa (from z)) (λ bytes. then_with (ra bytes) (λ a rest. Ok (make a, rest)))
    (λ z is. is) (λ z is. is) (λ z is. sym (append-nil (fa (from z))))
    (chain IsA fa ra Is from (λ _. []) (λ a rest. Ok (make a, rest)) ea
    (λ a is fit. done (At Is from a) (make a) (record { is = made a is; same = back a }) (λ other at. one other at.is ∙ ap make at.same))
    (λ a is. (make a, record { is = made a is; same = back a }))
    isa)

-- ---- lists

abbrev pub Has : {A : Type 0} → ℕ → List A → Type 0
Has count items = length items ≡ count

abbrev head_or : {A : Type 0} → A → List A → A
head_or default [] = default
head_or default (item ∷ items) = item

abbrev tail_fields : {A : Type 0} → (Option A → A → List Field) → List A → List Field
tail_fields fields [] = []
tail_fields fields (item ∷ items) = entries fields (Some item) items

abbrev read_items : {A : Type 0} → (Option A → List ℕ → Read A) → ℕ → A → List ℕ → Read (List A)
read_items item_at count item bytes = then_with (entries_at item_at (Some item) count bytes) (λ items rest. Ok (item ∷ items, rest))

abbrev tail_of : {A : Type 0} → List A → List A
tail_of [] = []
tail_of (item ∷ items) = items

no_items : {A : Type 0} (items : List A) → Has 0 items → items ≡ []
no_items [] len = refl
no_items (item ∷ items) len = absurd (omega (arith, len))

-- the list made of its head and the rest
tail_read : {A : Type 0} (default : A) (fields : Option A → A → List Field) (item_at : Option A → List ℕ → Read A) (count : ℕ) (item : A)
    → Exact (Has count) (entries fields (Some item)) (entries_at item_at (Some item) count)
    → Exact (At (Has (suc count)) (head_or default) item) (tail_fields fields) (read_items item_at count item)
tail_read {A} default fields item_at count item e =
    reworded (At (Has (suc count)) (head_or default) item) (At (Has (suc count)) (head_or default) item) (λ z. entries fields (Some item) (tail_of z)) (tail_fields fields) (read_items item_at count item)
    (λ z at. at) (λ z at. at) same
    (of_part (Has count) (entries fields (Some item)) (entries_at item_at (Some item) count) (At (Has (suc count)) (head_or default) item) tail_of (λ items. item ∷ items) e
    (λ items len. record { is = ap suc len; same = refl }) (λ items. refl) shorter whole)
  where
    shorter : (z : List A) → At (Has (suc count)) (head_or default) item z → Has count (tail_of z)
    shorter [] at = absurd (omega (arith, at.is))
    shorter (first ∷ items) at = let len = at.is in omega (arith, len)

    whole : (z : List A) → At (Has (suc count)) (head_or default) item z → z ≡ item ∷ tail_of z
    whole [] at = absurd (omega (arith, at.is))
    whole (first ∷ items) at = ap (λ (x : A). x ∷ items) at.same

    same : (z : List A) → At (Has (suc count)) (head_or default) item z → tail_fields fields z ≡ entries fields (Some item) (tail_of z)
    same [] at = absurd (omega (arith, at.is))
    same (first ∷ items) at = ap (λ (x : A). entries fields (Some x) items) at.same

pub listed : {A : Type 0} (default : A) (fields : Option A → A → List Field) (item_at : Option A → List ℕ → Read A)
    → ((last : Option A) → Exact Any (fields last) (item_at last))
    → (count : ℕ) (last : Option A) → Exact (Has count) (entries fields last) (entries_at item_at last count)
unfolding entries_at
listed {A} default fields item_at each zero last =
    reworded (Has 0) (Has 0) (λ _. []) (entries fields last) (λ bytes. Ok ([], bytes)) (λ a is. is) (λ a is. is)
    (λ items len. ap (entries fields last) (no_items items len))
    (done (Has 0) [] refl no_items)
listed {A} default fields item_at each (suc count) last =
    let more = listed default fields item_at each count in
    reworded (Has (suc count)) (Has (suc count)) (λ z. fields last (head_or default z) ++ tail_fields fields z) (entries fields last) (λ bytes. then_with (item_at last bytes) (read_items item_at count))
    (λ a is. is) (λ a is. is) (parts last)
    (chain Any (fields last) (item_at last) (Has (suc count)) (head_or default) (tail_fields fields) (read_items item_at count) (each last)
    (λ item is fit. tail_read default fields item_at count item (more (Some item)))
    (λ item is. (item ∷ replicate count item, record { is = ap suc (length-replicate count item); same = refl }))
    (λ z is. tt))
  where
    parts : (last : Option A) (z : List A) → Has (suc count) z → entries fields last z ≡ fields last (head_or default z) ++ tail_fields fields z
    parts last [] len = absurd (omega (arith, len))
    parts last (item ∷ items) len = refl

pub counted_list : {A : Type 0} (default : A) (fields : Option A → A → List Field) (item_at : Option A → List ℕ → Read A)
    → Exact Any (λ n. number 4 n true ∷ []) (number_at 4)
    → ((last : Option A) → Exact Any (fields last) (item_at last)) → Exact Any (counted fields) (counted_at item_at)
unfolding counted_at
counted_list {A} default fields item_at count_exact each =
    chain Any (λ n. number 4 n true ∷ []) (number_at 4) Any length (entries fields None) (λ count bytes. entries_at item_at None count bytes) count_exact
    (λ count is fit. reworded (Has count) (At Any length count) (entries fields None) (entries fields None) (entries_at item_at None count)
    (λ a len. record { is = tt; same = len }) (λ a at. at.same) (λ a at. refl) (listed default fields item_at each count None))
    (λ count is. (replicate count default, record { is = tt; same = length-replicate count default }))
    (λ z is. tt)

-- ---- lists of entries that are numbered

abbrev numbered_tail : {A : Type 0} → (ℕ → Option A → A → List Field) → ℕ → List A → List Field
numbered_tail fields at [] = []
numbered_tail fields at (item ∷ items) = numbered fields (suc at) (Some item) items

abbrev read_numbered : {A : Type 0} → (ℕ → Option A → List ℕ → Read A) → ℕ → ℕ → A → List ℕ → Read (List A)
read_numbered item_at count at item bytes = then_with (numbered_at item_at (suc at) (Some item) count bytes) (λ items rest. Ok (item ∷ items, rest))

-- one value for each number
abbrev defaults : {A : Type 0} → (ℕ → A) → ℕ → ℕ → List A
defaults default at zero = []
defaults default at (suc count) = default at ∷ defaults default (suc at) count

are_defaults : {A : Type 0} (default : ℕ → A) (Is : ℕ → A → Type 0) → ((at : ℕ) → Is at (default at)) → (count at : ℕ) → AreNumbered Is at count (defaults default at count)
are_defaults default Is each zero at = tt
are_defaults default Is each (suc count) at = (each at, are_defaults default Is each count (suc at))

none_numbered : {A : Type 0} (Is : ℕ → A → Type 0) (at : ℕ) (items : List A) → AreNumbered Is at 0 items → items ≡ []
none_numbered Is at [] are = refl
none_numbered Is at (item ∷ items) are = absurd are

numbered_tail_read : {A : Type 0} (default : A) (Is : ℕ → A → Type 0) (fields : ℕ → Option A → A → List Field) (item_at : ℕ → Option A → List ℕ → Read A) (count at : ℕ) (item : A) → Is at item
    → Exact (AreNumbered Is (suc at) count) (numbered fields (suc at) (Some item)) (numbered_at item_at (suc at) (Some item) count)
    → Exact (At (AreNumbered Is at (suc count)) (head_or default) item) (numbered_tail fields at) (read_numbered item_at count at item)
numbered_tail_read {A} default Is fields item_at count at item is e =
    reworded (At (AreNumbered Is at (suc count)) (head_or default) item) (At (AreNumbered Is at (suc count)) (head_or default) item) (λ z. numbered fields (suc at) (Some item) (tail_of z)) (numbered_tail fields at) (read_numbered item_at count at item)
    (λ z known. known) (λ z known. known) same
    (of_part (AreNumbered Is (suc at) count) (numbered fields (suc at) (Some item)) (numbered_at item_at (suc at) (Some item) count) (At (AreNumbered Is at (suc count)) (head_or default) item) tail_of (λ items. item ∷ items) e
    (λ items are. record { is = (is, are); same = refl }) (λ items. refl) shorter whole)
  where
    shorter : (z : List A) → At (AreNumbered Is at (suc count)) (head_or default) item z → AreNumbered Is (suc at) count (tail_of z)
    shorter [] known = absurd known.is
    shorter (first ∷ items) known = known.is.1

    whole : (z : List A) → At (AreNumbered Is at (suc count)) (head_or default) item z → z ≡ item ∷ tail_of z
    whole [] known = absurd known.is
    whole (first ∷ items) known = ap (λ (x : A). x ∷ items) known.same

    same : (z : List A) → At (AreNumbered Is at (suc count)) (head_or default) item z → numbered_tail fields at z ≡ numbered fields (suc at) (Some item) (tail_of z)
    same [] known = absurd known.is
    same (first ∷ items) known = ap (λ (x : A). numbered fields (suc at) (Some x) items) known.same

pub numbered_exact : {A : Type 0} (default : ℕ → A) (Is : ℕ → A → Type 0) (fields : ℕ → Option A → A → List Field) (item_at : ℕ → Option A → List ℕ → Read A)
    → ((at : ℕ) → Is at (default at)) → ((at : ℕ) (last : Option A) → Exact (Is at) (fields at last) (item_at at last))
    → (count at : ℕ) (last : Option A) → Exact (AreNumbered Is at count) (numbered fields at last) (numbered_at item_at at last count)
unfolding numbered_at
numbered_exact {A} default Is fields item_at some each zero at last =
    reworded (AreNumbered Is at 0) (AreNumbered Is at 0) (λ _. []) (numbered fields at last) (λ bytes. Ok ([], bytes)) (λ a is. is) (λ a is. is)
    (λ items are. ap (numbered fields at last) (none_numbered Is at items are))
    (done (AreNumbered Is at 0) [] tt (none_numbered Is at))
numbered_exact {A} default Is fields item_at some each (suc count) at last =
    let more = numbered_exact default Is fields item_at some each count (suc at) in
    reworded (AreNumbered Is at (suc count)) (AreNumbered Is at (suc count)) (λ z. fields at last (head_or (default at) z) ++ numbered_tail fields at z) (numbered fields at last) (λ bytes. then_with (item_at at last bytes) (read_numbered item_at count at))
    (λ a is. is) (λ a is. is) parts
    (chain (Is at) (fields at last) (item_at at last) (AreNumbered Is at (suc count)) (head_or (default at)) (numbered_tail fields at) (read_numbered item_at count at) (each at last)
    (λ item is fit. numbered_tail_read (default at) Is fields item_at count at item is (more (Some item)))
    (λ item is. (item ∷ defaults default (suc at) count, record { is = (is, are_defaults default Is some count (suc at)); same = refl }))
    first_is)
  where
    parts : (z : List A) → AreNumbered Is at (suc count) z → numbered fields at last z ≡ fields at last (head_or (default at) z) ++ numbered_tail fields at z
    parts [] are = absurd are
    parts (item ∷ items) are = refl

    first_is : (z : List A) → AreNumbered Is at (suc count) z → Is at (head_or (default at) z)
    first_is [] are = absurd are
    first_is (item ∷ items) are = are.0

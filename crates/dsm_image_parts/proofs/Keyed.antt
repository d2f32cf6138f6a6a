-- One entry for each of some keys: the reader is exact where that of an entry is; loops over such entries.
use Rattle.std.proofs.Common.{◌≡◌, ◌∙◌, ℕ, suc, ◌+◌, ◌<◌, ◌≤◌, List, [], ◌∷◌, ◌++◌, length, get_or, drop, map, Option, Some, Ok, Err, refl, sym, ap, append_assoc, arith}
use Rattle.std.specs.List.{AllZip}
use Rattle.std.proofs.lemmas.List.{append-nil, drop_more, drop_all}
use Rattle.dsm_fields.specs.declared.error.FieldErr.{FieldErr}
use Rattle.dsm_fields.specs.declared.error.FieldErr.TheVariants as errors
use Rattle.dsm_fields.specs.Fields.{Field, numbered}
use Rattle.dsm_fields.specs.Reading.{Cut, Broken, Read, then_with, Fails}
use Rattle.dsm_fields.proofs.Exact.{Exact, done}
use Rattle.dsm_fields.proofs.Chain.{At, chain}
use Rattle.dsm_fields.proofs.Formats.{reworded, of_part}
use Rattle.dsm_fields.proofs.Loops.{last_of, last_pushed, with_front}
use Rattle.dsm_image_parts.specs.Keys.{each_at}

-- ---- exact

-- some values, which are right
pub are_defaults : {K A : Type 0} (default : K → A) (Is : K → A → Type 0) → ((key : K) → Is key (default key)) → (keys : List K) → AllZip Is keys (map default keys)
are_defaults default Is some [] = tt
are_defaults default Is some (key ∷ keys) = (some key, are_defaults default Is some keys)

none_left : {K A : Type 0} (Is : K → A → Type 0) (items : List A) → AllZip Is [] items → items ≡ []
none_left Is [] are = refl
none_left Is (item ∷ items) are = absurd are

abbrev head_or : {A : Type 0} → A → List A → A
head_or default [] = default
head_or default (item ∷ items) = item

abbrev tail_of : {A : Type 0} → List A → List A
tail_of [] = []
tail_of (item ∷ items) = items

abbrev tail_fields : {A : Type 0} → (ℕ → Option A → A → List Field) → ℕ → List A → List Field
tail_fields fields at [] = []
tail_fields fields at (item ∷ items) = numbered fields (suc at) (Some item) items

abbrev read_items : {K A : Type 0} → (K → Option A → List ℕ → Read A) → List K → A → List ℕ → Read (List A)
read_items item_at keys item bytes = then_with (each_at item_at (Some item) keys bytes) (λ items rest. Ok (item ∷ items, rest))

tail_read : {K A : Type 0} (default : A) (Is : K → A → Type 0) (fields : ℕ → Option A → A → List Field) (item_at : K → Option A → List ℕ → Read A) (key : K) (keys : List K) (at : ℕ) (item : A) → Is key item
    → Exact (AllZip Is keys) (numbered fields (suc at) (Some item)) (each_at item_at (Some item) keys)
    → Exact (At (AllZip Is (key ∷ keys)) (head_or default) item) (tail_fields fields at) (read_items item_at keys item)
tail_read {K} {A} default Is fields item_at key keys at item is e =
    reworded (At (AllZip Is (key ∷ keys)) (head_or default) item) (At (AllZip Is (key ∷ keys)) (head_or default) item) (λ z. numbered fields (suc at) (Some item) (tail_of z)) (tail_fields fields at) (read_items item_at keys item)
    (λ z known. known) (λ z known. known) same
    (of_part (AllZip Is keys) (numbered fields (suc at) (Some item)) (each_at item_at (Some item) keys) (At (AllZip Is (key ∷ keys)) (head_or default) item) tail_of (λ items. item ∷ items) e
    (λ items are. record { is = (is, are); same = refl }) (λ items. refl) shorter whole)
  where
    shorter : (z : List A) → At (AllZip Is (key ∷ keys)) (head_or default) item z → AllZip Is keys (tail_of z)
    shorter [] known = absurd known.is
    shorter (first ∷ items) known = known.is.1

    whole : (z : List A) → At (AllZip Is (key ∷ keys)) (head_or default) item z → z ≡ item ∷ tail_of z
    whole [] known = absurd known.is
    whole (first ∷ items) known = ap (λ (x : A). x ∷ items) known.same

    same : (z : List A) → At (AllZip Is (key ∷ keys)) (head_or default) item z → tail_fields fields at z ≡ numbered fields (suc at) (Some item) (tail_of z)
    same [] known = absurd known.is
    same (first ∷ items) known = ap (λ (x : A). numbered fields (suc at) (Some x) items) known.same

pub each_exact : {K A : Type 0} (default : K → A) (Is : K → A → Type 0) (fields : ℕ → Option A → A → List Field) (item_at : K → Option A → List ℕ → Read A)
    → ((key : K) → Is key (default key)) → ((key : K) (at : ℕ) (last : Option A) → Exact (Is key) (fields at last) (item_at key last))
    → (keys : List K) (at : ℕ) (last : Option A) → Exact (AllZip Is keys) (numbered fields at last) (each_at item_at last keys)
unfolding each_at
each_exact {K} {A} default Is fields item_at some each [] at last =
    reworded (AllZip Is []) (AllZip Is []) (λ _. []) (numbered fields at last) (λ bytes. Ok ([], bytes)) (λ a is. is) (λ a is. is)
    (λ items are. ap (numbered fields at last) (none_left Is items are))
    (done (AllZip Is []) [] tt (none_left Is))
each_exact {K} {A} default Is fields item_at some each (key ∷ keys) at last =
    let more = each_exact default Is fields item_at some each keys (suc at) in
    reworded (AllZip Is (key ∷ keys)) (AllZip Is (key ∷ keys)) (λ z. fields at last (head_or (default key) z) ++ tail_fields fields at z) (numbered fields at last) (λ bytes. then_with (item_at key last bytes) (read_items item_at keys))
    (λ a is. is) (λ a is. is) parts
    (chain (Is key) (fields at last) (item_at key last) (AllZip Is (key ∷ keys)) (head_or (default key)) (tail_fields fields at) (read_items item_at keys) (each key at last)
    (λ item is fit. tail_read (default key) Is fields item_at key keys at item is (more (Some item)))
    (λ item is. (item ∷ map default keys, record { is = (is, are_defaults default Is some keys); same = refl }))
    first_is)
  where
    parts : (z : List A) → AllZip Is (key ∷ keys) z → numbered fields at last z ≡ fields at last (head_or (default key) z) ++ tail_fields fields at z
    parts [] are = absurd are
    parts (item ∷ items) are = refl

    first_is : (z : List A) → AllZip Is (key ∷ keys) z → Is key (head_or (default key) z)
    first_is [] are = absurd are
    first_is (item ∷ items) are = are.0

-- ---- loops

abbrev made : {A : Type 0} → List A → List ℕ → Read (List A)
made items bytes = Ok (items, bytes)

regroup : {A : Type 0} (front : List A) (item : A) (read : Read (List A)) →
    with_front front (then_with read (λ items bytes. made (item ∷ items) bytes)) ≡ with_front (front ++ item ∷ []) read
regroup front item (Ok x) = ap (λ items. made items x.1) (sym (append_assoc front (item ∷ []) x.0))
regroup front item (Err fault) = refl

pub each_goes_on : {K A : Type 0} (item_at : K → Option A → List ℕ → Read A) (front : List A) (keys : List K) (i : ℕ) (key : K) (bytes after : List ℕ) (item : A) (total : Read (List A))
    → i < length keys → key ≡ get_or keys i key → item_at key (last_of front) bytes ≡ Ok (item, after)
    → with_front front (each_at item_at (last_of front) (drop i keys) bytes) ≡ total
    → with_front (front ++ item ∷ []) (each_at item_at (last_of (front ++ item ∷ [])) (drop (i + 1) keys) after) ≡ total
unfolding each_at
each_goes_on {K} item_at front keys i key bytes after item total lt is read so_far =
    let left : drop i keys ≡ key ∷ drop (i + 1) keys = drop_more keys i key lt ∙ ap (λ (k : K). k ∷ drop (i + 1) keys) (sym is) in
    let one : with_front front (each_at item_at (last_of front) (drop i keys) bytes) ≡ with_front (front ++ item ∷ []) (each_at item_at (Some item) (drop (i + 1) keys) after) =
    rw (left, read) (regroup front item (each_at item_at (Some item) (drop (i + 1) keys) after)) in
    rw (last_pushed front item) (sym one ∙ so_far)

pub each_fails : {K A : Type 0} (e : FieldErr) (item_at : K → Option A → List ℕ → Read A) (front : List A) (keys : List K) (i : ℕ) (key : K) (bytes : List ℕ) (total : Read (List A))
    → i < length keys → key ≡ get_or keys i key → Fails e (item_at key (last_of front) bytes)
    → with_front front (each_at item_at (last_of front) (drop i keys) bytes) ≡ total → Fails e total
unfolding each_at
each_fails errors.Memory item_at front keys i key bytes total lt is read so_far = tt
each_fails {K} (errors.Short left) item_at front keys i key bytes total lt is read so_far =
    let rest : drop i keys ≡ key ∷ drop (i + 1) keys = drop_more keys i key lt ∙ ap (λ (k : K). k ∷ drop (i + 1) keys) (sym is) in
    let one : with_front front (each_at item_at (last_of front) (drop i keys) bytes) ≡ Err (Cut left) = rw (rest, read) refl in
    sym so_far ∙ one
each_fails {K} (errors.Broken left) item_at front keys i key bytes total lt is read so_far =
    let rest : drop i keys ≡ key ∷ drop (i + 1) keys = drop_more keys i key lt ∙ ap (λ (k : K). k ∷ drop (i + 1) keys) (sym is) in
    let one : with_front front (each_at item_at (last_of front) (drop i keys) bytes) ≡ Err (Broken left) = rw (rest, read) refl in
    sym so_far ∙ one

pub each_done : {K A : Type 0} (item_at : K → Option A → List ℕ → Read A) (front : List A) (last : Option A) (keys : List K) (i : ℕ) (bytes : List ℕ) (total : Read (List A))
    → length keys ≤ i → with_front front (each_at item_at last (drop i keys) bytes) ≡ total → total ≡ Ok (front, bytes)
unfolding each_at
each_done item_at front last keys i bytes total le so_far =
    let none : drop i keys ≡ [] = drop_all i keys le in
    let one : with_front front (each_at item_at last (drop i keys) bytes) ≡ Ok (front, bytes) = rw none (ap (λ items. made items bytes) (append-nil front)) in
    sym so_far ∙ one

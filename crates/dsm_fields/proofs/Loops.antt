-- A loop over entries: what was read so far stands in front of what reading the rest gives.
use Rattle.std.proofs.Common.{◌≡◌, ◌∙◌, ℕ, suc, ◌+◌, ◌-◌, ◌<◌, ◌≤◌, List, [], ◌∷◌, ◌++◌, length, Option, Some, Ok, Err, refl, sym, ap, append_assoc, arith}
use Rattle.std.specs.Prelude.{slice_get}
use Rattle.std.proofs.lemmas.List.{append-nil, length-append}
use Rattle.std.proofs.lemmas.List.Folds.{list_all-append}
use Rattle.dsm_fields.specs.declared.error.FieldErr.{FieldErr}
use Rattle.dsm_fields.specs.declared.error.FieldErr.TheVariants as errors
use Rattle.dsm_fields.specs.Fields.{Field, bytes_of, entries, numbered, Appends}
use Rattle.dsm_fields.specs.Reading.{Cut, Broken, Read, then_with, Fails, entries_at, numbered_at}

-- the last of a list
abbrev pub last_of : {A : Type 0} → List A → Option A
last_of items = slice_get items (length items - 1)

at_end : {A : Type 0} (front : List A) (item : A) → slice_get (front ++ item ∷ []) (length front) ≡ Some item
at_end [] item = refl
at_end (first ∷ front) item = at_end front item

pub last_pushed : {A : Type 0} (front : List A) (item : A) → last_of (front ++ item ∷ []) ≡ Some item
last_pushed front item =
    let place : length (front ++ item ∷ []) - 1 ≡ length front = omega (arith, length-append front (item ∷ [])) in
    rw place (at_end front item)

abbrev pub with_front : {A : Type 0} → List A → Read (List A) → Read (List A)
with_front front read = then_with read (λ items bytes. Ok (front ++ items, bytes))

abbrev made : {A : Type 0} → List A → List ℕ → Read (List A)
made items bytes = Ok (items, bytes)

regroup : {A : Type 0} (front : List A) (item : A) (read : Read (List A)) →
    with_front front (then_with read (λ items bytes. made (item ∷ items) bytes)) ≡ with_front (front ++ item ∷ []) read
regroup front item (Ok x) = ap (λ items. made items x.1) (sym (append_assoc front (item ∷ []) x.0))
regroup front item (Err fault) = refl

pub goes_on : {A : Type 0} (item_at : Option A → List ℕ → Read A) (front : List A) (count i : ℕ) (bytes after : List ℕ) (item : A) (total : Read (List A))
    → i < count → item_at (last_of front) bytes ≡ Ok (item, after)
    → with_front front (entries_at item_at (last_of front) (count - i) bytes) ≡ total
    → with_front (front ++ item ∷ []) (entries_at item_at (last_of (front ++ item ∷ [])) (count - (i + 1)) after) ≡ total
unfolding entries_at
goes_on item_at front count i bytes after item total lt read so_far =
    let k : count - i ≡ suc (count - (i + 1)) = omega arith in
    let one : with_front front (entries_at item_at (last_of front) (count - i) bytes) ≡ with_front (front ++ item ∷ []) (entries_at item_at (Some item) (count - (i + 1)) after) =
    rw (k, read) (regroup front item (entries_at item_at (Some item) (count - (i + 1)) after)) in
    rw (last_pushed front item) (sym one ∙ so_far)

pub fails : {A : Type 0} (e : FieldErr) (item_at : Option A → List ℕ → Read A) (front : List A) (count i : ℕ) (bytes : List ℕ) (total : Read (List A))
    → i < count → Fails e (item_at (last_of front) bytes)
    → with_front front (entries_at item_at (last_of front) (count - i) bytes) ≡ total → Fails e total
unfolding entries_at
fails errors.Memory item_at front count i bytes total lt read so_far = tt
fails (errors.Short left) item_at front count i bytes total lt read so_far =
    let k : count - i ≡ suc (count - (i + 1)) = omega arith in
    let one : with_front front (entries_at item_at (last_of front) (count - i) bytes) ≡ Err (Cut left) = rw (k, read) refl in
    sym so_far ∙ one
fails (errors.Broken left) item_at front count i bytes total lt read so_far =
    let k : count - i ≡ suc (count - (i + 1)) = omega arith in
    let one : with_front front (entries_at item_at (last_of front) (count - i) bytes) ≡ Err (Broken left) = rw (k, read) refl in
    sym so_far ∙ one

pub is_done : {A : Type 0} (item_at : Option A → List ℕ → Read A) (front : List A) (last : Option A) (count i : ℕ) (bytes : List ℕ) (total : Read (List A))
    → count ≤ i → with_front front (entries_at item_at last (count - i) bytes) ≡ total → total ≡ Ok (front, bytes)
unfolding entries_at
is_done item_at front last count i bytes total le so_far =
    let k : count - i ≡ 0 = omega arith in
    let one : with_front front (entries_at item_at last (count - i) bytes) ≡ Ok (front, bytes) = rw k (ap (λ items. made items bytes) (append-nil front)) in
    sym so_far ∙ one

-- the entry behind which the next one stands
abbrev pub after : {A : Type 0} → Option A → List A → Option A
after last [] = last
after last (item ∷ items) = after (Some item) items

pub entries_push : {A : Type 0} (fields : Option A → A → List Field) (last : Option A) (items : List A) (item : A)
    → entries fields last (items ++ item ∷ []) ≡ entries fields last items ++ fields (after last items) item
entries_push fields last [] item = append-nil (fields last item)
entries_push fields last (first ∷ items) item =
    ap (λ (rest : List Field). fields last first ++ rest) (entries_push fields (Some first) items item)
    ∙ sym (append_assoc (fields last first) (entries fields (Some first) items) (fields (after (Some first) items) item))

pub bytes_append : (front back : List Field) → bytes_of (front ++ back) ≡ bytes_of front ++ bytes_of back
bytes_append [] back = refl
bytes_append (field ∷ front) back = ap (λ (rest : List ℕ). field.bytes ++ rest) (bytes_append front back) ∙ sym (append_assoc field.bytes (bytes_of front) (bytes_of back))

pub appends_then : (front back : List Field) (old mid new : List ℕ) → Appends front old mid → Appends back mid new → Appends (front ++ back) old new
appends_then front back old mid new one two = record {
  bytes = two.bytes ∙ ap (λ (w : List ℕ). w ++ bytes_of back) one.bytes ∙ append_assoc old (bytes_of front) (bytes_of back) ∙ ap (λ (w : List ℕ). old ++ w) (sym (bytes_append front back));
  held = rw (list_all-append) (rw (one.held, two.held) refl);
}

pub appends_more : {A : Type 0} (fields : Option A → A → List Field) (items : List A) (item : A) (old mid new : List ℕ)
    → ((last : Option A) → Appends (entries fields last items) old mid) → ((last : Option A) → Appends (fields last item) mid new)
    → (last : Option A) → Appends (entries fields last (items ++ item ∷ [])) old new
appends_more fields items item old mid new one two last =
    rw (entries_push fields last items item) (appends_then (entries fields last items) (fields (after last items) item) old mid new (one last) (two (after last items)))

-- ---- entries that are numbered

pub numbered_goes_on : {A : Type 0} (item_at : ℕ → Option A → List ℕ → Read A) (front : List A) (count i : ℕ) (bytes after : List ℕ) (item : A) (total : Read (List A))
    → i < count → item_at i (last_of front) bytes ≡ Ok (item, after)
    → with_front front (numbered_at item_at i (last_of front) (count - i) bytes) ≡ total
    → with_front (front ++ item ∷ []) (numbered_at item_at (i + 1) (last_of (front ++ item ∷ [])) (count - (i + 1)) after) ≡ total
unfolding numbered_at
numbered_goes_on item_at front count i bytes after item total lt read so_far =
    let k : count - i ≡ suc (count - (i + 1)) = omega arith in
    let next : i + 1 ≡ suc i = omega arith in
    let one : with_front front (numbered_at item_at i (last_of front) (count - i) bytes) ≡ with_front (front ++ item ∷ []) (numbered_at item_at (suc i) (Some item) (count - (i + 1)) after) =
    rw (k, read) (regroup front item (numbered_at item_at (suc i) (Some item) (count - (i + 1)) after)) in
    rw (last_pushed front item) (ap (λ (n : ℕ). with_front (front ++ item ∷ []) (numbered_at item_at n (Some item) (count - (i + 1)) after)) next ∙ sym one ∙ so_far)

pub numbered_fails : {A : Type 0} (e : FieldErr) (item_at : ℕ → Option A → List ℕ → Read A) (front : List A) (count i : ℕ) (bytes : List ℕ) (total : Read (List A))
    → i < count → Fails e (item_at i (last_of front) bytes)
    → with_front front (numbered_at item_at i (last_of front) (count - i) bytes) ≡ total → Fails e total
unfolding numbered_at
numbered_fails errors.Memory item_at front count i bytes total lt read so_far = tt
numbered_fails (errors.Short left) item_at front count i bytes total lt read so_far =
    let k : count - i ≡ suc (count - (i + 1)) = omega arith in
    let one : with_front front (numbered_at item_at i (last_of front) (count - i) bytes) ≡ Err (Cut left) = rw (k, read) refl in
    sym so_far ∙ one
numbered_fails (errors.Broken left) item_at front count i bytes total lt read so_far =
    let k : count - i ≡ suc (count - (i + 1)) = omega arith in
    let one : with_front front (numbered_at item_at i (last_of front) (count - i) bytes) ≡ Err (Broken left) = rw (k, read) refl in
    sym so_far ∙ one

pub numbered_done : {A : Type 0} (item_at : ℕ → Option A → List ℕ → Read A) (front : List A) (last : Option A) (count i : ℕ) (bytes : List ℕ) (total : Read (List A))
    → count ≤ i → with_front front (numbered_at item_at i last (count - i) bytes) ≡ total → total ≡ Ok (front, bytes)
unfolding numbered_at
numbered_done item_at front last count i bytes total le so_far =
    let k : count - i ≡ 0 = omega arith in
    let one : with_front front (numbered_at item_at i last (count - i) bytes) ≡ Ok (front, bytes) = rw k (ap (λ items. made items bytes) (append-nil front)) in
    sym so_far ∙ one

pub numbered_push : {A : Type 0} (fields : ℕ → Option A → A → List Field) (at : ℕ) (last : Option A) (items : List A) (item : A)
    → numbered fields at last (items ++ item ∷ []) ≡ numbered fields at last items ++ fields (at + length items) (after last items) item
numbered_push fields at last [] item = append-nil (fields at last item) ∙ ap (λ (n : ℕ). fields n last item) (omega arith)
numbered_push fields at last (first ∷ items) item =
    let place : suc at + length items ≡ at + suc (length items) = omega arith in
    ap (λ (rest : List Field). fields at last first ++ rest) (numbered_push fields (suc at) (Some first) items item)
    ∙ sym (append_assoc (fields at last first) (numbered fields (suc at) (Some first) items) (fields (suc at + length items) (after (Some first) items) item))
    ∙ ap (λ (n : ℕ). (fields at last first ++ numbered fields (suc at) (Some first) items) ++ fields n (after (Some first) items) item) place

pub numbered_more : {A : Type 0} (fields : ℕ → Option A → A → List Field) (items : List A) (item : A) (old mid new : List ℕ)
    → ((at : ℕ) (last : Option A) → Appends (numbered fields at last items) old mid) → ((at : ℕ) (last : Option A) → Appends (fields at last item) mid new)
    → (at : ℕ) (last : Option A) → Appends (numbered fields at last (items ++ item ∷ [])) old new
numbered_more fields items item old mid new one two at last =
    rw (numbered_push fields at last items item) (appends_then (numbered fields at last items) (fields (at + length items) (after last items) item) old mid new (one at last) (two (at + length items) (after last items)))

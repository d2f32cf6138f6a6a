-- Entries that are read key by key.
use Rattle.std.proofs.Common.{◌≡◌, ◌∙◌, ℕ, ◌+◌, ◌<◌, List, [], ◌∷◌, ◌++◌, Option, Some, None, length, get_or, take, drop, refl, sym, ap, append_assoc, take-append-drop}
use Rattle.std.specs.Option.{option_or, option_copied}
use Rattle.std.proofs.lemmas.Bool.{false≢true}
use Rattle.std.proofs.lemmas.List.{take_more, get_or_default}
use Rattle.std.proofs.lemmas.List.Elements.{filter-append}
use Rattle.std.specs.Prelude.{nat_lt, is_some, true, false}
use Rattle.std.proofs.Common.{Bor}
use Rattle.slab.specs.Slab.{Slab, get}
use Rattle.dsm_segments.specs.declared.segment.Segment.{Segment}
use Rattle.dsm_segments.specs.Entries.{joined, latest, newest, over}
use Rattle.dsm_segments.specs.Chains.{entries_at, segments_of, entries_of, AreThere}
use Rattle.dsm_segments.proofs.Lists.{joined-append, joined-one, drop_item, newest-append, latest-append}
use Rattle.dsm_segments.proofs.Chains.{segments-append, last_some}

-- what is behind a reference is there where the reference is
pub copied_is_some : {A : Type 0} (r : Option (Bor A)) → is_some (option_copied r) ≡ is_some r
copied_is_some None = refl
copied_is_some (Some x) = refl

module _ {A : Type 0} (slab : Slab (Segment A)) where
  pub entries-append : (keys more : List ℕ) → entries_of slab (keys ++ more) ≡ entries_of slab keys ++ entries_of slab more
  entries-append keys more = ap joined (segments-append slab keys more) ∙ joined-append (segments_of slab keys) (segments_of slab more)

  pub entries-one : (key : ℕ) → entries_of slab (key ∷ []) ≡ entries_at (get slab key)
  entries-one key = joined-one (entries_at (get slab key))

  -- the entries up to the next key
  pub entries_more : (keys : List ℕ) (i : ℕ) → i < length keys
      → entries_of slab (take (i + 1) keys) ≡ entries_of slab (take i keys) ++ entries_at (get slab (get_or keys i 0))
  entries_more keys i lt =
      ap (entries_of slab) (take_more keys i 0 lt) ∙ entries-append (take i keys) (get_or keys i 0 ∷ [])
      ∙ ap (λ (l : List A). entries_of slab (take i keys) ++ l) (entries-one (get_or keys i 0))

  -- the entries from a key on
  pub entries_from : (keys : List ℕ) (i : ℕ) → i < length keys
      → entries_of slab (drop i keys) ≡ entries_at (get slab (get_or keys i 0)) ++ entries_of slab (drop (i + 1) keys)
  entries_from keys i lt = ap (entries_of slab) (drop_item keys i (get_or keys i 0) lt (get_or_default keys i 0 (get_or keys i 0) lt))

  -- the last entry is that of the last segment
  pub newest_last : (last : ℕ) (front keys : List ℕ) → keys ≡ front ++ last ∷ [] → AreThere slab (front ++ last ∷ [])
      → newest (entries_of slab keys) ≡ newest (entries_at (get slab last))
  newest_last last front keys is there =
      ap (λ (l : List ℕ). newest (entries_of slab l)) is
      ∙ ap newest (entries-append front (last ∷ []) ∙ ap (λ (l : List A). entries_of slab front ++ l) (entries-one last))
      ∙ newest-append (entries_of slab front) (entries_at (get slab last)) (last_some slab last front there)

  module _ (number : A → ℕ) where
    pub over_from : (least : ℕ) (keys : List ℕ) (i : ℕ) → i < length keys
        → over number least (entries_of slab (drop i keys)) ≡ over number least (entries_at (get slab (get_or keys i 0))) ++ over number least (entries_of slab (drop (i + 1) keys))
    over_from least keys i lt =
        ap (over number least) (entries_from keys i lt)
        ∙ filter-append (λ entry. nat_lt least (number entry)) (entries_at (get slab (get_or keys i 0))) (entries_of slab (drop (i + 1) keys))

    -- none is in a segment, and none in those behind it
    pub latest_none : (wanted : ℕ) (keys : List ℕ) (i : ℕ) → i < length keys → latest number wanted (entries_at (get slab (get_or keys i 0))) ≡ None
        → latest number wanted (entries_of slab (drop (i + 1) keys)) ≡ None → latest number wanted (entries_of slab (drop i keys)) ≡ None
    latest_none wanted keys i lt here rest =
        ap (latest number wanted) (entries_from keys i lt)
        ∙ latest-append number wanted (entries_at (get slab (get_or keys i 0))) (entries_of slab (drop (i + 1) keys))
        ∙ ap (λ (o : Option A). option_or o (latest number wanted (entries_at (get slab (get_or keys i 0))))) rest
        ∙ here

    -- one is in a segment, and none in those behind it
    pub latest_some : (wanted : ℕ) (keys : List ℕ) (i : ℕ) (x : A) → i < length keys → latest number wanted (entries_at (get slab (get_or keys i 0))) ≡ Some x
        → latest number wanted (entries_of slab (drop (i + 1) keys)) ≡ None → latest number wanted (entries_of slab keys) ≡ Some x
    latest_some wanted keys i x lt here rest =
        ap (λ (l : List ℕ). latest number wanted (entries_of slab l)) (sym (take-append-drop i keys))
        ∙ ap (latest number wanted) (entries-append (take i keys) (drop i keys) ∙ ap (λ (l : List A). entries_of slab (take i keys) ++ l) (entries_from keys i lt))
        ∙ latest-append number wanted (entries_of slab (take i keys)) (entries_at (get slab (get_or keys i 0)) ++ entries_of slab (drop (i + 1) keys))
        ∙ ap (λ (o : Option A). option_or o (latest number wanted (entries_of slab (take i keys))))
        (latest-append number wanted (entries_at (get slab (get_or keys i 0))) (entries_of slab (drop (i + 1) keys))
        ∙ ap (λ (o : Option A). option_or o (latest number wanted (entries_at (get slab (get_or keys i 0))))) rest
        ∙ here)

    -- what a segment gives is what all give, where those behind it have none
    pub latest_found : (wanted : ℕ) (keys : List ℕ) (i : ℕ) (r : Option A) → i < length keys → r ≡ latest number wanted (entries_at (get slab (get_or keys i 0)))
        → is_some r ≡ true → latest number wanted (entries_of slab (drop (i + 1) keys)) ≡ None → r ≡ latest number wanted (entries_of slab keys)
    latest_found wanted keys i None lt here some rest = absurd (false≢true some)
    latest_found wanted keys i (Some x) lt here some rest = sym (latest_some wanted keys i x lt (sym here) rest)

    -- a segment has none
    pub latest_missing : (wanted : ℕ) (keys : List ℕ) (i : ℕ) (r : Option A) → r ≡ latest number wanted (entries_at (get slab (get_or keys i 0)))
        → is_some r ≡ false → latest number wanted (entries_at (get slab (get_or keys i 0))) ≡ None
    latest_missing wanted keys i None here none = sym here
    latest_missing wanted keys i (Some x) here none = absurd (false≢true (sym none))

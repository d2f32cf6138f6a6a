-- A chain of which the front goes.
use Rattle.std.proofs.Common.{◌≡◌, ◌≢◌, ◌∙◌, ℕ, ◌+◌, ◌<◌, ◌≤◌, List, [], ◌∷◌, ◌++◌, Option, Some, None, length, drop, slice_index, remove, refl, sym, ap, subst, arith, length-drop}
use Rattle.slab.specs.Slab.{Slab, get, Updates, with_value, ContainsKey}
use Rattle.slab.proofs.SlabLemmas.{Updates-with_value}
use Rattle.std.proofs.lemmas.List.{drop_all}
use Rattle.dsm_segments.specs.declared.segment.Segment.{Segment}
use Rattle.dsm_segments.specs.Entries.{joined, behind}
use Rattle.dsm_segments.specs.Chains.{entries_at, segments_of, entries_of, IsOwned, IsOwn, IsChain, KeepsOthers}
use Rattle.dsm_segments.specs.Sound.{AreFull, IsPacked, IsSound, Changes}
use Rattle.dsm_segments.specs.Steps.{Empties, Trims}
use Rattle.dsm_segments.proofs.Lists.{behind-none, behind-some, length-behind}
use Rattle.dsm_segments.proofs.Chains.{same_apart, owned_at, keeps}
use Rattle.dsm_segments.proofs.Packed.{packed_rest}

module _ {A : Type 0} (number : A → ℕ) (old new : Slab (Segment A)) (owner upto : ℕ) where
  -- the first segment is gone
  pub emptied : (keys : List ℕ) → keys ≢ [] → Empties number upto old new (slice_index keys 0) → IsSound old owner keys
      → Changes owner old new (remove keys 0) × (behind number upto (entries_of new (remove keys 0)) ≡ behind number upto (entries_of old keys))
  emptied [] some gone sound = absurd (some refl)
  emptied (key ∷ keys) some gone sound =
      let same = same_apart old new owner key None keys gone.updates sound.chain.1 sound.chain.2 in (
        record {
          sound = record {
            chain = same.0;
            packed = subst (λ (l : List (List A)). IsPacked l) (sym same.1) (packed_rest (segments_of old keys) sound.packed);
          };
          others = keeps old new owner key None gone.updates sound.chain.0;
        },
        ap (λ (l : List (List A)). behind number upto (joined l)) same.1 ∙ sym (behind-none number upto (entries_at (get old key)) (entries_of old keys) gone.none),
      )

  -- the first segment has lost entries at its front
  pub trimmed : (keys : List ℕ) → keys ≢ [] → Trims number upto old new (slice_index keys 0) → IsSound old owner keys
      → Changes owner old new keys × (entries_of new keys ≡ behind number upto (entries_of old keys))
  trimmed [] some trims sound = absurd (some refl)
  trimmed (key ∷ keys) some trims sound =
      let same = same_apart old new owner key (Some trims.now) keys trims.updates sound.chain.1 sound.chain.2 in
      let was = owned_at old owner key trims.was trims.found sound.chain.0 in
      let owned : IsOwned owner trims.now = record { owned = trims.owner ∙ was.owned; some = trims.some; size = omega (arith, trims.fewer, was.size) } in
      let own : IsOwn new owner key = rw trims.updates.changed owned in
      let now_is : entries_at (get new key) ≡ behind number upto (entries_at (get old key)) =
      ap entries_at trims.updates.changed ∙ trims.entries ∙ ap (λ (o : Option (Segment A)). behind number upto (entries_at o)) (sym trims.found) in
      let some_left : behind number upto (entries_at (get old key)) ≢ [] =
      λ e. let none : length trims.now.entries ≡ 0 = ap length (trims.entries ∙ ap (λ (o : Option (Segment A)). behind number upto (entries_at o)) (sym trims.found) ∙ e) in
      omega (arith, trims.some, none) in (
        record {
          sound = record {
            chain = (own, sound.chain.1, same.0);
            packed = subst (λ (l : List (List A)). AreFull l) (sym same.1) sound.packed;
          };
          others = keeps old new owner key (Some trims.now) trims.updates sound.chain.0;
        },
        ap (λ (l : List A). l ++ entries_of new keys) now_is ∙ ap (λ (l : List (List A)). behind number upto (entries_at (get old key)) ++ joined l) same.1
            ∙ sym (behind-some number upto (entries_at (get old key)) (entries_of old keys) some_left),
      )

-- what is left of a segment
pub trimmed_segment : {A : Type 0} (number : A → ℕ) (old : Slab (Segment A)) (key upto count : ℕ) (first again : Segment A) (slice left : List A)
    → get old key ≡ Some first → slice ≡ first.entries → drop count slice ≡ behind number upto slice → count ≤ length slice
    → (count ≡ length slice → ⊥) → get old key ≡ Some again → left ≡ drop count again.entries → ContainsKey old key
    → Trims number upto old (with_value old key (record { owner = again.owner; entries = left })) key
trimmed_segment {A} number old key upto count first again slice left found is rest within more found_again left_is there =
    let same : first ≡ again = cc in
    let slice_is : slice ≡ again.entries = is ∙ ap (λ (s : Segment A). s.entries) same in
    let left_slice : left ≡ drop count slice = left_is ∙ ap (drop count) (sym slice_is) in
    let size = length-drop count slice in
    let long : length left ≡ length (drop count slice) = ap length left_slice in
    let whole : length slice ≡ length again.entries = ap length slice_is in
    record {
      was = again;
      now = record { owner = again.owner; entries = left };
      found = found_again;
      updates = Updates-with_value old key (record { owner = again.owner; entries = left }) there;
      owner = refl;
      entries = left_slice ∙ rest ∙ ap (behind number upto) slice_is;
      some = omega (arith, long, size, within, more);
      fewer = omega (arith, long, size, whole);
    }

-- a segment of which nothing is left
pub emptied_segment : {A : Type 0} (number : A → ℕ) (old new : Slab (Segment A)) (key upto count : ℕ) (first : Segment A) (slice : List A)
    → get old key ≡ Some first → slice ≡ first.entries → drop count slice ≡ behind number upto slice → count ≡ length slice → Updates old new key None
    → Empties number upto old new key
emptied_segment {A} number old new key upto count first slice found is rest whole updates = record {
  updates = updates;
  none = ap (λ (o : Option (Segment A)). behind number upto (entries_at o)) found ∙ ap (behind number upto) (sym is) ∙ sym rest ∙ drop_all count slice (omega (arith, whole));
}

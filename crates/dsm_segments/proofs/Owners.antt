-- The chains of all owners, of which one changes.
use Rattle.std.proofs.Common.{◌≡◌, ◌≢◌, ◌∙◌, inl, inr, ℕ, zero, suc, ◌+◌, ◌/◌, ◌<◌, ◌≤◌, List, [], ◌∷◌, ◌++◌, get_or, set, length, refl, sym, ap, subst, eq-eqb, ne_eqb, get_or-set_same, get_or-set_other}
use Rattle.std.proofs.lemmas.Bool.{cases_eq, cond-true, cond-false}
use Rattle.slab.specs.Slab.{Slab}
use Rattle.dsm_base.specs.Family.{update}
use Rattle.dsm_segments.specs.declared.segment.Segment.{Segment}
use Rattle.dsm_segments.specs.Entries.{joined, segments, entries}
use Rattle.dsm_segments.specs.Chains.{segments_of, entries_of, chains_of, AreThere, KeepsOthers}
use Rattle.dsm_segments.specs.Sound.{IsPacked, IsSound, AreSound, Changes}
use Rattle.dsm_segments.proofs.Chains.{chain_there, kept, length-segments}
use Rattle.dsm_segments.proofs.Packed.{few_segments}

-- an empty chain more
pub place_more : (chains : List (List ℕ)) (owner : ℕ) → get_or (chains ++ [] ∷ []) owner [] ≡ get_or chains owner []
place_more [] zero = refl
place_more [] (suc owner) = refl
place_more (keys ∷ chains) zero = refl
place_more (keys ∷ chains) (suc owner) = place_more chains owner

module _ {A : Type 0} where
  -- the segments of a chain are those under its keys
  pub segments_at : (slab : Slab (Segment A)) (chains : List (List ℕ)) (owner : ℕ) → segments (chains_of slab chains) owner ≡ segments_of slab (get_or chains owner [])
  segments_at slab [] owner = refl
  segments_at slab (keys ∷ chains) zero = refl
  segments_at slab (keys ∷ chains) (suc owner) = segments_at slab chains owner

  pub entries_under : (slab : Slab (Segment A)) (chains : List (List ℕ)) (owner : ℕ) → entries (chains_of slab chains) owner ≡ entries_of slab (get_or chains owner [])
  entries_under slab chains owner = ap joined (segments_at slab chains owner)

  -- the entries under the keys of a chain are those that callers see
  pub at_keys : (slab : Slab (Segment A)) (chains : List (List ℕ)) (owner : ℕ) (value : List (List (List A))) (keys : List ℕ)
      → keys ≡ get_or chains owner [] → chains_of slab chains ≡ value → entries_of slab keys ≡ entries value owner
  at_keys slab chains owner value keys is view =
      ap (entries_of slab) is ∙ sym (entries_under slab chains owner) ∙ ap (λ (v : List (List (List A))). entries v owner) view

  -- there is a segment for each key of a chain
  pub segments_count : (slab : Slab (Segment A)) (chains : List (List ℕ)) (owner : ℕ) (value : List (List (List A))) (keys : List ℕ)
      → keys ≡ get_or chains owner [] → chains_of slab chains ≡ value → length keys ≡ length (segments value owner)
  segments_count slab chains owner value keys is view =
      ap length is ∙ sym (length-segments slab (get_or chains owner [])) ∙ ap length (sym (segments_at slab chains owner))
      ∙ ap (λ (v : List (List (List A))). length (segments v owner)) view

  -- and they are few
  pub few_at : (slab : Slab (Segment A)) (chains : List (List ℕ)) (owner : ℕ) (value : List (List (List A))) (keys : List ℕ)
      → keys ≡ get_or chains owner [] → chains_of slab chains ≡ value → AreSound slab chains → length keys ≤ length (entries value owner) / 64 + 2
  few_at slab chains owner value keys is view sound =
      let few = few_segments (segments_of slab (get_or chains owner [])) (sound owner).packed in
      let count = ap length is ∙ sym (length-segments slab (get_or chains owner [])) in
      let all : length (entries_of slab (get_or chains owner [])) ≡ length (entries value owner) = ap length (at_keys slab chains owner value (get_or chains owner []) refl view) in
      subst (λ (n : ℕ). length keys ≤ n / 64 + 2) all (subst (λ (n : ℕ). n ≤ length (entries_of slab (get_or chains owner [])) / 64 + 2) (sym count) few)

  -- the keys of a chain have segments
  pub there_at : (slab : Slab (Segment A)) (chains : List (List ℕ)) (owner : ℕ) (keys : List ℕ)
      → keys ≡ get_or chains owner [] → AreSound slab chains → AreThere slab keys
  there_at slab chains owner keys is sound = subst (λ (l : List ℕ). AreThere slab l) (sym is) (chain_there slab owner (get_or chains owner []) (sound owner).chain)

  -- a place for a chain more
  pub reached_sound : (slab : Slab (Segment A)) (before chains : List (List ℕ)) → ((owner : ℕ) → get_or chains owner [] ≡ get_or before owner []) → AreSound slab before → AreSound slab chains
  reached_sound slab before chains same sound owner = subst (λ (keys : List ℕ). IsSound slab owner keys) (sym (same owner)) (sound owner)

  kept_sound : (old new : Slab (Segment A)) (owner other : ℕ) (keys : List ℕ) → KeepsOthers owner old new → other ≢ owner → IsSound old other keys → IsSound new other keys
  kept_sound old new owner other keys keeps differs sound =
      let same = kept old new owner other keys keeps differs sound.chain in
      record {
        chain = same.0;
        packed = subst (λ (l : List (List A)). IsPacked l) (sym same.1) sound.packed;
      }

  module _ (old new : Slab (Segment A)) (before chains : List (List ℕ)) (owner : ℕ) (keys : List ℕ)
      (within : owner < length chains) (same : (other : ℕ) → get_or chains other [] ≡ get_or before other [])
      (changes : Changes owner old new keys) (sound : AreSound old before) where
    pub still_sound : AreSound new (set chains owner keys)
    still_sound other = elim (cases_eq other owner) [
      | inl is ↦ subst (λ (n : ℕ). IsSound new n (get_or (set chains owner keys) n [])) (sym is)
          (subst (λ (list : List ℕ). IsSound new owner list) (sym (get_or-set_same chains owner keys [] within)) changes.sound)
      | inr differs ↦ subst (λ (list : List ℕ). IsSound new other list) (sym (get_or-set_other chains owner other keys [] differs))
          (kept_sound old new owner other (get_or chains other []) changes.others differs (reached_sound old before chains same sound other))
    ]

    one_changed : (list : List A) → entries_of new keys ≡ list → (other : ℕ)
        → entries (chains_of new (set chains owner keys)) other ≡ update (entries (chains_of old before)) owner list other
    one_changed list is other = elim (cases_eq other owner) [
      | inl here ↦ entries_under new (set chains owner keys) other
          ∙ ap (entries_of new) (ap (λ (n : ℕ). get_or (set chains owner keys) n []) here ∙ get_or-set_same chains owner keys [] within)
          ∙ is ∙ sym (cond-true _ _ _ (eq-eqb other owner here))
      | inr differs ↦ entries_under new (set chains owner keys) other
          ∙ ap (entries_of new) (get_or-set_other chains owner other keys [] differs)
          ∙ ap joined (kept old new owner other (get_or chains other []) changes.others differs (reached_sound old before chains same sound other).chain).1
          ∙ ap (entries_of old) (same other)
          ∙ sym (entries_under old before other)
          ∙ sym (cond-false _ _ _ (ne_eqb other owner differs))
    ]

    -- one chain has these entries now, and the others what they had
    pub changed : (list : List A) → entries_of new keys ≡ list → entries (chains_of new (set chains owner keys)) ≡ update (entries (chains_of old before)) owner list
    changed list is = λ i. λ other. one_changed list is other i

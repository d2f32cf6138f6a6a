-- A chain where its slab or its keys change.
use Rattle.std.proofs.Common.{◌≡◌, ◌≢◌, ◌∙◌, inl, inr, ℕ, ◌<◌, List, [], ◌∷◌, ◌++◌, Option, Some, None, MatchOption, IfSome, IsSome, length, slice_index, refl, sym, ap, subst, arith}
use Rattle.std.proofs.lemmas.Bool.{cases_eq}
use Rattle.slab.specs.Slab.{Slab, get, Updates, ContainsKey, SameValues}
use Rattle.dsm_segments.specs.declared.segment.Segment.{Segment}
use Rattle.dsm_segments.specs.Chains.{entries_at, segments_of, IsApart, AreThere, IsOwned, IsOwn, IsChain, KeepsOthers}

apart-append : (key last : ℕ) (keys : List ℕ) → IsApart key keys → last ≢ key → IsApart key (keys ++ last ∷ [])
apart-append key last [] apart differs = (differs, tt)
apart-append key last (other ∷ keys) apart differs = (apart.0, apart-append key last keys apart.1 differs)

apart_before : (key last : ℕ) (front : List ℕ) → IsApart key (front ++ last ∷ []) → IsApart key front × (last ≢ key)
apart_before key last [] apart = (tt, apart.0)
apart_before key last (other ∷ front) apart =
    let rest = apart_before key last front apart.1 in ((apart.0, rest.0), rest.1)

module _ {A : Type 0} where
  -- a slab changed at a key that a chain doesn't have
  pub same_apart : (old new : Slab (Segment A)) (owner key : ℕ) (slot : Option (Segment A)) (keys : List ℕ)
      → Updates old new key slot → IsApart key keys → IsChain old owner keys
      → IsChain new owner keys × (segments_of new keys ≡ segments_of old keys)
  same_apart old new owner key slot [] updates apart chain = (tt, refl)
  same_apart old new owner key slot (other ∷ keys) updates apart chain =
      let same = updates.others other apart.0 in
      let rest = same_apart old new owner key slot keys updates apart.1 chain.2 in
      ((rw same chain.0, chain.1, rest.0), rw (same, rest.1) refl)

  -- a slab that isn't changed
  pub same_chain : (old new : Slab (Segment A)) (owner : ℕ) (keys : List ℕ) → SameValues old new → IsChain old owner keys
      → IsChain new owner keys × (segments_of new keys ≡ segments_of old keys)
  same_chain old new owner [] same chain = (tt, refl)
  same_chain old new owner (key ∷ keys) same chain =
      let here = same key in
      let rest = same_chain old new owner keys same chain.2 in
      ((rw here chain.0, chain.1, rest.0), rw (here, rest.1) refl)

  -- a key without a segment isn't in a chain
  pub fresh_apart : (slab : Slab (Segment A)) (owner key : ℕ) (keys : List ℕ) → get slab key ≡ None
      → IsChain slab owner keys → IsApart key keys
  fresh_apart slab owner key [] none chain = tt
  fresh_apart slab owner key (other ∷ keys) none chain = (
    (λ same. subst (λ (o : Option (Segment A)). MatchOption o ⊥ (IsOwned owner)) (ap (get slab) same ∙ none) chain.0),
    fresh_apart slab owner key keys none chain.2,
  )

  -- a chain with one more key
  pub chain-append : (slab : Slab (Segment A)) (owner last : ℕ) (keys : List ℕ) → IsChain slab owner keys
      → IsOwn slab owner last → IsApart last keys → IsChain slab owner (keys ++ last ∷ [])
  chain-append slab owner last [] chain own apart = (own, tt, tt)
  chain-append slab owner last (key ∷ keys) chain own apart =
      (chain.0, apart-append key last keys chain.1 (λ e. apart.0 (sym e)), chain-append slab owner last keys chain.2 own apart.1)

  pub segments-append : (slab : Slab (Segment A)) (keys more : List ℕ)
      → segments_of slab (keys ++ more) ≡ segments_of slab keys ++ segments_of slab more
  segments-append slab [] more = refl
  segments-append slab (key ∷ keys) more =
      ap (λ (l : List (List A)). entries_at (get slab key) ∷ l) (segments-append slab keys more)

  pub length-segments : (slab : Slab (Segment A)) (keys : List ℕ) → length (segments_of slab keys) ≡ length keys
  length-segments slab [] = refl
  length-segments slab (key ∷ keys) = let rest = length-segments slab keys in omega (arith, rest)

  -- the last key of a chain
  pub chain_split : (slab : Slab (Segment A)) (owner last : ℕ) (front : List ℕ) → IsChain slab owner (front ++ last ∷ [])
      → IsChain slab owner front × IsOwn slab owner last × IsApart last front
  chain_split slab owner last [] chain = (tt, chain.0, tt)
  chain_split slab owner last (key ∷ front) chain =
      let rest = chain_split slab owner last front chain.2 in
      let apart = apart_before key last front chain.1 in
      ((chain.0, apart.0, rest.0), rest.1, ((λ e. apart.1 (sym e)), rest.2))

  owned_here : (owner : ℕ) (o : Option (Segment A)) (segment : Segment A) → o ≡ Some segment → MatchOption o ⊥ (IsOwned owner) → IsOwned owner segment
  owned_here owner o segment is own = subst (λ (p : Option (Segment A)). MatchOption p ⊥ (IsOwned owner)) is own

  -- the segment under an own key
  pub owned_at : (slab : Slab (Segment A)) (owner key : ℕ) (segment : Segment A) → get slab key ≡ Some segment → IsOwn slab owner key → IsOwned owner segment
  owned_at slab owner key segment is own = owned_here owner (get slab key) segment is own

  present_at : (o : Option (Segment A)) (owner : ℕ) → MatchOption o ⊥ (IsOwned owner) → IsSome o
  present_at None owner own = absurd own
  present_at (Some s) owner own = refl

  pub own_present : (slab : Slab (Segment A)) (owner key : ℕ) → IsOwn slab owner key → ContainsKey slab key
  own_present slab owner key own = present_at (get slab key) owner own

  some_at : (o : Option (Segment A)) (owner : ℕ) → MatchOption o ⊥ (IsOwned owner) → MatchOption o ⊥ (λ s. 0 < length s.entries)
  some_at None owner own = absurd own
  some_at (Some s) owner own = own.some

  -- the keys of a chain have segments
  pub chain_there : (slab : Slab (Segment A)) (owner : ℕ) (keys : List ℕ) → IsChain slab owner keys → AreThere slab keys
  chain_there slab owner [] chain = tt
  chain_there slab owner (key ∷ keys) chain = (some_at (get slab key) owner chain.0, chain_there slab owner keys chain.2)

  -- the first key of a chain
  pub first_present : (slab : Slab (Segment A)) (owner : ℕ) (keys : List ℕ) → keys ≢ [] → IsChain slab owner keys → ContainsKey slab (slice_index keys 0)
  first_present slab owner [] some chain = absurd (some refl)
  first_present slab owner (key ∷ keys) some chain = own_present slab owner key chain.0

  -- the last of these segments has entries
  pub last_some : (slab : Slab (Segment A)) (last : ℕ) (front : List ℕ) → AreThere slab (front ++ last ∷ []) → 0 < length (entries_at (get slab last))
  last_some slab last [] there = some_there (get slab last) there.0
    where
      some_there : (o : Option (Segment A)) → MatchOption o ⊥ (λ s. 0 < length s.entries) → 0 < length (entries_at o)
      some_there None there = absurd there
      some_there (Some s) there = there
  last_some slab last (key ∷ front) there = last_some slab last front there.1

  own_other : (owner : ℕ) (was now : Option (Segment A)) → MatchOption was ⊥ (IsOwned owner)
      → IfSome was (λ s. s.owner ≢ owner → now ≡ was)
  own_other owner None now own = tt
  own_other owner (Some s) now own = λ differs. absurd (differs own.owned)

  same_other : (owner : ℕ) (was now : Option (Segment A)) → now ≡ was → IfSome was (λ s. s.owner ≢ owner → now ≡ was)
  same_other owner None now same = tt
  same_other owner (Some s) now same = λ _. same

  none_other : (owner : ℕ) (was now : Option (Segment A)) → was ≡ None → IfSome was (λ s. s.owner ≢ owner → now ≡ was)
  none_other owner None now none = tt
  none_other owner (Some s) now none = absurd (cc)

  -- a change under an own key keeps the others
  pub keeps : (old new : Slab (Segment A)) (owner key : ℕ) (slot : Option (Segment A)) → Updates old new key slot
      → IsOwn old owner key → KeepsOthers owner old new
  keeps old new owner key slot updates own other = elim (cases_eq other key) [
    | inl same ↦ own_other owner (get old other) (get new other) (subst (λ (k : ℕ). IsOwn old owner k) (sym same) own)
    | inr differs ↦ same_other owner (get old other) (get new other) (updates.others other differs)
  ]

  -- so does one under a key that had no segment
  pub keeps_fresh : (old new : Slab (Segment A)) (owner key : ℕ) (slot : Option (Segment A)) → Updates old new key slot
      → get old key ≡ None → KeepsOthers owner old new
  keeps_fresh old new owner key slot updates none other = elim (cases_eq other key) [
    | inl same ↦ none_other owner (get old other) (get new other) (ap (get old) same ∙ none)
    | inr differs ↦ same_other owner (get old other) (get new other) (updates.others other differs)
  ]

  -- and no change at all
  pub keeps_same : (old new : Slab (Segment A)) (owner : ℕ) → SameValues old new → KeepsOthers owner old new
  keeps_same old new owner same key = same_other owner (get old key) (get new key) (same key)

  then_at : (owner : ℕ) (a b d : Option (Segment A)) → IfSome a (λ s. s.owner ≢ owner → b ≡ a)
      → IfSome b (λ s. s.owner ≢ owner → d ≡ b) → IfSome a (λ s. s.owner ≢ owner → d ≡ a)
  then_at owner None b d first second = tt
  then_at owner (Some s) b d first second = λ differs.
      let same = first differs in
      subst (λ (o : Option (Segment A)). IfSome o (λ t. t.owner ≢ owner → d ≡ o)) same second differs

  pub keeps_then : (a b d : Slab (Segment A)) (owner : ℕ) → KeepsOthers owner a b → KeepsOthers owner b d → KeepsOthers owner a d
  keeps_then a b d owner first second key = then_at owner (get a key) (get b key) (get d key) (first key) (second key)

  kept_at : (owner other : ℕ) (was now : Option (Segment A)) → other ≢ owner
      → MatchOption was ⊥ (IsOwned other) → IfSome was (λ s. s.owner ≢ owner → now ≡ was) → now ≡ was
  kept_at owner other None now differs own keeps = absurd own
  kept_at owner other (Some s) now differs own keeps = keeps (λ e. differs (sym own.owned ∙ e))

  -- a chain of another owner is kept
  pub kept : (old new : Slab (Segment A)) (owner other : ℕ) (keys : List ℕ) → KeepsOthers owner old new → other ≢ owner
      → IsChain old other keys → IsChain new other keys × (segments_of new keys ≡ segments_of old keys)
  kept old new owner other [] keeps differs chain = (tt, refl)
  kept old new owner other (key ∷ keys) keeps differs chain =
      let same = kept_at owner other (get old key) (get new key) differs chain.0 (keeps key) in
      let rest = kept old new owner other keys keeps differs chain.2 in
      ((rw same chain.0, chain.1, rest.0), rw (same, rest.1) refl)

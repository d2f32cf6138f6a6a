-- A chain that gets an entry.
use Rattle.std.proofs.Common.{◌≡◌, ◌≢◌, ◌∙◌, ℕ, ◌+◌, ◌<◌, ◌≤◌, List, [], ◌∷◌, ◌++◌, Option, Some, None, length, refl, sym, ap, subst, append_assoc, append-nil, arith, length-append}
use Rattle.slab.specs.Slab.{Slab, get, Updates, SameValues, ContainsKey}
use Rattle.dsm_segments.specs.declared.segment.Segment.{Segment}
use Rattle.dsm_segments.specs.Entries.{joined}
use Rattle.dsm_segments.specs.Chains.{entries_at, segments_of, entries_of, IsApart, IsOwned, IsOwn, IsChain, KeepsOthers}
use Rattle.dsm_segments.specs.Sound.{IsPacked, IsClosed, IsSound, Changes}
use Rattle.dsm_segments.specs.Steps.{HasRoomAt, Fills}
use Rattle.dsm_segments.proofs.Lists.{joined-append, joined-one}
use Rattle.dsm_segments.proofs.Chains.{same_apart, same_chain, fresh_apart, chain-append, segments-append, chain_split, owned_at, own_present, keeps, keeps_fresh, keeps_same, keeps_then}
use Rattle.dsm_segments.proofs.Packed.{closed_last, packed_last, packed_more}

module _ {A : Type 0} where
  -- a slab of the same segments
  pub same_sound : (old new : Slab (Segment A)) (owner : ℕ) (keys : List ℕ) → SameValues old new → IsSound old owner keys → IsSound new owner keys
  same_sound old new owner keys same sound =
      let kept = same_chain old new owner keys same sound.chain in
      record {
        chain = kept.0;
        packed = subst (λ (l : List (List A)). IsPacked l) (sym kept.1) sound.packed;
      }

  pub unchanged : (old new : Slab (Segment A)) (owner : ℕ) (keys now : List ℕ) → SameValues old new → now ≡ keys → IsSound old owner keys → Changes owner old new now
  unchanged old new owner keys now same is sound = record {
    sound = subst (λ (l : List ℕ). IsSound new owner l) (sym is) (same_sound old new owner keys same sound);
    others = keeps_same old new owner same;
  }

  -- a new segment at the end of a chain whose last one is full
  module _ (old new : Slab (Segment A)) (owner key : ℕ) (segment : Segment A) (keys : List ℕ) (vacant : get old key ≡ None)
      (updates : Updates old new key (Some segment)) (owned : IsOwned owner segment) (sound : IsSound old owner keys) where
    started_segments : segments_of new (keys ++ key ∷ []) ≡ segments_of old keys ++ segment.entries ∷ []
    started_segments =
        let same = same_apart old new owner key (Some segment) keys updates (fresh_apart old owner key keys vacant sound.chain) sound.chain in
        let one : segments_of new (key ∷ []) ≡ segment.entries ∷ [] = ap (λ (o : Option (Segment A)). entries_at o ∷ []) updates.changed in
        segments-append new keys (key ∷ []) ∙ rw (same.1, one) refl

    pub started : IsClosed (segments_of old keys) → Changes owner old new (keys ++ key ∷ [])
    started closed =
        let apart = fresh_apart old owner key keys vacant sound.chain in
        let same = same_apart old new owner key (Some segment) keys updates apart sound.chain in
        let own : IsOwn new owner key = rw updates.changed owned in
        record {
          sound = record {
            chain = chain-append new owner key keys same.0 own apart;
            packed = subst (λ (l : List (List A)). IsPacked l) (sym started_segments) (packed_more (segments_of old keys) segment.entries sound.packed closed);
          };
          others = keeps_fresh old new owner key (Some segment) updates vacant;
        }

    pub started_entries : entries_of new (keys ++ key ∷ []) ≡ entries_of old keys ++ segment.entries
    started_entries =
        ap joined started_segments ∙ joined-append (segments_of old keys) (segment.entries ∷ []) ∙ ap (λ (l : List A). entries_of old keys ++ l) (joined-one segment.entries)

  -- the slab was given room before
  pub started_after : (first old new : Slab (Segment A)) (owner key : ℕ) (segment : Segment A) (entry : A) (keys now : List ℕ) → SameValues first old → get old key ≡ None
      → Updates old new key (Some segment) → segment.owner ≡ owner → segment.entries ≡ entry ∷ [] → now ≡ keys ++ key ∷ [] → IsSound first owner keys → IsClosed (segments_of first keys)
      → Changes owner first new now × (entries_of new now ≡ entries_of first keys ++ entry ∷ [])
  started_after first old new owner key segment entry keys now same vacant updates own one is sound closed =
      let size : length segment.entries ≡ 1 = ap length one in
      let owned : IsOwned owner segment = record { owned = own; some = omega (arith, size); size = omega (arith, size) } in
      let before = same_sound first old owner keys same sound in
      let segments = (same_chain first old owner keys same sound.chain).1 in
      let made = started old new owner key segment keys vacant updates owned before (subst (λ (l : List (List A)). IsClosed l) (sym segments) closed) in
      let grown = started_entries old new owner key segment keys vacant updates owned before in (
        record {
          sound = subst (λ (l : List ℕ). IsSound new owner l) (sym is) made.sound;
          others = keeps_then first old new owner (keeps_same first old owner same) made.others;
        },
        ap (entries_of new) is ∙ grown ∙ ap (λ (l : List (List A)). joined l ++ segment.entries) segments ∙ ap (λ (l : List A). entries_of first keys ++ l) one,
      )

  -- the last segment has one more entry
  module _ (old new : Slab (Segment A)) (owner last : ℕ) (entry : A) (keys : List ℕ) (place : HasRoomAt old keys last) (fills : Fills old new last entry) (sound : IsSound old owner keys) where
    parts : IsChain old owner place.front × IsOwn old owner last × IsApart last place.front
    parts = chain_split old owner last place.front (subst (λ (l : List ℕ). IsChain old owner l) place.is sound.chain)

    same_front : IsChain new owner place.front × (segments_of new place.front ≡ segments_of old place.front)
    same_front = same_apart old new owner last (Some fills.now) place.front fills.updates parts.2 parts.0

    segments_before : segments_of old keys ≡ segments_of old place.front ++ fills.was.entries ∷ []
    segments_before =
        let one : segments_of old (last ∷ []) ≡ fills.was.entries ∷ [] = ap (λ (o : Option (Segment A)). entries_at o ∷ []) fills.found in
        ap (segments_of old) place.is ∙ segments-append old place.front (last ∷ []) ∙ rw one refl

    segments_now : segments_of new keys ≡ segments_of old place.front ++ fills.now.entries ∷ []
    segments_now =
        let one : segments_of new (last ∷ []) ≡ fills.now.entries ∷ [] = ap (λ (o : Option (Segment A)). entries_at o ∷ []) fills.updates.changed in
        ap (segments_of new) place.is ∙ segments-append new place.front (last ∷ []) ∙ rw (same_front.1, one) refl

    grown_owned : IsOwned owner fills.now
    grown_owned =
        let was = owned_at old owner last fills.was fills.found parts.1 in
        let size : length fills.now.entries ≡ length fills.was.entries + 1 = ap length fills.more ∙ length-append fills.was.entries (entry ∷ []) in
        let room : length fills.was.entries < 64 = subst (λ (o : Option (Segment A)). length (entries_at o) < 64) fills.found place.room in
        record { owned = fills.owner ∙ was.owned; some = omega (arith, size); size = omega (arith, size, room) }

    pub filled : Changes owner old new keys
    filled =
        let own : IsOwn new owner last = rw fills.updates.changed grown_owned in
        let chain = chain-append new owner last place.front same_front.0 own parts.2 in
        record {
          sound = record {
            chain = subst (λ (l : List ℕ). IsChain new owner l) (sym place.is) chain;
            packed = subst (λ (l : List (List A)). IsPacked l) (sym segments_now) (packed_last (segments_of old place.front) fills.was.entries fills.now.entries (subst (λ (l : List (List A)). IsPacked l) segments_before sound.packed));
          };
          others = keeps old new owner last (Some fills.now) fills.updates parts.1;
        }

    joined_last : (front : List (List A)) (s : List A) → joined (front ++ s ∷ []) ≡ joined front ++ s
    joined_last front s = joined-append front (s ∷ []) ∙ ap (λ (l : List A). joined front ++ l) (joined-one s)

    pub filled_entries : entries_of new keys ≡ entries_of old keys ++ entry ∷ []
    filled_entries =
        ap joined segments_now ∙ joined_last (segments_of old place.front) fills.now.entries
        ∙ ap (λ (l : List A). joined (segments_of old place.front) ++ l) fills.more
        ∙ sym (append_assoc (joined (segments_of old place.front)) fills.was.entries (entry ∷ []))
        ∙ ap (λ (l : List A). l ++ entry ∷ []) (sym (ap joined segments_before ∙ joined_last (segments_of old place.front) fills.was.entries))

  -- the last key has a segment
  pub last_own : (slab : Slab (Segment A)) (owner last : ℕ) (keys : List ℕ) → HasRoomAt slab keys last → IsChain slab owner keys → ContainsKey slab last
  last_own slab owner last keys place chain = own_present slab owner last (chain_split slab owner last place.front (subst (λ (l : List ℕ). IsChain slab owner l) place.is chain)).1

  -- a full last segment
  pub closed_at : (slab : Slab (Segment A)) (last : ℕ) (front keys : List ℕ) → keys ≡ front ++ last ∷ [] → 64 ≤ length (entries_at (get slab last)) → IsClosed (segments_of slab keys)
  closed_at slab last front keys is full =
      subst (λ (l : List (List A)). IsClosed l) (sym (ap (segments_of slab) is ∙ segments-append slab front (last ∷ []))) (closed_last (segments_of slab front) (entries_at (get slab last)) full)

-- Places of entries by their keys.
use Rattle.std.specs.Prelude.{find, is_some}
use Rattle.std.proofs.Common.{◌≡◌, ℕ, zero, suc, ◌+◌, ◌<◌, ◌≤◌, Bool, true, false, ◌&&◌, ◌==◌, if◌then◌else◌, cond, List, [], ◌∷◌, Option, Some, None, length, drop, get_or, refl, sym, ap, ◌∙◌, arith}
use Rattle.std.specs.List.{slice_get}
use Rattle.std.specs.Option.{option_or, unwrap_or}
use Rattle.std.proofs.lemmas.Bool.{false≢true}
use Rattle.dsm_replay.specs.Places.{is_key, one_place, has_key, first_place}

or_none : {A : Type 0} (one : Option A) → option_or one None ≡ one
or_none None = refl
or_none (Some x) = refl

fresh : (now was : Option ℕ) (b : Bool) (place : ℕ) → now ≡ cond b (Some place) was → (b ≡ true → was ≡ None) → now ≡ option_or was (if b then Some place else None)
fresh now was true place is none = is ∙ sym (ap (λ one. option_or one (Some place)) (none refl))
fresh now was false place is none = is ∙ sym (or_none was)

none_is_some : {A : Type 0} (x : A) → None ≡ Some x → ⊥
none_is_some x e = false≢true (ap is_some e)

same_place : (x y : ℕ) → Some x ≡ Some y → y ≡ x
same_place x y e = sym (ap (λ one. unwrap_or one 0) e)

first_part : (a b c d : ℕ) → ((a == b) && (c == d)) ≡ true → a ≡ b
first_part a b c d e = grind arith

second_part : (a b c d : ℕ) → ((a == b) && (c == d)) ≡ true → c ≡ d
second_part a b c d e = grind arith

-- a place that is put for a key that had none
pub noted : (was : ℕ → ℕ → Option ℕ) (key : ℕ × ℕ) (place number object : ℕ) (now : Option ℕ) → was key.0 key.1 ≡ None →
    now ≡ cond (is_key key number object) (Some place) (was number object) → now ≡ option_or (was number object) (one_place key place number object)
noted was key place number object now none is = fresh now (was number object) (is_key key number object) place is here
  where
    here : is_key key number object ≡ true → was number object ≡ None
    here e =
        let a : key.0 ≡ number = first_part key.0 number key.1 object e in
        let b : key.1 ≡ object = second_part key.0 number key.1 object e in
        let path : was key.0 key.1 ≡ was number object = λ i. was (a i) (b i) in
        sym path ∙ none

-- a key that has a place keeps it
pub kept : (was : ℕ → ℕ → Option ℕ) (key : ℕ × ℕ) (place number object : ℕ) (there : ℕ) → was key.0 key.1 ≡ Some there →
    was number object ≡ option_or (was number object) (one_place key place number object)
kept was key place number object there is = by (is_key key number object) here
  where
    some : {A : Type 0} (one : Option A) (x : A) (other : Option A) → one ≡ Some x → one ≡ option_or one other
    some None x other e = absurd (none_is_some x e)
    some (Some y) x other e = refl

    here : is_key key number object ≡ true → was number object ≡ Some there
    here e =
        let a : key.0 ≡ number = first_part key.0 number key.1 object e in
        let b : key.1 ≡ object = second_part key.0 number key.1 object e in
        let path : was key.0 key.1 ≡ was number object = λ i. was (a i) (b i) in
        sym path ∙ is

    by : (b : Bool) → (b ≡ true → was number object ≡ Some there) → was number object ≡ option_or (was number object) (if b then Some place else None)
    by true at = some (was number object) there (Some place) (at refl)
    by false at = sym (or_none (was number object))

or_more : (was rest : Option ℕ) (b : Bool) (at : ℕ) → option_or (option_or was (if b then Some at else None)) rest ≡ option_or was (if b then Some at else rest)
or_more None rest true at = refl
or_more None rest false at = refl
or_more (Some x) rest true at = refl
or_more (Some x) rest false at = refl

module _ {A : Type 0} (key_of : A → ℕ × ℕ) where
  -- with one more entry gone over
  pub gone_over : (now was : Option ℕ) (number object at next : ℕ) (entry : A) (more rest : List A) (all : Option ℕ) → next ≡ at + 1 → more ≡ entry ∷ rest →
      now ≡ option_or was (one_place (key_of entry) at number object) → option_or was (first_place key_of number object at more) ≡ all →
      option_or now (first_place key_of number object next rest) ≡ all
  gone_over now was number object at next entry more rest all on is noted before =
      ap (λ one. option_or one (first_place key_of number object next rest)) noted
      ∙ ap (λ k. option_or (option_or was (one_place (key_of entry) at number object)) (first_place key_of number object k rest)) on
      ∙ or_more was (first_place key_of number object (at + 1) rest) (has_key key_of number object entry) at
      ∙ sym (ap (λ list. option_or was (first_place key_of number object at list)) is)
      ∙ before

  -- an entry, and what is behind it
  pub at_entry : (entries : List A) (at : ℕ) (entry : A) → at < length entries → entry ≡ get_or entries at entry → drop at entries ≡ entry ∷ drop (at + 1) entries
  at_entry [] at entry lt e = absurd (omega arith)
  at_entry (first ∷ others) zero entry lt e = ap (λ one. one ∷ others) (sym e)
  at_entry (first ∷ others) (suc at) entry lt e =
      let next : suc at + 1 ≡ suc (at + 1) = omega arith in
      at_entry others at entry (omega arith) e ∙ ap (λ k. entry ∷ drop k (first ∷ others)) (sym next)

  pub none_behind : (entries : List A) (at : ℕ) → length entries ≤ at → drop at entries ≡ []
  none_behind [] zero le = refl
  none_behind [] (suc at) le = refl
  none_behind (entry ∷ entries) zero le = absurd (omega arith)
  none_behind (entry ∷ entries) (suc at) le = none_behind entries at (omega arith)

  -- all entries are gone over
  pub all_gone_over : (was : Option ℕ) (number object at : ℕ) (more : List A) (all : Option ℕ) → more ≡ [] → option_or was (first_place key_of number object at more) ≡ all → was ≡ all
  all_gone_over was number object at more all none before =
      sym (or_none was) ∙ sym (ap (λ list. option_or was (first_place key_of number object at list)) none) ∙ before

  -- the first entry with a key stands at its place
  pub found : (number object at : ℕ) (entries : List A) (place : ℕ) → first_place key_of number object at entries ≡ Some place →
      (i : ℕ) × (place ≡ at + i) × (slice_get entries i ≡ find (has_key key_of number object) entries)
  found number object at [] place e = absurd (none_is_some place e)
  found number object at (entry ∷ entries) place e = by (has_key key_of number object entry) (found number object (at + 1) entries place) e
    where
      zero_more : (n : ℕ) → n ≡ n + 0
      zero_more n = omega arith

      on : (n i : ℕ) → n + 1 + i ≡ n + suc i
      on n i = omega arith

      by : (b : Bool)
          → (first_place key_of number object (at + 1) entries ≡ Some place → (i : ℕ) × (place ≡ at + 1 + i) × (slice_get entries i ≡ find (has_key key_of number object) entries))
          → (if b then Some at else first_place key_of number object (at + 1) entries) ≡ Some place →
          (i : ℕ) × (place ≡ at + i) × (slice_get (entry ∷ entries) i ≡ cond b (Some entry) (find (has_key key_of number object) entries))
      by true rest e = (0, same_place at place e ∙ zero_more at, refl)
      by false rest e = let one = rest e in (suc one.0, one.1 ∙ on at one.0, one.2)

  pub found_at : (number object : ℕ) (entries : List A) (place : ℕ) → first_place key_of number object 0 entries ≡ Some place →
      slice_get entries place ≡ find (has_key key_of number object) entries
  found_at number object entries place e =
      let one = found number object 0 entries place e in
      ap (λ k. slice_get entries k) (one.1 ∙ zero_more one.0) ∙ one.2
    where
      zero_more : (n : ℕ) → 0 + n ≡ n
      zero_more n = omega arith

  -- no entry has a key that has no place
  pub not_found : (number object at : ℕ) (entries : List A) → first_place key_of number object at entries ≡ None → find (has_key key_of number object) entries ≡ None
  not_found number object at [] e = refl
  not_found number object at (entry ∷ entries) e = by (has_key key_of number object entry) (not_found number object (at + 1) entries) e
    where
      by : (b : Bool) → (first_place key_of number object (at + 1) entries ≡ None → find (has_key key_of number object) entries ≡ None)
          → (if b then Some at else first_place key_of number object (at + 1) entries) ≡ None → cond b (Some entry) (find (has_key key_of number object) entries) ≡ None
      by true rest e = absurd (none_is_some at (sym e))
      by false rest e = rest e

-- What a change of one channel leaves of the channels.
use Rattle.std.proofs.Common.{◌≡◌, ◌<◌, ℕ, List, [], ◌∷◌, ◌++◌, length, get_or, set, Result, Ok, Err, Option, Some, None, sym, ap, ◌∙◌, subst, inl, inr, arith, get_or-set_same, get_or-set_other}
use Rattle.std.specs.Prelude.{IfOk, OnOk, OnErr, MatchOption}
use Rattle.std.proofs.lemmas.Bool.Decides.{eqb_tells}
use Rattle.std.proofs.lemmas.List.{set-get_or, get_or_read}
use Rattle.std.proofs.lemmas.Result.{on_ok_weaker}
use Rattle.dsm_base.specs.Family.{update_at}
use Rattle.dsm_base.specs.declared.errors.MemFault.{MemFault}
use Rattle.dsm_base.proofs.Families.{family_of_set, update_at_same}
use Rattle.dsm_net.specs.declared.trace.Letter.{Letter}
use Rattle.dsm_channels.specs.Channels.{under_way, with_channel, AreSquare}

module _ (channels : List (List (List Letter))) (from to : ℕ) (letters : List Letter) (is_sender : from < length channels) (is_receiver : to < length (get_or channels from [])) where
  -- the families of letters
  pub under_way_with : under_way (with_channel channels from to letters) ≡ update_at (under_way channels) from to letters
  under_way_with i p q =
      elim (eqb_tells p from) as (λ _. under_way (with_channel channels from to letters) p q ≡ update_at (under_way channels) from to letters p q) [
        | inl (same, is) ↦ rw same (
            ap (λ k. get_or (get_or (with_channel channels from to letters) k []) q []) is
            ∙ ap (λ row. get_or row q []) (get_or-set_same channels from (set (get_or channels from []) to letters) [] is_sender)
            ∙ (λ j. family_of_set (λ _. []) (get_or channels from []) to letters is_receiver j q))
        | inr (other, differs) ↦ rw other (ap (λ row. get_or row q []) (get_or-set_other channels from p (set (get_or channels from []) to letters) [] differs))
      ] i

-- One channel of a sender changed.

module _ (channels : List (List (List Letter))) (from to : ℕ) (row : List (List Letter)) (square : AreSquare channels) (is_from : from < length channels) (is_to : to < length channels) where
  row_with : (letters : List Letter) → row ≡ set (get_or channels from []) to letters → under_way (set channels from row) ≡ update_at (under_way channels) from to letters
  row_with letters is =
      ap (λ (r : List (List Letter)). under_way (set channels from r)) is
      ∙ under_way_with channels from to letters is_from (omega (arith, square from is_from, is_to))

-- the row that was read at a place, as it was before
read_row : (items now : List (List (List Letter))) (place from : ℕ) (row : List (List Letter)) → items ≡ now → place ≡ from → row ≡ get_or items place row → from < length now → row ≡ get_or now from []
read_row items now place from row same at read is_from =
    get_or_read items place row (omega (arith, ap length same, at, is_from)) read [] ∙ (λ i. get_or (same i) (at i) [])

-- a letter was sent
pub letters_sent : {A : Type 0} (items now : List (List (List Letter))) (place from to : ℕ) (row new : List (List Letter)) (packet letter : Letter) (result : Result A MemFault)
    → items ≡ now → place ≡ from → row ≡ get_or items place row → AreSquare items → from < length now → to < length now → packet ≡ letter
    → OnOk result (new ≡ set row to (get_or row to [] ++ packet ∷ [])) → OnOk result (under_way (set items place new) ≡ update_at (under_way now) from to (under_way now from to ++ letter ∷ []))
letters_sent items now place from to row new packet letter result same at read square is_from is_to packed ok =
    let there = read_row items now place from row same at read is_from in
    on_ok_weaker result (λ is.
    (λ i. under_way (set (same i) (at i) new))
    ∙ row_with now from to new (subst AreSquare same square) is_from is_to (under_way now from to ++ letter ∷ [])
    (is ∙ (λ i. set (there i) to (get_or (there i) to [] ++ packed i ∷ [])))) ok

-- a row with one channel changed
record IsChanged (row new : List (List Letter)) (to : ℕ) : Type 0 where
  letters : List Letter
  is : new ≡ set row to letters

changed : (result : Result (Option Letter) MemFault) (row new : List (List Letter)) (to : ℕ)
    → IfOk result (λ taken. MatchOption taken ((get_or row to [] ≡ []) × (new ≡ row)) (λ letter. (get_or row to [] ≡ letter ∷ get_or new to []) × (new ≡ set row to (get_or new to []))))
    → OnErr result (new ≡ row) → IsChanged row new to
changed (Ok None) row new to ok err = record { letters = get_or row to []; is = ok.1 ∙ sym (set-get_or row to []) }
changed (Ok (Some letter)) row new to ok err = record { letters = get_or new to []; is = ok.1 }
changed (Err error) row new to ok err = record { letters = get_or row to []; is = err ∙ sym (set-get_or row to []) }

-- the oldest letter was taken out, where there was one
pub others_left : (items now : List (List (List Letter))) (place from to : ℕ) (row new : List (List Letter)) (result : Result (Option Letter) MemFault)
    → items ≡ now → place ≡ from → row ≡ get_or items place row → AreSquare items → from < length now → to < length now
    → IfOk result (λ taken. MatchOption taken ((get_or row to [] ≡ []) × (new ≡ row)) (λ letter. (get_or row to [] ≡ letter ∷ get_or new to []) × (new ≡ set row to (get_or new to []))))
    → OnErr result (new ≡ row) → under_way (set items place new) ≡ update_at (under_way now) from to (under_way (set items place new) from to)
others_left items now place from to row new result same at read square is_from is_to ok err =
    let there = read_row items now place from row same at read is_from in
    let change = changed result row new to ok err in
    let moved : under_way (set items place new) ≡ update_at (under_way now) from to change.letters =
    (λ i. under_way (set (same i) (at i) new))
    ∙ row_with now from to new (subst AreSquare same square) is_from is_to change.letters (change.is ∙ (λ i. set (there i) to change.letters)) in
    moved ∙ ap (update_at (under_way now) from to) (sym (ap (λ (f : ℕ → ℕ → List Letter). f from to) moved ∙ update_at_same (under_way now) from to change.letters))

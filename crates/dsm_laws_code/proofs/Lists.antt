-- Places in lists.
use Rattle.std.proofs.Common.{◌≡◌, ℕ, zero, suc, ◌+◌, ◌-◌, List, [], ◌∷◌, ◌++◌, length, drop, refl, sym, ap, ◌∙◌, arith, append_assoc}
use Rattle.std.proofs.lemmas.List.{length-drop}

-- where the same stands, and something, the places are one
pub one_place : {A : Type 0} (p q : ℕ) (xs : List A) (x : A) (rest : List A) → drop p xs ≡ x ∷ rest → drop q xs ≡ x ∷ rest → p ≡ q
one_place p q xs x rest a b =
    let first : length xs - p ≡ length (x ∷ rest) = sym (length-drop p xs) ∙ ap length a in
    let second : length xs - q ≡ length (x ∷ rest) = sym (length-drop q xs) ∙ ap length b in
    omega (arith, first, second)

-- a part, two parts, and one more thing
pub parts_apart : {A : Type 0} (x b t : List A) (last : A) (behind : List A) → ((x ++ (b ++ t)) ++ (last ∷ [])) ++ behind ≡ x ++ (b ++ (t ++ (last ∷ behind)))
parts_apart x b t last behind =
    append_assoc (x ++ (b ++ t)) (last ∷ []) behind ∙ append_assoc x (b ++ t) (last ∷ behind) ∙ ap (λ l. x ++ l) (append_assoc b t (last ∷ behind))

-- What is true of all letters under way, after one is sent or taken out.
use Rattle.std.proofs.Common.{◌≡◌, ◌==◌, ℕ, Bool, true, false, if◌then◌else◌, List, [], ◌∷◌, Option, Some, None, Result, Ok, Err, sym, subst, inl, inr}
use Rattle.std.specs.Prelude.{⊤, IfOk, OnErr, IfSome, MatchOption}
use Rattle.std.specs.List.{All}
use Rattle.std.proofs.lemmas.Bool.Decides.{eqb_tells}
use Rattle.std.proofs.lemmas.List.Elements.{All-head, All-tail}
use Rattle.dsm_base.specs.Family.{update, update_at}
use Rattle.dsm_base.specs.declared.errors.MemFault.{MemFault}
use Rattle.dsm_net.specs.declared.trace.Letter.{Letter}

-- of all members of a family of families with one replaced, by their second numbers
pub updated : {A : Type 0} (P : ℕ → A → Type 0) (f : ℕ → ℕ → A) (k l : ℕ) (v : A) → ((i j : ℕ) → P j (f i j)) → P l v → (i j : ℕ) → P j (update_at f k l v i j)
updated P f k l v all is i j = by (i == k)
  where
    second : P j (update (f k) l v j)
    second =
        elim (eqb_tells j l) as (λ _. P j (update (f k) l v j)) [
          | inl (same, is_l) ↦ rw same (subst (λ q. P q v) (sym is_l) is)
          | inr (differs, _) ↦ rw differs (all k j)
        ]

    by : (b : Bool) → P j ((if b then update (f k) l v else f i) j)
    by true = second
    by false = all i j

-- the oldest letter of a channel, and what is left of it
module _ (P : Letter → Type 0) (before now : List Letter) where
  pub taken_out : (result : Result (Option Letter) MemFault) → IfOk result (λ taken. MatchOption taken (before ≡ []) (λ letter. before ≡ letter ∷ now))
      → All P before → IfOk result (λ taken. IfSome taken P)
  taken_out (Err error) is all = tt
  taken_out (Ok None) is all = tt
  taken_out (Ok (Some letter)) is all = All-head P letter now (subst (All P) is all)

  pub left_over : (result : Result (Option Letter) MemFault) → IfOk result (λ taken. MatchOption taken (before ≡ []) (λ letter. before ≡ letter ∷ now))
      → IfOk result (λ taken. MatchOption taken (now ≡ before) (λ letter. ⊤)) → OnErr result (now ≡ before) → All P before → All P now
  left_over (Err error) is none same all = subst (All P) (sym same) all
  left_over (Ok None) is none same all = subst (All P) (sym none) all
  left_over (Ok (Some letter)) is none same all = All-tail P letter now (subst (All P) is all)

-- where nothing was taken
pub none_taken : {P Q : Type 0} (result : Result (Option Letter) MemFault) → (P → Q) → IfOk result (λ taken. MatchOption taken P (λ letter. ⊤)) → IfOk result (λ taken. MatchOption taken Q (λ letter. ⊤))
none_taken (Err error) f is = tt
none_taken (Ok None) f is = f is
none_taken (Ok (Some letter)) f is = tt

-- the letter that was taken is the oldest
pub is_oldest : (taken : Option Letter) (letter : Letter) (before now : List Letter) → taken ≡ Some letter → MatchOption taken (before ≡ []) (λ oldest. before ≡ oldest ∷ now) → before ≡ letter ∷ now
is_oldest None letter before now is all = cc
is_oldest (Some other) letter before now is all = cc

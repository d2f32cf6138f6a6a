-- What is known of a check that succeeded.
use Rattle.std.proofs.Common.{◌≡◌, Bool, true, false, ◌&&◌, List, [], ◌∷◌, Ok, Err, refl, sym, subst, true≢false, if◌then◌else◌}
use Rattle.dsm_syntax.specs.declared.errors.ProgErr.{ProgErr}
use Rattle.dsm_check.specs.Checks.{Check, ◌>>=◌, each}

pub then_ok : {A B : Type 0} (check : Check A) (next : A → Check B) (b : B) → (check >>= next) ≡ Ok b → (a : A) × (check ≡ Ok a) × (next a ≡ Ok b)
then_ok (Ok a) next b h = (a, refl, h)
then_ok (Err e) next b h = absurd (err_not_ok h)
  where
    err_not_ok : {C : Type 0} → Err e ≡ Ok b → C
    err_not_ok h = cc

pub then_in : {A B R : Type 0} (check : Check A) (next : A → Check B) (b : B) → (check >>= next) ≡ Ok b → ((a : A) → check ≡ Ok a → next a ≡ Ok b → R) → R
then_in check next b h use_it = let parts = then_ok check next b h in use_it parts.0 parts.1 parts.2

pub if_ok : {A : Type 0} (test : Bool) (made : Check A) (e : ProgErr) (a : A) → (if test then made else Err e) ≡ Ok a → (test ≡ true) × (made ≡ Ok a)
if_ok true made e a h = (refl, h)
if_ok false made e a h = (cc, cc)

pub each_keeps : {A S : Type 0} (P : S → Type 0) (step : S → A → Check S) → ((s : S) (a : A) (t : S) → step s a ≡ Ok t → P s → P t)
    → (s : S) (all : List A) (t : S) → each step s all ≡ Ok t → P s → P t
each_keeps {A} {S} P step keeps s [] t h p =
    let same : s ≡ t = cc in subst P same p
each_keeps {A} {S} P step keeps s (a ∷ rest) t h p =
    let first = then_ok (step s a) (λ next. each step next rest) t h in
    each_keeps P step keeps first.0 rest t first.2 (keeps s a first.0 first.1 p)

pub both_true : (a b : Bool) → (a && b) ≡ true → (a ≡ true) × (b ≡ true)
both_true true b h = (refl, h)
both_true false b h = absurd (true≢false (sym h))

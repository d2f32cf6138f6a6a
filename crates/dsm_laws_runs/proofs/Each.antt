-- What holds of one number, and of all others, holds of each.
use Rattle.std.specs.Prelude.{◌≢◌, ℕ}
use Rattle.std.proofs.Common.{subst, ⊎_elim}
use Rattle.std.proofs.lemmas.Bool.{cases_eq}

pub for_each : (P : ℕ → Type 0) (p q : ℕ) → P p → (p ≢ q → P q) → P q
for_each P p q mine other = ⊎_elim (λ e. subst P e mine) other (cases_eq p q)

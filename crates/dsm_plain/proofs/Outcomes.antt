-- What holds of a result holds of what follows from it.
use Rattle.std.proofs.Common.{Result, Ok, Err, OnOk, IfOk}

pub on_ok : {A E : Type 0} {P Q : Type 0} (result : Result A E) → OnOk result P → (P → Q) → OnOk result Q
on_ok (Ok a) p f = f p
on_ok (Err e) p f = tt

pub if_both : {A E : Type 0} {P Q R : A → Type 0} (result : Result A E) → IfOk result P → IfOk result Q → ((a : A) → P a → Q a → R a) → IfOk result R
if_both (Ok a) p q f = f a p q
if_both (Err e) p q f = tt

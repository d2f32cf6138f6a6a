-- What a program with every name resolved shows of the lists in it.
use Rattle.std.proofs.Common.{◌≡◌, List, [], ◌∷◌, length, refl, arith}
use Rattle.dsm_check.specs.declared.resolved.Expression.{Expression}
use Rattle.dsm_check.specs.Views.{views}
use Rattle.dsm_laws_code.specs.Expressions.{count_of}

pub counted : (es : List Expression) → count_of (views es) ≡ length es
counted [] = refl
counted (e ∷ es) = let more = counted es in omega (arith, more)

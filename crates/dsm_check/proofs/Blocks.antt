-- Blocks of a body.
use Rattle.std.proofs.Common.{◌≡◌, ℕ, ◌≤◌, ◌||◌, bytes_eq, List, [], ◌∷◌, ◌++◌, map, refl, ap, arith}
use Rattle.dsm_check.specs.declared.scope.Known.{Known}
use Rattle.dsm_check.specs.declared.scope.Known.TheVariants.{Opened, Variable}
use Rattle.dsm_check.specs.Environments.{Entry, is_here}
use Rattle.dsm_check.specs.BodyTables.{entry_of, blocks_in}

-- the innermost block is one of the function's own
pub here_inside : (locals : List Known) (rest : List Entry) (name : List ℕ) → 1 ≤ blocks_in locals
    → is_here (map entry_of locals ++ rest) name ≡ is_here (map entry_of locals) name
here_inside [] rest name h = absurd (omega (arith, h))
here_inside (Opened ∷ locals) rest name h = refl
here_inside (Variable other slot ∷ locals) rest name h = ap (λ below. bytes_eq name other.now || below) (here_inside locals rest name h)

use Rattle.std.proofs.Common.{◌≡◌, map, drop}
use Rattle.dsm_syntax.specs.Fronts.{first_sign}
use Rattle.dsm_syntax.proofs.sign.first_sign.Given as goal

abbrev pub invariant-loop-spelling : goal.invariant-loop-spelling
invariant-loop-spelling l =
    first_sign (map (λ entry. (entry.0.now, entry.1)) (drop l.spelling-index l.table)) l.text ≡ first_sign (map (λ entry. (entry.0.now, entry.1)) l.table) l.text

-- Which holds of one lock go together.
use Rattle.std.specs.Prelude.{Bool, true, false}
use Rattle.dsm_base.specs.declared.names.Mode.{Mode}

-- two may hold one lock at once only where both holds are shared
abbrev pub are_compatible : Mode → Mode → Bool
are_compatible Mode.Shared Mode.Shared = true
are_compatible Mode.Shared Mode.Excl = false
are_compatible Mode.Excl other = false

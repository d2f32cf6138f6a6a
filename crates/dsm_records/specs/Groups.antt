-- Groups of records.
use Rattle.std.specs.Prelude.{◌≢◌, List, []}
use Rattle.std.specs.List.{All}
use Rattle.dsm_net.specs.declared.trace.Group.{Group}

-- no group is empty
abbrev pub AreSome : List Group → Type 0
AreSome groups = All (λ group. group.records ≢ []) groups

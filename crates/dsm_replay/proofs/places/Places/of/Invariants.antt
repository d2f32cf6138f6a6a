use Rattle.std.proofs.Common.{◌≡◌, ℕ, drop}
use Rattle.std.specs.Option.{option_or}
use Rattle.dsm_replay.specs.Places.{first_place}
use Rattle.dsm_replay.specs.Kept.{place_in}
use Rattle.dsm_replay.proofs.places.Places.of.Given as goal

-- the places of those gone over, and of those that are still to come, are the places of all
abbrev pub invariant-loop-at : goal.invariant-loop-at
invariant-loop-at g l =
    (number object : ℕ) → option_or (place_in l.places number object) (first_place g.T.Keyed.entry_key number object l.at (drop l.at l.entries))
    ≡ first_place g.T.Keyed.entry_key number object 0 l.entries

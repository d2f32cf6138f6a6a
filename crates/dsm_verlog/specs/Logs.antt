-- What a log of versions and arrivals has, and what is left of it.
use Rattle.std.specs.Prelude.{ℕ, Bool, if◌then◌else◌, nat_lt, List, [], ◌∷◌, ◌++◌, Option}
use Rattle.std.specs.Option.{option_map}
use Rattle.dsm_base.specs.declared.names.Lock.{Lock}
use Rattle.dsm_base.specs.declared.names.Bar.{Bar}
use Rattle.dsm_base.specs.Family.{update}
use Rattle.dsm_lines.specs.declared.list.Line.{Line}
use Rattle.dsm_lines.specs.declared.of_objects.Version.{Version}
use Rattle.dsm_lines.specs.declared.of_objects.Arrival.{Arrival}
use Rattle.dsm_segments.specs.Entries.{behind, entries, latest, over}
use Rattle.dsm_verlog.specs.declared.log.VersionLog.{VersionLog}

-- the versions of a lock, in the order in which they were pushed
abbrev pub versions_of : VersionLog → ℕ → List Version
versions_of log lock = entries log.versions lock

-- the arrivals at a barrier, in the order in which they were pushed
abbrev pub arrivals_of : VersionLog → ℕ → List Arrival
arrivals_of log bar = entries log.arrivals bar

-- one more version of a lock
abbrev pub with_version : (ℕ → List Version) → Lock → ℕ → List Line → ℕ → List Version
with_version versions lock version lines =
    update versions lock.0 (versions lock.0 ++ record { lock = lock; version = version; lines = lines } ∷ [])

-- one more arrival at a barrier
abbrev pub with_arrival : (ℕ → List Arrival) → Bar → ℕ → List Line → ℕ → List Arrival
with_arrival arrivals bar epoch lines =
    update arrivals bar.0 (arrivals bar.0 ++ record { bar = bar; epoch = epoch; lines = lines } ∷ [])

-- the versions over a number
abbrev pub versions_over : ℕ → List Version → List Version
versions_over least versions = over (λ version. version.version) least versions

-- the lines that were last pushed for an epoch
abbrev pub lines_of_epoch : ℕ → List Arrival → Option (List Line)
lines_of_epoch epoch arrivals = option_map (λ arrival. arrival.lines) (latest (λ arrival. arrival.epoch) epoch arrivals)

-- what is left once the versions at the front go that are not over a number
abbrev pub versions_behind : ℕ → List Version → List Version
versions_behind upto versions = behind (λ version. version.version) upto versions

-- what is left once the arrivals at the front go whose epochs are below a number
abbrev pub arrivals_from : ℕ → List Arrival → List Arrival
arrivals_from below [] = []
arrivals_from below (arrival ∷ arrivals) =
    if nat_lt arrival.epoch below then arrivals_from below arrivals else arrival ∷ arrivals

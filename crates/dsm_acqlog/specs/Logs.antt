-- What a log of grants, openings and records has of each processor.
use Rattle.std.specs.Prelude.{ℕ, ◌<◌, Bool, true, if◌then◌else◌, nat_lt, List, [], ◌∷◌, ◌++◌, Option, Some, None}
use Rattle.std.specs.Option.{option_map}
use Rattle.dsm_base.specs.declared.names.Bar.{Bar}
use Rattle.dsm_base.specs.declared.names.Lock.{Lock}
use Rattle.dsm_base.specs.declared.names.Mode.{Mode}
use Rattle.dsm_base.specs.declared.names.Proc.{Proc}
use Rattle.dsm_base.specs.declared.lists.LoggedGrant.{LoggedGrant}
use Rattle.dsm_base.specs.declared.lists.LoggedOpening.{LoggedOpening}
use Rattle.dsm_base.specs.declared.lists.Record.{Record}
use Rattle.dsm_base.specs.Family.{update}
use Rattle.dsm_segments.specs.Entries.{behind, entries, newest, over}
use Rattle.dsm_acqlog.specs.declared.log.AcquireLog.{AcquireLog}

-- the grants that were sent to a processor
abbrev pub grants_of : AcquireLog → ℕ → List LoggedGrant
grants_of log p = entries log.grants p

-- the openings that were sent to a processor
abbrev pub openings_of : AcquireLog → ℕ → List LoggedOpening
openings_of log p = entries log.openings p

-- the records of a processor
abbrev pub records_of : AcquireLog → ℕ → List Record
records_of log p = entries log.records p

abbrev pub with_grant : (ℕ → List LoggedGrant) → Proc → ℕ → Lock → Mode → ℕ → ℕ → List LoggedGrant
with_grant grants to turn lock mode version =
    update grants to.0 (grants to.0 ++ record { turn = turn; lock = lock; mode = mode; version = version } ∷ [])

abbrev pub with_opening : (ℕ → List LoggedOpening) → Proc → ℕ → Bar → ℕ → ℕ → List LoggedOpening
with_opening openings to turn bar epoch =
    update openings to.0 (openings to.0 ++ record { turn = turn; bar = bar; epoch = epoch } ∷ [])

-- whether a turn is over the last one
abbrev pub is_later : Option ℕ → ℕ → Bool
is_later None turn = true
is_later (Some last) turn = nat_lt last turn

-- those of the records whose turns are over the last one and over that of each taken before
abbrev pub later : Option ℕ → List Record → List Record
later last [] = []
later last (taken ∷ records) =
    if is_later last taken.turn then taken ∷ later (Some taken.turn) records else later last records

abbrev pub last_turn : List Record → Option ℕ
last_turn kept = option_map (λ taken. taken.turn) (newest kept)

-- the records that are kept once these have come
abbrev pub with_records : List Record → List Record → List Record
with_records kept records = kept ++ later (last_turn kept) records

-- each turn is over that of the record before it
abbrev pub AreOnce : List Record → Type 0
AreOnce [] = Unit {0}
AreOnce (taken ∷ []) = Unit {0}
AreOnce (taken ∷ next ∷ records) = (taken.turn < next.turn) × AreOnce (next ∷ records)

-- what is left once the entries at the front go whose turns are not over a number
abbrev pub grants_behind : ℕ → List LoggedGrant → List LoggedGrant
grants_behind upto grants = behind (λ grant. grant.turn) upto grants

abbrev pub openings_behind : ℕ → List LoggedOpening → List LoggedOpening
openings_behind upto openings = behind (λ opening. opening.turn) upto openings

abbrev pub records_behind : ℕ → List Record → List Record
records_behind upto records = behind (λ taken. taken.turn) upto records

-- those whose turns are over a number
abbrev pub grants_over : ℕ → List LoggedGrant → List LoggedGrant
grants_over upto grants = over (λ grant. grant.turn) upto grants

abbrev pub openings_over : ℕ → List LoggedOpening → List LoggedOpening
openings_over upto openings = over (λ opening. opening.turn) upto openings

abbrev pub records_over : ℕ → List Record → List Record
records_over upto records = over (λ taken. taken.turn) upto records

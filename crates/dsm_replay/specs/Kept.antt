-- What is kept of a report.
use Rattle.std.specs.Prelude.{◌≡◌, ℕ, ◌&&◌, nat_eq, List, Option}
use Rattle.std.specs.HashMap as hash
use Rattle.dsm_msg.specs.declared.message.Report.{Report}
use Rattle.dsm_replay.specs.declared.places.Places.{Places}
use Rattle.dsm_replay.specs.Places.{first_place}

-- the place that is noted for a key
abbrev pub place_in : Places → ℕ → ℕ → Option ℕ
place_in it number object = hash.get (λ x y. nat_eq x.0 y.0 && nat_eq x.1 y.1) it.places (number, object)

-- these are the places of the entries of a list
abbrev pub IsIndexOf : {A : Type 0} → (A → ℕ × ℕ) → Places → List A → Type 0
IsIndexOf key_of places entries =
    (number object : ℕ) → place_in places number object ≡ first_place key_of number object 0 entries

-- the places of the entries of a report's lists
pub record ArePlaces (report : Report) (grants openings records versions arrivals : Places) : Type 0 where
  pub of_grants : IsIndexOf (λ grant. (grant.turn, grant.lock.0)) grants report.grants
  pub of_openings : IsIndexOf (λ opening. (opening.turn, opening.bar.0)) openings report.openings
  pub of_records : IsIndexOf (λ taken. (taken.turn, taken.lock.0)) records report.records
  pub of_versions : IsIndexOf (λ made. (made.version, made.lock.0)) versions report.versions
  pub of_arrivals : IsIndexOf (λ arrival. (arrival.epoch, arrival.bar.0)) arrivals report.arrivals

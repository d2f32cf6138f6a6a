-- What the tables of the check show: environments.
use Rattle.std.specs.Prelude.{◌≡◌, ℕ, List, map, reverse, bytes_eq}
use Rattle.std.specs.Map.{lookup}
use Rattle.dsm_check.specs.declared.names.Named.{Named}
use Rattle.dsm_check.specs.Environments.{Entry, known, meaning}

module _ {K : Type 0} (text : K → List ℕ) where
  -- the names in a table, the newest first
  abbrev pub shown : List (K × Named) → List Entry
  shown entries = reverse (map (λ entry. known (text entry.0) entry.1) entries)

  -- what is found in a table is what the names mean
  abbrev pub IsFound : List (K × Named) → Type 0
  IsFound entries = (name : List ℕ) → lookup (λ key. bytes_eq name (text key)) entries ≡ meaning (shown entries) name

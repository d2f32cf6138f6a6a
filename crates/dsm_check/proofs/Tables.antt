-- Tables of names.
use Rattle.std.proofs.Common.{◌≡◌, ℕ, Bool, true, false, List, [], ◌∷◌, ◌++◌, map, reverse, bytes_eq, Some, None, refl, sym, ap, ◌∙◌, cond, if◌then◌else◌}
use Rattle.std.specs.Map.{lookup}
use Rattle.std.proofs.lemmas.List.{reverse-append, map_push}
use Rattle.std.specs.Cmp.Lexicographic.{bytes_decides}
use Rattle.dsm_check.specs.declared.names.Named.{Named}
use Rattle.dsm_check.specs.Environments.{Entry, known, meaning}
use Rattle.dsm_check.specs.Tables.{shown, IsFound}

-- a table without the name, and one entry more
lookup-push : {K : Type 0} (test : K → Bool) (entries : List (K × Named)) (key : K) (named : Named)
    → (test key ≡ true → lookup test entries ≡ None)
    → lookup test (entries ++ (key, named) ∷ []) ≡ (if test key then Some named else lookup test entries)
lookup-push test [] key named absent = refl
lookup-push test (entry ∷ entries) key named absent = by (test entry.0) (test key) absent (lookup-push test entries key named)
  where
    by : (here last : Bool)
        → (last ≡ true → cond here (Some entry.1) (lookup test entries) ≡ None)
        → ((last ≡ true → lookup test entries ≡ None) → lookup test (entries ++ (key, named) ∷ []) ≡ (if last then Some named else lookup test entries))
        → cond here (Some entry.1) (lookup test (entries ++ (key, named) ∷ [])) ≡ (if last then Some named else cond here (Some entry.1) (lookup test entries))
    by true true gone later = cc (gone refl)
    by true false gone later = refl
    by false true gone later = later gone
    by false false gone later = later gone

module _ {K : Type 0} (text : K → List ℕ) where
  pub shown-push : (entries : List (K × Named)) (key : K) (named : Named)
      → shown text (entries ++ (key, named) ∷ []) ≡ known (text key) named ∷ shown text entries
  shown-push entries key named =
      let f : K × Named → Entry = λ entry. known (text entry.0) entry.1 in
      ap reverse (map_push f entries (key, named)) ∙ reverse-append (map f entries) (f (key, named) ∷ [])

  pub found-push : (entries : List (K × Named)) (key : K) (named : Named) → IsFound text entries
      → meaning (shown text entries) (text key) ≡ None → IsFound text (entries ++ (key, named) ∷ [])
  found-push entries key named found absent name =
      let gone : bytes_eq name (text key) ≡ true → lookup (λ k. bytes_eq name (text k)) entries ≡ None
      = λ same. found name ∙ ap (meaning (shown text entries)) ((bytes_decides name (text key)).0 same) ∙ absent in
      lookup-push (λ k. bytes_eq name (text k)) entries key named gone
      ∙ ap (λ other. if bytes_eq name (text key) then Some named else other) (found name)
      ∙ ap (λ all. meaning all name) (sym (shown-push entries key named))

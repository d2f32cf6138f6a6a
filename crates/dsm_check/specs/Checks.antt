-- Checks one after the other, up to the first that fails.
use Rattle.std.specs.Prelude.{ℕ, ℤ, pos, negsuc, min, nat_lt, List, [], ◌∷◌, Some, None, Result, Ok, Err, if◌then◌else◌}
use Rattle.dsm_syntax.specs.declared.errors.ProgErr.{ProgErr}
use Rattle.dsm_syntax.specs.declared.errors.ProgErr.TheVariants as err
use Rattle.dsm_syntax.specs.declared.errors.Which.{Which}
use Rattle.dsm_syntax.specs.declared.tree.Name.{Name}
use Rattle.dsm_check.specs.declared.names.Named.{Named}
use Rattle.dsm_check.specs.Environments.{Entry, meaning, is_here}

-- what was checked, or why the program is refused
abbrev pub Check : Type 0 → Type 0
Check A = Result A ProgErr

infixl 10 ◌>>=◌
-- one rule and then another; the first refusal stands
abbrev pub ◌>>=◌ : {A B : Type 0} → Check A → (A → Check B) → Check B
(Ok a) >>= next = next a
(Err e) >>= next = Err e

-- a step for each of a list, each from what the one before it left
abbrev pub each : {A S : Type 0} → (S → A → Check S) → S → List A → Check S
each step state [] = Ok state
each step state (a ∷ rest) = do
  next ← step state a
  each step next rest

-- the same, with what each makes
abbrev pub each_made : {A B S : Type 0} → (S → A → Check (B × S)) → S → List A → Check (List B × S)
each_made step state [] = Ok ([], state)
each_made step state (a ∷ rest) = do
  first ← step state a
  others ← each_made step first.1 rest
  Ok (first.0 ∷ others.0, others.1)

-- a name that is used as what it isn't
abbrev pub wrong_kind : {A : Type 0} → Name → Check A
wrong_kind name = Err (err.WrongKind name.text name.line)

-- what a name that is used stands for
abbrev pub used : List Entry → Name → Check Named
used names name = elim (meaning names name.text) [
  | None ↦ Err (err.Unknown name.text name.line)
  | Some named ↦ Ok named
]

-- the text of a name that is declared and new in its block
abbrev pub new : List Entry → Name → Check (List ℕ)
new names name = if is_here names name.text then Err (err.Twice name.text name.line) else Ok name.text

-- a count within its limit
abbrev pub within : Which → ℕ → ℕ → Check ℕ
within which most count = if nat_lt most count then Err (err.Limit which (min count 4294967295)) else Ok count

-- a number of the text; none is below 0
abbrev pub natural : ℤ → ℕ
natural (pos n) = n
natural (negsuc n) = 0

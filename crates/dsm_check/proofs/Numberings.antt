-- The numbers of a file's names.
use Rattle.std.proofs.Common.{◌≡◌, ℕ, ◌+◌, ◌<◌, ◌≤◌, Bool, true, false, ◌&&◌, List, [], ◌∷◌, bytes_eq, Option, Some, None, is_some, ◌||◌, IfSome, refl, if◌then◌else◌, arith}
use Rattle.std.proofs.lemmas.Bool.{false≢true}
use Rattle.std.proofs.lemmas.Bool.Decides.{nat_tests}
use Rattle.dsm_syntax.specs.declared.tree.Sharing.{Sharing}
use Rattle.dsm_check.specs.declared.names.Named.{Named}
use Rattle.dsm_check.specs.Environments.{Entry, opened, known, meaning, is_here, extent, total, cells_in, locks_in, barriers_in, functions_in}
use Rattle.dsm_check.specs.FileNames.{most_cells}
use Rattle.std.specs.Prelude.{IsTrue, ⊤}
use Rattle.dsm_check.specs.Numbers.{is_next, is_numbered, IsThere}

abbrev pub IsNext : List Entry → Named → Type 0
IsNext names (Named.Cells sharing first size) = (first ≡ total (cells_in sharing) names) × (first + extent size ≤ most_cells sharing) × (0 < extent size)
IsNext names (Named.Locks first size) = (first ≡ total locks_in names) × (first + extent size ≤ 256) × (0 < extent size)
IsNext names (Named.Barrier number) = (number ≡ total barriers_in names) × (number < 64)
IsNext names (Named.Function number returns params) = (number ≡ total functions_in names) × (number < 256) × (params ≤ 16)
IsNext names (Named.Variable slot) = ⊥

abbrev pub IsNumbered : List Entry → Type 0
IsNumbered [] = ⊤
IsNumbered (opened ∷ names) = ⊥
IsNumbered (known name named ∷ names) = IsNext names named × IsNumbered names

two : (a b : Bool) → IsTrue (a && b) → IsTrue a × IsTrue b
two true true h = (h, h)
two true false h = absurd (false≢true h)
two false b h = absurd (false≢true h)

next : (names : List Entry) (named : Named) → IsTrue (is_next names named) → IsNext names named
next names (Named.Cells sharing first size) h = (grind (arith, nat_tests), grind (arith, nat_tests), grind (arith, nat_tests))
next names (Named.Locks first size) h = (grind (arith, nat_tests), grind (arith, nat_tests), grind (arith, nat_tests))
next names (Named.Barrier number) h = (grind (arith, nat_tests), grind (arith, nat_tests))
next names (Named.Function number returns params) h = (grind (arith, nat_tests), grind (arith, nat_tests), grind (arith, nat_tests))
next names (Named.Variable slot) h = absurd (false≢true h)

numbered : (names : List Entry) → IsTrue (is_numbered names) → IsNumbered names
numbered [] h = tt
numbered (opened ∷ names) h = absurd (false≢true h)
numbered (known name named ∷ names) h =
    let both = two (is_next names named) (is_numbered names) h in
    (next names named both.0, numbered names both.1)

pub record Totals (names : List Entry) : Type 0 where
  pub shared : total (cells_in Sharing.Shared) names ≤ 65536
  pub private : total (cells_in Sharing.Private) names ≤ 16384
  pub locks : total locks_in names ≤ 256
  pub barriers : total barriers_in names ≤ 64
  pub functions : total functions_in names ≤ 256

pub totals : (names : List Entry) → IsNumbered names → Totals names
totals [] numbered = record { shared = omega arith; private = omega arith; locks = omega arith; barriers = omega arith; functions = omega arith }
totals (opened ∷ names) numbered = absurd numbered
totals (known name (Named.Cells Sharing.Shared first size) ∷ names) numbered =
    let before = totals names numbered.1 in
    record { shared = omega (arith, numbered.0.0, numbered.0.1); private = omega arith; locks = omega arith; barriers = omega arith; functions = omega arith }
totals (known name (Named.Cells Sharing.Private first size) ∷ names) numbered =
    let before = totals names numbered.1 in
    record { shared = omega arith; private = omega (arith, numbered.0.0, numbered.0.1); locks = omega arith; barriers = omega arith; functions = omega arith }
totals (known name (Named.Locks first size) ∷ names) numbered =
    let before = totals names numbered.1 in
    record { shared = omega arith; private = omega arith; locks = omega (arith, numbered.0.0, numbered.0.1); barriers = omega arith; functions = omega arith }
totals (known name (Named.Barrier number) ∷ names) numbered =
    let before = totals names numbered.1 in
    record { shared = omega arith; private = omega arith; locks = omega arith; barriers = omega (arith, numbered.0.0, numbered.0.1); functions = omega arith }
totals (known name (Named.Function number returns params) ∷ names) numbered =
    let before = totals names numbered.1 in
    record { shared = omega arith; private = omega arith; locks = omega arith; barriers = omega arith; functions = omega (arith, numbered.0.0, numbered.0.1) }
totals (known name (Named.Variable slot) ∷ names) numbered = absurd numbered.0

cells_few : (sharing : Sharing) (names : List Entry) → IsNumbered names → total (cells_in sharing) names ≤ most_cells sharing
cells_few Sharing.Shared names numbered = (totals names numbered).shared
cells_few Sharing.Private names numbered = (totals names numbered).private

-- one name more leaves what is there
more : (name : List ℕ) (added named : Named) (names : List Entry) → IsNumbered (known name added ∷ names) → IsThere names named
    → IsThere (known name added ∷ names) named
more name added (Named.Cells sharing first size) names numbered there = (omega (arith, there.0), cells_few sharing (known name added ∷ names) numbered, there.2)
more name added (Named.Locks first size) names numbered there = (omega (arith, there.0), (totals (known name added ∷ names) numbered).locks, there.2)
more name added (Named.Barrier number) names numbered there = (omega (arith, there.0), (totals (known name added ∷ names) numbered).barriers)
more name added (Named.Function number returns params) names numbered there = (omega (arith, there.0), (totals (known name added ∷ names) numbered).functions, there.2)
more name added (Named.Variable slot) names numbered there = there

newest : (name : List ℕ) (added : Named) (names : List Entry) → IsNext names added → IsThere (known name added ∷ names) added
newest name (Named.Cells Sharing.Shared first size) names next = (omega (arith, next.0), omega (arith, next.0, next.1), next.2)
newest name (Named.Cells Sharing.Private first size) names next = (omega (arith, next.0), omega (arith, next.0, next.1), next.2)
newest name (Named.Locks first size) names next = (omega (arith, next.0), omega (arith, next.0, next.1), next.2)
newest name (Named.Barrier number) names next = (omega (arith, next.0), omega (arith, next.0, next.1))
newest name (Named.Function number returns params) names next = (omega (arith, next.0), omega (arith, next.0, next.1), next.2)
newest name (Named.Variable slot) names next = next

there_of : (names : List Entry) (name : List ℕ) → IsNumbered names → IfSome (meaning names name) (IsThere names)
there_of [] name numbered = tt
there_of (opened ∷ names) name numbered = absurd numbered
there_of (known other named ∷ names) name numbered = by (bytes_eq name other) (meaning names name) (there_of names name numbered.1)
  where
    by : (same : Bool) (found : Option Named) → IfSome found (IsThere names)
        → IfSome (if same then Some named else found) (IsThere (known other named ∷ names))
    by true found fits = newest other named names numbered.0
    by false None fits = tt
    by false (Some below) fits = more other named below names numbered fits

pub there : (names : List Entry) (name : List ℕ) → IsTrue (is_numbered names) → IfSome (meaning names name) (IsThere names)
there names name h = there_of names name (numbered names h)

here_of : (names : List Entry) (name : List ℕ) → IsNumbered names → is_here names name ≡ is_some (meaning names name)
here_of [] name numbered = refl
here_of (opened ∷ names) name numbered = absurd numbered
here_of (known other named ∷ names) name numbered = by (bytes_eq name other) (here_of names name numbered.1)
  where
    by : (same : Bool) → is_here names name ≡ is_some (meaning names name)
        → (same || is_here names name) ≡ is_some (if same then Some named else meaning names name)
    by true below = refl
    by false below = below

-- a file's name is declared where it means something
pub here : (names : List Entry) (name : List ℕ) → IsTrue (is_numbered names) → is_here names name ≡ is_some (meaning names name)
here names name h = here_of names name (numbered names h)

pub limits : (names : List Entry) → IsTrue (is_numbered names) → Totals names
limits names h = totals names (numbered names h)

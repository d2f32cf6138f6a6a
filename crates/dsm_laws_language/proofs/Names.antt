-- What the names of an accepted program stand for is there.
use Rattle.std.proofs.Common.{◌≡◌, ℕ, zero, suc, ◌+◌, ◌≤◌, nat_lt, Bool, true, false, ◌==◌, List, [], ◌∷◌, ◌++◌, length, bytes_eq, Option, Some, None, IfSome, Ok, Err, refl, sym, ◌∙◌, subst, if◌then◌else◌, arith}
use Rattle.std.specs.Prelude.{slice_get}
use Rattle.std.proofs.lemmas.Bool.{eq-eqb, eqb-true}
use Rattle.std.proofs.lemmas.Bool.Decides.{nat_tests}
use Rattle.std.proofs.lemmas.List.{length-append}
use Rattle.dsm_syntax.specs.declared.errors.ProgErr.TheVariants as err
use Rattle.dsm_syntax.specs.declared.errors.Which.TheVariants as which
use Rattle.dsm_syntax.specs.declared.tree.Name.{Name}
use Rattle.dsm_syntax.specs.declared.tree.Returns.{Returns}
use Rattle.dsm_syntax.specs.declared.tree.Declarator.{Declarator}
use Rattle.dsm_syntax.specs.declared.tree.Sharing.{Sharing}
use Rattle.dsm_syntax.specs.Tree as t
use Rattle.dsm_check.specs.declared.names.Named.{Named}
use Rattle.dsm_check.specs.Resolved as r
use Rattle.dsm_check.specs.Environments.{Entry, opened, known, meaning, closed, extent, total, cells_in, locks_in, barriers_in, functions_in}
use Rattle.dsm_check.specs.Checks.{Check, each, used, new, within}
use Rattle.dsm_check.specs.Numbers.{is_numbered, is_next}
use Rattle.dsm_check.specs.FileNames.{with_cells, with_locks, with_barrier, with_function, with_item, file_names, params_of, size_of, cells_limit, most_cells, main_of}
use Rattle.dsm_check.specs.Bodies.{resolve_function, resolve_statements, with_variable, with_body, functions_of}
use Rattle.dsm_check.specs.Programs.{Program}
use Rattle.dsm_check.proofs.Successes.{then_in, each_keeps, both_true}
use Rattle.dsm_laws_language.specs.Closed.{cells_of, is_below, has_params, is_callable}
use Rattle.dsm_laws_language.proofs.Tests.{ok_in, within_is}

-- Functions are numbered as their names are.

-- the function that a name stands for has so many parameters
abbrev pub IsFunction : List r.Function → Named → Type 0
IsFunction functions (Named.Function number returns params) = has_params params (slice_get functions number) ≡ true
IsFunction functions named = Unit {0}

abbrev pub AreFunctions : List r.Function → List Entry → Type 0
AreFunctions functions [] = Unit {0}
AreFunctions functions (opened ∷ names) = AreFunctions functions names
AreFunctions functions (known name named ∷ names) = IsFunction functions named × AreFunctions functions names

-- as many functions as names of functions
record InStep (names : List Entry) (functions : List r.Function) : Type 0 where
  count : total functions_in names ≡ length functions
  are : AreFunctions functions names

still_has : (count : ℕ) (functions more : List r.Function) (number : ℕ) → has_params count (slice_get functions number) ≡ true
    → has_params count (slice_get (functions ++ more) number) ≡ true
still_has count [] more number h = cc
still_has count (function ∷ functions) more zero h = h
still_has count (function ∷ functions) more (suc number) h = still_has count functions more number h

still_function : (functions more : List r.Function) (named : Named) → IsFunction functions named → IsFunction (functions ++ more) named
still_function functions more (Named.Function number returns params) h = still_has params functions more number h
still_function functions more (Named.Cells sharing first size) h = tt
still_function functions more (Named.Locks first size) h = tt
still_function functions more (Named.Barrier number) h = tt
still_function functions more (Named.Variable slot) h = tt

still_functions : (functions more : List r.Function) (names : List Entry) → AreFunctions functions names → AreFunctions (functions ++ more) names
still_functions functions more [] h = tt
still_functions functions more (opened ∷ names) h = still_functions functions more names h
still_functions functions more (known name named ∷ names) h = (still_function functions more named h.0, still_functions functions more names h.1)

last_has : (functions : List r.Function) (made : r.Function) → has_params made.params (slice_get (functions ++ made ∷ []) (length functions)) ≡ true
last_has [] made = eq-eqb made.params made.params refl
last_has (function ∷ functions) made = last_has functions made

-- a name that is no function's
skips : (functions : List r.Function) (names : List Entry) (name : List ℕ) (named : Named) → functions_in named ≡ 0 → IsFunction functions named
    → InStep names functions → InStep (known name named ∷ names) functions
skips functions names name named none is step = record { count = omega (arith, none, step.count); are = (is, step.are) }

cells_step : (functions : List r.Function) (sharing : Sharing) (names : List Entry) (cell : Declarator) (after : List Entry)
    → with_cells sharing names cell ≡ Ok after → InStep names functions → InStep after functions
cells_step functions sharing names cell after h step =
    then_in (new names cell.name) _ after h (λ name e1 h1.
    then_in (size_of cell.name cell.size) _ after h1 (λ size e2 h2.
    then_in (within (cells_limit sharing) (most_cells sharing) (total (cells_in sharing) names + extent size)) _ after h2 (λ count e3 h3.
    ok_in (λ names. InStep names functions) _ after h3 (skips functions names name (Named.Cells sharing (total (cells_in sharing) names) size) refl tt step))))

locks_step : (functions : List r.Function) (names : List Entry) (lock : Declarator) (after : List Entry)
    → with_locks names lock ≡ Ok after → InStep names functions → InStep after functions
locks_step functions names lock after h step =
    then_in (new names lock.name) _ after h (λ name e1 h1.
    then_in (size_of lock.name lock.size) _ after h1 (λ size e2 h2.
    then_in (within which.Locks 256 (total locks_in names + extent size)) _ after h2 (λ count e3 h3.
    ok_in (λ names. InStep names functions) _ after h3 (skips functions names name (Named.Locks (total locks_in names) size) refl tt step))))

barrier_step : (functions : List r.Function) (names : List Entry) (barrier : Name) (after : List Entry)
    → with_barrier names barrier ≡ Ok after → InStep names functions → InStep after functions
barrier_step functions names barrier after h step =
    then_in (new names barrier) _ after h (λ name e1 h1.
    then_in (within which.Barriers 64 (total barriers_in names + 1)) _ after h1 (λ count e2 h2.
    ok_in (λ names. InStep names functions) _ after h2 (skips functions names name (Named.Barrier (total barriers_in names)) refl tt step)))

-- a function has as many parameters as its name tells
made_params : (all : List Entry) (function : t.Function) (made : r.Function) → resolve_function all function ≡ Ok made
    → made.params ≡ length (params_of function.params)
made_params all function made h =
    then_in (each with_variable (record { names = opened ∷ all; variables = []; slots = 0 }) (params_of function.params)) _ made h (λ start e1 h1.
    then_in (resolve_statements (record { name = function.name.text; returns = function.returns }) false start function.body) _ made h1 (λ body e2 h2.
    ok_in (λ f. f.params ≡ length (params_of function.params)) _ made h2 refl))

added : (names : List Entry) (functions : List r.Function) (name : List ℕ) (returns : Returns) (params : ℕ) (made : r.Function) → made.params ≡ params
    → InStep names functions → InStep (known name (Named.Function (total functions_in names) returns params) ∷ names) (functions ++ made ∷ [])
added names functions name returns params made same step = record {
  count = omega (arith, step.count, length-append functions (made ∷ []));
  are = (
    subst (λ number. has_params params (slice_get (functions ++ made ∷ []) number) ≡ true) (sym step.count)
        (subst (λ count. has_params count (slice_get (functions ++ made ∷ []) (length functions)) ≡ true) same (last_has functions made)),
    still_functions functions (made ∷ []) names step.are,
  );
}

function_step : (all names : List Entry) (functions : List r.Function) (function : t.Function) (after : List Entry) (more : List r.Function)
    → with_function names function ≡ Ok after → with_body all functions (t.function function) ≡ Ok more → InStep names functions → InStep after more
function_step all names functions function after more h g step =
    then_in (new names function.name) _ after h (λ name e1 h1.
    then_in (within which.Functions 256 (total functions_in names + 1)) _ after h1 (λ count e2 h2.
    then_in (within which.Params 16 (length (params_of function.params))) _ after h2 (λ params e3 h3.
    then_in (resolve_function all function) _ more g (λ made e4 g1.
    ok_in (λ names. InStep names more) _ after h3
    (ok_in (λ more. InStep (known name (Named.Function (total functions_in names) function.returns params) ∷ names) more) _ more g1
    (added names functions name function.returns params made
    (made_params all function made e4 ∙ sym (within_is which.Params 16 (length (params_of function.params)) params e3).0) step))))))

item_step : (all names : List Entry) (functions : List r.Function) (item : t.Item) (after : List Entry) (more : List r.Function)
    → with_item names item ≡ Ok after → with_body all functions item ≡ Ok more → InStep names functions → InStep after more
item_step all names functions (t.cells sharing cells) after more h g step =
    ok_in (InStep after) functions more g (each_keeps (λ names. InStep names functions) (with_cells sharing) (cells_step functions sharing) names cells after h step)
item_step all names functions (t.locks locks) after more h g step =
    ok_in (InStep after) functions more g (each_keeps (λ names. InStep names functions) with_locks (locks_step functions) names locks after h step)
item_step all names functions (t.barriers barriers) after more h g step =
    ok_in (InStep after) functions more g (each_keeps (λ names. InStep names functions) with_barrier (barrier_step functions) names barriers after h step)
item_step all names functions (t.bind bind) after more h g step =
    ok_in (InStep after) functions more g (ok_in (λ names. InStep names functions) names after h step)
item_step all names functions (t.bind_each bind) after more h g step =
    ok_in (InStep after) functions more g (ok_in (λ names. InStep names functions) names after h step)
item_step all names functions (t.bind_barrier bind) after more h g step =
    ok_in (InStep after) functions more g (ok_in (λ names. InStep names functions) names after h step)
item_step all names functions (t.function function) after more h g step = function_step all names functions function after more h g step

items_step : (all names : List Entry) (functions : List r.Function) (items : List t.Item) (after : List Entry) (more : List r.Function)
    → each with_item names items ≡ Ok after → each (with_body all) functions items ≡ Ok more → InStep names functions → InStep after more
items_step all names functions [] after more h g step =
    ok_in (InStep after) functions more g (ok_in (λ names. InStep names functions) names after h step)
items_step all names functions (item ∷ rest) after more h g step =
    then_in (with_item names item) _ after h (λ next e1 h1.
    then_in (with_body all functions item) _ more g (λ made e2 g1.
    items_step all next made rest after more h1 g1 (item_step all names functions item next made e1 e2 step)))

-- the functions of a file are those that its names stand for
pub functions_named : (all : List Entry) (items : List t.Item) (names : List Entry) (functions : List r.Function)
    → file_names items ≡ Ok names → functions_of all items ≡ Ok functions → AreFunctions functions names × (total functions_in names ≡ length functions)
functions_named all items names functions h g =
    let step = items_step all [] [] items names functions h g (record { count = refl; are = tt }) in (step.are, step.count)

module _ (program : Program) where
  -- What names stand for.

  abbrev pub IsNamedClosed : ℕ → Named → Type 0
  IsNamedClosed slots (Named.Cells sharing first None) = nat_lt first (cells_of program sharing) ≡ true
  IsNamedClosed slots (Named.Cells sharing first (Some size)) = is_below (cells_of program sharing) (record { first = first; size = size }) ≡ true
  IsNamedClosed slots (Named.Locks first None) = nat_lt first program.locks ≡ true
  IsNamedClosed slots (Named.Locks first (Some size)) = is_below program.locks (record { first = first; size = size }) ≡ true
  IsNamedClosed slots (Named.Barrier number) = nat_lt number program.barriers ≡ true
  IsNamedClosed slots (Named.Function number returns params) = is_callable program number params ≡ true
  IsNamedClosed slots (Named.Variable slot) = nat_lt slot slots ≡ true

  abbrev pub AreNamesClosed : ℕ → List Entry → Type 0
  AreNamesClosed slots [] = Unit {0}
  AreNamesClosed slots (opened ∷ names) = AreNamesClosed slots names
  AreNamesClosed slots (known name named ∷ names) = IsNamedClosed slots named × AreNamesClosed slots names

  pub still_closed : (slots : ℕ) (names : List Entry) → AreNamesClosed slots names → AreNamesClosed slots (closed names)
  still_closed slots [] h = h
  still_closed slots (opened ∷ names) h = h
  still_closed slots (known name named ∷ names) h = still_closed slots names h.1

  pub means_closed : (slots : ℕ) (names : List Entry) (name : List ℕ) → AreNamesClosed slots names → IfSome (meaning names name) (IsNamedClosed slots)
  means_closed slots [] name h = tt
  means_closed slots (opened ∷ names) name h = means_closed slots names name h
  means_closed slots (known other named ∷ names) name h = by (bytes_eq name other) (meaning names name) (means_closed slots names name h.1)
    where
      by : (same : Bool) (found : Option Named) → IfSome found (IsNamedClosed slots) → IfSome (if same then Some named else found) (IsNamedClosed slots)
      by true found below = h.0
      by false found below = below

  pub used_closed : (slots : ℕ) (names : List Entry) (name : Name) (named : Named) → AreNamesClosed slots names → used names name ≡ Ok named
      → IsNamedClosed slots named
  used_closed slots names name named all h = by (meaning names name.text) (means_closed slots names name.text all) h
    where
      by : (found : Option Named) → IfSome found (IsNamedClosed slots)
          → elim found as (λ _. Check Named) [ None ↦ Err (err.Unknown name.text name.line) | Some named ↦ Ok named ] ≡ Ok named → IsNamedClosed slots named
      by None fits h = cc
      by (Some other) fits h = ok_in (IsNamedClosed slots) other named h fits

  -- The names of a file.

  pub record AreTotals (names : List Entry) : Type 0 where
    pub shared : total (cells_in Sharing.Shared) names ≤ program.shared_cells
    pub private : total (cells_in Sharing.Private) names ≤ program.private_cells
    pub locks : total locks_in names ≤ program.locks
    pub bars : total barriers_in names ≤ program.barriers

  fits : (names : List Entry) (name : List ℕ) (named : Named) → is_next names named ≡ true → IsFunction program.functions named
      → AreTotals (known name named ∷ names) → IsNamedClosed 0 named
  fits names name (Named.Cells Sharing.Shared first None) next is most = grind (arith, nat_tests, most.shared)
  fits names name (Named.Cells Sharing.Shared first (Some size)) next is most = grind (arith, nat_tests, most.shared)
  fits names name (Named.Cells Sharing.Private first None) next is most = grind (arith, nat_tests, most.private)
  fits names name (Named.Cells Sharing.Private first (Some size)) next is most = grind (arith, nat_tests, most.private)
  fits names name (Named.Locks first None) next is most = grind (arith, nat_tests, most.locks)
  fits names name (Named.Locks first (Some size)) next is most = grind (arith, nat_tests, most.locks)
  fits names name (Named.Barrier number) next is most = grind (arith, nat_tests, most.bars)
  fits names name (Named.Function number returns params) next is most = is
  fits names name (Named.Variable slot) next is most = cc

  fewer : (names : List Entry) (name : List ℕ) (named : Named) → AreTotals (known name named ∷ names) → AreTotals names
  fewer names name named most = record {
    shared = omega (arith, most.shared);
    private = omega (arith, most.private);
    locks = omega (arith, most.locks);
    bars = omega (arith, most.bars);
  }

  pub file_closed : (names : List Entry) → is_numbered names ≡ true → AreFunctions program.functions names → AreTotals names → AreNamesClosed 0 names
  file_closed [] numbered are most = tt
  file_closed (opened ∷ names) numbered are most = cc
  file_closed (known name named ∷ names) numbered are most =
      let both = both_true (is_next names named) (is_numbered names) numbered in
      (fits names name named both.0 are.0 most, file_closed names both.1 are.1 (fewer names name named most))

  -- a file's names stand for no variables, so they don't ask for slots
  any_slots : (slots : ℕ) (named : Named) → IsNamedClosed 0 named → IsNamedClosed slots named
  any_slots slots (Named.Cells sharing first None) h = h
  any_slots slots (Named.Cells sharing first (Some size)) h = h
  any_slots slots (Named.Locks first None) h = h
  any_slots slots (Named.Locks first (Some size)) h = h
  any_slots slots (Named.Barrier number) h = h
  any_slots slots (Named.Function number returns params) h = h
  any_slots slots (Named.Variable slot) h = grind (arith, nat_tests)

  pub all_any_slots : (slots : ℕ) (names : List Entry) → AreNamesClosed 0 names → AreNamesClosed slots names
  all_any_slots slots [] h = tt
  all_any_slots slots (opened ∷ names) h = all_any_slots slots names h
  all_any_slots slots (known name named ∷ names) h = (any_slots slots named h.0, all_any_slots slots names h.1)

  -- `main` is a function with two parameters
  pub main_closed : (slots : ℕ) (found : Option Named) (main : ℕ) → IfSome found (IsNamedClosed slots) → main_of found ≡ Ok main
      → is_callable program main 2 ≡ true
  main_closed slots None main fits h = cc
  main_closed slots (Some (Named.Cells sharing first size)) main fits h = cc
  main_closed slots (Some (Named.Locks first size)) main fits h = cc
  main_closed slots (Some (Named.Barrier number)) main fits h = cc
  main_closed slots (Some (Named.Variable slot)) main fits h = cc
  main_closed slots (Some (Named.Function number Returns.Void params)) main fits h = cc
  main_closed slots (Some (Named.Function number Returns.Int params)) main fits h = by (params == 2) refl h
    where
      by : (same : Bool) → (params == 2) ≡ same → (if same then Ok number else Err err.NoMain) ≡ Ok main → is_callable program main 2 ≡ true
      by true e h =
          ok_in (λ main. is_callable program main 2 ≡ true) number main h
          (subst (λ count. is_callable program number count ≡ true) (eqb-true params 2 e) fits)
      by false e h = cc

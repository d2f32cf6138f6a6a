-- An accepted program names only cells, locks and barriers that there are, and its prints fit into lines.
use Rattle.std.proofs.Common.{◌≡◌, ℕ, ◌+◌, ◌*◌, ◌<◌, ◌≤◌, nat_lt, min, Bool, true, false, ◌&&◌, List, [], ◌∷◌, ◌++◌, length, bytes_eq, Option, Some, None, IfSome, Ok, Err, refl, sym, subst, if◌then◌else◌, arith}
use Rattle.std.specs.Prelude.{IsTrue}
use Rattle.std.specs.List.{AllByRecursion, AllByRecursion-prop}
use Rattle.std.proofs.lemmas.Bool.Decides.{nat_tests}
use Rattle.std.proofs.Math.Logic.{∥∥₁_elim}
use Rattle.std.proofs.Props.{props}
use Rattle.dsm_base.specs.declared.setup.Setup.{Setup}
use Rattle.dsm_syntax.specs.declared.errors.ProgErr.TheVariants as err
use Rattle.dsm_syntax.specs.declared.errors.Which.{Which}
use Rattle.dsm_syntax.specs.declared.errors.Which.TheVariants as which
use Rattle.dsm_syntax.specs.declared.tree.Name.{Name}
use Rattle.dsm_syntax.specs.declared.tree.Sharing.{Sharing}
use Rattle.dsm_syntax.specs.Tree as t
use Rattle.dsm_syntax.specs.Sound.{all_are, is_sound_option, is_sound, is_sound_part, is_sound_start, is_sound_statement, are_sound_statements, is_sound_item, is_sound_program}
use Rattle.dsm_check.specs.declared.names.Named.{Named}
use Rattle.dsm_check.specs.declared.resolved.Array.{Array}
use Rattle.dsm_check.specs.Resolved as r
use Rattle.dsm_check.specs.Environments.{Entry, opened, known, meaning, closed, total, cells_in, locks_in, barriers_in}
use Rattle.dsm_check.specs.Checks.{Check, each, each_made, used, new, within}
use Rattle.dsm_check.specs.Numbers.{is_numbered, is_next}
use Rattle.dsm_check.specs.FileNames.{file_names, main_of, main_name, params_of}
use Rattle.dsm_check.specs.Bindings.{as_barrier, pieces_of}
use Rattle.dsm_check.specs.Bodies.{Scope, Around, as_single, as_array, as_called, count_of, resolve_place, resolve, resolve_all, resolve_effect, optional, with_variable, resolve_variable, open_block, closing, as_one_lock, as_lock_array, resolve_lock, resolve_part, all_made, text_bytes, resolve_print, resolve_start, is_void, resolve_return, resolve_statement, resolve_statements, resolve_function, with_body, functions_of}
use Rattle.dsm_check.specs.Programs.{Program, checked}
use Rattle.dsm_check.specs.Accepted.{IsAccepted}
use Rattle.dsm_check.specs.declared.checked.Checked.{Checked}
use Rattle.dsm_check.specs.CheckedViews.{program_of}
use Rattle.dsm_check.specs.Setups.{IsSetupOf}
use Rattle.dsm_semantics.specs.Within.{Extent, extent_of, extent_in, IsArrayBelow, IsCellWithin, IsArrayWithin, IsLocationWithin, IsWithin, AreWithin, IsOptionWithin, AreVariablesWithin, IsPartWithin, ArePartsWithin, most_bytes, IsPrintWithin, IsStartWithin, IsLockWithin, IsStatementWithin, AreStatementsWithin, AreFunctionsWithin}
use Rattle.dsm_check.proofs.Successes.{then_in, each_keeps, both_true}

ok_in : {A : Type 0} (P : A → Type 0) (a b : A) → ◌≡◌ {A = Check A} (Ok a) (Ok b) → P a → P b
ok_in P a b h p = let same : a ≡ b = cc in subst P same p

all_more : {A : Type 0} (P : A → Type 0) (items : List A) (item : A) → AllByRecursion P items → P item → AllByRecursion P (items ++ item ∷ [])
all_more P [] item all one = (one, tt)
all_more P (first ∷ items) item all one = (all.0, all_more P items item all.1 one)

within_most : (which : Which) (most count made : ℕ) → within which most count ≡ Ok made → count ≤ most
within_most which most count made h = by (nat_lt most count) refl h
  where
    by : (over : Bool) → nat_lt most count ≡ over → (if over then Err (err.Limit which (min count 4294967295)) else Ok count) ≡ Ok made → count ≤ most
    by true e h = cc
    by false e h = grind (arith, nat_tests)

module _ (extent : Extent) where
  -- Each claim has one proof at most.

  cell_prop : (sharing : Sharing) (number : ℕ) → IsProp (IsCellWithin extent sharing number)
  cell_prop Sharing.Shared number = hlevel props
  cell_prop Sharing.Private number = λ a b. refl

  array_prop : (sharing : Sharing) (array : Array) → IsProp (IsArrayWithin extent sharing array)
  array_prop Sharing.Shared array = hlevel props
  array_prop Sharing.Private array = λ a b. refl

  mutual
    location_prop : (location : r.Location) → IsProp (IsLocationWithin extent location)
    location_prop (r.variable number) = λ a b. refl
    location_prop (r.cell sharing number line) = cell_prop sharing number
    location_prop (r.element sharing array index line) = λ a b i. (array_prop sharing array a.0 b.0 i, expression_prop index a.1 b.1 i)

    expression_prop : (e : r.Expression) → IsProp (IsWithin extent e)
    expression_prop (r.number n) = λ a b. refl
    expression_prop (r.load location) = location_prop location
    expression_prop (r.call function arguments line) = all_prop arguments
    expression_prop (r.unary op line e) = expression_prop e
    expression_prop (r.prefix op line location) = location_prop location
    expression_prop (r.postfix location op line) = location_prop location
    expression_prop (r.binary x op line y) = λ a b i. (expression_prop x a.0 b.0 i, expression_prop y a.1 b.1 i)
    expression_prop (r.choice test x y) = λ a b i. (expression_prop test a.0 b.0 i, expression_prop x a.1 b.1 i, expression_prop y a.2 b.2 i)
    expression_prop (r.assign location op line e) = λ a b i. (location_prop location a.0 b.0 i, expression_prop e a.1 b.1 i)

    all_prop : (arguments : r.Expressions) → IsProp (AreWithin extent arguments)
    all_prop r.nil = λ a b. refl
    all_prop (r.cons e rest) = λ a b i. (expression_prop e a.0 b.0 i, all_prop rest a.1 b.1 i)

  option_prop : (value : Option r.Expression) → IsProp (IsOptionWithin extent value)
  option_prop None = λ a b. refl
  option_prop (Some e) = expression_prop e

  variables_prop : (variables : List r.Variable) → IsProp (AreVariablesWithin extent variables)
  variables_prop variables = AllByRecursion-prop (λ variable. IsOptionWithin extent variable.initial) (λ variable. option_prop variable.initial) variables

  part_prop : (part : r.Part) → IsProp (IsPartWithin extent part)
  part_prop (r.part_text text) = hlevel props
  part_prop (r.part_value e) = expression_prop e

  print_prop : (parts : List r.Part) → IsProp (IsPrintWithin extent parts)
  print_prop parts =
      let few : IsProp (most_bytes parts ≤ 256) = hlevel props in
      λ a b i. (AllByRecursion-prop (IsPartWithin extent) part_prop parts a.0 b.0 i, few a.1 b.1 i)

  start_prop : (start : r.ForStart) → IsProp (IsStartWithin extent start)
  start_prop r.start_nothing = λ a b. refl
  start_prop (r.start_variables variables) = variables_prop variables
  start_prop (r.start_expression e) = expression_prop e

  lock_prop : (lock : r.LockPlace) → IsProp (IsLockWithin extent lock)
  lock_prop (r.one_lock lock line) = hlevel props
  lock_prop (r.lock_element array index line) =
      let below : IsProp (IsArrayBelow extent.locks array) = hlevel props in λ a b i. (below a.0 b.0 i, expression_prop index a.1 b.1 i)

  mutual
    statement_prop : (statement : r.Statement) → IsProp (IsStatementWithin extent statement)
    statement_prop (r.block body) = statements_prop body
    statement_prop r.empty = λ a b. refl
    statement_prop (r.variables variables) = variables_prop variables
    statement_prop (r.expression e) = expression_prop e
    statement_prop (r.when test body) = λ a b i. (expression_prop test a.0 b.0 i, statement_prop body a.1 b.1 i)
    statement_prop (r.either test body other) = λ a b i. (expression_prop test a.0 b.0 i, statement_prop body a.1 b.1 i, statement_prop other a.2 b.2 i)
    statement_prop (r.while test body) = λ a b i. (expression_prop test a.0 b.0 i, statement_prop body a.1 b.1 i)
    statement_prop (r.for start test step body) =
        λ a b i. (start_prop start a.0 b.0 i, option_prop test a.1 b.1 i, option_prop step a.2 b.2 i, statement_prop body a.3 b.3 i)
    statement_prop r.break = λ a b. refl
    statement_prop r.continue = λ a b. refl
    statement_prop (r.return value) = option_prop value
    statement_prop (r.acquire lock mode) = lock_prop lock
    statement_prop (r.release lock) = lock_prop lock
    statement_prop (r.barrier bar) = hlevel props
    statement_prop (r.print parts) = print_prop parts

    statements_prop : (statements : r.Statements) → IsProp (AreStatementsWithin extent statements)
    statements_prop r.none = λ a b. refl
    statements_prop (r.then statement rest) = λ a b i. (statement_prop statement a.0 b.0 i, statements_prop rest a.1 b.1 i)

  functions_prop : (functions : List r.Function) → IsProp (AreFunctionsWithin extent functions)
  functions_prop functions = AllByRecursion-prop (λ function. AreStatementsWithin extent function.body) (λ function. statements_prop function.body) functions

  -- What names stand for.

  abbrev IsNamedWithin : Named → Type 0
  IsNamedWithin (Named.Cells sharing first None) = IsCellWithin extent sharing first
  IsNamedWithin (Named.Cells sharing first (Some size)) = IsArrayWithin extent sharing (record { first = first; size = size })
  IsNamedWithin (Named.Locks first None) = first < extent.locks
  IsNamedWithin (Named.Locks first (Some size)) = first + size ≤ extent.locks
  IsNamedWithin (Named.Barrier number) = number < extent.bars
  IsNamedWithin (Named.Function number returns params) = Unit {0}
  IsNamedWithin (Named.Variable slot) = Unit {0}

  abbrev AreNamesWithin : List Entry → Type 0
  AreNamesWithin [] = Unit {0}
  AreNamesWithin (opened ∷ names) = AreNamesWithin names
  AreNamesWithin (known name named ∷ names) = IsNamedWithin named × AreNamesWithin names

  closed_within : (names : List Entry) → AreNamesWithin names → AreNamesWithin (closed names)
  closed_within [] h = h
  closed_within (opened ∷ names) h = h
  closed_within (known name named ∷ names) h = closed_within names h.1

  means_within : (names : List Entry) (name : List ℕ) → AreNamesWithin names → IfSome (meaning names name) IsNamedWithin
  means_within [] name h = tt
  means_within (opened ∷ names) name h = means_within names name h
  means_within (known other named ∷ names) name h = by (bytes_eq name other) (meaning names name) (means_within names name h.1)
    where
      by : (same : Bool) (found : Option Named) → IfSome found IsNamedWithin → IfSome (if same then Some named else found) IsNamedWithin
      by true found below = h.0
      by false found below = below

  used_within : (names : List Entry) (name : Name) (named : Named) → AreNamesWithin names → used names name ≡ Ok named → IsNamedWithin named
  used_within names name named all h = by (meaning names name.text) (means_within names name.text all) h
    where
      by : (found : Option Named) → IfSome found IsNamedWithin
          → elim found as (λ _. Check Named) [ None ↦ Err (err.Unknown name.text name.line) | Some named ↦ Ok named ] ≡ Ok named → IsNamedWithin named
      by None fits h = cc
      by (Some other) fits h = ok_in IsNamedWithin other named h fits

  single_within : (name : Name) (named : Named) (x : r.Location) → IsNamedWithin named → as_single name named ≡ Ok x → IsLocationWithin extent x
  single_within name (Named.Variable slot) x w h = ok_in (IsLocationWithin extent) (r.variable slot) x h tt
  single_within name (Named.Cells sharing first None) x w h = ok_in (IsLocationWithin extent) (r.cell sharing first name.line) x h w
  single_within name (Named.Cells sharing first (Some size)) x w h = cc
  single_within name (Named.Locks first size) x w h = cc
  single_within name (Named.Barrier number) x w h = cc
  single_within name (Named.Function number returns params) x w h = cc

  array_within : (name : Name) (named : Named) (made : Sharing × Array) → IsNamedWithin named → as_array name named ≡ Ok made → IsArrayWithin extent made.0 made.1
  array_within name (Named.Cells sharing first (Some size)) made w h =
      ok_in (λ made. IsArrayWithin extent made.0 made.1) (sharing, record { first = first; size = size }) made h w
  array_within name (Named.Cells sharing first None) made w h = cc
  array_within name (Named.Variable slot) made w h = cc
  array_within name (Named.Locks first size) made w h = cc
  array_within name (Named.Barrier number) made w h = cc
  array_within name (Named.Function number returns params) made w h = cc

  one_lock_within : (name : Name) (named : Named) (x : r.LockPlace) → IsNamedWithin named → as_one_lock name named ≡ Ok x → IsLockWithin extent x
  one_lock_within name (Named.Locks first None) x w h = ok_in (IsLockWithin extent) (r.one_lock (record { 0 = first }) name.line) x h w
  one_lock_within name (Named.Locks first (Some size)) x w h = cc
  one_lock_within name (Named.Variable slot) x w h = cc
  one_lock_within name (Named.Cells sharing first size) x w h = cc
  one_lock_within name (Named.Barrier number) x w h = cc
  one_lock_within name (Named.Function number returns params) x w h = cc

  lock_array_within : (name : Name) (named : Named) (array : Array) → IsNamedWithin named → as_lock_array name named ≡ Ok array → IsArrayBelow extent.locks array
  lock_array_within name (Named.Locks first (Some size)) array w h = ok_in (IsArrayBelow extent.locks) (record { first = first; size = size }) array h w
  lock_array_within name (Named.Locks first None) array w h = cc
  lock_array_within name (Named.Variable slot) array w h = cc
  lock_array_within name (Named.Cells sharing first size) array w h = cc
  lock_array_within name (Named.Barrier number) array w h = cc
  lock_array_within name (Named.Function number returns params) array w h = cc

  barrier_within : (name : Name) (named : Named) (number : ℕ) → IsNamedWithin named → as_barrier name named ≡ Ok number → number < extent.bars
  barrier_within name (Named.Barrier bar) number w h = ok_in (λ n. n < extent.bars) bar number h w
  barrier_within name (Named.Locks first size) number w h = cc
  barrier_within name (Named.Variable slot) number w h = cc
  barrier_within name (Named.Cells sharing first size) number w h = cc
  barrier_within name (Named.Function other returns params) number w h = cc

  -- Expressions.

  module _ (names : List Entry) (all : AreNamesWithin names) where
    mutual
      place_within : (place : t.Place) (x : r.Location) → resolve_place names place ≡ Ok x → IsLocationWithin extent x
      place_within (t.single name) x h =
          then_in (used names name) _ x h (λ named e1 h1. single_within name named x (used_within names name named all e1) h1)
      place_within (t.element name index) x h =
          then_in (used names name) _ x h (λ named e1 h1.
          then_in (as_array name named) _ x h1 (λ array e2 h2.
          then_in (resolve names index) _ x h2 (λ at e3 h3.
          ok_in (IsLocationWithin extent) _ x h3 (array_within name named array (used_within names name named all e1) e2, expression_within index at e3))))

      expression_within : (e : t.Expression) (x : r.Expression) → resolve names e ≡ Ok x → IsWithin extent x
      expression_within (t.number value) x h = ok_in (IsWithin extent) (r.number value) x h tt
      expression_within (t.at place) x h =
          then_in (resolve_place names place) _ x h (λ location e1 h1. ok_in (IsWithin extent) _ x h1 (place_within place location e1))
      expression_within (t.paren e) x h = expression_within e x h
      expression_within (t.call name arguments) x h =
          then_in (used names name) _ x h (λ named e1 h1.
          then_in (as_called true name (count_of arguments) named) _ x h1 (λ function e2 h2.
          then_in (resolve_all names arguments) _ x h2 (λ values e3 h3.
          ok_in (IsWithin extent) _ x h3 (all_within arguments values e3))))
      expression_within (t.unary op line e) x h =
          then_in (resolve names e) _ x h (λ value e1 h1. ok_in (IsWithin extent) _ x h1 (expression_within e value e1))
      expression_within (t.prefix op line place) x h =
          then_in (resolve_place names place) _ x h (λ location e1 h1. ok_in (IsWithin extent) _ x h1 (place_within place location e1))
      expression_within (t.postfix place op line) x h =
          then_in (resolve_place names place) _ x h (λ location e1 h1. ok_in (IsWithin extent) _ x h1 (place_within place location e1))
      expression_within (t.binary a op line b) x h =
          then_in (resolve names a) _ x h (λ left e1 h1.
          then_in (resolve names b) _ x h1 (λ right e2 h2.
          ok_in (IsWithin extent) _ x h2 (expression_within a left e1, expression_within b right e2)))
      expression_within (t.choice test line a b) x h =
          then_in (resolve names test) _ x h (λ condition e1 h1.
          then_in (resolve names a) _ x h1 (λ one e2 h2.
          then_in (resolve names b) _ x h2 (λ other e3 h3.
          ok_in (IsWithin extent) _ x h3 (expression_within test condition e1, expression_within a one e2, expression_within b other e3))))
      expression_within (t.assign place op line e) x h =
          then_in (resolve_place names place) _ x h (λ location e1 h1.
          then_in (resolve names e) _ x h1 (λ value e2 h2.
          ok_in (IsWithin extent) _ x h2 (place_within place location e1, expression_within e value e2)))

      all_within : (arguments : t.Expressions) (x : r.Expressions) → resolve_all names arguments ≡ Ok x → AreWithin extent x
      all_within t.nil x h = ok_in (AreWithin extent) r.nil x h tt
      all_within (t.cons e rest) x h =
          then_in (resolve names e) _ x h (λ first e1 h1.
          then_in (resolve_all names rest) _ x h1 (λ others e2 h2.
          ok_in (AreWithin extent) _ x h2 (expression_within e first e1, all_within rest others e2)))

    effect_within : (e : t.Expression) (x : r.Expression) → resolve_effect names e ≡ Ok x → IsWithin extent x
    effect_within (t.call name arguments) x h =
        then_in (used names name) _ x h (λ named e1 h1.
        then_in (as_called false name (count_of arguments) named) _ x h1 (λ function e2 h2.
        then_in (resolve_all names arguments) _ x h2 (λ values e3 h3.
        ok_in (IsWithin extent) _ x h3 (all_within arguments values e3))))
    effect_within (t.number value) x h = expression_within (t.number value) x h
    effect_within (t.at place) x h = expression_within (t.at place) x h
    effect_within (t.paren e) x h = expression_within (t.paren e) x h
    effect_within (t.unary op line e) x h = expression_within (t.unary op line e) x h
    effect_within (t.prefix op line place) x h = expression_within (t.prefix op line place) x h
    effect_within (t.postfix place op line) x h = expression_within (t.postfix place op line) x h
    effect_within (t.binary a op line b) x h = expression_within (t.binary a op line b) x h
    effect_within (t.choice test line a b) x h = expression_within (t.choice test line a b) x h
    effect_within (t.assign place op line e) x h = expression_within (t.assign place op line e) x h

    optional_within : {A : Type 0} (check : A → Check r.Expression) → ((a : A) (x : r.Expression) → check a ≡ Ok x → IsWithin extent x)
        → (value : Option A) (x : Option r.Expression) → optional check value ≡ Ok x → IsOptionWithin extent x
    optional_within check each_is None x h = ok_in (IsOptionWithin extent) None x h tt
    optional_within check each_is (Some a) x h =
        then_in (check a) _ x h (λ b e1 h1. ok_in (IsOptionWithin extent) (Some b) x h1 (each_is a b e1))

    lock_within : (place : t.Place) (x : r.LockPlace) → resolve_lock names place ≡ Ok x → IsLockWithin extent x
    lock_within (t.single name) x h =
        then_in (used names name) _ x h (λ named e1 h1. one_lock_within name named x (used_within names name named all e1) h1)
    lock_within (t.element name index) x h =
        then_in (used names name) _ x h (λ named e1 h1.
        then_in (as_lock_array name named) _ x h1 (λ array e2 h2.
        then_in (resolve names index) _ x h2 (λ at e3 h3.
        ok_in (IsLockWithin extent) _ x h3 (lock_array_within name named array (used_within names name named all e1) e2, expression_within index at e3))))

    part_within : (part : t.Part) (x : r.Part) → is_sound_part part ≡ true → resolve_part names part ≡ Ok x → IsPartWithin extent x
    part_within (t.part_text text) x sound h = ok_in (IsPartWithin extent) (r.part_text text) x h sound
    part_within (t.part_value e) x sound h =
        then_in (resolve names e) _ x h (λ value e1 h1. ok_in (IsPartWithin extent) _ x h1 (expression_within e value e1))

    parts_within : (parts : List t.Part) (x : List r.Part) → all_are is_sound_part parts ≡ true → all_made (resolve_part names) parts ≡ Ok x → ArePartsWithin extent x
    parts_within [] x sound h = ok_in (ArePartsWithin extent) [] x h tt
    parts_within (part ∷ rest) x sound h =
        let both = both_true (is_sound_part part) (all_are is_sound_part rest) sound in
        then_in (resolve_part names part) _ x h (λ first e1 h1.
        then_in (all_made (resolve_part names) rest) _ x h1 (λ others e2 h2.
        ok_in (ArePartsWithin extent) _ x h2 (part_within part first both.0 e1, parts_within rest others both.1 e2)))

    abbrev AreFew : List t.Part → List r.Part → Type 0
    AreFew parts x = most_bytes x ≤ 20 * length parts + text_bytes parts

    one_more : (part : t.Part) (rest : List t.Part) (x : r.Part) (others : List r.Part) → resolve_part names part ≡ Ok x → AreFew rest others → AreFew (part ∷ rest) (x ∷ others)
    one_more (t.part_text text) rest x others h few =
        ok_in (λ made. AreFew (t.part_text text ∷ rest) (made ∷ others)) (r.part_text text) x h (omega (arith, few))
    one_more (t.part_value e) rest x others h few =
        then_in (resolve names e) _ x h (λ value e1 h1.
        ok_in (λ made. AreFew (t.part_value e ∷ rest) (made ∷ others)) (r.part_value value) x h1 (omega (arith, few)))

    parts_few : (parts : List t.Part) (x : List r.Part) → all_made (resolve_part names) parts ≡ Ok x → AreFew parts x
    parts_few [] x h = ok_in (AreFew []) [] x h (omega arith)
    parts_few (part ∷ rest) x h =
        then_in (resolve_part names part) _ x h (λ first e1 h1.
        then_in (all_made (resolve_part names) rest) _ x h1 (λ others e2 h2.
        ok_in (AreFew (part ∷ rest)) _ x h2 (one_more part rest first others e1 (parts_few rest others e2))))

    print_within : (parts : List t.Part) (x : List r.Part) → all_are is_sound_part parts ≡ true → resolve_print names parts ≡ Ok x → IsPrintWithin extent x
    print_within parts x sound h =
        then_in (within which.PrintParts 8 (length parts)) _ x h (λ count e1 h1.
        then_in (within which.PrintText 96 (text_bytes parts)) _ x h1 (λ bytes e2 h2.
        let few = within_most which.PrintParts 8 (length parts) count e1 in
        let short = within_most which.PrintText 96 (text_bytes parts) bytes e2 in
        (parts_within parts x sound h2, omega (arith, few, short, parts_few parts x h2))))

    return_within : (around : Around) (line : ℕ) (value : Option t.Expression) (x : Option r.Expression) → resolve_return around names line value ≡ Ok x → IsOptionWithin extent x
    return_within around line None x h = ok_in (IsOptionWithin extent) None x h tt
    return_within around line (Some e) x h = by (is_void around.returns) h
      where
        by : (test : Bool) → (if test then Err (err.WrongKind around.name line) else optional (resolve names) (Some e)) ≡ Ok x → IsOptionWithin extent x
        by true h = cc
        by false h = optional_within (resolve names) expression_within (Some e) x h

  -- Variables.

  variable_known : (scope : Scope) (name : Name) (after : Scope) → with_variable scope name ≡ Ok after → AreNamesWithin scope.names → AreNamesWithin after.names
  variable_known scope name after h all =
      then_in (new scope.names name) _ after h (λ text e1 h1.
      then_in (within which.Slots 192 (scope.slots + 1)) _ after h1 (λ count e2 h2.
      ok_in (λ s. AreNamesWithin s.names) _ after h2 (tt, all)))

  abbrev KeepsVariable : r.Variable × Scope → Type 0
  KeepsVariable made = IsOptionWithin extent made.0.initial × AreNamesWithin made.1.names

  variable_within : (scope : Scope) (variable : t.Variable) (made : r.Variable × Scope) → resolve_variable scope variable ≡ Ok made → AreNamesWithin scope.names → KeepsVariable made
  variable_within scope variable made h all =
      then_in (with_variable scope variable.name) _ made h (λ after e1 h1.
      then_in (optional (λ initial. resolve after.names initial.value) variable.initial) _ made h1 (λ initial e2 h2.
      let kept = variable_known scope variable.name after e1 all in
      ok_in KeepsVariable _ made h2
      (optional_within after.names kept (λ initial. resolve after.names initial.value) (λ initial x is. expression_within after.names kept initial.value x is) variable.initial initial e2, kept)))

  abbrev KeepsVariables : List r.Variable × Scope → Type 0
  KeepsVariables made = AreVariablesWithin extent made.0 × AreNamesWithin made.1.names

  variables_within : (scope : Scope) (variables : List t.Variable) (made : List r.Variable × Scope) → each_made resolve_variable scope variables ≡ Ok made
      → AreNamesWithin scope.names → KeepsVariables made
  variables_within scope [] made h all = ok_in KeepsVariables ([], scope) made h (tt, all)
  variables_within scope (variable ∷ rest) made h all =
      then_in (resolve_variable scope variable) _ made h (λ first e1 h1.
      then_in (each_made resolve_variable first.1 rest) _ made h1 (λ others e2 h2.
      let one = variable_within scope variable first e1 all in
      let more = variables_within first.1 rest others e2 one.1 in
      ok_in KeepsVariables _ made h2 ((one.0, more.0), more.1)))

  -- Statements.

  abbrev Keeps : r.Statement × Scope → Type 0
  Keeps made = IsStatementWithin extent made.0 × AreNamesWithin made.1.names

  abbrev KeepsAll : r.Statements × Scope → Type 0
  KeepsAll made = AreStatementsWithin extent made.0 × AreNamesWithin made.1.names

  abbrev KeepsStart : r.ForStart × Scope → Type 0
  KeepsStart made = IsStartWithin extent made.0 × AreNamesWithin made.1.names

  closing_within : {A : Type 0} (P : A → Type 0) (check : Check (A × Scope)) (made : A × Scope) → closing check ≡ Ok made
      → ((inner : A × Scope) → check ≡ Ok inner → P inner.0 × AreNamesWithin inner.1.names) → P made.0 × AreNamesWithin made.1.names
  closing_within P check made h keeps =
      then_in check _ made h (λ inner e1 h1.
      let kept = keeps inner e1 in
      ok_in (λ m. P m.0 × AreNamesWithin m.1.names) _ made h1 (kept.0, closed_within inner.1.names kept.1))

  start_within : (scope : Scope) (start : t.ForStart) (made : r.ForStart × Scope) → resolve_start scope start ≡ Ok made → AreNamesWithin scope.names → KeepsStart made
  start_within scope t.start_nothing made h all = ok_in KeepsStart (r.start_nothing, scope) made h (tt, all)
  start_within scope (t.start_variables variables) made h all =
      then_in (each_made resolve_variable scope variables) _ made h (λ inner e1 h1.
      ok_in KeepsStart _ made h1 (variables_within scope variables inner e1 all))
  start_within scope (t.start_expression e) made h all =
      then_in (resolve_effect scope.names e) _ made h (λ effect e1 h1.
      ok_in KeepsStart _ made h1 (effect_within scope.names all e effect e1, all))

  module _ (around : Around) where
    mutual
      statement_within : (looped : Bool) (scope : Scope) (statement : t.Statement) (made : r.Statement × Scope) → is_sound_statement statement ≡ true
          → resolve_statement around looped scope statement ≡ Ok made → AreNamesWithin scope.names → Keeps made
      statement_within looped scope (t.block body) made sound h all =
          then_in (closing (resolve_statements around looped (open_block scope) body)) _ made h (λ inner e1 h1.
          ok_in Keeps _ made h1 (closing_within (AreStatementsWithin extent) _ inner e1 (λ inside e. statements_within looped (open_block scope) body inside sound e all)))
      statement_within looped scope t.empty made sound h all = ok_in Keeps (r.empty, scope) made h (tt, all)
      statement_within looped scope (t.variables variables) made sound h all =
          then_in (each_made resolve_variable scope variables) _ made h (λ inner e1 h1.
          ok_in Keeps _ made h1 (variables_within scope variables inner e1 all))
      statement_within looped scope (t.expression e) made sound h all =
          then_in (resolve_effect scope.names e) _ made h (λ effect e1 h1. ok_in Keeps _ made h1 (effect_within scope.names all e effect e1, all))
      statement_within looped scope (t.when test body) made sound h all =
          let of_body = (both_true (is_sound test) (is_sound_statement body) sound).1 in
          then_in (resolve scope.names test) _ made h (λ condition e1 h1.
          then_in (closing (resolve_statement around looped (open_block scope) body)) _ made h1 (λ inner e2 h2.
          let kept = closing_within (IsStatementWithin extent) _ inner e2 (λ inside e. statement_within looped (open_block scope) body inside of_body e all) in
          ok_in Keeps _ made h2 ((expression_within scope.names all test condition e1, kept.0), kept.1)))
      statement_within looped scope (t.either test body other) made sound h all =
          let both = both_true (is_sound test && is_sound_statement body) (is_sound_statement other) sound in
          let of_body = (both_true (is_sound test) (is_sound_statement body) both.0).1 in
          then_in (resolve scope.names test) _ made h (λ condition e1 h1.
          then_in (closing (resolve_statement around looped (open_block scope) body)) _ made h1 (λ inner e2 h2.
          then_in (closing (resolve_statement around looped (open_block inner.1) other)) _ made h2 (λ more e3 h3.
          let kept = closing_within (IsStatementWithin extent) _ inner e2 (λ inside e. statement_within looped (open_block scope) body inside of_body e all) in
          let last = closing_within (IsStatementWithin extent) _ more e3 (λ inside e. statement_within looped (open_block inner.1) other inside both.1 e kept.1) in
          ok_in Keeps _ made h3 ((expression_within scope.names all test condition e1, kept.0, last.0), last.1))))
      statement_within looped scope (t.while test body) made sound h all =
          let of_body = (both_true (is_sound test) (is_sound_statement body) sound).1 in
          then_in (resolve scope.names test) _ made h (λ condition e1 h1.
          then_in (closing (resolve_statement around true (open_block scope) body)) _ made h1 (λ inner e2 h2.
          let kept = closing_within (IsStatementWithin extent) _ inner e2 (λ inside e. statement_within true (open_block scope) body inside of_body e all) in
          ok_in Keeps _ made h2 ((expression_within scope.names all test condition e1, kept.0), kept.1)))
      statement_within looped scope (t.for start test step body) made sound h all =
          let of_body = (both_true (is_sound_start start && is_sound_option is_sound test && is_sound_option is_sound step) (is_sound_statement body) sound).1 in
          closing_within (IsStatementWithin extent) _ made h (λ inside e.
          then_in (resolve_start (open_block scope) start) _ inside e (λ begun e1 h1.
          then_in (optional (resolve begun.1.names) test) _ inside h1 (λ condition e2 h2.
          then_in (optional (resolve_effect begun.1.names) step) _ inside h2 (λ effect e3 h3.
          then_in (closing (resolve_statement around true (open_block begun.1) body)) _ inside h3 (λ inner e4 h4.
          let first = start_within (open_block scope) start begun e1 all in
          let names = begun.1.names in
          let kept = closing_within (IsStatementWithin extent) _ inner e4 (λ deep f. statement_within true (open_block begun.1) body deep of_body f first.1) in
          ok_in Keeps _ inside h4 (
            (
              first.0,
              optional_within names first.1 (resolve names) (expression_within names first.1) test condition e2,
              optional_within names first.1 (resolve_effect names) (effect_within names first.1) step effect e3,
              kept.0,
            ),
            kept.1,
          ))))))
      statement_within looped scope (t.break line) made sound h all = by looped h
        where
          by : (test : Bool) → (if test then Ok (r.break, scope) else Err (err.OutsideLoop line)) ≡ Ok made → Keeps made
          by true h = ok_in Keeps (r.break, scope) made h (tt, all)
          by false h = cc
      statement_within looped scope (t.continue line) made sound h all = by looped h
        where
          by : (test : Bool) → (if test then Ok (r.continue, scope) else Err (err.OutsideLoop line)) ≡ Ok made → Keeps made
          by true h = ok_in Keeps (r.continue, scope) made h (tt, all)
          by false h = cc
      statement_within looped scope (t.return line value) made sound h all =
          then_in (resolve_return around scope.names line value) _ made h (λ given e1 h1.
          ok_in Keeps _ made h1 (return_within scope.names all around line value given e1, all))
      statement_within looped scope (t.acquire place) made sound h all =
          then_in (resolve_lock scope.names place) _ made h (λ lock e1 h1. ok_in Keeps _ made h1 (lock_within scope.names all place lock e1, all))
      statement_within looped scope (t.acquire_shared place) made sound h all =
          then_in (resolve_lock scope.names place) _ made h (λ lock e1 h1. ok_in Keeps _ made h1 (lock_within scope.names all place lock e1, all))
      statement_within looped scope (t.release place) made sound h all =
          then_in (resolve_lock scope.names place) _ made h (λ lock e1 h1. ok_in Keeps _ made h1 (lock_within scope.names all place lock e1, all))
      statement_within looped scope (t.barrier name) made sound h all =
          then_in (used scope.names name) _ made h (λ named e1 h1.
          then_in (as_barrier name named) _ made h1 (λ number e2 h2.
          ok_in Keeps _ made h2 (barrier_within name named number (used_within scope.names name named all e1) e2, all)))
      statement_within looped scope (t.print parts) made sound h all =
          then_in (resolve_print scope.names parts) _ made h (λ inner e1 h1. ok_in Keeps _ made h1 (print_within scope.names all parts inner sound e1, all))

      statements_within : (looped : Bool) (scope : Scope) (statements : t.Statements) (made : r.Statements × Scope) → are_sound_statements statements ≡ true
          → resolve_statements around looped scope statements ≡ Ok made → AreNamesWithin scope.names → KeepsAll made
      statements_within looped scope t.none made sound h all = ok_in KeepsAll (r.none, scope) made h (tt, all)
      statements_within looped scope (t.then statement rest) made sound h all =
          let both = both_true (is_sound_statement statement) (are_sound_statements rest) sound in
          then_in (resolve_statement around looped scope statement) _ made h (λ first e1 h1.
          then_in (resolve_statements around looped first.1 rest) _ made h1 (λ others e2 h2.
          let one = statement_within looped scope statement first both.0 e1 all in
          let more = statements_within looped first.1 rest others both.1 e2 one.1 in
          ok_in KeepsAll _ made h2 ((one.0, more.0), more.1)))

  -- Functions.

  function_within : (names : List Entry) (function : t.Function) (made : r.Function) → AreNamesWithin names → are_sound_statements function.body ≡ true
      → resolve_function names function ≡ Ok made → AreStatementsWithin extent made.body
  function_within names function made all sound h =
      then_in (each with_variable (record { names = opened ∷ names; variables = []; slots = 0 }) (params_of function.params)) _ made h (λ start e1 h1.
      let inside = each_keeps (λ scope. AreNamesWithin scope.names) with_variable variable_known (record { names = opened ∷ names; variables = []; slots = 0 }) (params_of function.params) start e1 all in
      let around : Around = record { name = function.name.text; returns = function.returns } in
      then_in (resolve_statements around false start function.body) _ made h1 (λ body e2 h2.
      ok_in (λ f. AreStatementsWithin extent f.body) _ made h2 (statements_within around false start function.body body sound e2 inside).0))

  body_keeps : (names : List Entry) → AreNamesWithin names → (functions : List r.Function) (item : t.Item) (after : List r.Function) → is_sound_item item ≡ true
      → with_body names functions item ≡ Ok after → AreFunctionsWithin extent functions → AreFunctionsWithin extent after
  body_keeps names all functions (t.function function) after sound h before =
      then_in (resolve_function names function) _ after h (λ made e1 h1.
      ok_in (AreFunctionsWithin extent) _ after h1 (all_more (λ f. AreStatementsWithin extent f.body) functions made before (function_within names function made all sound e1)))
  body_keeps names all functions (t.cells sharing cells) after sound h before = ok_in (AreFunctionsWithin extent) functions after h before
  body_keeps names all functions (t.locks locks) after sound h before = ok_in (AreFunctionsWithin extent) functions after h before
  body_keeps names all functions (t.barriers barriers) after sound h before = ok_in (AreFunctionsWithin extent) functions after h before
  body_keeps names all functions (t.bind bind) after sound h before = ok_in (AreFunctionsWithin extent) functions after h before
  body_keeps names all functions (t.bind_each bind) after sound h before = ok_in (AreFunctionsWithin extent) functions after h before
  body_keeps names all functions (t.bind_barrier bind) after sound h before = ok_in (AreFunctionsWithin extent) functions after h before

  bodies_within : (names : List Entry) → AreNamesWithin names → (before : List r.Function) (items : List t.Item) (functions : List r.Function) → is_sound_program items ≡ true
      → each (with_body names) before items ≡ Ok functions → AreFunctionsWithin extent before → AreFunctionsWithin extent functions
  bodies_within names all before [] functions sound h within = ok_in (AreFunctionsWithin extent) before functions h within
  bodies_within names all before (item ∷ rest) functions sound h within =
      let both = both_true (is_sound_item item) (is_sound_program rest) sound in
      then_in (with_body names before item) _ functions h (λ after e1 h1.
      bodies_within names all after rest functions both.1 h1 (body_keeps names all before item after both.0 e1 within))

  -- The names of a file.

  record AreTotals (names : List Entry) : Type 0 where
    cells : total (cells_in Sharing.Shared) names ≤ extent.cells
    locks : total locks_in names ≤ extent.locks
    bars : total barriers_in names ≤ extent.bars

  fits : (names : List Entry) (name : List ℕ) (named : Named) → is_next names named ≡ true → AreTotals (known name named ∷ names) → IsNamedWithin named
  fits names name (Named.Cells Sharing.Shared first None) next most = grind (arith, nat_tests, most.cells)
  fits names name (Named.Cells Sharing.Shared first (Some size)) next most = grind (arith, nat_tests, most.cells)
  fits names name (Named.Cells Sharing.Private first None) next most = tt
  fits names name (Named.Cells Sharing.Private first (Some size)) next most = tt
  fits names name (Named.Locks first None) next most = grind (arith, nat_tests, most.locks)
  fits names name (Named.Locks first (Some size)) next most = grind (arith, nat_tests, most.locks)
  fits names name (Named.Barrier number) next most = grind (arith, nat_tests, most.bars)
  fits names name (Named.Function number returns params) next most = tt
  fits names name (Named.Variable slot) next most = tt

  fewer : (names : List Entry) (name : List ℕ) (named : Named) → AreTotals (known name named ∷ names) → AreTotals names
  fewer names name named most = record { cells = omega (arith, most.cells); locks = omega (arith, most.locks); bars = omega (arith, most.bars) }

  names_within : (names : List Entry) → is_numbered names ≡ true → AreTotals names → AreNamesWithin names
  names_within [] numbered most = tt
  names_within (opened ∷ names) numbered most = cc
  names_within (known name named ∷ names) numbered most =
      let both = both_true (is_next names named) (is_numbered names) numbered in
      (fits names name named both.0 most, names_within names both.1 (fewer names name named most))

accepted_items : (items : List t.Item) (program : Program) → IsTrue (is_numbered program.names) → IsTrue (is_sound_program items) → checked items ≡ Ok program
    → AreFunctionsWithin (extent_in program) program.functions
accepted_items items program numbered sound h =
    then_in (file_names items) _ program h (λ names e1 h1.
    then_in (main_of (meaning names main_name)) _ program h1 (λ main e2 h2.
    then_in (pieces_of names items) _ program h2 (λ pieces e3 h3.
    then_in (functions_of names items) _ program h3 (λ functions e4 h4.
    ok_in (λ p. IsTrue (is_numbered p.names) → AreFunctionsWithin (extent_in p) p.functions) _ program h4
    (λ is. let extent : Extent = record { cells = total (cells_in Sharing.Shared) names; locks = total locks_in names; bars = total barriers_in names } in
    bodies_within extent names (names_within extent names is (record { cells = omega arith; locks = omega arith; bars = omega arith })) [] items functions sound e4 tt) numbered))))

pub accepted_within : (program : Program) → IsTrue (is_numbered program.names) → ∥ IsAccepted program ∥₁ → AreFunctionsWithin (extent_in program) program.functions
accepted_within program numbered accepted =
    ∥∥₁_elim accepted (functions_prop (extent_in program) program.functions) (λ (a : IsAccepted program). accepted_items a.0 program numbered a.1 a.2)

pub functions_within : (checked : Checked) → AreFunctionsWithin (extent_in (program_of checked)) (program_of checked).functions
functions_within checked = accepted_within (program_of checked) checked.names.numbered checked.accepted

-- a setup of a program has as many of each
pub functions_set_up : (checked : Checked) (count : ℕ) (setup : Setup) → IsSetupOf (program_of checked) count setup
    → AreFunctionsWithin (extent_of setup) (program_of checked).functions
functions_set_up checked count setup is =
    let same : extent_in (program_of checked) ≡ extent_of setup = λ i. record { cells = sym is.cells i; locks = sym is.locks i; bars = sym is.bars i } in
    subst (λ extent. AreFunctionsWithin extent (program_of checked).functions) same (functions_within checked)

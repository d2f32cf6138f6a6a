-- Statements of an accepted program are closed. What is said of slots is said of each number of slots that the function may have in the end.
use Rattle.std.proofs.Common.{◌≡◌, ℕ, ◌+◌, ◌≤◌, Bool, true, false, ◌&&◌, List, [], ◌∷◌, length, Ok, Err, refl, if◌then◌else◌, arith}
use Rattle.std.specs.List.{list_all}
use Rattle.std.proofs.lemmas.Bool.{lt-ltb, le-leb, eq-eqb}
use Rattle.std.proofs.lemmas.List.{length-append}
use Rattle.dsm_syntax.specs.declared.errors.ProgErr.TheVariants as err
use Rattle.dsm_syntax.specs.declared.errors.Which.TheVariants as which
use Rattle.dsm_syntax.specs.declared.tree.Name.{Name}
use Rattle.dsm_syntax.specs.Tree as t
use Rattle.dsm_syntax.specs.Sound.{is_sound_option, is_sound, is_sound_start, is_sound_statement, are_sound_statements, is_sound_item, is_sound_program}
use Rattle.dsm_check.specs.Resolved as r
use Rattle.dsm_check.specs.Environments.{Entry, opened}
use Rattle.dsm_check.specs.Checks.{Check, each, each_made, used, new, within}
use Rattle.dsm_check.specs.FileNames.{params_of}
use Rattle.dsm_check.specs.Bindings.{as_barrier}
use Rattle.dsm_check.specs.Bodies.{Scope, Around, resolve, resolve_effect, optional, with_variable, resolve_variable, open_block, closing, resolve_lock, resolve_print, resolve_start, resolve_return, resolve_statement, resolve_statements, resolve_function, with_body}
use Rattle.dsm_check.specs.Programs.{Program}
use Rattle.dsm_check.proofs.Successes.{then_in, both_true}
use Rattle.dsm_laws_language.specs.Closed.{is_closed_variable, are_closed_variables, is_closed_start, is_closed_statement, are_closed_statements, is_closed_function}
use Rattle.dsm_laws_language.proofs.Tests.{both, ok_in, within_is, all_more}
use Rattle.dsm_laws_language.proofs.Names.{AreNamesClosed, still_closed, used_closed, all_any_slots}
use Rattle.dsm_laws_language.proofs.Expressions.{barrier_closed, expression_closed, effect_closed, optional_closed, lock_closed, print_closed, return_closed}

module _ (program : Program) where
  -- the names of a scope are closed, and its slots few, each with a name
  record Fit (scope : Scope) : Type 0 where
    few : scope.slots ≤ 192
    all_named : length scope.variables ≡ scope.slots
    names : (slots : ℕ) → scope.slots ≤ slots → AreNamesClosed program slots scope.names

  -- a scope after another that had so many slots, with what is true of what was made between them
  record Grows (from : ℕ) (P : ℕ → Type 0) (after : Scope) : Type 0 where
    more : from ≤ after.slots
    fit : Fit after
    made : (slots : ℕ) → after.slots ≤ slots → P slots

  -- Variables.

  variable_known : (scope : Scope) (name : Name) (after : Scope) → with_variable scope name ≡ Ok after → Fit scope
      → Fit after × (after.slots ≡ scope.slots + 1)
  variable_known scope name after h fit =
      then_in (new scope.names name) _ after h (λ text e1 h1.
      then_in (within which.Slots 192 (scope.slots + 1)) _ after h1 (λ count e2 h2.
      ok_in (λ s. Fit s × (s.slots ≡ scope.slots + 1)) _ after h2 (
        record {
          few = (within_is which.Slots 192 (scope.slots + 1) count e2).1;
          all_named = omega (arith, length-append scope.variables (text ∷ []), fit.all_named);
          names = λ slots more. (lt-ltb scope.slots slots (omega (arith, more)), fit.names slots (omega (arith, more)));
        },
        refl,
      )))

  variable_closed : (scope : Scope) (variable : t.Variable) (made : r.Variable × Scope) → resolve_variable scope variable ≡ Ok made → Fit scope
      → Grows scope.slots (λ slots. is_closed_variable program slots made.0 ≡ true) made.1
  variable_closed scope variable made h fit =
      then_in (with_variable scope variable.name) _ made h (λ after e1 h1.
      then_in (optional (λ initial. resolve after.names initial.value) variable.initial) _ made h1 (λ initial e2 h2.
      let kept = variable_known scope variable.name after e1 fit in
      ok_in (λ made. Grows scope.slots (λ slots. is_closed_variable program slots made.0 ≡ true) made.1) _ made h2
      (record {
        more = omega (arith, kept.1);
        fit = kept.0;
        made = λ slots more. both (lt-ltb scope.slots slots (omega (arith, more, kept.1)))
            (optional_closed program slots after.names (kept.0.names slots more) (λ initial. resolve after.names initial.value)
            (λ initial x is. expression_closed program slots after.names (kept.0.names slots more) initial.value x is) variable.initial initial e2);
      })))

  variables_closed : (scope : Scope) (variables : List t.Variable) (made : List r.Variable × Scope) → each_made resolve_variable scope variables ≡ Ok made
      → Fit scope → Grows scope.slots (λ slots. are_closed_variables program slots made.0 ≡ true) made.1
  variables_closed scope [] made h fit =
      ok_in (λ made. Grows scope.slots (λ slots. are_closed_variables program slots made.0 ≡ true) made.1) ([], scope) made h
      (record { more = omega arith; fit = fit; made = λ slots more. refl })
  variables_closed scope (variable ∷ rest) made h fit =
      then_in (resolve_variable scope variable) _ made h (λ first e1 h1.
      then_in (each_made resolve_variable first.1 rest) _ made h1 (λ others e2 h2.
      let one = variable_closed scope variable first e1 fit in
      let more = variables_closed first.1 rest others e2 one.fit in
      ok_in (λ made. Grows scope.slots (λ slots. are_closed_variables program slots made.0 ≡ true) made.1) _ made h2
      (record {
        more = omega (arith, one.more, more.more);
        fit = more.fit;
        made = λ slots enough. both (one.made slots (omega (arith, enough, more.more))) (more.made slots enough);
      })))

  -- Statements.

  -- what is made of an expression at a scope leaves the scope as it is
  stays : (scope : Scope) (P : ℕ → Type 0) → Fit scope → ((slots : ℕ) → AreNamesClosed program slots scope.names → P slots) → Grows scope.slots P scope
  stays scope P fit made = record { more = omega arith; fit = fit; made = λ slots enough. made slots (fit.names slots enough) }

  closing_grows : {A : Type 0} (from : ℕ) (P : A → ℕ → Type 0) (check : Check (A × Scope)) (made : A × Scope) → closing check ≡ Ok made
      → ((inner : A × Scope) → check ≡ Ok inner → Grows from (P inner.0) inner.1) → Grows from (P made.0) made.1
  closing_grows from P check made h keeps =
      then_in check _ made h (λ inner e1 h1.
      let kept = keeps inner e1 in
      ok_in (λ m. Grows from (P m.0) m.1) _ made h1 (record {
        more = kept.more;
        fit = record {
          few = kept.fit.few;
          all_named = kept.fit.all_named;
          names = λ slots enough. still_closed program slots inner.1.names (kept.fit.names slots enough);
        };
        made = kept.made;
      }))

  opened_fit : (scope : Scope) → Fit scope → Fit (open_block scope)
  opened_fit scope fit = record { few = fit.few; all_named = fit.all_named; names = fit.names }

  start_closed : (scope : Scope) (start : t.ForStart) (made : r.ForStart × Scope) → resolve_start scope start ≡ Ok made → Fit scope
      → Grows scope.slots (λ slots. is_closed_start program slots made.0 ≡ true) made.1
  start_closed scope t.start_nothing made h fit =
      ok_in (λ made. Grows scope.slots (λ slots. is_closed_start program slots made.0 ≡ true) made.1) (r.start_nothing, scope) made h
      (stays scope _ fit (λ slots all. refl))
  start_closed scope (t.start_variables variables) made h fit =
      then_in (each_made resolve_variable scope variables) _ made h (λ inner e1 h1.
      ok_in (λ made. Grows scope.slots (λ slots. is_closed_start program slots made.0 ≡ true) made.1) _ made h1
      (let kept = variables_closed scope variables inner e1 fit in record { more = kept.more; fit = kept.fit; made = kept.made }))
  start_closed scope (t.start_expression e) made h fit =
      then_in (resolve_effect scope.names e) _ made h (λ effect e1 h1.
      ok_in (λ made. Grows scope.slots (λ slots. is_closed_start program slots made.0 ≡ true) made.1) _ made h1
      (stays scope _ fit (λ slots all. effect_closed program slots scope.names all e effect e1)))

  abbrev IsClosed : Bool → r.Statement → ℕ → Type 0
  IsClosed looped x slots = is_closed_statement program slots looped x ≡ true

  abbrev Keeps : Bool → Scope → r.Statement × Scope → Type 0
  Keeps looped scope made = Grows scope.slots (IsClosed looped made.0) made.1

  abbrev AreClosed : Bool → r.Statements → ℕ → Type 0
  AreClosed looped x slots = are_closed_statements program slots looped x ≡ true

  abbrev KeepsAll : Bool → Scope → r.Statements × Scope → Type 0
  KeepsAll looped scope made = Grows scope.slots (AreClosed looped made.0) made.1

  module _ (around : Around) where
    mutual
      statement_closed : (looped : Bool) (scope : Scope) (statement : t.Statement) (made : r.Statement × Scope) → is_sound_statement statement ≡ true
          → resolve_statement around looped scope statement ≡ Ok made → Fit scope → Keeps looped scope made
      statement_closed looped scope (t.block body) made sound h fit =
          then_in (closing (resolve_statements around looped (open_block scope) body)) _ made h (λ inner e1 h1.
          let kept = closing_grows scope.slots (AreClosed looped) _ inner e1
          (λ inside e. statements_closed looped (open_block scope) body inside sound e (opened_fit scope fit)) in
          ok_in (Keeps looped scope) _ made h1 (record { more = kept.more; fit = kept.fit; made = kept.made }))
      statement_closed looped scope t.empty made sound h fit = ok_in (Keeps looped scope) (r.empty, scope) made h (stays scope _ fit (λ slots all. refl))
      statement_closed looped scope (t.variables variables) made sound h fit =
          then_in (each_made resolve_variable scope variables) _ made h (λ inner e1 h1.
          let kept = variables_closed scope variables inner e1 fit in
          ok_in (Keeps looped scope) _ made h1 (record { more = kept.more; fit = kept.fit; made = kept.made }))
      statement_closed looped scope (t.expression e) made sound h fit =
          then_in (resolve_effect scope.names e) _ made h (λ effect e1 h1.
          ok_in (Keeps looped scope) _ made h1 (stays scope _ fit (λ slots all. effect_closed program slots scope.names all e effect e1)))
      statement_closed looped scope (t.when test body) made sound h fit =
          let of_body = (both_true (is_sound test) (is_sound_statement body) sound).1 in
          then_in (resolve scope.names test) _ made h (λ condition e1 h1.
          then_in (closing (resolve_statement around looped (open_block scope) body)) _ made h1 (λ inner e2 h2.
          let kept = closing_grows scope.slots (IsClosed looped) _ inner e2
          (λ inside e. statement_closed looped (open_block scope) body inside of_body e (opened_fit scope fit)) in
          ok_in (Keeps looped scope) _ made h2 (record {
            more = kept.more;
            fit = kept.fit;
            made = λ slots enough.
                both (expression_closed program slots scope.names (fit.names slots (omega (arith, enough, kept.more))) test condition e1) (kept.made slots enough);
          })))
      statement_closed looped scope (t.either test body other) made sound h fit =
          let split = both_true (is_sound test && is_sound_statement body) (is_sound_statement other) sound in
          let of_body = (both_true (is_sound test) (is_sound_statement body) split.0).1 in
          then_in (resolve scope.names test) _ made h (λ condition e1 h1.
          then_in (closing (resolve_statement around looped (open_block scope) body)) _ made h1 (λ inner e2 h2.
          then_in (closing (resolve_statement around looped (open_block inner.1) other)) _ made h2 (λ more e3 h3.
          let kept = closing_grows scope.slots (IsClosed looped) _ inner e2
          (λ inside e. statement_closed looped (open_block scope) body inside of_body e (opened_fit scope fit)) in
          let last = closing_grows inner.1.slots (IsClosed looped) _ more e3
          (λ inside e. statement_closed looped (open_block inner.1) other inside split.1 e (opened_fit inner.1 kept.fit)) in
          ok_in (Keeps looped scope) _ made h3 (record {
            more = omega (arith, kept.more, last.more);
            fit = last.fit;
            made = λ slots enough.
                both (expression_closed program slots scope.names (fit.names slots (omega (arith, enough, kept.more, last.more))) test condition e1)
                (both (kept.made slots (omega (arith, enough, last.more))) (last.made slots enough));
          }))))
      statement_closed looped scope (t.while test body) made sound h fit =
          let of_body = (both_true (is_sound test) (is_sound_statement body) sound).1 in
          then_in (resolve scope.names test) _ made h (λ condition e1 h1.
          then_in (closing (resolve_statement around true (open_block scope) body)) _ made h1 (λ inner e2 h2.
          let kept = closing_grows scope.slots (IsClosed true) _ inner e2
          (λ inside e. statement_closed true (open_block scope) body inside of_body e (opened_fit scope fit)) in
          ok_in (Keeps looped scope) _ made h2 (record {
            more = kept.more;
            fit = kept.fit;
            made = λ slots enough.
                both (expression_closed program slots scope.names (fit.names slots (omega (arith, enough, kept.more))) test condition e1) (kept.made slots enough);
          })))
      statement_closed looped scope (t.for start test step body) made sound h fit =
          let of_body = (both_true (is_sound_start start && is_sound_option is_sound test && is_sound_option is_sound step) (is_sound_statement body) sound).1 in
          closing_grows scope.slots (IsClosed looped) _ made h (λ inside e.
          then_in (resolve_start (open_block scope) start) _ inside e (λ begun e1 h1.
          then_in (optional (resolve begun.1.names) test) _ inside h1 (λ condition e2 h2.
          then_in (optional (resolve_effect begun.1.names) step) _ inside h2 (λ effect e3 h3.
          then_in (closing (resolve_statement around true (open_block begun.1) body)) _ inside h3 (λ inner e4 h4.
          let first = start_closed (open_block scope) start begun e1 (opened_fit scope fit) in
          let names = begun.1.names in
          let kept = closing_grows begun.1.slots (IsClosed true) _ inner e4
          (λ deep f. statement_closed true (open_block begun.1) body deep of_body f (opened_fit begun.1 first.fit)) in
          ok_in (Keeps looped scope) _ inside h4 (record {
            more = omega (arith, first.more, kept.more);
            fit = kept.fit;
            made = λ slots enough.
                let all = first.fit.names slots (omega (arith, enough, kept.more)) in
                both (first.made slots (omega (arith, enough, kept.more)))
                (both (optional_closed program slots names all (resolve names) (expression_closed program slots names all) test condition e2)
                (both (optional_closed program slots names all (resolve_effect names) (effect_closed program slots names all) step effect e3)
                (kept.made slots enough)));
          }))))))
      statement_closed looped scope (t.break line) made sound h fit = by looped h
        where
          by : (test : Bool) → (if test then Ok (r.break, scope) else Err (err.OutsideLoop line)) ≡ Ok made → Keeps test scope made
          by true h = ok_in (Keeps true scope) (r.break, scope) made h (stays scope _ fit (λ slots all. refl))
          by false h = cc
      statement_closed looped scope (t.continue line) made sound h fit = by looped h
        where
          by : (test : Bool) → (if test then Ok (r.continue, scope) else Err (err.OutsideLoop line)) ≡ Ok made → Keeps test scope made
          by true h = ok_in (Keeps true scope) (r.continue, scope) made h (stays scope _ fit (λ slots all. refl))
          by false h = cc
      statement_closed looped scope (t.return line value) made sound h fit =
          then_in (resolve_return around scope.names line value) _ made h (λ given e1 h1.
          ok_in (Keeps looped scope) _ made h1 (stays scope _ fit (λ slots all. return_closed program slots scope.names all around line value given e1)))
      statement_closed looped scope (t.acquire place) made sound h fit =
          then_in (resolve_lock scope.names place) _ made h (λ lock e1 h1.
          ok_in (Keeps looped scope) _ made h1 (stays scope _ fit (λ slots all. lock_closed program slots scope.names all place lock e1)))
      statement_closed looped scope (t.acquire_shared place) made sound h fit =
          then_in (resolve_lock scope.names place) _ made h (λ lock e1 h1.
          ok_in (Keeps looped scope) _ made h1 (stays scope _ fit (λ slots all. lock_closed program slots scope.names all place lock e1)))
      statement_closed looped scope (t.release place) made sound h fit =
          then_in (resolve_lock scope.names place) _ made h (λ lock e1 h1.
          ok_in (Keeps looped scope) _ made h1 (stays scope _ fit (λ slots all. lock_closed program slots scope.names all place lock e1)))
      statement_closed looped scope (t.barrier name) made sound h fit =
          then_in (used scope.names name) _ made h (λ named e1 h1.
          then_in (as_barrier name named) _ made h1 (λ number e2 h2.
          ok_in (Keeps looped scope) _ made h2
          (stays scope _ fit (λ slots all. barrier_closed program slots name named number (used_closed program slots scope.names name named all e1) e2))))
      statement_closed looped scope (t.print parts) made sound h fit =
          then_in (resolve_print scope.names parts) _ made h (λ inner e1 h1.
          ok_in (Keeps looped scope) _ made h1 (stays scope _ fit (λ slots all. print_closed program slots scope.names all parts inner sound e1)))

      statements_closed : (looped : Bool) (scope : Scope) (statements : t.Statements) (made : r.Statements × Scope) → are_sound_statements statements ≡ true
          → resolve_statements around looped scope statements ≡ Ok made → Fit scope → KeepsAll looped scope made
      statements_closed looped scope t.none made sound h fit = ok_in (KeepsAll looped scope) (r.none, scope) made h (stays scope _ fit (λ slots all. refl))
      statements_closed looped scope (t.then statement rest) made sound h fit =
          let split = both_true (is_sound_statement statement) (are_sound_statements rest) sound in
          then_in (resolve_statement around looped scope statement) _ made h (λ first e1 h1.
          then_in (resolve_statements around looped first.1 rest) _ made h1 (λ others e2 h2.
          let one = statement_closed looped scope statement first split.0 e1 fit in
          let more = statements_closed looped first.1 rest others split.1 e2 one.fit in
          ok_in (KeepsAll looped scope) _ made h2 (record {
            more = omega (arith, one.more, more.more);
            fit = more.fit;
            made = λ slots enough. both (one.made slots (omega (arith, enough, more.more))) (more.made slots enough);
          })))

  -- Functions.

  params_known : (scope : Scope) (params : List Name) (after : Scope) → each with_variable scope params ≡ Ok after → Fit scope
      → Fit after × (after.slots ≡ scope.slots + length params)
  params_known scope [] after h fit = ok_in (λ s. Fit s × (s.slots ≡ scope.slots + 0)) scope after h (fit, omega arith)
  params_known scope (name ∷ rest) after h fit =
      then_in (with_variable scope name) _ after h (λ next e1 h1.
      let one = variable_known scope name next e1 fit in
      let more = params_known next rest after h1 one.0 in
      (more.0, omega (arith, one.1, more.1)))

  function_closed : (names : List Entry) (function : t.Function) (made : r.Function) → AreNamesClosed program 0 names → are_sound_statements function.body ≡ true
      → resolve_function names function ≡ Ok made → is_closed_function program made ≡ true
  function_closed names function made all sound h =
      let first : Scope = record { names = opened ∷ names; variables = []; slots = 0 } in
      then_in (each with_variable first (params_of function.params)) _ made h (λ start e1 h1.
      let inside = params_known first (params_of function.params) start e1 (record { few = omega arith; all_named = refl; names = λ slots enough. all_any_slots program slots names all }) in
      let around : Around = record { name = function.name.text; returns = function.returns } in
      then_in (resolve_statements around false start function.body) _ made h1 (λ body e2 h2.
      let kept = statements_closed around false start function.body body sound e2 inside.0 in
      ok_in (λ f. is_closed_function program f ≡ true) _ made h2
      (both (le-leb (length (params_of function.params)) body.1.slots (omega (arith, inside.1, kept.more)))
      (both (le-leb body.1.slots 192 kept.fit.few)
      (both (eq-eqb (length body.1.variables) body.1.slots kept.fit.all_named) (kept.made body.1.slots (omega arith)))))))

  body_keeps : (names : List Entry) → AreNamesClosed program 0 names → (functions : List r.Function) (item : t.Item) (after : List r.Function)
      → is_sound_item item ≡ true → with_body names functions item ≡ Ok after → list_all (is_closed_function program) functions ≡ true
      → list_all (is_closed_function program) after ≡ true
  body_keeps names all functions (t.function function) after sound h before =
      then_in (resolve_function names function) _ after h (λ made e1 h1.
      ok_in (λ fs. list_all (is_closed_function program) fs ≡ true) _ after h1
      (all_more (is_closed_function program) functions made before (function_closed names function made all sound e1)))
  body_keeps names all functions (t.cells sharing cells) after sound h before = ok_in (λ fs. list_all (is_closed_function program) fs ≡ true) functions after h before
  body_keeps names all functions (t.locks locks) after sound h before = ok_in (λ fs. list_all (is_closed_function program) fs ≡ true) functions after h before
  body_keeps names all functions (t.barriers barriers) after sound h before = ok_in (λ fs. list_all (is_closed_function program) fs ≡ true) functions after h before
  body_keeps names all functions (t.bind bind) after sound h before = ok_in (λ fs. list_all (is_closed_function program) fs ≡ true) functions after h before
  body_keeps names all functions (t.bind_each bind) after sound h before = ok_in (λ fs. list_all (is_closed_function program) fs ≡ true) functions after h before
  body_keeps names all functions (t.bind_barrier bind) after sound h before = ok_in (λ fs. list_all (is_closed_function program) fs ≡ true) functions after h before

  pub bodies_closed : (names : List Entry) → AreNamesClosed program 0 names → (before : List r.Function) (items : List t.Item) (functions : List r.Function)
      → is_sound_program items ≡ true → each (with_body names) before items ≡ Ok functions → list_all (is_closed_function program) before ≡ true
      → list_all (is_closed_function program) functions ≡ true
  bodies_closed names all before [] functions sound h closed = ok_in (λ fs. list_all (is_closed_function program) fs ≡ true) before functions h closed
  bodies_closed names all before (item ∷ rest) functions sound h closed =
      let split = both_true (is_sound_item item) (is_sound_program rest) sound in
      then_in (with_body names before item) _ functions h (λ after e1 h1.
      bodies_closed names all after rest functions split.1 h1 (body_keeps names all before item after split.0 e1 closed))

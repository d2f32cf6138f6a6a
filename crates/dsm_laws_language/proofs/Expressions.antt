-- Expressions, prints and locks of an accepted program are closed.
use Rattle.std.proofs.Common.{◌≡◌, ℕ, suc, min, ◌+◌, ◌*◌, ◌≤◌, nat_lt, ◌==◌, Bool, true, false, ◌&&◌, List, [], ◌∷◌, length, bytes_eq, Option, Some, None, Ok, Err, refl, sym, ap, subst, if◌then◌else◌, arith}
use Rattle.std.proofs.lemmas.Bool.{le-leb, eqb-true}
use Rattle.dsm_syntax.specs.declared.errors.ProgErr.TheVariants as err
use Rattle.dsm_syntax.specs.declared.errors.Which.TheVariants as which
use Rattle.dsm_syntax.specs.declared.tree.Name.{Name}
use Rattle.dsm_syntax.specs.declared.tree.Sharing.{Sharing}
use Rattle.dsm_syntax.specs.Tree as t
use Rattle.dsm_syntax.specs.Sound.{all_are, is_sound_part}
use Rattle.dsm_check.specs.declared.names.Named.{Named}
use Rattle.dsm_check.specs.declared.resolved.Array.{Array}
use Rattle.dsm_check.specs.Resolved as r
use Rattle.dsm_check.specs.Environments.{Entry}
use Rattle.dsm_check.specs.Checks.{Check, used, within, wrong_kind}
use Rattle.dsm_check.specs.FileNames.{main_name}
use Rattle.dsm_check.specs.Bindings.{as_barrier}
use Rattle.dsm_check.specs.Bodies.{Around, as_single, as_array, as_called, count_of, resolve_place, resolve, resolve_all, resolve_effect, optional, as_one_lock, as_lock_array, resolve_lock, resolve_part, all_made, text_bytes, resolve_print, is_void, resolve_return}
use Rattle.dsm_check.specs.Programs.{Program}
use Rattle.dsm_check.proofs.Successes.{then_in, both_true}
use Rattle.dsm_semantics.specs.Within.{most_bytes}
use Rattle.dsm_laws_language.specs.Closed.{cells_of, is_below, is_callable, count_in, is_closed_option, is_closed_location, is_closed_expression, are_closed_arguments, is_closed_part, are_closed_parts, is_closed_print, is_closed_lock}
use Rattle.dsm_laws_language.proofs.Tests.{both, ok_in, within_is}
use Rattle.dsm_laws_language.proofs.Names.{IsNamedClosed, AreNamesClosed, used_closed}

module _ (program : Program) (slots : ℕ) where
  -- What names stand for.

  single_closed : (name : Name) (named : Named) (x : r.Location) → IsNamedClosed program slots named → as_single name named ≡ Ok x
      → is_closed_location program slots x ≡ true
  single_closed name (Named.Variable slot) x w h = ok_in (λ x. is_closed_location program slots x ≡ true) (r.variable slot) x h w
  single_closed name (Named.Cells sharing first None) x w h =
      ok_in (λ x. is_closed_location program slots x ≡ true) (r.cell sharing first name.line) x h w
  single_closed name (Named.Cells sharing first (Some size)) x w h = cc
  single_closed name (Named.Locks first size) x w h = cc
  single_closed name (Named.Barrier number) x w h = cc
  single_closed name (Named.Function number returns params) x w h = cc

  array_closed : (name : Name) (named : Named) (made : Sharing × Array) → IsNamedClosed program slots named → as_array name named ≡ Ok made
      → is_below (cells_of program made.0) made.1 ≡ true
  array_closed name (Named.Cells sharing first (Some size)) made w h =
      ok_in (λ made. is_below (cells_of program made.0) made.1 ≡ true) (sharing, record { first = first; size = size }) made h w
  array_closed name (Named.Cells sharing first None) made w h = cc
  array_closed name (Named.Variable slot) made w h = cc
  array_closed name (Named.Locks first size) made w h = cc
  array_closed name (Named.Barrier number) made w h = cc
  array_closed name (Named.Function number returns params) made w h = cc

  one_lock_closed : (name : Name) (named : Named) (x : r.LockPlace) → IsNamedClosed program slots named → as_one_lock name named ≡ Ok x
      → is_closed_lock program slots x ≡ true
  one_lock_closed name (Named.Locks first None) x w h =
      ok_in (λ x. is_closed_lock program slots x ≡ true) (r.one_lock (record { 0 = first }) name.line) x h w
  one_lock_closed name (Named.Locks first (Some size)) x w h = cc
  one_lock_closed name (Named.Variable slot) x w h = cc
  one_lock_closed name (Named.Cells sharing first size) x w h = cc
  one_lock_closed name (Named.Barrier number) x w h = cc
  one_lock_closed name (Named.Function number returns params) x w h = cc

  lock_array_closed : (name : Name) (named : Named) (array : Array) → IsNamedClosed program slots named → as_lock_array name named ≡ Ok array
      → is_below program.locks array ≡ true
  lock_array_closed name (Named.Locks first (Some size)) array w h =
      ok_in (λ array. is_below program.locks array ≡ true) (record { first = first; size = size }) array h w
  lock_array_closed name (Named.Locks first None) array w h = cc
  lock_array_closed name (Named.Variable slot) array w h = cc
  lock_array_closed name (Named.Cells sharing first size) array w h = cc
  lock_array_closed name (Named.Barrier number) array w h = cc
  lock_array_closed name (Named.Function number returns params) array w h = cc

  pub barrier_closed : (name : Name) (named : Named) (number : ℕ) → IsNamedClosed program slots named → as_barrier name named ≡ Ok number
      → nat_lt number program.barriers ≡ true
  barrier_closed name (Named.Barrier bar) number w h = ok_in (λ n. nat_lt n program.barriers ≡ true) bar number h w
  barrier_closed name (Named.Locks first size) number w h = cc
  barrier_closed name (Named.Variable slot) number w h = cc
  barrier_closed name (Named.Cells sharing first size) number w h = cc
  barrier_closed name (Named.Function other returns params) number w h = cc

  called_closed : (needed : Bool) (name : Name) (given : ℕ) (named : Named) (function : ℕ) → IsNamedClosed program slots named
      → as_called needed name given named ≡ Ok function → is_callable program function given ≡ true
  called_closed needed name given (Named.Function number returns wanted) function w h =
      by (bytes_eq name.text main_name) (needed && is_void returns) (given == wanted) refl h
    where
      by : (main nothing same : Bool) → (given == wanted) ≡ same
          → (if main then wrong_kind name else (if nothing then wrong_kind name else (if same then Ok number else Err (err.ArgCount name.text name.line (min given 4294967295) wanted)))) ≡ Ok function
          → is_callable program function given ≡ true
      by true nothing same e h = cc
      by false true same e h = cc
      by false false true e h =
          ok_in (λ function. is_callable program function given ≡ true) number function h
          (subst (λ count. is_callable program number count ≡ true) (sym (eqb-true given wanted e)) w)
      by false false false e h = cc
  called_closed needed name given (Named.Cells sharing first size) function w h = cc
  called_closed needed name given (Named.Locks first size) function w h = cc
  called_closed needed name given (Named.Barrier number) function w h = cc
  called_closed needed name given (Named.Variable slot) function w h = cc

  module _ (names : List Entry) (all : AreNamesClosed program slots names) where
    -- Expressions.

    -- arguments are as many as were written
    count_made : (arguments : t.Expressions) (x : r.Expressions) → resolve_all names arguments ≡ Ok x → count_of arguments ≡ count_in x
    count_made t.nil x h = ok_in (λ x. 0 ≡ count_in x) r.nil x h refl
    count_made (t.cons e rest) x h =
        then_in (resolve names e) _ x h (λ first e1 h1.
        then_in (resolve_all names rest) _ x h1 (λ others e2 h2.
        ok_in (λ x. suc (count_of rest) ≡ count_in x) _ x h2 (ap suc (count_made rest others e2))))

    abbrev IsClosed : r.Expression → Type 0
    IsClosed x = is_closed_expression program slots x ≡ true

    a_call : (function : ℕ) (arguments : t.Expressions) (values : r.Expressions) (line : ℕ) → is_callable program function (count_of arguments) ≡ true
        → resolve_all names arguments ≡ Ok values → are_closed_arguments program slots values ≡ true → IsClosed (r.call function values line)
    a_call function arguments values line fits h closed =
        both (subst (λ count. is_callable program function count ≡ true) (count_made arguments values h) fits) closed

    mutual
      place_closed : (place : t.Place) (x : r.Location) → resolve_place names place ≡ Ok x → is_closed_location program slots x ≡ true
      place_closed (t.single name) x h =
          then_in (used names name) _ x h (λ named e1 h1. single_closed name named x (used_closed program slots names name named all e1) h1)
      place_closed (t.element name index) x h =
          then_in (used names name) _ x h (λ named e1 h1.
          then_in (as_array name named) _ x h1 (λ array e2 h2.
          then_in (resolve names index) _ x h2 (λ at e3 h3.
          ok_in (λ x. is_closed_location program slots x ≡ true) _ x h3
          (both (array_closed name named array (used_closed program slots names name named all e1) e2) (expression_closed index at e3)))))

      pub expression_closed : (e : t.Expression) (x : r.Expression) → resolve names e ≡ Ok x → is_closed_expression program slots x ≡ true
      expression_closed (t.number value) x h = ok_in IsClosed (r.number value) x h refl
      expression_closed (t.at place) x h =
          then_in (resolve_place names place) _ x h (λ location e1 h1. ok_in IsClosed _ x h1 (place_closed place location e1))
      expression_closed (t.paren e) x h = expression_closed e x h
      expression_closed (t.call name arguments) x h =
          then_in (used names name) _ x h (λ named e1 h1.
          then_in (as_called true name (count_of arguments) named) _ x h1 (λ function e2 h2.
          then_in (resolve_all names arguments) _ x h2 (λ values e3 h3.
          let fits = called_closed true name (count_of arguments) named function (used_closed program slots names name named all e1) e2 in
          ok_in IsClosed _ x h3 (a_call function arguments values name.line fits e3 (all_closed arguments values e3)))))
      expression_closed (t.unary op line e) x h =
          then_in (resolve names e) _ x h (λ value e1 h1. ok_in IsClosed _ x h1 (expression_closed e value e1))
      expression_closed (t.prefix op line place) x h =
          then_in (resolve_place names place) _ x h (λ location e1 h1. ok_in IsClosed _ x h1 (place_closed place location e1))
      expression_closed (t.postfix place op line) x h =
          then_in (resolve_place names place) _ x h (λ location e1 h1. ok_in IsClosed _ x h1 (place_closed place location e1))
      expression_closed (t.binary a op line b) x h =
          then_in (resolve names a) _ x h (λ left e1 h1.
          then_in (resolve names b) _ x h1 (λ right e2 h2.
          ok_in IsClosed _ x h2 (both (expression_closed a left e1) (expression_closed b right e2))))
      expression_closed (t.choice test line a b) x h =
          then_in (resolve names test) _ x h (λ condition e1 h1.
          then_in (resolve names a) _ x h1 (λ one e2 h2.
          then_in (resolve names b) _ x h2 (λ other e3 h3.
          ok_in IsClosed _ x h3
          (both (expression_closed test condition e1) (both (expression_closed a one e2) (expression_closed b other e3))))))
      expression_closed (t.assign place op line e) x h =
          then_in (resolve_place names place) _ x h (λ location e1 h1.
          then_in (resolve names e) _ x h1 (λ value e2 h2.
          ok_in IsClosed _ x h2 (both (place_closed place location e1) (expression_closed e value e2))))

      all_closed : (arguments : t.Expressions) (x : r.Expressions) → resolve_all names arguments ≡ Ok x → are_closed_arguments program slots x ≡ true
      all_closed t.nil x h = ok_in (λ x. are_closed_arguments program slots x ≡ true) r.nil x h refl
      all_closed (t.cons e rest) x h =
          then_in (resolve names e) _ x h (λ first e1 h1.
          then_in (resolve_all names rest) _ x h1 (λ others e2 h2.
          ok_in (λ x. are_closed_arguments program slots x ≡ true) _ x h2 (both (expression_closed e first e1) (all_closed rest others e2))))

    pub effect_closed : (e : t.Expression) (x : r.Expression) → resolve_effect names e ≡ Ok x → is_closed_expression program slots x ≡ true
    effect_closed (t.call name arguments) x h =
        then_in (used names name) _ x h (λ named e1 h1.
        then_in (as_called false name (count_of arguments) named) _ x h1 (λ function e2 h2.
        then_in (resolve_all names arguments) _ x h2 (λ values e3 h3.
        let fits = called_closed false name (count_of arguments) named function (used_closed program slots names name named all e1) e2 in
        ok_in IsClosed _ x h3 (a_call function arguments values name.line fits e3 (all_closed arguments values e3)))))
    effect_closed (t.number value) x h = expression_closed (t.number value) x h
    effect_closed (t.at place) x h = expression_closed (t.at place) x h
    effect_closed (t.paren e) x h = expression_closed (t.paren e) x h
    effect_closed (t.unary op line e) x h = expression_closed (t.unary op line e) x h
    effect_closed (t.prefix op line place) x h = expression_closed (t.prefix op line place) x h
    effect_closed (t.postfix place op line) x h = expression_closed (t.postfix place op line) x h
    effect_closed (t.binary a op line b) x h = expression_closed (t.binary a op line b) x h
    effect_closed (t.choice test line a b) x h = expression_closed (t.choice test line a b) x h
    effect_closed (t.assign place op line e) x h = expression_closed (t.assign place op line e) x h

    pub optional_closed : {A : Type 0} (check : A → Check r.Expression) → ((a : A) (x : r.Expression) → check a ≡ Ok x → is_closed_expression program slots x ≡ true)
        → (value : Option A) (x : Option r.Expression) → optional check value ≡ Ok x → is_closed_option (is_closed_expression program slots) x ≡ true
    optional_closed check each_is None x h = ok_in (λ x. is_closed_option (is_closed_expression program slots) x ≡ true) None x h refl
    optional_closed check each_is (Some a) x h =
        then_in (check a) _ x h (λ b e1 h1. ok_in (λ x. is_closed_option (is_closed_expression program slots) x ≡ true) (Some b) x h1 (each_is a b e1))

    pub lock_closed : (place : t.Place) (x : r.LockPlace) → resolve_lock names place ≡ Ok x → is_closed_lock program slots x ≡ true
    lock_closed (t.single name) x h =
        then_in (used names name) _ x h (λ named e1 h1. one_lock_closed name named x (used_closed program slots names name named all e1) h1)
    lock_closed (t.element name index) x h =
        then_in (used names name) _ x h (λ named e1 h1.
        then_in (as_lock_array name named) _ x h1 (λ array e2 h2.
        then_in (resolve names index) _ x h2 (λ at e3 h3.
        ok_in (λ x. is_closed_lock program slots x ≡ true) _ x h3
        (both (lock_array_closed name named array (used_closed program slots names name named all e1) e2) (expression_closed index at e3)))))

    -- Prints.

    part_closed : (part : t.Part) (x : r.Part) → is_sound_part part ≡ true → resolve_part names part ≡ Ok x → is_closed_part program slots x ≡ true
    part_closed (t.part_text text) x sound h = ok_in (λ x. is_closed_part program slots x ≡ true) (r.part_text text) x h sound
    part_closed (t.part_value e) x sound h =
        then_in (resolve names e) _ x h (λ value e1 h1. ok_in (λ x. is_closed_part program slots x ≡ true) _ x h1 (expression_closed e value e1))

    parts_closed : (parts : List t.Part) (x : List r.Part) → all_are is_sound_part parts ≡ true → all_made (resolve_part names) parts ≡ Ok x
        → are_closed_parts program slots x ≡ true
    parts_closed [] x sound h = ok_in (λ x. are_closed_parts program slots x ≡ true) [] x h refl
    parts_closed (part ∷ rest) x sound h =
        let split = both_true (is_sound_part part) (all_are is_sound_part rest) sound in
        then_in (resolve_part names part) _ x h (λ first e1 h1.
        then_in (all_made (resolve_part names) rest) _ x h1 (λ others e2 h2.
        ok_in (λ x. are_closed_parts program slots x ≡ true) _ x h2 (both (part_closed part first split.0 e1) (parts_closed rest others split.1 e2))))

    abbrev AreFew : List t.Part → List r.Part → Type 0
    AreFew parts x = most_bytes x ≤ 20 * length parts + text_bytes parts

    one_more : (part : t.Part) (rest : List t.Part) (x : r.Part) (others : List r.Part) → resolve_part names part ≡ Ok x → AreFew rest others
        → AreFew (part ∷ rest) (x ∷ others)
    one_more (t.part_text text) rest x others h few =
        ok_in (λ made. AreFew (t.part_text text ∷ rest) (made ∷ others)) (r.part_text text) x h (omega (arith, few))
    one_more (t.part_value e) rest x others h few =
        then_in (resolve names e) _ x h (λ value e1 h1.
        ok_in (λ made. AreFew (t.part_value e ∷ rest) (made ∷ others)) (r.part_value value) x h1 (omega (arith, few)))

    parts_few : (parts : List t.Part) (x : List r.Part) → all_made (resolve_part names) parts ≡ Ok x → AreFew parts x
    parts_few [] x h = ok_in (AreFew []) [] x h (omega arith)
    parts_few (part ∷ rest) x h =
        then_in (resolve_part names part) _ x h (λ first e1 h1.
        then_in (all_made (resolve_part names) rest) _ x h1 (λ others e2 h2.
        ok_in (AreFew (part ∷ rest)) _ x h2 (one_more part rest first others e1 (parts_few rest others e2))))

    pub print_closed : (parts : List t.Part) (x : List r.Part) → all_are is_sound_part parts ≡ true → resolve_print names parts ≡ Ok x
        → is_closed_print program slots x ≡ true
    print_closed parts x sound h =
        then_in (within which.PrintParts 8 (length parts)) _ x h (λ count e1 h1.
        then_in (within which.PrintText 96 (text_bytes parts)) _ x h1 (λ bytes e2 h2.
        let few = (within_is which.PrintParts 8 (length parts) count e1).1 in
        let short = (within_is which.PrintText 96 (text_bytes parts) bytes e2).1 in
        both (parts_closed parts x sound h2) (le-leb (most_bytes x) 256 (omega (arith, few, short, parts_few parts x h2)))))

    pub return_closed : (around : Around) (line : ℕ) (value : Option t.Expression) (x : Option r.Expression) → resolve_return around names line value ≡ Ok x
        → is_closed_option (is_closed_expression program slots) x ≡ true
    return_closed around line None x h = ok_in (λ x. is_closed_option (is_closed_expression program slots) x ≡ true) None x h refl
    return_closed around line (Some e) x h = by (is_void around.returns) h
      where
        by : (test : Bool) → (if test then Err (err.WrongKind around.name line) else optional (resolve names) (Some e)) ≡ Ok x
            → is_closed_option (is_closed_expression program slots) x ≡ true
        by true h = cc
        by false h = optional_closed (resolve names) expression_closed (Some e) x h

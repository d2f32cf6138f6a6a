-- Statements that are made one by one.
use Rattle.std.proofs.Common.{◌≡◌, Bool, List, [], ◌∷◌, ◌++◌, Ok, Err, refl, sym, ap, ◌∙◌}
use Rattle.dsm_syntax.specs.declared.tree.Statement.{Statement as TreeStatement}
use Rattle.dsm_syntax.specs.Tree as t
use Rattle.dsm_syntax.specs.Views as tree
use Rattle.dsm_check.specs.declared.resolved.Statement.{Statement}
use Rattle.dsm_check.specs.Resolved as r
use Rattle.dsm_check.specs.Views.{view_statement, view_statements}
use Rattle.dsm_check.specs.Checks.{Check, ◌>>=◌}
use Rattle.dsm_check.specs.Bodies.{Scope, Around, open_block, closing, resolve_statement, resolve_statements}
use Rattle.dsm_check.specs.Environments.{closed}

abbrev pub followed : r.Statements → r.Statements → r.Statements
followed r.none more = more
followed (r.then s rest) more = r.then s (followed rest more)

followed-push : (made : List Statement) (s : Statement) (more : r.Statements) → followed (view_statements made) (r.then (view_statement s) more) ≡ followed (view_statements (made ++ s ∷ [])) more
followed-push [] s more = refl
followed-push (first ∷ made) s more = ap (r.then (view_statement first)) (followed-push made s more)

followed-none : (made : r.Statements) → followed made r.none ≡ made
followed-none r.none = refl
followed-none (r.then s rest) = ap (r.then s) (followed-none rest)

-- what was made, and then the rest
abbrev pub trailing : List Statement → Check (r.Statements × Scope) → Check (r.Statements × Scope)
trailing made (Ok more) = Ok (followed (view_statements made) more.0, more.1)
trailing made (Err e) = Err e

pub trailing-none : (check : Check (r.Statements × Scope)) → check ≡ trailing [] check
trailing-none (Ok more) = refl
trailing-none (Err e) = refl

pub trailing-end : (made : List Statement) (scope : Scope) → trailing made (Ok (r.none, scope)) ≡ Ok (view_statements made, scope)
trailing-end made scope = ap (λ (all : r.Statements). Ok (all, scope)) (followed-none (view_statements made))

pub trailing-next : (around : Around) (looped : Bool) (made : List Statement) (before : Scope) (s : TreeStatement) (rest : List TreeStatement) (value : Statement) (next : Scope)
    → resolve_statement around looped before (tree.view_statement s) ≡ Ok (view_statement value, next)
    → trailing made (resolve_statements around looped before (tree.view_statements (s ∷ rest)))
    ≡ trailing (made ++ value ∷ []) (resolve_statements around looped next (tree.view_statements rest))
trailing-next around looped made before s rest value next h =
    ap (λ first. trailing made (first >>= (λ one. resolve_statements around looped one.1 (tree.view_statements rest) >>= (λ others. Ok (r.then one.0 others.0, others.1))))) h
    ∙ by (resolve_statements around looped next (tree.view_statements rest))
  where
    by : (check : Check (r.Statements × Scope)) → trailing made (check >>= (λ others. Ok (r.then (view_statement value) others.0, others.1))) ≡ trailing (made ++ value ∷ []) check
    by (Ok more) = ap (λ (all : r.Statements). Ok (all, more.1)) (followed-push made value more.0)
    by (Err e) = refl

-- a block whose statements stand
pub blocked : (around : Around) (looped : Bool) (statements : t.Statements) (made : r.Statements) (before inside last after : Scope)
    → inside ≡ open_block before
    → resolve_statements around looped inside statements ≡ Ok (made, last)
    → after ≡ record last { names = closed last.names }
    → resolve_statement around looped before (t.block statements) ≡ Ok (r.block made, after)
blocked around looped statements made before inside last after begun h ended =
    ap (λ (scope : Scope). closing (resolve_statements around looped scope statements) >>= (λ made. Ok (r.block made.0, made.1))) (sym begun)
    ∙ ap (λ check. closing check >>= (λ made. Ok (r.block made.0, made.1))) h
    ∙ ap (λ (scope : Scope). Ok (r.block made, scope)) (sym ended)

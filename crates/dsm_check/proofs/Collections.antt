-- Lists that are made one by one.
use Rattle.std.proofs.Common.{◌≡◌, ℕ, Bool, ◌+◌, ◌<◌, drop, get_or, add-one, List, [], ◌∷◌, ◌++◌, length, suc, Ok, Err, refl, sym, ap, ◌∙◌, append_assoc}
use Rattle.std.proofs.lemmas.List.{append-nil}
use Rattle.std.proofs.Math.Seq.{drop-cons}
use Rattle.dsm_syntax.specs.declared.errors.ProgErr.{ProgErr}
use Rattle.dsm_syntax.specs.declared.tree.Expression.{Expression as TreeExpression}
use Rattle.dsm_syntax.specs.declared.tree.Name.{Name}
use Rattle.dsm_check.specs.declared.names.Named.{Named}
use Rattle.dsm_syntax.specs.Views as tree
use Rattle.dsm_check.specs.declared.resolved.Expression.{Expression}
use Rattle.dsm_check.specs.Resolved as r
use Rattle.dsm_check.specs.Views.{view, views}
use Rattle.dsm_check.specs.Environments.{Entry}
use Rattle.dsm_check.specs.Checks.{Check, ◌>>=◌, used, each_made}
use Rattle.dsm_check.specs.Bodies.{all_made, count_of, as_called, resolve, resolve_all, resolve_call}

-- what is left at a place is the item there, and what is left behind it
pub drop-next : {A : Type 0} (all : List A) (i : ℕ) (item : A) → i < length all → item ≡ get_or all i item → drop i all ≡ item ∷ drop (i + 1) all
drop-next all i item h same =
    drop-cons all i item h ∙ ap (λ x. x ∷ drop (suc i) all) (sym same) ∙ ap (λ n. item ∷ drop n all) (sym (add-one i))

-- Arguments.

pub counted : (es : List TreeExpression) → count_of (tree.views es) ≡ length es
counted [] = refl
counted (e ∷ es) = ap suc (counted es)

abbrev pub joined : r.Expressions → r.Expressions → r.Expressions
joined r.nil more = more
joined (r.cons e rest) more = r.cons e (joined rest more)

joined-push : (made : List Expression) (value : Expression) (more : r.Expressions) → joined (views made) (r.cons (view value) more) ≡ joined (views (made ++ value ∷ [])) more
joined-push [] value more = refl
joined-push (e ∷ made) value more = ap (r.cons (view e)) (joined-push made value more)

joined-nil : (made : r.Expressions) → joined made r.nil ≡ made
joined-nil r.nil = refl
joined-nil (r.cons e rest) = ap (r.cons e) (joined-nil rest)

-- what was made, and then the rest
abbrev pub behind : List Expression → Check r.Expressions → Check r.Expressions
behind made (Ok more) = Ok (joined (views made) more)
behind made (Err e) = Err e

pub behind-none : (check : Check r.Expressions) → check ≡ behind [] check
behind-none (Ok more) = refl
behind-none (Err e) = refl

pub behind-end : (made : List Expression) → behind made (Ok r.nil) ≡ Ok (views made)
behind-end made = ap (λ all. Ok all) (joined-nil (views made))

pub behind-next : (names : List Entry) (made : List Expression) (e : TreeExpression) (rest : List TreeExpression) (value : Expression)
    → resolve names (tree.view e) ≡ Ok (view value)
    → behind made (resolve_all names (tree.views (e ∷ rest))) ≡ behind (made ++ value ∷ []) (resolve_all names (tree.views rest))
behind-next names made e rest value h =
    ap (λ first. behind made (first >>= (λ one. resolve_all names (tree.views rest) >>= (λ others. Ok (r.cons one others))))) h
    ∙ by (resolve_all names (tree.views rest))
  where
    by : (check : Check r.Expressions) → behind made (check >>= (λ others. Ok (r.cons (view value) others))) ≡ behind (made ++ value ∷ []) check
    by (Ok more) = ap (λ all. Ok all) (joined-push made value more)
    by (Err e) = refl

pub behind-refused : (names : List Entry) (made : List Expression) (e : TreeExpression) (rest : List TreeExpression) (why : ProgErr)
    → resolve names (tree.view e) ≡ Err why → behind made (resolve_all names (tree.views (e ∷ rest))) ≡ Err why
behind-refused names made e rest why h =
    ap (λ first. behind made (first >>= (λ one. resolve_all names (tree.views rest) >>= (λ others. Ok (r.cons one others))))) h

-- a call whose parts stand
pub called : (needed : Bool) (names : List Entry) (name : Name) (arguments : List TreeExpression) (named : Named) (function : ℕ) (values : r.Expressions)
    → used names name ≡ Ok named → as_called needed name (length arguments) named ≡ Ok function
    → resolve_all names (tree.views arguments) ≡ Ok values
    → resolve_call needed names name (tree.views arguments) ≡ Ok (r.call function values name.line)
called needed names name arguments named function values h1 h2 h3 =
    ap (λ found. found >>= (λ named. as_called needed name (count_of (tree.views arguments)) named >>= (λ function. resolve_all names (tree.views arguments) >>= (λ values. Ok (r.call function values name.line))))) h1
    ∙ ap (λ n. as_called needed name n named >>= (λ function. resolve_all names (tree.views arguments) >>= (λ values. Ok (r.call function values name.line)))) (counted arguments)
    ∙ ap (λ found. found >>= (λ function. resolve_all names (tree.views arguments) >>= (λ values. Ok (r.call function values name.line)))) h2
    ∙ ap (λ found. found >>= (λ values. Ok (r.call function values name.line))) h3

-- Lists.

-- what was made, and then the rest
abbrev pub onto : {B S : Type 0} → List B → Check (List B × S) → Check (List B × S)
onto made (Ok more) = Ok (made ++ more.0, more.1)
onto made (Err e) = Err e

pub onto-none : {B S : Type 0} (check : Check (List B × S)) → check ≡ onto [] check
onto-none (Ok more) = refl
onto-none (Err e) = refl

pub onto-next : {A B S : Type 0} (step : S → A → Check (B × S)) (made : List B) (before : S) (a : A) (rest : List A) (b : B) (next : S)
    → step before a ≡ Ok (b, next)
    → onto made (each_made step before (a ∷ rest)) ≡ onto (made ++ b ∷ []) (each_made step next rest)
onto-next {A} {B} {S} step made before a rest b next h =
    ap (λ first. onto made (first >>= (λ one. each_made step one.1 rest >>= (λ others. Ok (one.0 ∷ others.0, others.1))))) h
    ∙ by (each_made step next rest)
  where
    by : (check : Check (List B × S)) → onto made (check >>= (λ others. Ok (b ∷ others.0, others.1))) ≡ onto (made ++ b ∷ []) check
    by (Ok more) = ap (λ (all : List B). Ok (all, more.1)) (sym (append_assoc made (b ∷ []) more.0))
    by (Err e) = refl

pub onto-end : {B S : Type 0} (made : List B) (state : S) → onto made (Ok ([], state)) ≡ Ok (made, state)
onto-end {B} made state = ap (λ (all : List B). Ok (all, state)) (append-nil made)

abbrev pub put : {B : Type 0} → List B → Check (List B) → Check (List B)
put made (Ok more) = Ok (made ++ more)
put made (Err e) = Err e

pub put-none : {B : Type 0} (check : Check (List B)) → check ≡ put [] check
put-none (Ok more) = refl
put-none (Err e) = refl

pub put-next : {A B : Type 0} (make : A → Check B) (made : List B) (a : A) (rest : List A) (b : B) → make a ≡ Ok b
    → put made (all_made make (a ∷ rest)) ≡ put (made ++ b ∷ []) (all_made make rest)
put-next {A} {B} make made a rest b h =
    ap (λ first. put made (first >>= (λ one. all_made make rest >>= (λ others. Ok (one ∷ others))))) h
    ∙ by (all_made make rest)
  where
    by : (check : Check (List B)) → put made (check >>= (λ others. Ok (b ∷ others))) ≡ put (made ++ b ∷ []) check
    by (Ok more) = ap (λ (all : List B). Ok all) (sym (append_assoc made (b ∷ []) more))
    by (Err e) = refl

pub put-end : {B : Type 0} (made : List B) → put made (Ok []) ≡ Ok made
put-end {B} made = ap (λ (all : List B). Ok all) (append-nil made)

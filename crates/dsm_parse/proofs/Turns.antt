-- The readers of expressions, as the code goes about them.
use Rattle.std.proofs.Common.{◌≡◌, ◌≤◌, ◌<◌, ◌+◌, ℕ, zero, suc, List, [], ◌∷◌, ◌++◌, max, Option, Some, None, Err, map, refl, sym, ap, ◌∙◌, subst, arith, cond}
use Rattle.std.proofs.lemmas.Bool.{le-ltb}
use Rattle.dsm_syntax.specs.declared.tree.Expression.{Expression}
use Rattle.dsm_syntax.specs.Tree.{cons}
use Rattle.dsm_syntax.specs.Tree as tree
use Rattle.dsm_syntax.specs.Views.{view, views}
use Rattle.dsm_syntax.specs.declared.operator.Infix.{Infix}
use Rattle.dsm_syntax.specs.declared.refusal.Refusal.{Refusal}
use Rattle.dsm_syntax.specs.Lexemes.{Lexeme}
use Rattle.dsm_syntax.specs.Heights.{height, height_arguments}
use Rattle.dsm_syntax.specs.Reading.{ok, too_high, and_then, look, tail}
use Rattle.dsm_syntax.specs.Roles.{infix_of, infix_tightness, tightness_of}
use Rattle.dsm_laws_grammar.specs.Expressions.{expressions, place_at, operation, climb, at_least, below}
use Rattle.dsm_syntax.specs.Gives.{Gives}
use Rattle.dsm_laws_grammar.proofs.Repeats.{gives_none}
use Rattle.dsm_laws_grammar.proofs.Expressions.{climb_stops, climb_turns}

-- where there is a level
pub level_below : (most depth least : ℕ) (ts : List Lexeme) → depth + 1 ≡ most → (below most).at_least least ts ≡ at_least depth (below depth) least ts
level_below zero depth least ts e = absurd (omega arith)
level_below (suc most) depth least ts e = let same : most ≡ depth = omega arith in ap (λ n. at_least n (below n) least ts) same

pub place_below : (most depth : ℕ) (ts : List Lexeme) → depth + 1 ≡ most → (below most).place ts ≡ place_at depth (below depth) ts
place_below zero depth ts e = absurd (omega arith)
place_below (suc most) depth ts e = let same : most ≡ depth = omega arith in ap (λ n. place_at n (below n) ts) same

-- the arguments that a call shows
pub views_as_list : (list : List Expression) → views list ≡ expressions (map view list)
views_as_list [] = refl
views_as_list (e ∷ list) = ap (cons (view e)) (views_as_list list)

pub height_append : (list : List tree.Expression) (e : tree.Expression) → height_arguments (expressions (list ++ e ∷ [])) ≡ max (height_arguments (expressions list)) (height e)
height_append [] e = omega arith
height_append (f ∷ list) e = omega (arith, height_append list e)

-- The loop over operators.
module _ (d least : ℕ) (left : tree.Expression) (i : Infix) (line : ℕ) (ts : List Lexeme) (next : infix_of (look ts) ≡ Some (i, line)) where
  turned : least < infix_tightness left i → height left ≤ d → climb d (below d) d least left ts ≡ and_then (operation d (below d) (Some (i, line)) left (tail ts)) (climb d (below d) d least)
  turned binds low =
      climb_turns d (below d) least left i line ts next (omega (arith, ap (tightness_of left) next))
      ∙ ap (λ b. cond b (too_high ts) (and_then (operation d (below d) (Some (i, line)) left (tail ts)) (climb d (below d) d least))) (le-ltb d (height left) low)

  pub turns_on : (c : tree.Expression) (rest : List Lexeme) → least < infix_tightness left i → height left ≤ d → operation d (below d) (Some (i, line)) left (tail ts) ≡ ok c rest
      → climb d (below d) d least left ts ≡ climb d (below d) d least c rest
  turns_on c rest binds low one = turned binds low ∙ ap (λ r. and_then r (climb d (below d) d least)) one

  pub turns_none : {B C : Type 0} (see : B → tree.Expression) (see' : C → tree.Expression) (why : Refusal) (rest : List Lexeme) → least < infix_tightness left i → height left ≤ d
      → Gives see (operation d (below d) (Some (i, line)) left (tail ts)) (Err why) rest → Gives see' (climb d (below d) d least left ts) (Err why) rest
  turns_none see see' why rest binds low one =
      subst (λ r. Gives see' r (Err why) rest) (sym (turned binds low)) (gives_none (operation d (below d) (Some (i, line)) left (tail ts)) (climb d (below d) d least) see see' why rest one)

  pub binds_too_little : infix_tightness left i ≤ least → climb d (below d) d least left ts ≡ ok left ts
  binds_too_little small = climb_stops d (below d) d least left ts (omega (arith, ap (tightness_of left) next))

pub binds_nothing : (d least : ℕ) (left : tree.Expression) (ts : List Lexeme) → infix_of (look ts) ≡ None → climb d (below d) d least left ts ≡ ok left ts
binds_nothing d least left ts next = climb_stops d (below d) d least left ts (omega (arith, ap (tightness_of left) next))

pub none_of : {A : Type 0} (o : Option A) → ((a : A) → o ≡ Some a → ⊥) → o ≡ None
none_of None never = refl
none_of (Some a) never = absurd (never a refl)

-- An expression in a statement, where there may be no level for one.
use Rattle.std.proofs.Common.{◌≡◌, ◌≤◌, ℕ, zero, suc, Bool, true, false, List, [], ◌++◌, Option, Some, None, refl, sym, ap, ◌∙◌, subst, arith}
use Rattle.std.proofs.lemmas.List.{append-nil}
use Rattle.dsm_syntax.specs.declared.sign.Sign.{Sign}
use Rattle.dsm_syntax.specs.Tree.{Expression}
use Rattle.dsm_syntax.specs.declared.operator.Lead.{Lead}
use Rattle.dsm_syntax.specs.Lexemes.{Lexeme}
use Rattle.dsm_laws_grammar.specs.Grammar.{spell, Fits}
use Rattle.dsm_syntax.specs.Heights.{height}
use Rattle.dsm_syntax.specs.Reading.{unexpected, Reader, and_then, look, is_sign}
use Rattle.dsm_syntax.specs.Roles.{lead, is_lead, begins_expression}
use Rattle.dsm_laws_grammar.specs.Expressions.{below, expression, operand_by, climb}
use Rattle.dsm_laws_grammar.specs.Statements.{unless_sign}
use Rattle.dsm_laws_grammar.proofs.Fronts.{is_sign_look}
use Rattle.dsm_laws_grammar.proofs.Good.{Language, Follow, Free, Begins, BeginsPast, Good, good_ok, good_unexpected, good_too_high, good_as, good_next, good_if}
use Rattle.dsm_laws_grammar.proofs.Lists.{OptionOf}
use Rattle.dsm_laws_grammar.proofs.Expressions.{expression_good}
use Rattle.dsm_laws_grammar.proofs.Beginnings.{begun_with, expression_none, expression_high}

-- a token that begins no expression is refused at each height
pub expression_refused : (m : ℕ) (ts : List Lexeme) → begins_expression (look ts) ≡ false → expression m ts ≡ unexpected ts
expression_refused zero ts e = expression_none ts e
expression_refused (suc m) ts e = of (lead (look ts)) e
  where
    of : (l : Lead) → is_lead l ≡ false → and_then (operand_by m (below m) l ts) (climb m (below m) m 0) ≡ unexpected ts
    of Lead.Nothing e = refl
    of _ e = absurd cc

-- an expression, and then more; where there is no level for one, something else goes on
pub good_value : {B : Type 0} {L : Language B} {G : Follow B} {Q : ℕ → Expression → Reader B} {d : ℕ} →
    Begins L d []
    → ((m : ℕ) (e : Expression) → d ≤ m → Fits e → height e ≤ m → Begins L m (spell e))
    → ((e : Expression) (rest : List Lexeme) → Fits e → height e ≤ d → Good (λ m b v. L m b (spell e ++ v)) G (λ m. Q m e) d rest)
    → (ts : List Lexeme) → Good L G (λ m s. and_then (expression m s) (Q m)) d ts
good_value {B = B} {L = L} {G = G} {Q = Q} {d = zero} begun least second ts = of (begins_expression (look ts)) refl
  where
    past : (next : Option Lexeme) → begins_expression next ≡ true → BeginsPast L 0 [] next
    past None e = absurd cc
    past (Some x) e =
        let b = begun_with x e in
        let c = least (height b.value) b.value (omega arith) b.fits (omega arith) in record {
          token = x;
          next_is = refl;
          most = height b.value;
          enough = omega arith;
          value = c.value;
          more = b.more ++ c.more;
          is = subst (λ l. L (height b.value) c.value (l ++ c.more)) b.is c.is;
        }

    of : (b : Bool) → begins_expression (look ts) ≡ b → Good L G (λ m s. and_then (expression m s) (Q m)) 0 ts
    of true e = good_too_high begun (past (look ts) e) (λ r lk. ap (λ x. and_then x (Q 0)) (expression_high r (ap begins_expression lk ∙ e)))
    of false e = good_as (good_unexpected begun) (λ m s le lk. ap (λ x. and_then x (Q m)) (expression_refused m s (ap begins_expression lk ∙ e)))
good_value {B = B} {L = L} {G = G} {Q = Q} {d = suc d} begun least second ts =
    good_next (expression_good (suc d) (omega arith) ts) least (λ e rest at fits low next. second e rest fits low)

-- one that may be left out before a sign
pub good_unless : (s : Sign) (d : ℕ) (ts : List Lexeme) → Good (OptionOf spell Fits height) Free (λ m. unless_sign s (expression m)) d ts
good_unless s d ts = good_if (is_sign s) (is_sign_look s)
    (λ e. good_ok None nothing tt)
    (λ e. good_value (record { value = None; more = []; is = nothing })
    (λ m e le fits low. record { value = Some e; more = []; is = record { is = sym (append-nil (spell e)); fits = fits; low = low } })
    (λ e rest fits low. good_ok (Some e) (record { is = sym (append-nil (spell e)); fits = fits; low = low }) tt) ts)
  where
    nothing : OptionOf spell Fits height d None []
    nothing = record { is = refl; fits = tt; low = omega arith }

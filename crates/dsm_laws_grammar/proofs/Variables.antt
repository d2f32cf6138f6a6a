-- Declarations of variables.
use Rattle.std.proofs.Common.{◌≡◌, ◌≤◌, ℕ, false, cond, List, [], ◌∷◌, ◌++◌, Option, Some, None, IfSome, refl, sym, ap, ◌∙◌, subst, arith}
use Rattle.std.proofs.lemmas.Bool.{lt-ltb}
use Rattle.dsm_syntax.specs.declared.sign.Sign.{Sign}
use Rattle.dsm_syntax.specs.declared.word.Word.{Word}
use Rattle.dsm_syntax.specs.Tree.{Initial, Variable}
use Rattle.dsm_syntax.specs.Lexemes.{Lexeme, named, word, sign_at}
use Rattle.dsm_laws_grammar.specs.Grammar.{spell_option, spell_initial, spell_variable, spell_variables, Fits, FitsVariable, Listed}
use Rattle.dsm_syntax.specs.Heights.{height, highest, height_option, height_variable}
use Rattle.dsm_syntax.specs.Reading.{ok, unexpected, too_high, Reader, and_then, look, tail, is_sign, is_word, list_of}
use Rattle.dsm_syntax.specs.Roles.{infix_of}
use Rattle.dsm_laws_grammar.specs.Expressions.{expression}
use Rattle.dsm_laws_grammar.specs.Statements.{deeper, assign_line, initial_at, initial, variable, variables}
use Rattle.dsm_laws_grammar.proofs.Fronts.{cons_of}
use Rattle.dsm_laws_grammar.proofs.Good.{Language, Free, Spelled, Good, good_ok, good_as, good_weaken, good_map, good_after, good_word}
use Rattle.dsm_laws_grammar.proofs.Singles.{single_name, good_single}
use Rattle.dsm_laws_grammar.proofs.Lists.{OptionOf, good_list, list_reads}
use Rattle.dsm_laws_grammar.proofs.Expressions.{expression_good}
use Rattle.dsm_laws_grammar.proofs.Complete.{Ends, ends_comma, expression_reads}

abbrev FitsInitial : Initial → Type 0
FitsInitial initial = Fits initial.value

abbrev height_initial : Initial → ℕ
height_initial initial = height initial.value

abbrev pub VariableOf : Language Variable
VariableOf = Spelled spell_variable FitsVariable height_variable

abbrev pub VariablesOf : Language (List Variable)
VariablesOf = Spelled spell_variables (Listed FitsVariable) (highest height_variable)

-- behind the sign of an initial value
initial_behind : (line d : ℕ) → 1 ≤ d → (ts : List Lexeme)
    → Good (λ m i w. OptionOf spell_initial FitsInitial height_initial m i (sign_at Sign.Assign line ∷ w)) Free
    (λ m s. and_then (expression m s) (λ e. ok (Some (record { line = line; value = e })))) d ts
initial_behind line d one ts = good_map (λ e. Some (record { line = line; value = e }))
    (good_weaken (λ m e w le h. record { is = ap (λ l. sign_at Sign.Assign line ∷ l) h.is; fits = h.fits; low = h.low }) (λ e next f. tt) (expression_good d one ts))

assigned : (next : Option Lexeme) (line : ℕ) → assign_line next ≡ Some line → next ≡ Some (sign_at Sign.Assign line)
assigned (Some (sign_at Sign.Assign found)) line e = let same : found ≡ line = cc in ap (λ l. Some (sign_at Sign.Assign l)) same
assigned _ line e = absurd cc

pub initial_good : (d : ℕ) → 1 ≤ d → (ts : List Lexeme) → Good (OptionOf spell_initial FitsInitial height_initial) Free initial d ts
initial_good d one ts = of (assign_line (look ts)) refl
  where
    of : (o : Option ℕ) → assign_line (look ts) ≡ o → Good (OptionOf spell_initial FitsInitial height_initial) Free initial d ts
    of None e = good_as (good_ok None (record { is = refl; fits = tt; low = omega arith }) tt)
        (λ m s le lk. ap (λ next. initial_at m (assign_line next) s) lk ∙ ap (λ o. initial_at m o s) e)
    of (Some line) e = subst (Good (OptionOf spell_initial FitsInitial height_initial) Free initial d) (sym (cons_of ts _ (assigned (look ts) line e)))
        (good_after (sign_at Sign.Assign line) (initial_behind line d one (tail ts)) (λ m s le. refl))

pub variable_good : (d : ℕ) → 1 ≤ d → (ts : List Lexeme) → Good VariableOf Free variable d ts
variable_good d one ts = good_single single_name (λ name rest. good_map (λ initial. record { name = name; initial = initial })
    (good_weaken (λ m i w le h. record { is = ap (λ l. named name ∷ l) h.is; fits = h.fits; low = let l = h.low in omega arith }) (λ i next f. tt) (initial_good d one rest))) ts

-- where a level is left
pub deeper_goes : {A : Type 0} (m : ℕ) (more : Reader A) (ts : List Lexeme) → 1 ≤ m → deeper m more ts ≡ more (tail ts)
deeper_goes m more ts one = ap (λ b. cond b (more (tail ts)) (too_high ts)) (lt-ltb 0 m one)

pub variables_good : (d : ℕ) → 1 ≤ d → (ts : List Lexeme) → Good VariablesOf Free variables d ts
variables_good d one ts = good_as (good_word Word.Int (λ rest. good_weaken
    (λ m all w le h. record { is = ap (λ l. word Word.Int ∷ l) h.is; fits = h.fits; low = h.low }) (λ all next f. tt) (good_list (variable_good d one) rest)))
    (λ m s le lk. ap (λ r. cond (is_word Word.Int s) r (unexpected s)) (deeper_goes m (list_of (variable m)) s (omega arith)))

-- What is spelled is read.

no_assign : (next : Option Lexeme) → infix_of next ≡ None → assign_line next ≡ None
no_assign (Some (sign_at Sign.Assign line)) e = absurd cc
no_assign None e = refl
no_assign (Some (sign_at _ line)) e = refl
no_assign (Some _) e = refl

pub initial_reads : (d : ℕ) (i : Option Initial) (rest : List Lexeme) → IfSome i FitsInitial → height_option height_initial i ≤ d → Ends rest → initial d (spell_option spell_initial i ++ rest) ≡ ok i rest
initial_reads d None rest fits low ends = ap (λ o. initial_at d o rest) (no_assign (look rest) ends.infix_none)
initial_reads d (Some i) rest fits low ends = ap (λ x. and_then x (λ e. ok (Some (record { line = i.line; value = e })))) (expression_reads d i.value rest fits low ends)

pub variable_reads : (d : ℕ) (v : Variable) (rest : List Lexeme) → FitsVariable v → height_variable v ≤ d → Ends rest → variable d (spell_variable v ++ rest) ≡ ok v rest
variable_reads d v rest fits low ends = ap (λ x. and_then x (λ i. ok (record { name = v.name; initial = i }))) (initial_reads d v.initial rest fits (omega arith) ends)

pub variables_reads : (d : ℕ) (all : List Variable) (rest : List Lexeme) → Listed FitsVariable all → highest height_variable all ≤ d → Ends rest → is_sign Sign.Comma rest ≡ false
    → variables d (spell_variables all ++ rest) ≡ ok all rest
variables_reads d all rest fits low ends comma =
    deeper_goes d (list_of (variable d)) (spell_variables all ++ rest) (some all fits low)
    ∙ list_reads spell_variable FitsVariable height_variable Ends d (variable d) (λ v rest f l e. variable_reads d v rest f l e) ends_comma all rest fits low ends comma
  where
    some : (all : List Variable) → Listed FitsVariable all → highest height_variable all ≤ d → 1 ≤ d
    some [] f l = absurd f
    some (v ∷ all) f l = omega arith

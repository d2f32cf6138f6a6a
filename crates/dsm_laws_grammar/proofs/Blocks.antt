-- Statements in braces.
use Rattle.std.proofs.Common.{◌≡◌, ◌≤◌, ◌⊎◌, inl, inr, ℕ, zero, suc, max, Bool, true, false, not, List, [], ◌∷◌, ◌++◌, length, flat_map, Some, refl, ap, ◌∙◌, arith}
use Rattle.std.specs.List.{AllByRecursion}
use Rattle.std.proofs.lemmas.List.{append-nil}
use Rattle.dsm_syntax.specs.declared.sign.Sign.{Sign}
use Rattle.dsm_syntax.specs.Tree.{Statement, Statements}
use Rattle.dsm_syntax.specs.Tree as t
use Rattle.dsm_syntax.specs.Lexemes.{Lexeme, sign}
use Rattle.dsm_laws_grammar.specs.Grammar.{spell_statement, spell_statements, FitsStatement, FitStatements}
use Rattle.dsm_syntax.specs.Heights.{height_statement, height_statements, highest}
use Rattle.dsm_syntax.specs.Reading.{Read, ok, unexpected, too_high, Reader, and_then, look, tail, ended_by, repeated}
use Rattle.dsm_laws_grammar.specs.Statements.{goes_on, in_order, statements, statement}
use Rattle.dsm_laws_grammar.proofs.Fronts.{Looks, is_sign_look}
use Rattle.dsm_laws_grammar.proofs.Good.{Language, Free, Spelled, Begins, BeginsPast, Good, good_unexpected, good_too_high, good_as, good_weaken, good_map, good_next, good_end}
use Rattle.dsm_laws_grammar.proofs.Repeats.{stops, turns, good_repeated}
use Rattle.dsm_laws_grammar.proofs.Firsts.{NoElse, High, Refused, at_zero, statement_long}
use Rattle.dsm_laws_grammar.proofs.Simples.{Above, closed, good_token}
use Rattle.dsm_laws_grammar.proofs.Branches.{GoodAt}

-- A list of statements as a tree has it.

pub spell_in_order : (all : List Statement) → spell_statements (in_order all) ≡ flat_map spell_statement all
spell_in_order [] = refl
spell_in_order (s ∷ all) = ap (λ l. spell_statement s ++ l) (spell_in_order all)

fit_in_order : (all : List Statement) → AllByRecursion FitsStatement all → FitStatements (in_order all)
fit_in_order [] fits = tt
fit_in_order (s ∷ all) fits = (fits.0, fit_in_order all fits.1)

pub height_in_order : (all : List Statement) → height_statements (in_order all) ≡ highest height_statement all
height_in_order [] = refl
height_in_order (s ∷ all) = ap (λ n. max (height_statement s) n) (height_in_order all)

pub goes_on_look : Looks goes_on
goes_on_look [] [] e = refl
goes_on_look [] (y ∷ s) e = absurd cc
goes_on_look (x ∷ r) [] e = absurd cc
goes_on_look (x ∷ r) (y ∷ s) e = ap not (is_sign_look Sign.BraceClose (x ∷ r) (y ∷ s) e)

-- Behind the opening brace.

abbrev pub spell_closed : Statements → List Lexeme
spell_closed all = spell_statements all ++ sign Sign.BraceClose ∷ []

abbrev pub StatementsOf : Language Statements
StatementsOf = Spelled spell_closed FitStatements height_statements

abbrev close : List Statement → Reader Statements
close all = ended_by Sign.BraceClose (in_order all)

nothing : (d : ℕ) → StatementsOf d t.none (sign Sign.BraceClose ∷ [])
nothing d = record { is = refl; fits = tt; low = omega arith }

-- a first statement that is refused
first : (m : ℕ) (ts : List Lexeme) (one : List Lexeme → Read Statement) (all : List Lexeme → Read (List Statement)) (whole : List Lexeme → Read Statements)
    → ((r : List Lexeme) (f : Statement → Reader (List Statement)) → and_then (one r) f ≡ all r) → ((r : List Lexeme) (f : List Statement → Reader Statements) → and_then (all r) f ≡ whole r)
    → goes_on ts ≡ true → statement m ts ≡ one ts → statements (statement m) ts ≡ whole ts
first m [] one all whole passes ends e h = absurd cc
first m (x ∷ ts) one all whole passes ends e h =
    ap (λ r. and_then r close) (turns goes_on (statement m) (length ts) (x ∷ ts) e
    ∙ ap (λ r. and_then r (λ a rest. and_then (repeated goes_on (statement m) (length ts) rest) (λ others. ok (a ∷ others)))) h
    ∙ passes (x ∷ ts) (λ a rest. and_then (repeated goes_on (statement m) (length ts) rest) (λ others. ok (a ∷ others))))
    ∙ ends (x ∷ ts) close

pub statements_good : (d : ℕ) → (1 ≤ d → GoodAt d) → (ts : List Lexeme) → Good StatementsOf Free (λ m. statements (statement m)) d ts
statements_good zero good ts = of (goes_on ts) refl (at_zero ts)
  where
    begun : Begins StatementsOf 0 []
    begun = record { value = t.none; more = sign Sign.BraceClose ∷ []; is = nothing 0 }

    past : (h : High ts) → BeginsPast StatementsOf 0 [] (look ts)
    past h = record {
      token = h.token;
      next_is = h.next_is;
      most = height_statement h.some.value;
      enough = omega arith;
      value = t.then h.some.value t.none;
      more = h.some.more ++ sign Sign.BraceClose ∷ [];
      is = record { is = ap (λ l. l ++ sign Sign.BraceClose ∷ []) (append-nil (spell_statement h.some.value) ∙ h.some.is); fits = (h.some.fits, tt); low = omega arith };
    }

    of : (b : Bool) → goes_on ts ≡ b → High ts ⊎ Refused ts → Good StatementsOf Free (λ m. statements (statement m)) 0 ts
    of false e z = good_as (good_end Sign.BraceClose t.none (nothing 0) (λ next. tt))
        (λ m s le lk. ap (λ r. and_then r close) (stops goes_on (statement m) (length s) s (goes_on_look s ts lk ∙ e)))
    of true e (inl h) = good_too_high begun (past h) (λ r lk. first 0 r too_high too_high too_high (λ r f. refl) (λ r f. refl) (goes_on_look r ts lk ∙ e) (h.high r lk))
    of true e (inr h) = good_as (good_unexpected begun) (λ m s le lk. first m s unexpected unexpected unexpected (λ r f. refl) (λ r f. refl) (goes_on_look s ts lk ∙ e) (h m s lk))
statements_good (suc d) good ts = good_next
    (good_repeated spell_statement FitsStatement height_statement NoElse goes_on statement goes_on_look refl (λ s f. statement_long s) (suc d) (λ ts e. good (omega arith) ts) ts)
    (λ m all le fits low. record { value = in_order all; more = sign Sign.BraceClose ∷ []; is = whole m all fits low })
    (λ all rest at fits low next. good_end Sign.BraceClose (in_order all) (whole (suc d) all fits low) (λ next. tt))
  where
    whole : (m : ℕ) (all : List Statement) → AllByRecursion FitsStatement all → highest height_statement all ≤ m → StatementsOf m (in_order all) (flat_map spell_statement all ++ sign Sign.BraceClose ∷ [])
    whole m all fits low =
        record { is = ap (λ l. l ++ sign Sign.BraceClose ∷ []) (spell_in_order all); fits = fit_in_order all fits; low = omega (arith, height_in_order all) }

pub block_good : (d : ℕ) → (1 ≤ d → GoodAt d) → (ts : List Lexeme) → look ts ≡ Some (sign Sign.BraceOpen)
    → Good Above NoElse (λ m s. and_then (statements (statement m) (tail s)) (λ all. ok (t.block all))) d ts
block_good d good ts at = good_token (sign Sign.BraceOpen) at (good_map t.block (good_weaken
    (λ m all w le h. record { is = ap (λ l. sign Sign.BraceOpen ∷ l) h.is; fits = h.fits; low = let l = h.low in omega arith })
    (λ all next f. closed (t.block all) refl next) (statements_good d good (tail ts))))

-- The code's loop over the statements in braces.
use Rattle.std.proofs.Common.{◌≡◌, ◌<◌, ◌⊎◌, inl, inr, ℕ, zero, suc, true, false, cond, map, List, [], ◌∷◌, ◌++◌, length, refl, sym, ap, ◌∙◌, arith, Vec, Global}
use Rattle.dsm_syntax.specs.declared.sign.Sign.{Sign}
use Rattle.dsm_syntax.specs.declared.tree.Statement.{Statement, Block}
use Rattle.dsm_syntax.specs.Tree as t
use Rattle.dsm_syntax.specs.Views.{view_statement, view_statements}
use Rattle.dsm_syntax.proofs.Shown.{view_block}
use Rattle.dsm_syntax.specs.declared.kind.StatementKind.{StatementKind}
use Rattle.dsm_syntax.specs.Lexemes.{Lexeme}
use Rattle.dsm_laws_grammar.specs.Grammar.{spell_statement, FitsStatement}
use Rattle.dsm_syntax.specs.Heights.{height_statement}
use Rattle.dsm_syntax.specs.Reading.{Read, ok, unexpected, too_high, and_then, look, tail, is_sign, ended_by, gathered}
use Rattle.dsm_syntax.specs.Kinds.{kind}
use Rattle.dsm_laws_grammar.specs.Statements.{goes_on, in_order, statements, statement_by, statement}
use Rattle.dsm_laws_grammar.proofs.Good.{shorter}
use Rattle.dsm_laws_grammar.proofs.Repeats.{all_of, gathers, gathered_all}
use Rattle.dsm_laws_grammar.proofs.Firsts.{NoElse, High, Refused, at_zero, statement_long}
use Rattle.dsm_laws_grammar.proofs.Blocks.{goes_on_look}
use Rattle.dsm_laws_grammar.proofs.Statements.{statement_good}

-- with no level none is read
none_read : (ts : List Lexeme) (s : t.Statement) (rest : List Lexeme) → statement 0 ts ≡ ok s rest → ⊥
none_read ts s rest e = of (at_zero ts)
  where
    of : High ts ⊎ Refused ts → ⊥
    of (inl h) = let high : statement 0 ts ≡ too_high ts = h.high ts refl in cc
    of (inr h) = let none : statement 0 ts ≡ unexpected ts = h 0 ts refl in cc

-- a turn
pub statements_turn : {read : Read (List t.Statement)} {all : List t.Statement} {s : t.Statement} {rest : List Lexeme} (d : ℕ) (taken : List t.Statement) (ts : List Lexeme)
    → read ≡ gathered taken (all_of goes_on statement d) ts → goes_on ts ≡ true → statement d ts ≡ ok s rest → all ≡ taken ++ s ∷ [] → read ≡ gathered all (all_of goes_on statement d) rest
statements_turn {s = s} {rest = rest} zero taken ts so e one pushed = absurd (none_read ts s rest one)
statements_turn {s = s} {rest = rest} (suc d) taken ts so e one pushed =
    so ∙ gathers spell_statement FitsStatement height_statement NoElse goes_on statement goes_on_look refl (λ s f. statement_long s) (suc d) (λ ts e. statement_good (suc d) (omega arith) ts) taken s ts rest e one
    ∙ ap (λ l. gathered l (all_of goes_on statement (suc d)) rest) (sym pushed)

pub statement_falls : {s : t.Statement} {rest : List Lexeme} (d : ℕ) (ts : List Lexeme) → statement d ts ≡ ok s rest → length rest < length ts
statement_falls {s} {rest} d ts one = of d one
  where
    of : (d : ℕ) → statement d ts ≡ ok s rest → length rest < length ts
    of zero one = absurd (none_read ts s rest one)
    of (suc d) one = shorter (statement_good (suc d) (omega arith) ts) (λ s w h. omega (arith, ap length h.is, statement_long s)) s rest one

-- its end
pub view_in_order : (all : List Statement) → in_order (map view_statement all) ≡ view_statements all
view_in_order [] = refl
view_in_order (s ∷ all) = ap (λ l. t.then (view_statement s) l) (view_in_order all)

pub statements_end : (d : ℕ) (start : List Lexeme) (all : List Statement) (ts rest : List Lexeme) → all_of goes_on statement d start ≡ gathered (map view_statement all) (all_of goes_on statement d) ts
    → goes_on ts ≡ false → is_sign Sign.BraceClose ts ≡ true → rest ≡ tail ts → statements (statement d) start ≡ ok (view_statements all) rest
statements_end d start all ts rest so e closes behind =
    ap (λ r. and_then r (λ all. ended_by Sign.BraceClose (in_order all))) (so ∙ gathered_all spell_statement FitsStatement height_statement NoElse goes_on statement (map view_statement all) d ts e)
    ∙ ap (λ b. cond b (ok (in_order (map view_statement all)) (tail ts)) (unexpected ts)) closes
    ∙ ap (λ l. ok (in_order (map view_statement all)) l) (sym behind) ∙ ap (λ all. ok all rest) (view_in_order all)

-- A level down.

pub statement_level : (most below : ℕ) (ts : List Lexeme) → most ≡ suc below → statement_by below (statement below) (kind (look ts)) ts ≡ statement most ts
statement_level most below ts e = ap (λ m. statement m ts) (sym e)

pub block_read : (d : ℕ) (ts mid rest : List Lexeme) (k : StatementKind) (all : Vec Statement Global) → k ≡ StatementKind.Block → mid ≡ tail ts
    → statements (statement d) mid ≡ ok (view_statements all.items) rest → statement_by d (statement d) k ts ≡ ok (view_statement (Block all)) rest
block_read d ts mid rest k all e behind read =
    ap (λ k. statement_by d (statement d) k ts) e
    ∙ ap (λ l. and_then (statements (statement d) l) (λ all. ok (t.block all))) (sym behind)
    ∙ ap (λ r. and_then r (λ all. ok (t.block all))) read
    ∙ ap (λ s. ok s rest) (sym (view_block all))

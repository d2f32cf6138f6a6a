-- Bodies of functions.
use Rattle.std.proofs.Common.{◌≡◌, ◌≤◌, ◌+◌, ℕ, zero, suc, List, ◌∷◌, ◌++◌, refl, ap, arith}
use Rattle.dsm_syntax.specs.declared.sign.Sign.{Sign}
use Rattle.dsm_syntax.specs.Tree.{Statements}
use Rattle.dsm_syntax.specs.Lexemes.{Lexeme, sign}
use Rattle.dsm_laws_grammar.specs.Grammar.{spell_body, FitStatements}
use Rattle.dsm_syntax.specs.Heights.{height_statements}
use Rattle.dsm_syntax.specs.Reading.{ok}
use Rattle.dsm_laws_grammar.specs.Statements.{body}
use Rattle.dsm_laws_grammar.proofs.Good.{Language, Free, Spelled, Good, good_weaken, good_up, good_sign}
use Rattle.dsm_laws_grammar.proofs.Blocks.{statements_good}
use Rattle.dsm_laws_grammar.proofs.Statements.{statement_good}
use Rattle.dsm_laws_grammar.proofs.Readbacks.{closed_read, all_read}

abbrev pub BodyOf : Language Statements
BodyOf = Spelled spell_body FitStatements (λ b. height_statements b + 1)

pub good_body : (d : ℕ) → 1 ≤ d → (ts : List Lexeme) → Good BodyOf Free body d ts
good_body zero one ts = absurd (omega arith)
good_body (suc d) one ts = good_up (good_sign Sign.BraceOpen (λ rest. good_weaken
    (λ m all w le h. record { is = ap (λ l. sign Sign.BraceOpen ∷ l) h.is; fits = h.fits; low = let l = h.low in omega arith })
    (λ all next f. f) (statements_good d (statement_good d) rest))) (λ m s le lk. refl)

pub body_reads : (b : Statements) (d : ℕ) (rest : List Lexeme) → FitStatements b → height_statements b + 1 ≤ d → body d (spell_body b ++ rest) ≡ ok b rest
body_reads b zero rest fits low = absurd (omega arith)
body_reads b (suc d) rest fits low = closed_read b d rest (all_read b fits d rest (omega arith))

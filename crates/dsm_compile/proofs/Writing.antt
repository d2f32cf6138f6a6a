-- Code before code.
use Rattle.std.proofs.Common.{◌≡◌, ℕ, suc, ◌+◌, ◌-◌, ◌<◌, ◌≤◌, pos, List, [], ◌∷◌, ◌++◌, length, get_or, drop, reverse, set, ap, sym, ◌∙◌, arith, append_assoc, length-append}
use Rattle.std.proofs.Math.Seq.{drop-cons, set-append_seam}
use Rattle.std.proofs.lemmas.List.{reverse-append, reverse-reverse, length-reverse}
use Rattle.dsm_base.specs.declared.setup.Piece.{Piece}
use Rattle.dsm_check.specs.declared.resolved.Expression.{Expression}
use Rattle.dsm_check.specs.declared.resolved.Statement.{Statement}
use Rattle.dsm_check.specs.Resolved as r
use Rattle.dsm_check.specs.Views.{view, views, view_statement, view_statements}
use Rattle.dsm_code.specs.declared.instruction.Instr.{Instr}
use Rattle.dsm_code.specs.declared.parts.Row.{Row}
use Rattle.dsm_laws_code.specs.Instructions.{row}
use Rattle.dsm_laws_code.specs.Expressions.{and_code, chosen_code, count_of, expression_code, arguments_code}
use Rattle.dsm_laws_code.specs.Statements.{Exits, before, statement_code, statements_code, statement_prints, statements_prints}
use Rattle.dsm_compile.proofs.Shown.{counted}
use Rattle.dsm_compile.specs.Drafts.{Draft, with_code, with_statement, with_statements}

-- code before code is one piece of code
pub joined : (a b : List Row) (draft : Draft) → with_code a (with_code b draft) ≡ with_code (a ++ b) draft
joined a b draft = ap (λ rows. record draft { rows = rows }) (sym (append_assoc a b draft.rows))

-- a statement before statements
pub next_statement : (exits : Exits) (s : r.Statement) (rest : r.Statements) (d : Draft)
    → with_statement (before (length (statements_code d.pieces exits (length d.prints) rest)) exits) s (with_statements exits rest d) ≡ with_statements exits (r.then s rest) d
next_statement exits s rest d =
    let behind = statements_code d.pieces exits (length d.prints) rest in
    let within = before (length behind) exits in
    let count = length d.prints + length (statements_prints rest) in
    let rows = ap (λ n. statement_code d.pieces within n s ++ (behind ++ d.rows)) (length-append d.prints (statements_prints rest))
    ∙ sym (append_assoc (statement_code d.pieces within count s) behind d.rows) in
    let prints = append_assoc d.prints (statements_prints rest) (statement_prints s) in
    λ i. record { pieces = d.pieces; rows = rows i; prints = prints i }

-- what a count of instructions since there were so many tells
abbrev pub Counts : Draft → ℕ → ℕ → Type 0
Counts draft len count = (part rest : List Row) → draft.rows ≡ part ++ rest → length rest ≡ len → count ≡ length part

-- what comes behind the first operand of `&&`, from its end on
pub ands_made : (depth tested count len : ℕ) (code : List Piece → List Row) (d one two three four : Draft) → tested ≡ depth + 1
    → one ≡ with_code (row depth (Instr.Push (pos 0)) ∷ []) d → two ≡ with_code (row tested (Instr.GoOn 1) ∷ []) one
    → three ≡ with_code (row tested Instr.ToTruth ∷ []) two → four ≡ with_code (code three.pieces) three → len ≡ length one.rows → Counts four len count
    → with_code (row tested (Instr.SkipIfZero count) ∷ []) four ≡ with_code (and_code depth (code d.pieces)) d
ands_made depth tested count len code d one two three four is h1 h2 h3 h4 long counts =
    let p = row depth (Instr.Push (pos 0)) in
    let g = row tested (Instr.GoOn 1) in
    let t = row tested Instr.ToTruth in
    let second = code d.pieces in
    let e2 : two ≡ with_code (g ∷ p ∷ []) d = h2 ∙ ap (with_code (g ∷ [])) h1 in
    let e3 : three ≡ with_code (t ∷ g ∷ p ∷ []) d = h3 ∙ ap (with_code (t ∷ [])) e2 in
    let e4 : four ≡ with_code second (with_code (t ∷ g ∷ p ∷ []) d) = h4 ∙ ap (λ x. with_code (code x.pieces) x) e3 in
    let rows : four.rows ≡ (second ++ (t ∷ g ∷ [])) ++ (p ∷ d.rows) = ap (λ x. x.rows) e4 ∙ sym (append_assoc second (t ∷ g ∷ []) (p ∷ d.rows)) in
    let behind : length (p ∷ d.rows) ≡ len = sym (long ∙ ap (λ x. length x.rows) h1) in
    let n : count ≡ length second + 2 = counts (second ++ (t ∷ g ∷ [])) (p ∷ d.rows) rows behind ∙ length-append second (t ∷ g ∷ []) in
    ap (with_code (row tested (Instr.SkipIfZero count) ∷ [])) (e4 ∙ joined second (t ∷ g ∷ p ∷ []) d)
    ∙ (λ i. with_code (row (is i) (Instr.SkipIfZero (n i)) ∷ (second ++ (row (is i) Instr.ToTruth ∷ row (is i) (Instr.GoOn 1) ∷ p ∷ []))) d)

-- one of two parts, from the end of the first one on
pub firsts_made : (depth tested others count len : ℕ) (code : List Piece → List Row) (second rest : List Row) (d one two : Draft) → tested ≡ depth + 1
    → d.rows ≡ second ++ rest → others ≡ length second → one ≡ with_code (row tested (Instr.GoOn others) ∷ []) d → len ≡ length d.rows
    → two ≡ with_code (code one.pieces) one → Counts two len count
    → with_code (row tested (Instr.SkipIfZero count) ∷ []) two ≡ record d { rows = chosen_code (depth + 1) (depth + 1) (code d.pieces) second ++ rest }
firsts_made depth tested others count len code second rest d one two is shown over h1 long h2 counts =
    let g = row tested (Instr.GoOn others) in
    let first = code d.pieces in
    let e2 : two ≡ with_code first (with_code (g ∷ []) d) = h2 ∙ ap (λ x. with_code (code x.pieces) x) h1 in
    let rows : two.rows ≡ (first ++ (g ∷ [])) ++ d.rows = ap (λ x. x.rows) e2 ∙ sym (append_assoc first (g ∷ []) d.rows) in
    let n : count ≡ length first + 1 = counts (first ++ (g ∷ [])) d.rows rows (sym long) ∙ length-append first (g ∷ []) in
    ap (with_code (row tested (Instr.SkipIfZero count) ∷ [])) e2
    ∙ (λ i. record d { rows = row (is i) (Instr.SkipIfZero (n i)) ∷ (first ++ (row (is i) (Instr.GoOn (over i)) ∷ shown i)) })
    ∙ ap (λ x. record d { rows = row (depth + 1) (Instr.SkipIfZero (length first + 1)) ∷ x }) (sym (append_assoc first (row (depth + 1) (Instr.GoOn (length second)) ∷ second) rest))

-- a call, from its end on
pub calls_made : (depth at count : ℕ) (instr : Instr) (code : List Piece → List Row) (arguments : List Expression) (d one : Draft) → at ≡ depth + count → count ≡ length arguments
    → one ≡ with_code (row at instr ∷ []) d → with_code (code one.pieces) one ≡ with_code (code d.pieces ++ (row (depth + count_of (views arguments)) instr ∷ [])) d
calls_made depth at count instr code arguments d one is many h =
    let n : at ≡ depth + count_of (views arguments) = is ∙ ap (λ m. depth + m) (many ∙ sym (counted arguments)) in
    ap (λ x. with_code (code x.pieces) x) h ∙ joined (code d.pieces) (row at instr ∷ []) d ∙ ap (λ m. with_code (code d.pieces ++ (row m instr ∷ [])) d) n

drop_last : {A : Type 0} (blank : A) (all : List A) (at : ℕ) → 0 < at → at ≤ length all → drop (at - 1) all ≡ get_or all (at - 1) blank ∷ drop at all
drop_last blank all at some within =
    let e : suc (at - 1) ≡ at = omega (arith, some) in
    drop-cons all (at - 1) blank (omega (arith, some, within)) ∙ ap (λ n. get_or all (at - 1) blank ∷ drop n all) e

-- an argument before arguments
pub next_argument : (depth at : ℕ) (blank : Expression) (all : List Expression) (d : Draft) → 0 < at → at ≤ length all
    → with_code (expression_code d.pieces (depth + (at - 1)) (view (get_or all (at - 1) blank))) (with_code (arguments_code d.pieces (depth + at) (views (drop at all))) d)
    ≡ with_code (arguments_code d.pieces (depth + (at - 1)) (views (drop (at - 1) all))) d
next_argument depth at blank all d some within =
    let one = expression_code d.pieces (depth + (at - 1)) (view (get_or all (at - 1) blank)) in
    let n : depth + at ≡ depth + (at - 1) + 1 = omega (arith, some) in
    joined one (arguments_code d.pieces (depth + at) (views (drop at all))) d
    ∙ ap (λ m. with_code (one ++ arguments_code d.pieces m (views (drop at all))) d) n
    ∙ ap (λ (rest : List Expression). with_code (arguments_code d.pieces (depth + (at - 1)) (views rest)) d) (sym (drop_last blank all at some within))

-- a statement before statements, by their places
pub statement_before : (exits : Exits) (at : ℕ) (blank : Statement) (all : List Statement) (d : Draft) → 0 < at → at ≤ length all
    → with_statement (before (length (statements_code d.pieces exits (length d.prints) (view_statements (drop at all)))) exits) (view_statement (get_or all (at - 1) blank))
    (with_statements exits (view_statements (drop at all)) d) ≡ with_statements exits (view_statements (drop (at - 1) all)) d
statement_before exits at blank all d some within =
    next_statement exits (view_statement (get_or all (at - 1) blank)) (view_statements (drop at all)) d
    ∙ ap (λ (rest : List Statement). with_statements exits (view_statements rest) d) (sym (drop_last blank all at some within))

-- a jump that is set afterwards, in rows of which the last comes first
pub jump_set : (items part rest : List Row) (old new : Row) (len : ℕ) → length rest ≡ len → reverse items ≡ (part ++ (old ∷ [])) ++ rest
    → reverse (set items len new) ≡ (part ++ (new ∷ [])) ++ rest
jump_set items part rest old new len long is =
    let back : (x : Row) → reverse ((part ++ (x ∷ [])) ++ rest) ≡ reverse rest ++ (x ∷ reverse part) =
    λ x. reverse-append (part ++ (x ∷ [])) rest ∙ ap (λ l. reverse rest ++ l) (reverse-append part (x ∷ [])) in
    let was : items ≡ reverse rest ++ (old ∷ reverse part) = sym (reverse-reverse items) ∙ ap reverse is ∙ back old in
    let at : len ≡ length (reverse rest) = sym (length-reverse rest ∙ long) in
    let made : set items len new ≡ reverse rest ++ (new ∷ reverse part) =
    ap (λ l. set l len new) was ∙ ap (λ n. set (reverse rest ++ (old ∷ reverse part)) n new) at ∙ set-append_seam (reverse rest) old (reverse part) new in
    ap reverse (made ∙ sym (back new)) ∙ reverse-reverse ((part ++ (new ∷ [])) ++ rest)

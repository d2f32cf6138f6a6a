-- Each statement that the grammar has is read from its spelling.
use Rattle.std.proofs.Common.{◌≡◌, ◌≤◌, ℕ, zero, suc, true, false, not, cond, List, [], ◌∷◌, ◌++◌, length, length-append, Option, IfSome, refl, sym, ap, ◌∙◌, subst, arith, append_assoc}
use Rattle.dsm_syntax.specs.declared.sign.Sign.{Sign}
use Rattle.dsm_syntax.specs.declared.word.Word.{Word}
use Rattle.dsm_syntax.specs.declared.tree.Name.{Name}
use Rattle.dsm_syntax.specs.Tree.{Place, Expression, Variable, Part, Statement, Statements}
use Rattle.dsm_syntax.specs.Tree as t
use Rattle.dsm_syntax.specs.Lexemes.{Lexeme, word, sign, word_at}
use Rattle.dsm_laws_grammar.specs.Grammar.{spell, spell_option, spell_place, spell_variables, spell_part, spell_list, spell_test, spell_statement, spell_statements, Fits, FitsVariable, FitsPlace, FitsPart, FitsStatement, FitStatements, Listed, ends_open}
use Rattle.dsm_syntax.specs.Heights.{height, height_option, height_place, height_variable, height_part, height_statement, height_statements, highest}
use Rattle.dsm_syntax.specs.Reading.{ok, Reader, and_then, look, tail, is_sign, is_word, ended_by, repeated, list_of}
use Rattle.dsm_syntax.specs.Tokens.{read_name}
use Rattle.dsm_laws_grammar.specs.Expressions.{place}
use Rattle.dsm_laws_grammar.specs.Statements.{part, test, argument, Head, lock, goes_on, in_order, statements, if_of, else_of, while_of, for_of, statement_by, statement, body}
use Rattle.dsm_laws_grammar.proofs.Repeats.{stops, turns}
use Rattle.dsm_laws_grammar.proofs.Beginnings.{spell_begins, no_sign, no_word}
use Rattle.dsm_laws_grammar.proofs.Complete.{ends_semicolon, expression_reads, place_reads}
use Rattle.dsm_laws_grammar.proofs.Expressions.{height_pos, height_place_pos}
use Rattle.dsm_laws_grammar.proofs.Firsts.{no_kind, statement_long, height_statement_pos}
use Rattle.dsm_laws_grammar.proofs.Variables.{deeper_goes, variables_reads}
use Rattle.dsm_laws_grammar.proofs.Heads.{test_reads, spell_argument, argument_reads, parts_reads, unless_reads, spell_head, spell_head_on, FitsHead, height_head, head_reads}

-- What may come behind a statement.

-- no statement begins with this sign or this word
record Other (ts : List Lexeme) : Type 0 where
  sign_none : is_sign Sign.BraceClose ts ≡ false
  word_none : is_word Word.Else ts ≡ false

other_expression : (e : Expression) (rest : List Lexeme) → Other (spell e ++ rest)
other_expression e rest = record { sign_none = no_sign Sign.BraceClose _ refl (spell_begins e rest); word_none = no_word Word.Else _ (spell_begins e rest) }

other_statement : (s : Statement) (rest : List Lexeme) → Other (spell_statement s ++ rest)
other_statement (t.expression e) rest = subst Other (sym (append_assoc (spell e) (sign Sign.Semicolon ∷ []) rest)) (other_expression e (sign Sign.Semicolon ∷ rest))
other_statement (t.block body) rest = record { sign_none = refl; word_none = refl }
other_statement t.empty rest = record { sign_none = refl; word_none = refl }
other_statement (t.variables all) rest = record { sign_none = refl; word_none = refl }
other_statement (t.when test body) rest = record { sign_none = refl; word_none = refl }
other_statement (t.either test body other) rest = record { sign_none = refl; word_none = refl }
other_statement (t.while test body) rest = record { sign_none = refl; word_none = refl }
other_statement (t.for start test step body) rest = record { sign_none = refl; word_none = refl }
other_statement (t.break line) rest = record { sign_none = refl; word_none = refl }
other_statement (t.continue line) rest = record { sign_none = refl; word_none = refl }
other_statement (t.return line value) rest = record { sign_none = refl; word_none = refl }
other_statement (t.acquire place) rest = record { sign_none = refl; word_none = refl }
other_statement (t.acquire_shared place) rest = record { sign_none = refl; word_none = refl }
other_statement (t.release place) rest = record { sign_none = refl; word_none = refl }
other_statement (t.barrier name) rest = record { sign_none = refl; word_none = refl }
other_statement (t.print parts) rest = record { sign_none = refl; word_none = refl }

-- one that can follow statements in braces
abbrev pub closed_on : Statements → List Lexeme → List Lexeme
closed_on all rest = spell_statements all ++ sign Sign.BraceClose ∷ rest

no_else : (all : Statements) (rest : List Lexeme) → is_word Word.Else (closed_on all rest) ≡ false
no_else t.none rest = refl
no_else (t.then s all) rest =
    ap (is_word Word.Else) (append_assoc (spell_statement s) (spell_statements all) (sign Sign.BraceClose ∷ rest)) ∙ (other_statement s (closed_on all rest)).word_none

goes : (ts : List Lexeme) → 1 ≤ length ts → is_sign Sign.BraceClose ts ≡ false → goes_on ts ≡ true
goes [] long e = absurd (omega arith)
goes (x ∷ ts) long e = ap not e

goes_statement : (s : Statement) (rest : List Lexeme) → goes_on (spell_statement s ++ rest) ≡ true
goes_statement s rest = goes (spell_statement s ++ rest) (omega (arith, length-append (spell_statement s) rest, statement_long s)) (other_statement s rest).sign_none

-- Statements with no statement in them.

module _ (d : ℕ) where
  abbrev This : Reader Statement
  This = statement (suc d)

  expression_read : (e : Expression) (rest : List Lexeme) → Fits e → height e ≤ d → This (spell_statement (t.expression e) ++ rest) ≡ ok (t.expression e) rest
  expression_read e rest fits low =
      let ts = spell e ++ sign Sign.Semicolon ∷ rest in
      ap This (append_assoc (spell e) (sign Sign.Semicolon ∷ []) rest)
      ∙ ap (λ k. statement_by d (statement d) k ts) (no_kind (look ts) (spell_begins e (sign Sign.Semicolon ∷ rest)))
      ∙ ap (λ x. and_then x (λ e. ended_by Sign.Semicolon (t.expression e))) (expression_reads d e (sign Sign.Semicolon ∷ rest) fits low (ends_semicolon rest))

  variables_read : (all : List Variable) (rest : List Lexeme) → Listed FitsVariable all → highest height_variable all ≤ d → This (spell_statement (t.variables all) ++ rest) ≡ ok (t.variables all) rest
  variables_read all rest fits low =
      ap This (append_assoc (spell_variables all) (sign Sign.Semicolon ∷ []) rest)
      ∙ ap (λ x. and_then x (λ all. ended_by Sign.Semicolon (t.variables all))) (variables_reads d all (sign Sign.Semicolon ∷ rest) fits low (ends_semicolon rest) refl)

  return_read : (line : ℕ) (value : Option Expression) (rest : List Lexeme) → IfSome value Fits → height_option height value ≤ d → This (spell_statement (t.return line value) ++ rest) ≡ ok (t.return line value) rest
  return_read line value rest fits low =
      ap (λ l. This (word_at Word.Return line ∷ l)) (append_assoc (spell_option spell value) (sign Sign.Semicolon ∷ []) rest)
      ∙ ap (λ x. and_then x (λ value. ended_by Sign.Semicolon (t.return line value))) (unless_reads Sign.Semicolon refl d value (sign Sign.Semicolon ∷ rest) fits low refl (ends_semicolon rest))

  lock_read : (w : Word) (p : Place) (rest : List Lexeme) → FitsPlace p → height_place p ≤ d → lock d (word w ∷ (spell_argument spell_place p ++ rest)) ≡ ok p rest
  lock_read w p rest fits low =
      deeper_goes d (argument (place d)) (word w ∷ (spell_argument spell_place p ++ rest)) (omega (arith, height_place_pos p))
      ∙ argument_reads spell_place (place d) p rest (place_reads d p (sign Sign.ParenClose ∷ sign Sign.Semicolon ∷ rest) fits low refl)

  barrier_read : (name : Name) (rest : List Lexeme) → 1 ≤ d → This (spell_statement (t.barrier name) ++ rest) ≡ ok (t.barrier name) rest
  barrier_read name rest one = ap (λ x. and_then x (λ n. ok (t.barrier n))) (deeper_goes d (argument read_name) (spell_statement (t.barrier name) ++ rest) one)

  print_read : (all : List Part) (rest : List Lexeme) → Listed FitsPart all → highest height_part all ≤ d → This (spell_statement (t.print all) ++ rest) ≡ ok (t.print all) rest
  print_read all rest fits low =
      ap (λ x. and_then x (λ all. ok (t.print all))) (argument_reads (spell_list spell_part) (list_of (part d)) all rest (parts_reads d all (sign Sign.Semicolon ∷ rest) fits low))

  -- Statements with statements in them, from how those are read.

  if_read : (e : Expression) (side rest : List Lexeme) (s : Statement) → Fits e → height e ≤ d → and_then (statement d side) (else_of d (statement d) e) ≡ ok s rest
      → This (word Word.If ∷ (spell_test e ++ side)) ≡ ok s rest
  if_read e side rest s fits low h =
      deeper_goes d (if_of d (statement d)) (word Word.If ∷ (spell_test e ++ side)) (omega (arith, height_pos e))
      ∙ ap (λ x. and_then x (λ e rest. and_then (statement d rest) (else_of d (statement d) e))) (test_reads d e side fits low) ∙ h

  while_read : (e : Expression) (body : Statement) (side rest : List Lexeme) → Fits e → height e ≤ d → statement d side ≡ ok body rest
      → This (word Word.While ∷ (spell_test e ++ side)) ≡ ok (t.while e body) rest
  while_read e body side rest fits low h =
      deeper_goes d (while_of d (statement d)) (word Word.While ∷ (spell_test e ++ side)) (omega (arith, height_pos e))
      ∙ ap (λ x. and_then x (λ e rest. and_then (statement d rest) (λ body. ok (t.while e body)))) (test_reads d e side fits low)
      ∙ ap (λ x. and_then x (λ body. ok (t.while e body))) h

  for_read : (h : Head) (body : Statement) (side rest : List Lexeme) → FitsHead h → height_head h ≤ d → 1 ≤ d → statement d side ≡ ok body rest
      → This (word Word.For ∷ (spell_head h ++ side)) ≡ ok (t.for h.start h.test h.step body) rest
  for_read h body side rest fits low one r =
      deeper_goes d (for_of d (statement d)) (word Word.For ∷ (spell_head h ++ side)) one
      ∙ ap (λ x. and_then x (λ h rest. and_then (statement d rest) (λ body. ok (t.for h.start h.test h.step body)))) (head_reads d h side fits low)
      ∙ ap (λ x. and_then x (λ body. ok (t.for h.start h.test h.step body))) r

  when_side : (e : Expression) (body : Statement) (rest : List Lexeme) → is_word Word.Else rest ≡ false → else_of d (statement d) e body rest ≡ ok (t.when e body) rest
  when_side e body rest none = ap (λ b. cond b (and_then (statement d (tail rest)) (λ other. ok (t.either e body other))) (ok (t.when e body) rest)) none

-- What is read of a list of statements.

abbrev pub listed : Statements → List Statement
listed t.none = []
listed (t.then s all) = s ∷ listed all

in_order_listed : (all : Statements) → in_order (listed all) ≡ all
in_order_listed t.none = refl
in_order_listed (t.then s all) = ap (λ l. t.then s l) (in_order_listed all)

abbrev pub Quiet : Statement → List Lexeme → Type 0
Quiet s rest = ends_open s ≡ true → is_word Word.Else rest ≡ false

-- all of them, with enough turns
abbrev pub AllRead : Statements → ℕ → List Lexeme → Type 0
AllRead all d rest = (k : ℕ) → length (spell_statements all) ≤ k → repeated goes_on (statement d) k (closed_on all rest) ≡ ok (listed all) (sign Sign.BraceClose ∷ rest)

pub closed_read : (all : Statements) (d : ℕ) (rest : List Lexeme) → AllRead all d rest → statements (statement d) ((spell_statements all ++ sign Sign.BraceClose ∷ []) ++ rest) ≡ ok all rest
closed_read all d rest read =
    ap (statements (statement d)) (append_assoc (spell_statements all) (sign Sign.BraceClose ∷ []) rest)
    ∙ ap (λ x. and_then x (λ all. ended_by Sign.BraceClose (in_order all)))
    (read (length (closed_on all rest)) (omega (arith, length-append (spell_statements all) (sign Sign.BraceClose ∷ rest))))
    ∙ ap (λ all. ok all rest) (in_order_listed all)

turn_read : (s : Statement) (all : Statements) (d k : ℕ) (rest : List Lexeme) → statement d (spell_statement s ++ closed_on all rest) ≡ ok s (closed_on all rest)
    → repeated goes_on (statement d) k (closed_on all rest) ≡ ok (listed all) (sign Sign.BraceClose ∷ rest)
    → repeated goes_on (statement d) (suc k) (closed_on (t.then s all) rest) ≡ ok (s ∷ listed all) (sign Sign.BraceClose ∷ rest)
turn_read s all d k rest one others =
    ap (repeated goes_on (statement d) (suc k)) (append_assoc (spell_statement s) (spell_statements all) (sign Sign.BraceClose ∷ rest))
    ∙ turns goes_on (statement d) k (spell_statement s ++ closed_on all rest) (goes_statement s (closed_on all rest))
    ∙ ap (λ x. and_then x (λ a rest. and_then (repeated goes_on (statement d) k rest) (λ others. ok (a ∷ others)))) one
    ∙ ap (λ x. and_then x (λ others. ok (s ∷ others))) others

mutual
  pub statement_reads : (s : Statement) → FitsStatement s → (d : ℕ) (rest : List Lexeme) → height_statement s ≤ d → Quiet s rest → statement d (spell_statement s ++ rest) ≡ ok s rest
  statement_reads s fits zero rest low quiet = absurd (omega (arith, height_statement_pos s))
  statement_reads (t.block all) fits (suc d) rest low quiet = ap (λ x. and_then x (λ all. ok (t.block all))) (closed_read all d rest (all_read all fits d rest (omega arith)))
  statement_reads t.empty fits (suc d) rest low quiet = refl
  statement_reads (t.variables all) fits (suc d) rest low quiet = variables_read d all rest fits (omega arith)
  statement_reads (t.expression e) fits (suc d) rest low quiet = expression_read d e rest fits (omega arith)
  statement_reads (t.when e body) fits (suc d) rest low quiet =
      let one = statement_reads body fits.1 d rest (omega arith) (λ h. quiet refl) in
      ap (λ l. statement (suc d) (word Word.If ∷ l)) (append_assoc (spell_test e) (spell_statement body) rest)
      ∙ if_read d e (spell_statement body ++ rest) rest (t.when e body) fits.0 (omega arith)
      (ap (λ x. and_then x (else_of d (statement d) e)) one ∙ when_side d e body rest (quiet refl))
  statement_reads (t.either e body other) fits (suc d) rest low quiet =
      let side = word Word.Else ∷ (spell_statement other ++ rest) in
      let one = statement_reads body fits.1 d side (omega arith) (λ h. absurd (let shut = fits.2 in cc)) in
      let two = statement_reads other fits.3 d rest (omega arith) quiet in
      ap (λ l. statement (suc d) (word Word.If ∷ l)) (append_assoc (spell_test e) (spell_statement body ++ word Word.Else ∷ spell_statement other) rest
      ∙ ap (λ l. spell_test e ++ l) (append_assoc (spell_statement body) (word Word.Else ∷ spell_statement other) rest))
      ∙ if_read d e (spell_statement body ++ side) rest (t.either e body other) fits.0 (omega arith)
      (ap (λ x. and_then x (else_of d (statement d) e)) one ∙ ap (λ x. and_then x (λ other. ok (t.either e body other))) two)
  statement_reads (t.while e body) fits (suc d) rest low quiet =
      ap (λ l. statement (suc d) (word Word.While ∷ l)) (append_assoc (spell_test e) (spell_statement body) rest)
      ∙ while_read d e body (spell_statement body ++ rest) rest fits.0 (omega arith) (statement_reads body fits.1 d rest (omega arith) quiet)
  statement_reads (t.for start test step body) fits (suc d) rest low quiet =
      let h : Head = record { start = start; test = test; step = step } in
      ap (λ l. statement (suc d) (word Word.For ∷ l)) (ap (λ l. l ++ rest) (sym (spell_head_on h (spell_statement body))) ∙ append_assoc (spell_head h) (spell_statement body) rest)
      ∙ for_read d h body (spell_statement body ++ rest) rest (fits.0, fits.1, fits.2) (omega arith) (omega (arith, height_statement_pos body)) (statement_reads body fits.3 d rest (omega arith) quiet)
  statement_reads (t.break line) fits (suc d) rest low quiet = refl
  statement_reads (t.continue line) fits (suc d) rest low quiet = refl
  statement_reads (t.return line value) fits (suc d) rest low quiet = return_read d line value rest fits (omega arith)
  statement_reads (t.acquire p) fits (suc d) rest low quiet = ap (λ x. and_then x (λ p. ok (t.acquire p))) (lock_read d Word.Acquire p rest fits (omega arith))
  statement_reads (t.acquire_shared p) fits (suc d) rest low quiet = ap (λ x. and_then x (λ p. ok (t.acquire_shared p))) (lock_read d Word.AcquireShared p rest fits (omega arith))
  statement_reads (t.release p) fits (suc d) rest low quiet = ap (λ x. and_then x (λ p. ok (t.release p))) (lock_read d Word.Release p rest fits (omega arith))
  statement_reads (t.barrier name) fits (suc d) rest low quiet = barrier_read d name rest (omega arith)
  statement_reads (t.print all) fits (suc d) rest low quiet = print_read d all rest fits (omega arith)

  pub all_read : (all : Statements) → FitStatements all → (d : ℕ) (rest : List Lexeme) → height_statements all ≤ d → AllRead all d rest
  all_read t.none fits d rest low k enough = stops goes_on (statement d) k (sign Sign.BraceClose ∷ rest) refl
  all_read (t.then s all) fits d rest low zero enough = absurd (omega (arith, length-append (spell_statement s) (spell_statements all), statement_long s))
  all_read (t.then s all) fits d rest low (suc k) enough =
      turn_read s all d k rest (statement_reads s fits.0 d (closed_on all rest) (omega arith) (λ h. no_else all rest))
      (all_read all fits.1 d rest (omega arith) k (omega (arith, length-append (spell_statement s) (spell_statements all), statement_long s)))

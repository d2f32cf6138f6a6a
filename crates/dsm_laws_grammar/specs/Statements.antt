-- Statements from the left. A reader of a statement of some kind gets the levels that there may be below it; one of a part,
-- how high that may be.
use Rattle.std.specs.Prelude.{ℕ, zero, suc, Bool, false, not, nat_lt, if◌then◌else◌, List, [], ◌∷◌, length, Option, Some, None}
use Rattle.dsm_syntax.specs.declared.sign.Sign.{Sign}
use Rattle.dsm_syntax.specs.declared.word.Word.{Word}
use Rattle.dsm_syntax.specs.declared.tree.Name.{Name}
use Rattle.dsm_syntax.specs.Tree.{Place, Expression, Initial, Variable, Part, part_text, part_value, ForStart, start_nothing, start_variables, start_expression, Statement, Statements}
use Rattle.dsm_syntax.specs.Tree as t
use Rattle.dsm_syntax.specs.declared.kind.StatementKind.{StatementKind}
use Rattle.dsm_syntax.specs.Lexemes.{Lexeme, sign_at}
use Rattle.dsm_syntax.specs.Reading.{Reader, ok, unexpected, too_high, and_then, look, tail, is_sign, is_word, after_sign, ended_by, repeated, list_of}
use Rattle.dsm_syntax.specs.Tokens.{read_name, read_string, is_string}
use Rattle.dsm_syntax.specs.Kinds.{kind}
use Rattle.dsm_laws_grammar.specs.Expressions.{expression, place}

-- behind the next token, which begins what has something below it
abbrev pub deeper : {A : Type 0} → ℕ → Reader A → Reader A
deeper d more tokens = if nat_lt 0 d then more (tail tokens) else too_high tokens

-- none, where this sign comes next
abbrev pub unless_sign : {A : Type 0} → Sign → Reader A → Reader (Option A)
unless_sign s more tokens = if is_sign s tokens then ok None tokens else and_then (more tokens) (λ a. ok (Some a))

-- the line of a sign `=`
abbrev pub assign_line : Option Lexeme → Option ℕ
assign_line (Some (sign_at Sign.Assign line)) = Some line
assign_line _ = None

-- what a variable begins with, by the line of its `=`
abbrev pub initial_at : ℕ → Option ℕ → Reader (Option Initial)
initial_at d None tokens = ok None tokens
initial_at d (Some line) tokens = and_then (expression d (tail tokens)) (λ e. ok (Some (record { line = line; value = e })))

-- what a variable begins with, if anything
abbrev pub initial : ℕ → Reader (Option Initial)
initial d tokens = initial_at d (assign_line (look tokens)) tokens

-- a name, and what it begins with
abbrev pub variable : ℕ → Reader Variable
variable d tokens = and_then (read_name tokens) (λ name rest. and_then (initial d rest) (λ i. ok (record { name = name; initial = i })))

-- the word `int`, and variables parted by commas
abbrev pub variables : ℕ → Reader (List Variable)
variables d tokens = if is_word Word.Int tokens then deeper d (list_of (variable d)) tokens else unexpected tokens

-- a part of a print: a string or an expression
abbrev pub part : ℕ → Reader Part
part d tokens =
    if is_string (look tokens) then and_then (read_string tokens) (λ held. ok (part_text held))
    else and_then (expression d tokens) (λ e. ok (part_value e))

-- a condition in parentheses
abbrev pub test : ℕ → Reader Expression
test d = after_sign Sign.ParenOpen (λ rest. and_then (expression d rest) (ended_by Sign.ParenClose))

-- one thing in parentheses, and a semicolon
abbrev pub argument : {A : Type 0} → Reader A → Reader A
argument one =
    after_sign Sign.ParenOpen (λ rest. and_then (one rest) (λ a. after_sign Sign.ParenClose (ended_by Sign.Semicolon a)))

-- what stands first in the head of a `for`
abbrev pub start : ℕ → Reader ForStart
start d tokens =
    if is_sign Sign.Semicolon tokens then ok start_nothing tokens
    else (if is_word Word.Int tokens then and_then (variables d tokens) (λ all. ok (start_variables all))
    else and_then (expression d tokens) (λ e. ok (start_expression e)))

-- what stands in the parentheses of a `for`
pub record Head : Type 0 where
  pub start : ForStart
  pub test : Option Expression
  pub step : Option Expression

-- the parentheses of a `for`, and what stands in them
abbrev pub head : ℕ → Reader Head
head d = after_sign Sign.ParenOpen
    (λ rest. and_then (start d rest) (λ s. after_sign Sign.Semicolon
    (λ rest. and_then (unless_sign Sign.Semicolon (expression d) rest) (λ e. after_sign Sign.Semicolon
    (λ rest. and_then (unless_sign Sign.ParenClose (expression d) rest) (λ f. ended_by Sign.ParenClose
    (record { start = s; test = e; step = f })))))))

-- the place of a lock, behind a word
abbrev pub lock : ℕ → Reader Place
lock d = deeper d (argument (place d))

-- the name of a barrier, behind a word
abbrev pub barrier : ℕ → Reader Name
barrier d = deeper d (argument read_name)

-- what is behind `print`
abbrev pub print : ℕ → Reader Statement
print d tokens = and_then (argument (list_of (part d)) tokens) (λ all. ok (t.print all))

-- variables, and a semicolon
abbrev pub declaration : ℕ → Reader Statement
declaration d tokens = and_then (variables d tokens) (λ all. ended_by Sign.Semicolon (t.variables all))

-- an expression, and a semicolon
abbrev pub expression_statement : ℕ → Reader Statement
expression_statement d tokens = and_then (expression d tokens) (λ e. ended_by Sign.Semicolon (t.expression e))

-- what is behind a `return` of this line
abbrev pub return_at : ℕ → ℕ → Reader Statement
return_at d line tokens =
    and_then (unless_sign Sign.Semicolon (expression d) tokens) (λ value. ended_by Sign.Semicolon (t.return line value))

-- whether a token comes next that doesn't close the block
abbrev pub goes_on : List Lexeme → Bool
goes_on [] = false
goes_on (token ∷ rest) = not (is_sign Sign.BraceClose (token ∷ rest))

-- a list of statements as a tree has it
abbrev pub in_order : List Statement → Statements
in_order [] = t.none
in_order (s ∷ rest) = t.then s (in_order rest)

-- statements, and the closing brace; each takes a token, so there are no more of them
abbrev pub statements : Reader Statement → Reader Statements
statements one tokens = and_then (repeated goes_on one (length tokens) tokens) (λ all. ended_by Sign.BraceClose (in_order all))

-- one of height 0, which there isn't: its first token is refused
abbrev pub no_statement : StatementKind → Reader Statement
no_statement StatementKind.Expression tokens = expression_statement zero tokens
no_statement _ tokens = too_high tokens

-- with so many levels below the statement, and the reader of the statements there
module _ (d : ℕ) (lower : Reader Statement) where
  -- an `if` behind its test and the statement that belongs to it
  abbrev pub else_of : Expression → Statement → Reader Statement
  else_of e body tokens =
      if is_word Word.Else tokens then and_then (lower (tail tokens)) (λ other. ok (t.either e body other))
      else ok (t.when e body) tokens

  -- what is behind `if`, with or without an `else`
  abbrev pub if_of : Reader Statement
  if_of tokens = and_then (test d tokens) (λ e rest. and_then (lower rest) (else_of e))

  -- what is behind `while`
  abbrev pub while_of : Reader Statement
  while_of tokens = and_then (test d tokens) (λ e rest. and_then (lower rest) (λ body. ok (t.while e body)))

  -- what is behind `for`
  abbrev pub for_of : Reader Statement
  for_of tokens = and_then (head d tokens) (λ h rest. and_then (lower rest) (λ body. ok (t.for h.start h.test h.step body)))

  -- a statement of this kind
  abbrev pub statement_by : StatementKind → Reader Statement
  statement_by StatementKind.Block tokens = and_then (statements lower (tail tokens)) (λ all. ok (t.block all))
  statement_by StatementKind.Empty tokens = ok t.empty (tail tokens)
  statement_by StatementKind.Variables tokens = declaration d tokens
  statement_by StatementKind.If tokens = deeper d if_of tokens
  statement_by StatementKind.While tokens = deeper d while_of tokens
  statement_by StatementKind.For tokens = deeper d for_of tokens
  statement_by (StatementKind.Break line) tokens = ended_by Sign.Semicolon (t.break line) (tail tokens)
  statement_by (StatementKind.Continue line) tokens = ended_by Sign.Semicolon (t.continue line) (tail tokens)
  statement_by (StatementKind.Return line) tokens = return_at d line (tail tokens)
  statement_by StatementKind.Acquire tokens = and_then (lock d tokens) (λ place. ok (t.acquire place))
  statement_by StatementKind.AcquireShared tokens = and_then (lock d tokens) (λ place. ok (t.acquire_shared place))
  statement_by StatementKind.Release tokens = and_then (lock d tokens) (λ place. ok (t.release place))
  statement_by StatementKind.Barrier tokens = and_then (barrier d tokens) (λ name. ok (t.barrier name))
  statement_by StatementKind.Print tokens = print d (tail tokens)
  statement_by StatementKind.Expression tokens = expression_statement d tokens

-- a statement of at most this height
abbrev pub statement : ℕ → Reader Statement
statement zero tokens = no_statement (kind (look tokens)) tokens
statement (suc d) tokens = statement_by d (statement d) (kind (look tokens)) tokens

-- the body of a function, of at most this height
abbrev pub body : ℕ → Reader Statements
body zero tokens = if is_sign Sign.BraceOpen tokens then too_high tokens else unexpected tokens
body (suc d) tokens = after_sign Sign.BraceOpen (statements (statement d)) tokens

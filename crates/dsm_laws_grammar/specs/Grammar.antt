-- The grammar of trees: the one spelling of each tree, and which trees there are. A word or a sign is written here where
-- the grammar has it.
use Rattle.std.specs.Prelude.{◌≡◌, ◌≤◌, ℕ, ℤ, ◌+◌, Bool, true, false, ⊤, List, [], ◌∷◌, ◌++◌, flat_map, Option, Some, None, IfSome}
use Rattle.std.specs.List.{AllByRecursion}
use Rattle.dsm_syntax.specs.declared.sign.Sign.{Sign}
use Rattle.dsm_syntax.specs.declared.word.Word.{Word}
use Rattle.dsm_syntax.specs.declared.tree.Name.{Name}
use Rattle.dsm_syntax.specs.declared.tree.Declarator.{Declarator}
use Rattle.dsm_syntax.specs.declared.tree.Returns.{Returns}
use Rattle.dsm_syntax.specs.declared.tree.Sharing.{Sharing}
use Rattle.dsm_syntax.specs.declared.tree.Bind.{Bind}
use Rattle.dsm_syntax.specs.declared.tree.BindEach.{BindEach}
use Rattle.dsm_syntax.specs.declared.tree.BindBarrier.{BindBarrier}
use Rattle.dsm_syntax.specs.Tree.{Place, single, element, Expression, number, at, paren, call, unary, prefix, postfix, binary, choice, assign, Expressions, nil, cons, Initial, Variable, Part, part_text, part_value, ForStart, start_nothing, start_variables, start_expression, Statement, block, empty, variables, expression, when, either, while, for, break, continue, return, acquire, acquire_shared, release, barrier, print, Statements, none, then, Params, no_params, void_params, named_params, Item, cells, locks, barriers, bind, bind_each, bind_barrier, function}
use Rattle.dsm_syntax.specs.Lexemes.{Lexeme, named, numeral, quoted, word, sign, word_at, sign_at}
use Rattle.dsm_syntax.specs.Operators.{unary_sign, step_sign, binary_sign, assign_sign, binary_level}

-- Spelling.

-- parted by commas
abbrev pub spell_more : {A : Type 0} → (A → List Lexeme) → List A → List Lexeme
spell_more spell [] = []
spell_more spell (a ∷ rest) = sign Sign.Comma ∷ (spell a ++ spell_more spell rest)

-- a list parted by commas
abbrev pub spell_list : {A : Type 0} → (A → List Lexeme) → List A → List Lexeme
spell_list spell [] = []
spell_list spell (a ∷ rest) = spell a ++ spell_more spell rest

-- where there is one
abbrev pub spell_option : {A : Type 0} → (A → List Lexeme) → Option A → List Lexeme
spell_option spell None = []
spell_option spell (Some a) = spell a

-- how places and expressions are spelled
abbrev mutual
  pub spell_place : Place → List Lexeme
  spell_place (single name) = named name ∷ []
  spell_place (element name index) = named name ∷ sign Sign.BracketOpen ∷ (spell index ++ sign Sign.BracketClose ∷ [])

  pub spell : Expression → List Lexeme
  spell (number value) = numeral value ∷ []
  spell (at place) = spell_place place
  spell (paren e) = sign Sign.ParenOpen ∷ (spell e ++ sign Sign.ParenClose ∷ [])
  spell (call name arguments) = named name ∷ sign Sign.ParenOpen ∷ (spell_arguments arguments ++ sign Sign.ParenClose ∷ [])
  spell (unary op line e) = sign_at (unary_sign op) line ∷ spell e
  spell (prefix op line place) = sign_at (step_sign op) line ∷ spell_place place
  spell (postfix place op line) = spell_place place ++ sign_at (step_sign op) line ∷ []
  spell (binary a op line b) = spell a ++ sign_at (binary_sign op) line ∷ spell b
  spell (choice test line a b) = spell test ++ sign_at Sign.Question line ∷ (spell a ++ sign Sign.Colon ∷ spell b)
  spell (assign place op line e) = spell_place place ++ sign_at (assign_sign op) line ∷ spell e

  pub spell_arguments : Expressions → List Lexeme
  spell_arguments nil = []
  spell_arguments (cons e rest) = spell e ++ spell_more_arguments rest

  pub spell_more_arguments : Expressions → List Lexeme
  spell_more_arguments nil = []
  spell_more_arguments (cons e rest) = sign Sign.Comma ∷ (spell e ++ spell_more_arguments rest)

-- what a variable begins with, behind its `=`
abbrev pub spell_initial : Initial → List Lexeme
spell_initial initial = sign_at Sign.Assign initial.line ∷ spell initial.value

-- a name, and what it begins with
abbrev pub spell_variable : Variable → List Lexeme
spell_variable variable = named variable.name ∷ spell_option spell_initial variable.initial

-- the word `int`, and variables parted by commas
abbrev pub spell_variables : List Variable → List Lexeme
spell_variables all = word Word.Int ∷ spell_list spell_variable all

-- a part of a print
abbrev pub spell_part : Part → List Lexeme
spell_part (part_text held) = quoted held ∷ []
spell_part (part_value e) = spell e

-- what stands first in the head of a `for`
abbrev pub spell_start : ForStart → List Lexeme
spell_start start_nothing = []
spell_start (start_variables all) = spell_variables all
spell_start (start_expression e) = spell e

-- a condition in parentheses
abbrev pub spell_test : Expression → List Lexeme
spell_test e = sign Sign.ParenOpen ∷ (spell e ++ sign Sign.ParenClose ∷ [])

-- a statement that names a lock
abbrev pub spell_lock : Word → Place → List Lexeme
spell_lock w place = word w ∷ sign Sign.ParenOpen ∷ (spell_place place ++ sign Sign.ParenClose ∷ sign Sign.Semicolon ∷ [])

-- how statements are spelled, one and many
abbrev mutual
  pub spell_statement : Statement → List Lexeme
  spell_statement (block body) = sign Sign.BraceOpen ∷ (spell_statements body ++ sign Sign.BraceClose ∷ [])
  spell_statement empty = sign Sign.Semicolon ∷ []
  spell_statement (variables all) = spell_variables all ++ sign Sign.Semicolon ∷ []
  spell_statement (expression e) = spell e ++ sign Sign.Semicolon ∷ []
  spell_statement (when test body) = word Word.If ∷ (spell_test test ++ spell_statement body)
  spell_statement (either test body other) =
      word Word.If ∷ (spell_test test ++ (spell_statement body ++ word Word.Else ∷ spell_statement other))
  spell_statement (while test body) = word Word.While ∷ (spell_test test ++ spell_statement body)
  spell_statement (for start test step body) =
      word Word.For ∷ sign Sign.ParenOpen ∷ (spell_start start
      ++ sign Sign.Semicolon ∷ (spell_option spell test
      ++ sign Sign.Semicolon ∷ (spell_option spell step
      ++ sign Sign.ParenClose ∷ spell_statement body)))
  spell_statement (break line) = word_at Word.Break line ∷ sign Sign.Semicolon ∷ []
  spell_statement (continue line) = word_at Word.Continue line ∷ sign Sign.Semicolon ∷ []
  spell_statement (return line value) = word_at Word.Return line ∷ (spell_option spell value ++ sign Sign.Semicolon ∷ [])
  spell_statement (acquire place) = spell_lock Word.Acquire place
  spell_statement (acquire_shared place) = spell_lock Word.AcquireShared place
  spell_statement (release place) = spell_lock Word.Release place
  spell_statement (barrier name) =
      word Word.Barrier ∷ sign Sign.ParenOpen ∷ named name ∷ sign Sign.ParenClose ∷ sign Sign.Semicolon ∷ []
  spell_statement (print parts) =
      word Word.Print ∷ sign Sign.ParenOpen ∷ (spell_list spell_part parts ++ sign Sign.ParenClose ∷ sign Sign.Semicolon ∷ [])

  pub spell_statements : Statements → List Lexeme
  spell_statements none = []
  spell_statements (then statement rest) = spell_statement statement ++ spell_statements rest

-- the body of a function
abbrev pub spell_body : Statements → List Lexeme
spell_body body = sign Sign.BraceOpen ∷ (spell_statements body ++ sign Sign.BraceClose ∷ [])

-- a number in brackets, where there is one
abbrev pub spell_size : Option ℤ → List Lexeme
spell_size None = []
spell_size (Some size) = sign Sign.BracketOpen ∷ numeral size ∷ sign Sign.BracketClose ∷ []

-- a name, and its size where it is an array
abbrev pub spell_declarator : Declarator → List Lexeme
spell_declarator declarator = named declarator.name ∷ spell_size declarator.size

-- a name alone
abbrev pub spell_name : Name → List Lexeme
spell_name name = named name ∷ []

-- a parameter, behind its word `int`
abbrev pub spell_param : Name → List Lexeme
spell_param name = word Word.Int ∷ named name ∷ []

-- what stands between the parentheses of a function
abbrev pub spell_params : Params → List Lexeme
spell_params no_params = []
spell_params void_params = word Word.Void ∷ []
spell_params (named_params names) = spell_list spell_param names

-- the word before the name of a function
abbrev pub spell_returns : Returns → Lexeme
spell_returns Returns.Int = word Word.Int
spell_returns Returns.Void = word Word.Void

-- the words before data
abbrev pub spell_sharing : Sharing → List Lexeme
spell_sharing Sharing.Shared = word Word.Shared ∷ []
spell_sharing Sharing.Private = []

-- numbers, each after a comma
abbrev pub spell_numbers : List ℤ → List Lexeme
spell_numbers [] = []
spell_numbers (n ∷ rest) = sign Sign.Comma ∷ numeral n ∷ spell_numbers rest

-- what ends a binding
abbrev pub end_of_binding : List Lexeme
end_of_binding = sign Sign.ParenClose ∷ sign Sign.Semicolon ∷ []

-- `bind`
abbrev pub spell_bind : Bind → List Lexeme
spell_bind b =
    word_at Word.Bind b.line ∷ sign Sign.ParenOpen ∷ named b.lock ∷ (spell_size b.index
    ++ sign Sign.Comma ∷ named b.data ∷ (spell_numbers (b.first ∷ b.count ∷ []) ++ end_of_binding))

-- `bindeach`
abbrev pub spell_bind_each : BindEach → List Lexeme
spell_bind_each b =
    word_at Word.BindEach b.line ∷ sign Sign.ParenOpen ∷ named b.locks
    ∷ sign Sign.Comma ∷ named b.data ∷ (spell_numbers (b.count ∷ []) ++ end_of_binding)

-- `bindb`
abbrev pub spell_bind_barrier : BindBarrier → List Lexeme
spell_bind_barrier b =
    word_at Word.BindBarrier b.line ∷ sign Sign.ParenOpen ∷ named b.barrier
    ∷ sign Sign.Comma ∷ named b.data ∷ (spell_numbers (b.first ∷ b.count ∷ b.owner ∷ b.phase ∷ b.period ∷ []) ++ end_of_binding)

-- an item
abbrev pub spell_item : Item → List Lexeme
spell_item (cells sharing all) = spell_sharing sharing ++ word Word.Int ∷ (spell_list spell_declarator all ++ sign Sign.Semicolon ∷ [])
spell_item (locks all) = word Word.LockType ∷ (spell_list spell_declarator all ++ sign Sign.Semicolon ∷ [])
spell_item (barriers names) = word Word.BarrierType ∷ (spell_list spell_name names ++ sign Sign.Semicolon ∷ [])
spell_item (bind b) = spell_bind b
spell_item (bind_each b) = spell_bind_each b
spell_item (bind_barrier b) = spell_bind_barrier b
spell_item (function f) =
    spell_returns f.returns ∷ named f.name ∷ sign Sign.ParenOpen ∷ (spell_params f.params
    ++ sign Sign.ParenClose ∷ spell_body f.body)

-- a program: its items one after the other
abbrev pub spell_program : List Item → List Lexeme
spell_program items = flat_map spell_item items

-- Which trees there are.

-- how tightly the outermost operator binds
abbrev pub level : Expression → ℕ
level (number value) = 12
level (at place) = 12
level (paren e) = 12
level (call name arguments) = 12
level (unary op line e) = 12
level (prefix op line place) = 12
level (postfix place op line) = 12
level (binary a op line b) = binary_level op
level (choice test line a b) = 1
level (assign place op line e) = 0

-- operators of one level group to the left, and `?:` to the right; what binds less tightly stands in parentheses
abbrev mutual
  pub FitsPlace : Place → Type 0
  FitsPlace (single name) = ⊤
  FitsPlace (element name index) = Fits index

  pub Fits : Expression → Type 0
  Fits (number value) = ⊤
  Fits (at place) = FitsPlace place
  Fits (paren e) = Fits e
  Fits (call name arguments) = FitArguments arguments
  Fits (unary op line e) = Fits e × (12 ≤ level e)
  Fits (prefix op line place) = FitsPlace place
  Fits (postfix place op line) = FitsPlace place
  Fits (binary a op line b) = Fits a × (binary_level op ≤ level a) × Fits b × (binary_level op + 1 ≤ level b)
  Fits (choice test line a b) = Fits test × (2 ≤ level test) × Fits a × Fits b × (1 ≤ level b)
  Fits (assign place op line e) = FitsPlace place × Fits e

  pub FitArguments : Expressions → Type 0
  FitArguments nil = ⊤
  FitArguments (cons e rest) = Fits e × FitArguments rest

-- a list parted by commas has a member
abbrev pub Listed : {A : Type 0} → (A → Type 0) → List A → Type 0
Listed IsOne [] = ⊥
Listed IsOne (a ∷ rest) = IsOne a × AllByRecursion IsOne rest

-- of a variable: of what it begins with
abbrev pub FitsVariable : Variable → Type 0
FitsVariable variable = IfSome variable.initial (λ initial. Fits initial.value)

-- of a part of a print
abbrev pub FitsPart : Part → Type 0
FitsPart (part_text held) = ⊤
FitsPart (part_value e) = Fits e

-- of what stands first in the head of a `for`
abbrev pub FitsStart : ForStart → Type 0
FitsStart start_nothing = ⊤
FitsStart (start_variables all) = Listed FitsVariable all
FitsStart (start_expression e) = Fits e

-- an `else` right after it would belong to it
abbrev pub ends_open : Statement → Bool
ends_open (when test body) = true
ends_open (either test body other) = ends_open other
ends_open (while test body) = ends_open body
ends_open (for start test step body) = ends_open body
ends_open _ = false

-- an `else` belongs to the nearest `if` without one
abbrev mutual
  pub FitsStatement : Statement → Type 0
  FitsStatement (block body) = FitStatements body
  FitsStatement empty = ⊤
  FitsStatement (variables all) = Listed FitsVariable all
  FitsStatement (expression e) = Fits e
  FitsStatement (when test body) = Fits test × FitsStatement body
  FitsStatement (either test body other) = Fits test × FitsStatement body × (ends_open body ≡ false) × FitsStatement other
  FitsStatement (while test body) = Fits test × FitsStatement body
  FitsStatement (for start test step body) = FitsStart start × IfSome test Fits × IfSome step Fits × FitsStatement body
  FitsStatement (break line) = ⊤
  FitsStatement (continue line) = ⊤
  FitsStatement (return line value) = IfSome value Fits
  FitsStatement (acquire place) = FitsPlace place
  FitsStatement (acquire_shared place) = FitsPlace place
  FitsStatement (release place) = FitsPlace place
  FitsStatement (barrier name) = ⊤
  FitsStatement (print parts) = Listed FitsPart parts

  pub FitStatements : Statements → Type 0
  FitStatements none = ⊤
  FitStatements (then statement rest) = FitsStatement statement × FitStatements rest

-- a list of names that isn't empty
abbrev pub HasSome : {A : Type 0} → List A → Type 0
HasSome [] = ⊥
HasSome (a ∷ rest) = ⊤

-- of parameters: names are some
abbrev pub FitsParams : Params → Type 0
FitsParams no_params = ⊤
FitsParams void_params = ⊤
FitsParams (named_params names) = HasSome names

-- of an item
abbrev pub FitsItem : Item → Type 0
FitsItem (cells sharing all) = HasSome all
FitsItem (locks all) = HasSome all
FitsItem (barriers names) = HasSome names
FitsItem (bind b) = ⊤
FitsItem (bind_each b) = ⊤
FitsItem (bind_barrier b) = ⊤
FitsItem (function f) = FitsParams f.params × FitStatements f.body

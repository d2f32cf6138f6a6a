-- The syntax tree, without where it lies in memory.
use Rattle.std.specs.Prelude.{ℕ, ℤ, List, [], ◌∷◌, map, Option, Some, None}
use Rattle.dsm_syntax.specs.declared.tree.Name.{Name}
use Rattle.dsm_syntax.specs.declared.tree.UnaryOp.{UnaryOp}
use Rattle.dsm_syntax.specs.declared.tree.StepOp.{StepOp}
use Rattle.dsm_syntax.specs.declared.tree.BinaryOp.{BinaryOp}
use Rattle.dsm_syntax.specs.declared.tree.AssignOp.{AssignOp}
use Rattle.dsm_syntax.specs.declared.tree.Declarator.{Declarator}
use Rattle.dsm_syntax.specs.declared.tree.Returns.{Returns}
use Rattle.dsm_syntax.specs.declared.tree.Sharing.{Sharing}
use Rattle.dsm_syntax.specs.declared.tree.Bind.{Bind}
use Rattle.dsm_syntax.specs.declared.tree.BindEach.{BindEach}
use Rattle.dsm_syntax.specs.declared.tree.BindBarrier.{BindBarrier}

mutual
  -- what can be assigned to
  pub data Place : Type 0 where
    single : Name → Place
    element : Name → Expression → Place

  pub data Expression : Type 0 where
    number : ℤ → Expression
    at : Place → Expression
    paren : Expression → Expression
    call : Name → Expressions → Expression
    unary : UnaryOp → ℕ → Expression → Expression
    prefix : StepOp → ℕ → Place → Expression
    postfix : Place → StepOp → ℕ → Expression
    binary : Expression → BinaryOp → ℕ → Expression → Expression
    choice : Expression → ℕ → Expression → Expression → Expression
    assign : Place → AssignOp → ℕ → Expression → Expression

  pub data Expressions : Type 0 where
    nil : Expressions
    cons : Expression → Expressions → Expressions

-- the value that a variable begins with, and the line of its `=`
pub record Initial : Type 0 where
  pub line : ℕ
  pub value : Expression

-- a variable of a function, where it is declared
pub record Variable : Type 0 where
  pub name : Name
  pub initial : Option Initial

-- a part of a print
pub data Part : Type 0 where
  part_text : List ℕ → Part
  part_value : Expression → Part

-- what stands first in the head of a `for`
pub data ForStart : Type 0 where
  start_nothing : ForStart
  start_variables : List Variable → ForStart
  start_expression : Expression → ForStart

mutual
  pub data Statement : Type 0 where
    block : Statements → Statement
    empty : Statement
    variables : List Variable → Statement
    expression : Expression → Statement
    when : Expression → Statement → Statement
    either : Expression → Statement → Statement → Statement
    while : Expression → Statement → Statement
    for : ForStart → Option Expression → Option Expression → Statement → Statement
    break : ℕ → Statement
    continue : ℕ → Statement
    return : ℕ → Option Expression → Statement
    acquire : Place → Statement
    acquire_shared : Place → Statement
    release : Place → Statement
    barrier : Name → Statement
    print : List Part → Statement

  pub data Statements : Type 0 where
    none : Statements
    then : Statement → Statements → Statements

-- the parameters of a function
pub data Params : Type 0 where
  no_params : Params
  void_params : Params
  named_params : List Name → Params

-- a function
pub record Function : Type 0 where
  pub returns : Returns
  pub name : Name
  pub params : Params
  pub body : Statements

-- an item of a program
pub data Item : Type 0 where
  cells : Sharing → List Declarator → Item
  locks : List Declarator → Item
  barriers : List Name → Item
  bind : Bind → Item
  bind_each : BindEach → Item
  bind_barrier : BindBarrier → Item
  function : Function → Item

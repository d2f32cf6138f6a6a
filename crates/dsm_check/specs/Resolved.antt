-- Programs with every name resolved, without where they lie in memory.
use Rattle.std.specs.Prelude.{ℕ, ℤ, List, Option}
use Rattle.dsm_base.specs.declared.names.Bar.{Bar}
use Rattle.dsm_base.specs.declared.names.Lock.{Lock}
use Rattle.dsm_base.specs.declared.names.Mode.{Mode}
use Rattle.dsm_syntax.specs.declared.tree.UnaryOp.{UnaryOp}
use Rattle.dsm_syntax.specs.declared.tree.StepOp.{StepOp}
use Rattle.dsm_syntax.specs.declared.tree.BinaryOp.{BinaryOp}
use Rattle.dsm_syntax.specs.declared.tree.AssignOp.{AssignOp}
use Rattle.dsm_syntax.specs.declared.tree.Sharing.{Sharing}
use Rattle.dsm_check.specs.declared.resolved.Array.{Array}

mutual
  -- what is loaded and stored to
  pub data Location : Type 0 where
    variable : ℕ → Location
    cell : Sharing → ℕ → ℕ → Location
    element : Sharing → Array → Expression → ℕ → Location

  pub data Expression : Type 0 where
    number : ℤ → Expression
    load : Location → Expression
    call : ℕ → Expressions → ℕ → Expression
    unary : UnaryOp → ℕ → Expression → Expression
    prefix : StepOp → ℕ → Location → Expression
    postfix : Location → StepOp → ℕ → Expression
    binary : Expression → BinaryOp → ℕ → Expression → Expression
    choice : Expression → Expression → Expression → Expression
    assign : Location → AssignOp → ℕ → Expression → Expression

  pub data Expressions : Type 0 where
    nil : Expressions
    cons : Expression → Expressions → Expressions

-- a variable where it is declared
pub record Variable : Type 0 where
  pub slot : ℕ
  pub initial : Option Expression

-- a part of what is printed: a text, or the digits of a value
pub data Part : Type 0 where
  part_text : List ℕ → Part
  part_value : Expression → Part

-- what stands first in the head of a `for`
pub data ForStart : Type 0 where
  start_nothing : ForStart
  start_variables : List Variable → ForStart
  start_expression : Expression → ForStart

-- a lock that a statement names
pub data LockPlace : Type 0 where
  one_lock : Lock → ℕ → LockPlace
  lock_element : Array → Expression → ℕ → LockPlace

mutual
  pub data Statement : Type 0 where
    block : Statements → Statement
    empty : Statement
    variables : List Variable → Statement
    expression : Expression → Statement
    when : Expression → Statement → Statement
    either : Expression → Statement → Statement → Statement
    while : Expression → Statement → Statement
    for : ForStart → Option Expression → Option Expression → Statement → Statement
    break : Statement
    continue : Statement
    return : Option Expression → Statement
    acquire : LockPlace → Mode → Statement
    release : LockPlace → Statement
    barrier : Bar → Statement
    print : List Part → Statement

  pub data Statements : Type 0 where
    none : Statements
    then : Statement → Statements → Statements

-- a function: its name, how many parameters it has, how many slots with them, the name of each slot, and its body
pub record Function : Type 0 where
  pub name : List ℕ
  pub params : ℕ
  pub slots : ℕ
  pub names : List (List ℕ)
  pub body : Statements

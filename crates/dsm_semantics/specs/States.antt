-- What a thread of a program has to know to go on. What remains to be done is a list of items.
use Rattle.std.specs.Prelude.{ℕ, ℤ, pos, List, [], ◌∷◌, Option, Some, None}
use Rattle.dsm_base.specs.declared.names.Lock.{Lock}
use Rattle.dsm_base.specs.declared.names.Bar.{Bar}
use Rattle.dsm_base.specs.declared.names.Mode.{Mode}
use Rattle.dsm_base.specs.declared.label.Ending.{Ending}
use Rattle.dsm_base.specs.Steps.{Over, ended, stopped}
use Rattle.dsm_syntax.specs.declared.tree.UnaryOp.{UnaryOp}
use Rattle.dsm_syntax.specs.declared.tree.StepOp.{StepOp}
use Rattle.dsm_syntax.specs.declared.tree.BinaryOp.{BinaryOp}
use Rattle.dsm_syntax.specs.declared.tree.Sharing.{Sharing}
use Rattle.dsm_check.specs.declared.resolved.Array.{Array}
use Rattle.dsm_check.specs.Resolved as r

-- what is loaded and stored to; of an array's member the index is among the operands. The lines are those of names
pub data Place : Type 0 where
  slot : ℕ → Place
  cell : Sharing → ℕ → ℕ → Place
  member : Sharing → Array → ℕ → Place

-- a lock; of an array's member the index is among the operands
pub data LockPlace : Type 0 where
  one_lock : Lock → ℕ → LockPlace
  lock_member : Array → ℕ → LockPlace

-- what a value is loaded for: itself; a store that follows, as in `p += e` and `++p`; such a store and itself, as in `p++`
pub data Use : Type 0 where
  for_value : Use
  for_change : Use
  for_step_behind : Use

-- a loop; without a test it goes round for ever
pub record Loop : Type 0 where
  pub test : Option r.Expression
  pub step : Option r.Expression
  pub body : r.Statement

-- what remains to be done
pub data Item : Type 0 where
  evaluate : r.Expression → Item  -- leaves its value on top
  evaluate_all : r.Expressions → Item
  test_index : Array → ℕ → Item  -- the index on top, which stays there
  load : Place → Use → Item
  store : Place → Item  -- the value on top, which stays there
  unary : UnaryOp → ℕ → Item
  step_by : StepOp → ℕ → Item
  binary : BinaryOp → ℕ → Item
  and_then : r.Expression → Item
  or_else : r.Expression → Item
  to_truth : Item
  choose : r.Expression → r.Expression → Item
  enter : ℕ → ℕ → Item  -- the function of a number, with its arguments on top
  discard : Item
  execute : r.Statement → Item
  run : r.Statements → Item
  declare : List r.Variable → Item
  branch : r.Statement → Option r.Statement → Item
  round : Loop → Item  -- a round of the loop, from its test on
  decide : Loop → Item  -- what comes behind the test, whose value is on top
  third_part : Loop → Item  -- what comes behind the body
  jump_back : Loop → Item
  leave : Item  -- the function, with its value on top
  ask : LockPlace → Mode → Item
  take_lock : LockPlace → Mode → Item
  give : LockPlace → Item
  cross : Bar → Item
  gather : List r.Part → Item  -- leaves the values of a print
  print : List r.Part → Item  -- with its values on top

-- a function that waits for the one that it has called
pub record Frame : Type 0 where
  pub todo : List Item
  pub operands : List ℤ
  pub slots : List ℤ

-- of the innermost function: what remains to be done, the values that expressions have left (the last one first), and the values of its slots;
-- the functions that wait for it, the innermost first; the private cells; and how the thread came to be over, if it is
pub record State : Type 0 where
  pub todo : List Item
  pub operands : List ℤ
  pub slots : List ℤ
  pub outer : List Frame
  pub own : List ℤ
  pub life : Option Over

-- the value on top, and those below it; where there is none, which never comes, it counts as 0
abbrev pub top : List ℤ → ℤ
top [] = pos 0
top (v ∷ rest) = v

-- the values below the one on top
abbrev pub below : List ℤ → List ℤ
below [] = []
below (v ∷ rest) = rest

-- the thread is over; only its private cells are left
abbrev pub over : State → Over → State
over s way = record { todo = []; operands = []; slots = []; outer = []; own = s.own; life = Some way }

-- how a thread came to be over, if it is
abbrev pub ending_in : Option Over → Option Ending
ending_in None = None
ending_in (Some ended) = Some Ending.Ended
ending_in (Some (stopped fault line)) = Some Ending.Stopped

-- the same, of a state
abbrev pub ending_of : State → Option Ending
ending_of s = ending_in s.life

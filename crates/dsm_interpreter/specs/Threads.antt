-- What a thread shows: its program, the state that it is in, and what it tells.
use Rattle.std.specs.Prelude.{◌≡◌, List, map, Option, Some, None}
use Rattle.std.specs.Borrow.{Bor}
use Rattle.dsm_base.specs.declared.label.Want.{Want}
use Rattle.dsm_base.specs.Threads.{Semantics}
use Rattle.dsm_check.specs.declared.resolved.Expression.{Expression}
use Rattle.dsm_check.specs.declared.resolved.Statement.{Statement}
use Rattle.dsm_check.specs.Resolved as r
use Rattle.dsm_check.specs.Views.{view, views, view_variable, view_part, view_statement, view_statements, view_function}
use Rattle.dsm_base.specs.Steps as steps
use Rattle.dsm_base.specs.Steps.{Move, goes, asks}
use Rattle.dsm_semantics.specs.States as m
use Rattle.dsm_semantics.specs.Semantics.{program_semantics}
use Rattle.dsm_interpreter.specs.declared.item.Place.{Place}
use Rattle.dsm_interpreter.specs.declared.item.LockAt.{LockAt}
use Rattle.dsm_interpreter.specs.declared.item.Use.{Use}
use Rattle.dsm_interpreter.specs.declared.item.Loop.{Loop}
use Rattle.dsm_interpreter.specs.declared.item.LoopStage.{LoopStage}
use Rattle.dsm_interpreter.specs.declared.item.Item.{Item}
use Rattle.dsm_interpreter.specs.declared.call.Callee.{Callee}
use Rattle.dsm_interpreter.specs.declared.frame.Frame.{Frame}
use Rattle.dsm_interpreter.specs.declared.frame.Over.{Over}
use Rattle.dsm_interpreter.specs.declared.execution.Execution.{Execution}
use Rattle.dsm_interpreter.specs.declared.thread.PlainThread.{PlainThread}

-- What code shows of each definition of states.

-- a place
abbrev pub place_of : Place → m.Place
place_of (Place.Slot number) = m.slot number
place_of (Place.Cell sharing number line) = m.cell sharing number line
place_of (Place.Member sharing array line) = m.member sharing array line

-- a lock
abbrev pub lock_of : LockAt → m.LockPlace
lock_of (LockAt.Single lock line) = m.one_lock lock line
lock_of (LockAt.Member array line) = m.lock_member array line

-- what a value is loaded for
abbrev pub use_of : Use → m.Use
use_of Use.Value = m.for_value
use_of Use.Change = m.for_change
use_of Use.StepBehind = m.for_step_behind

-- an expression that may be missing
abbrev pub option_of : Option (Bor Expression) → Option r.Expression
option_of None = None
option_of (Some e) = Some (view e.now)

-- a statement that may be missing
abbrev pub other_of : Option (Bor Statement) → Option r.Statement
other_of None = None
other_of (Some statement) = Some (view_statement statement.now)

-- a loop
abbrev pub loop_of : Loop → m.Loop
loop_of loop = record { test = option_of loop.test; step = option_of loop.step; body = view_statement loop.body.now }

-- what is left of a round of a loop
abbrev pub stage_of : LoopStage → m.Loop → m.Item
stage_of LoopStage.Round loop = m.round loop
stage_of LoopStage.Decide loop = m.decide loop
stage_of LoopStage.ThirdPart loop = m.third_part loop
stage_of LoopStage.JumpBack loop = m.jump_back loop

-- what remains to be done
abbrev pub item_of : Item → m.Item
item_of (Item.Evaluate e) = m.evaluate (view e.now)
item_of (Item.EvaluateAll arguments) = m.evaluate_all (views arguments.now)
item_of (Item.TestIndex array line) = m.test_index array line
item_of (Item.Load place way) = m.load (place_of place) (use_of way)
item_of (Item.Store place) = m.store (place_of place)
item_of (Item.Unary op line) = m.unary op line
item_of (Item.StepBy op line) = m.step_by op line
item_of (Item.Binary op line) = m.binary op line
item_of (Item.AndThen e) = m.and_then (view e.now)
item_of (Item.OrElse e) = m.or_else (view e.now)
item_of Item.ToTruth = m.to_truth
item_of (Item.Choose a b) = m.choose (view a.now) (view b.now)
item_of (Item.Enter function line) = m.enter function line
item_of Item.Discard = m.discard
item_of (Item.Execute statement) = m.execute (view_statement statement.now)
item_of (Item.Run statements) = m.run (view_statements statements.now)
item_of (Item.Declare variables) = m.declare (map view_variable variables.now)
item_of (Item.Branch body other) = m.branch (view_statement body.now) (other_of other)
item_of (Item.Go stage loop) = stage_of stage (loop_of loop)
item_of Item.Leave = m.leave
item_of (Item.Ask lock mode) = m.ask (lock_of lock) mode
item_of (Item.Take lock mode) = m.take_lock (lock_of lock) mode
item_of (Item.Give lock) = m.give (lock_of lock)
item_of (Item.Cross bar) = m.cross bar
item_of (Item.Gather parts) = m.gather (map view_part parts.now)
item_of (Item.Print parts) = m.print (map view_part parts.now)

-- a function that is called
abbrev pub callee_of : Callee → r.Function
callee_of callee = record {
  name = callee.name.now;
  params = callee.params;
  slots = callee.slots;
  names = callee.names.now;
  body = view_statements callee.body.now;
}

-- a function that is under way
abbrev pub frame_of : Frame → m.Frame
frame_of frame = record { todo = map item_of frame.todo; operands = frame.operands; slots = frame.slots.items }

-- how a thread came to be over
abbrev pub over_of : Over → steps.Over
over_of Over.Ended = steps.ended
over_of (Over.Stopped fault line) = steps.stopped fault line

-- the same, if it is
abbrev pub life_of : Option Over → Option steps.Over
life_of None = None
life_of (Some way) = Some (over_of way)

-- the state that an execution has come to
abbrev pub state_in : Execution → m.State
state_in execution = record {
  todo = map item_of execution.frame.todo;
  operands = execution.frame.operands;
  slots = execution.frame.slots.items;
  outer = map frame_of execution.outer;
  own = execution.own.items;
  life = life_of execution.life;
}

-- a step was made, or it wants something and all is as it was
abbrev pub Makes : Move m.State → m.State → m.State → Option Want → Type 0
Makes (goes t) old new wanted = (wanted ≡ None) × (new ≡ t)
Makes (asks want after) old new wanted = (wanted ≡ Some want) × (new ≡ old)

-- the execution made this step of its state, or tells what the step wants and is as it was
abbrev pub Steps : Execution → Execution → (m.State → Move m.State) → Option Want → Type 0
Steps old new move wanted = Makes (move (state_in old)) (state_in old) (state_in new) wanted

-- the execution has come to this state from its own
abbrev pub Becomes : Execution → Execution → (m.State → m.State) → Type 0
Becomes old new next = state_in new ≡ next (state_in old)

-- the functions of a thread's program
abbrev pub functions_of : PlainThread → List r.Function
functions_of thread = map view_function thread.functions.now

-- how the threads of its program go on
abbrev pub semantics_of : PlainThread → Semantics m.State
semantics_of thread = program_semantics (functions_of thread)

-- the state that a thread is in
abbrev pub state_of : PlainThread → m.State
state_of thread = state_in thread.execution

-- what a thread tells that it wants
abbrev pub told_by : PlainThread → Want
told_by thread = thread.wanted

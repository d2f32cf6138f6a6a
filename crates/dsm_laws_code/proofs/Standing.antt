-- Where the code of what remains to be done stands.
use Rattle.std.proofs.Common.{◌≡◌, ℕ, ◌+◌, ℤ, List, [], ◌∷◌, ◌++◌, length, drop, Option, Some, None}
use Rattle.dsm_base.specs.declared.setup.Piece.{Piece}
use Rattle.dsm_syntax.specs.declared.tree.BinaryOp.{BinaryOp}
use Rattle.dsm_check.specs.Resolved as r
use Rattle.dsm_semantics.specs.States as t
use Rattle.dsm_semantics.specs.States.{Loop, Item, evaluate, evaluate_all, test_index, load, store, unary, step_by, binary, and_then, or_else, to_truth, choose, enter, discard, execute, run, declare, branch, round, decide, third_part, jump_back, leave, ask, take_lock, give, cross, gather, print}
use Rattle.dsm_semantics.specs.Semantics.{lock_line}
use Rattle.dsm_code.specs.declared.instruction.Instr.{Instr}
use Rattle.dsm_code.specs.declared.parts.Row.{Row}
use Rattle.dsm_code.specs.declared.parts.PrintPart.{PrintPart}
use Rattle.dsm_code.specs.Programs.{Program, print_at}
use Rattle.dsm_code.specs.Machine.{State, Frame}
use Rattle.dsm_laws_code.specs.Instructions.{row, array_of, use_of, loading, storing, lock_target}
use Rattle.dsm_laws_code.specs.Expressions.{and_code, or_code, chosen_code, expression_code, arguments_code}
use Rattle.dsm_laws_code.specs.Statements.{print_of, statement_prints, statements_prints, variables_code, option_code, parts_code, Exits, before, loop_exits, round_code, loop_code, statement_code, statements_code}
use Rattle.dsm_laws_code.specs.Programs.{ending}
use Rattle.dsm_laws_code.proofs.Places.{Inner, at, IsThere, Leap}

-- what stands behind a loop, and behind its body
pub record Labels : Type 0 where
  pub loop : List Row
  pub body : List Row

-- of the innermost loop; outside of all loops the end of the function
abbrev pub innermost : List Labels → Labels
innermost [] = record { loop = ending; body = ending }
innermost (labels ∷ outer) = labels

-- behind a statement the exits lead there
pub record Exit (exits : Exits) (behind : List Row) (labels : List Labels) : Type 0 where
  pub loop : drop exits.loop behind ≡ (innermost labels).loop
  pub body : drop exits.body behind ≡ (innermost labels).body

module _ (code : Program) (pieces : List Piece) where
  -- these prints have the numbers from this one on
  abbrev pub HasPrints : ℕ → List (List PrintPart) → Type 0
  HasPrints number [] = Unit {0}
  HasPrints number (parts ∷ rest) = (print_at code number ≡ parts) × HasPrints (number + 1) rest

  -- the code of a loop's body, of its third part and of the loop
  abbrev pub third_of : Loop → List Row
  third_of loop = option_code pieces loop.step

  abbrev pub body_of : ℕ → Loop → List Row
  body_of prints loop = statement_code pieces (loop_exits (third_of loop)) prints loop.body

  abbrev pub round_of : ℕ → Loop → List Row
  round_of prints loop = round_code pieces loop.test (body_of prints loop) (third_of loop)

  abbrev pub back_of : ℕ → Loop → Row
  back_of prints loop = row 0 (Instr.GoBack (length (round_of prints loop)))

  abbrev pub loop_of : ℕ → Loop → List Row
  loop_of prints loop = loop_code pieces loop.test (body_of prints loop) (third_of loop)

  module _ (f : ℕ) where
    -- the whole loop stands somewhere, with this behind it
    pub record InLoop (prints : ℕ) (loop : Loop) (behind : List Row) : Type 0 where
      pub head : ℕ
      pub there : IsThere code f head (loop_of prints loop ++ behind)
      pub has : HasPrints prints (statement_prints loop.body)

    -- the code of a statement
    pub record DoesStatement (labels : List Labels) (rows behind : List Row) (statement : r.Statement) : Type 0 where
      pub exits : Exits
      pub prints : ℕ
      pub is : rows ≡ statement_code pieces exits prints statement ++ behind
      pub exit : Exit exits behind labels
      pub has : HasPrints prints (statement_prints statement)

    -- of statements
    pub record DoesStatements (labels : List Labels) (rows behind : List Row) (statements : r.Statements) : Type 0 where
      pub exits : Exits
      pub prints : ℕ
      pub is : rows ≡ statements_code pieces exits prints statements ++ behind
      pub exit : Exit exits behind labels
      pub has : HasPrints prints (statements_prints statements)

    -- of what comes behind the test of an `if`
    pub record DoesBranch (labels : List Labels) (rows behind : List Row) (body : r.Statement) : Type 0 where
      pub exits : Exits
      pub prints : ℕ
      pub is : rows ≡ row 1 (Instr.SkipIfZero (length (statement_code pieces exits prints body))) ∷ (statement_code pieces exits prints body ++ behind)
      pub exit : Exit exits behind labels
      pub has : HasPrints prints (statement_prints body)

    -- the same, with another part
    pub record DoesEither (labels : List Labels) (rows behind : List Row) (body other : r.Statement) : Type 0 where
      pub exits : Exits
      pub prints : ℕ
      pub others : ℕ
      pub is : rows ≡ chosen_code 1 0 (statement_code pieces (before (length (statement_code pieces exits others other) + 1) exits) prints body) (statement_code pieces exits others other) ++ behind
      pub exit : Exit exits behind labels
      pub has : HasPrints prints (statement_prints body)
      pub other_has : HasPrints others (statement_prints other)

    -- of the jump back, and of what comes behind the test and behind the body of a loop
    pub record DoesBack (rows behind : List Row) (loop : Loop) : Type 0 where
      pub prints : ℕ
      pub is : rows ≡ back_of prints loop ∷ behind
      pub around : InLoop prints loop behind

    pub record DoesDecide (rows behind : List Row) (loop : Loop) : Type 0 where
      pub prints : ℕ
      pub is : rows ≡ row 1 (Instr.SkipIfZero (length (body_of prints loop) + (length (third_of loop) + 1))) ∷ (body_of prints loop ++ (third_of loop ++ (back_of prints loop ∷ behind)))
      pub around : InLoop prints loop behind

    pub record DoesThird (rows behind : List Row) (loop : Loop) : Type 0 where
      pub prints : ℕ
      pub is : rows ≡ third_of loop ++ (back_of prints loop ∷ behind)
      pub around : InLoop prints loop behind

    pub record DoesRound (rows behind : List Row) (loop : Loop) : Type 0 where
      pub prints : ℕ
      pub is : rows ≡ loop_of prints loop ++ behind
      pub has : HasPrints prints (statement_prints loop.body)

    pub record DoesPrint (rows behind : List Row) (parts : List r.Part) : Type 0 where
      pub depth : ℕ
      pub number : ℕ
      pub is : rows ≡ row depth (Instr.Print number) ∷ behind
      pub has : print_at code number ≡ print_of parts

    -- an instruction
    abbrev pub DoesOne : List Row → List Row → Instr → Type 0
    DoesOne rows behind instr = (depth : ℕ) × (rows ≡ row depth instr ∷ behind)

    -- the code of an item that isn't the end of a loop's body, and what stands behind it
    abbrev pub Does : Item → List Labels → List Row → List Row → Type 0
    Does (evaluate e) labels rows behind = (depth : ℕ) × (rows ≡ expression_code pieces depth e ++ behind)
    Does (evaluate_all arguments) labels rows behind = (depth : ℕ) × (rows ≡ arguments_code pieces depth arguments ++ behind)
    Does (test_index array line) labels rows behind = DoesOne rows behind (Instr.TestIndex (array_of array) line)
    Does (load place way) labels rows behind = DoesOne rows behind (loading place (use_of way))
    Does (store place) labels rows behind = DoesOne rows behind (storing pieces place)
    Does (unary op line) labels rows behind = DoesOne rows behind (Instr.Unary op line)
    Does (step_by op line) labels rows behind = DoesOne rows behind (Instr.StepBy op line)
    Does (binary op line) labels rows behind = DoesOne rows behind (Instr.Binary op line)
    Does (and_then e) labels rows behind = (depth : ℕ) × (rows ≡ and_code depth (expression_code pieces depth e) ++ behind)
    Does (or_else e) labels rows behind = (depth : ℕ) × (rows ≡ or_code depth (expression_code pieces depth e) ++ behind)
    Does to_truth labels rows behind = DoesOne rows behind Instr.ToTruth
    Does (choose a b) labels rows behind = (depth : ℕ) × (rows ≡ chosen_code (depth + 1) (depth + 1) (expression_code pieces depth a) (expression_code pieces depth b) ++ behind)
    Does (enter number line) labels rows behind = DoesOne rows behind (Instr.Enter number line)
    Does discard labels rows behind = DoesOne rows behind Instr.Discard
    Does (execute statement) labels rows behind = DoesStatement labels rows behind statement
    Does (run statements) labels rows behind = DoesStatements labels rows behind statements
    Does (declare variables) labels rows behind = rows ≡ variables_code pieces variables ++ behind
    Does (branch body None) labels rows behind = DoesBranch labels rows behind body
    Does (branch body (Some other)) labels rows behind = DoesEither labels rows behind body other
    Does (round loop) labels rows behind = DoesRound rows behind loop
    Does (decide loop) labels rows behind = DoesDecide rows behind loop
    Does (third_part loop) labels rows behind = DoesThird rows behind loop
    Does (jump_back loop) labels rows behind = DoesBack rows behind loop
    Does leave labels rows behind = DoesOne rows behind Instr.Leave
    Does (ask lock mode) labels rows behind =
        (depth : ℕ) × (rows ≡ row depth (Instr.Ask (lock_target lock) mode (lock_line lock)) ∷ row depth (Instr.Take (lock_target lock) mode (lock_line lock)) ∷ behind)
    Does (take_lock lock mode) labels rows behind = DoesOne rows behind (Instr.Take (lock_target lock) mode (lock_line lock))
    Does (give lock) labels rows behind = DoesOne rows behind (Instr.Give (lock_target lock) (lock_line lock))
    Does (cross bar) labels rows behind = DoesOne rows behind (Instr.Cross bar)
    Does (gather parts) labels rows behind = (depth : ℕ) × (rows ≡ parts_code pieces depth parts ++ behind)
    Does (print parts) labels rows behind = DoesPrint rows behind parts

    -- what is behind the end of a loop's body is outside of the loop
    abbrev pub Closes : Loop → (List Labels → List Row → Type 0) → List Labels → List Row → Type 0
    Closes loop Rest [] rows = ⊥
    Closes loop Rest (labels ∷ outer) rows = (labels.body ≡ rows) × DoesThird rows labels.loop loop × Rest outer labels.loop

    -- an item's code, and that of the rest behind it
    abbrev pub Goes : Item → (List Labels → List Row → Type 0) → List Labels → List Row → Type 0
    Goes (third_part loop) Rest labels rows = Closes loop Rest labels rows
    Goes item Rest labels rows = (behind : List Row) × Does item labels rows behind × Rest labels behind

    -- the machine comes by itself to the code of all that remains to be done
    abbrev pub Stands : List Item → List Labels → List Row → Type 0
    Stands [] labels rows = (labels ≡ []) × Leap code f rows ending
    Stands (item ∷ k) labels rows = (first : List Row) × Leap code f rows first × Goes item (Stands k) labels first

  -- a caller goes on behind its call
  pub record WaitsAs (frame : t.Frame) (caller : Frame) : Type 0 where
    pub operands : caller.operands ≡ frame.operands
    pub slots : caller.slots ≡ frame.slots
    pub rows : List Row
    pub there : IsThere code caller.function (caller.place + 1) rows
    pub labels : List Labels
    pub stands : Stands caller.function frame.todo labels rows

  abbrev pub AllWaitAs : List t.Frame → List Frame → Type 0
  AllWaitAs [] [] = Unit {0}
  AllWaitAs [] (caller ∷ callers) = ⊥
  AllWaitAs (frame ∷ frames) [] = ⊥
  AllWaitAs (frame ∷ frames) (caller ∷ callers) = WaitsAs frame caller × AllWaitAs frames callers

  -- a thread of code that is where that of the tree is, and goes on
  pub record Follows (s : t.State) (c : State) : Type 0 where
    pub alive : s.life ≡ None
    pub function : ℕ
    pub place : ℕ
    pub callers : List Frame
    pub is : c ≡ at code function place (record { operands = s.operands; slots = s.slots; outer = callers; own = s.own })
    pub rows : List Row
    pub there : IsThere code function place rows
    pub labels : List Labels
    pub stands : Stands function s.todo labels rows
    pub wait : AllWaitAs s.outer callers

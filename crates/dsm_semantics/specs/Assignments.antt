-- Assignments that change what is there.
use Rattle.std.specs.Prelude.{Option, Some, None}
use Rattle.dsm_syntax.specs.declared.tree.BinaryOp.{BinaryOp}
use Rattle.dsm_syntax.specs.declared.tree.AssignOp.{AssignOp}

-- the operator of an assignment that changes what is there
abbrev pub operator_of : AssignOp → Option BinaryOp
operator_of AssignOp.Set = None
operator_of AssignOp.Plus = Some BinaryOp.Plus
operator_of AssignOp.Minus = Some BinaryOp.Minus
operator_of AssignOp.Times = Some BinaryOp.Times
operator_of AssignOp.Divide = Some BinaryOp.Divide
operator_of AssignOp.Remainder = Some BinaryOp.Remainder
operator_of AssignOp.BitAnd = Some BinaryOp.BitAnd
operator_of AssignOp.BitOr = Some BinaryOp.BitOr
operator_of AssignOp.BitXor = Some BinaryOp.BitXor
operator_of AssignOp.ShiftLeft = Some BinaryOp.ShiftLeft
operator_of AssignOp.ShiftRight = Some BinaryOp.ShiftRight

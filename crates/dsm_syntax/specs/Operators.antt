-- How operators are written, and how tightly they bind.
use Rattle.std.specs.Prelude.{ℕ}
use Rattle.dsm_syntax.specs.declared.sign.Sign.{Sign}
use Rattle.dsm_syntax.specs.declared.tree.UnaryOp.{UnaryOp}
use Rattle.dsm_syntax.specs.declared.tree.StepOp.{StepOp}
use Rattle.dsm_syntax.specs.declared.tree.BinaryOp.{BinaryOp}
use Rattle.dsm_syntax.specs.declared.tree.AssignOp.{AssignOp}

-- the sign of an operator before its operand
abbrev pub unary_sign : UnaryOp → Sign
unary_sign UnaryOp.Negate = Sign.Minus
unary_sign UnaryOp.Plus = Sign.Plus
unary_sign UnaryOp.Not = Sign.Not
unary_sign UnaryOp.Complement = Sign.Tilde

-- the sign of a step
abbrev pub step_sign : StepOp → Sign
step_sign StepOp.Increment = Sign.PlusPlus
step_sign StepOp.Decrement = Sign.MinusMinus

-- the sign of an operator between its operands
abbrev pub binary_sign : BinaryOp → Sign
binary_sign BinaryOp.Times = Sign.Star
binary_sign BinaryOp.Divide = Sign.Slash
binary_sign BinaryOp.Remainder = Sign.Percent
binary_sign BinaryOp.Plus = Sign.Plus
binary_sign BinaryOp.Minus = Sign.Minus
binary_sign BinaryOp.ShiftLeft = Sign.ShiftLeft
binary_sign BinaryOp.ShiftRight = Sign.ShiftRight
binary_sign BinaryOp.Less = Sign.Less
binary_sign BinaryOp.LessEqual = Sign.LessEqual
binary_sign BinaryOp.Greater = Sign.Greater
binary_sign BinaryOp.GreaterEqual = Sign.GreaterEqual
binary_sign BinaryOp.Equal = Sign.Equal
binary_sign BinaryOp.NotEqual = Sign.NotEqual
binary_sign BinaryOp.BitAnd = Sign.And
binary_sign BinaryOp.BitXor = Sign.Caret
binary_sign BinaryOp.BitOr = Sign.Or
binary_sign BinaryOp.And = Sign.AndAnd
binary_sign BinaryOp.Or = Sign.OrOr

-- the sign of an assignment
abbrev pub assign_sign : AssignOp → Sign
assign_sign AssignOp.Set = Sign.Assign
assign_sign AssignOp.Plus = Sign.PlusAssign
assign_sign AssignOp.Minus = Sign.MinusAssign
assign_sign AssignOp.Times = Sign.StarAssign
assign_sign AssignOp.Divide = Sign.SlashAssign
assign_sign AssignOp.Remainder = Sign.PercentAssign
assign_sign AssignOp.BitAnd = Sign.AndAssign
assign_sign AssignOp.BitOr = Sign.OrAssign
assign_sign AssignOp.BitXor = Sign.CaretAssign
assign_sign AssignOp.ShiftLeft = Sign.ShiftLeftAssign
assign_sign AssignOp.ShiftRight = Sign.ShiftRightAssign

-- how tightly an operator binds; 0 is an assignment, 1 is `?:`, and 12 is whatever needs no parentheses
abbrev pub binary_level : BinaryOp → ℕ
binary_level BinaryOp.Times = 11
binary_level BinaryOp.Divide = 11
binary_level BinaryOp.Remainder = 11
binary_level BinaryOp.Plus = 10
binary_level BinaryOp.Minus = 10
binary_level BinaryOp.ShiftLeft = 9
binary_level BinaryOp.ShiftRight = 9
binary_level BinaryOp.Less = 8
binary_level BinaryOp.LessEqual = 8
binary_level BinaryOp.Greater = 8
binary_level BinaryOp.GreaterEqual = 8
binary_level BinaryOp.Equal = 7
binary_level BinaryOp.NotEqual = 7
binary_level BinaryOp.BitAnd = 6
binary_level BinaryOp.BitXor = 5
binary_level BinaryOp.BitOr = 4
binary_level BinaryOp.And = 3
binary_level BinaryOp.Or = 2

-- What a token stands for, where an expression may begin and behind an operand.
use Rattle.std.specs.Prelude.{ℕ, ◌+◌, Bool, true, false, Option, Some, None}
use Rattle.dsm_syntax.specs.declared.sign.Sign.{Sign}
use Rattle.dsm_syntax.specs.declared.tree.UnaryOp.{UnaryOp}
use Rattle.dsm_syntax.specs.declared.tree.StepOp.{StepOp}
use Rattle.dsm_syntax.specs.declared.tree.BinaryOp.{BinaryOp}
use Rattle.dsm_syntax.specs.declared.tree.AssignOp.{AssignOp}
use Rattle.dsm_syntax.specs.Tree.{Expression, at}
use Rattle.dsm_syntax.specs.declared.operator.Infix.{Infix}
use Rattle.dsm_syntax.specs.declared.operator.Lead.{Lead}
use Rattle.dsm_syntax.specs.Lexemes.{Lexeme, named, numeral, sign, sign_at}
use Rattle.dsm_syntax.specs.Operators.{binary_level}

-- the step that a sign is
abbrev pub step_op : Sign → Option StepOp
step_op Sign.PlusPlus = Some StepOp.Increment
step_op Sign.MinusMinus = Some StepOp.Decrement
step_op _ = None

-- the sign of an operator before its operand, or of a step
abbrev pub lead_sign : Sign → ℕ → Lead
lead_sign Sign.Minus line = Lead.Unary UnaryOp.Negate line
lead_sign Sign.Plus line = Lead.Unary UnaryOp.Plus line
lead_sign Sign.Not line = Lead.Unary UnaryOp.Not line
lead_sign Sign.Tilde line = Lead.Unary UnaryOp.Complement line
lead_sign Sign.PlusPlus line = Lead.Step StepOp.Increment line
lead_sign Sign.MinusMinus line = Lead.Step StepOp.Decrement line
lead_sign _ line = Lead.Nothing

-- what begins with a token
abbrev pub lead : Option Lexeme → Lead
lead (Some (numeral value)) = Lead.Number value
lead (Some (named name)) = Lead.Name
lead (Some (sign Sign.ParenOpen)) = Lead.Paren
lead (Some (sign_at s line)) = lead_sign s line
lead _ = Lead.Nothing

-- whether anything begins
abbrev pub is_lead : Lead → Bool
is_lead Lead.Nothing = false
is_lead _ = true

-- whether an expression can begin with a token
abbrev pub begins_expression : Option Lexeme → Bool
begins_expression token = is_lead (lead token)

-- the sign of what stands between operands
abbrev pub infix_op : Sign → Option Infix
infix_op Sign.Star = Some (Infix.Binary BinaryOp.Times)
infix_op Sign.Slash = Some (Infix.Binary BinaryOp.Divide)
infix_op Sign.Percent = Some (Infix.Binary BinaryOp.Remainder)
infix_op Sign.Plus = Some (Infix.Binary BinaryOp.Plus)
infix_op Sign.Minus = Some (Infix.Binary BinaryOp.Minus)
infix_op Sign.ShiftLeft = Some (Infix.Binary BinaryOp.ShiftLeft)
infix_op Sign.ShiftRight = Some (Infix.Binary BinaryOp.ShiftRight)
infix_op Sign.Less = Some (Infix.Binary BinaryOp.Less)
infix_op Sign.LessEqual = Some (Infix.Binary BinaryOp.LessEqual)
infix_op Sign.Greater = Some (Infix.Binary BinaryOp.Greater)
infix_op Sign.GreaterEqual = Some (Infix.Binary BinaryOp.GreaterEqual)
infix_op Sign.Equal = Some (Infix.Binary BinaryOp.Equal)
infix_op Sign.NotEqual = Some (Infix.Binary BinaryOp.NotEqual)
infix_op Sign.And = Some (Infix.Binary BinaryOp.BitAnd)
infix_op Sign.Caret = Some (Infix.Binary BinaryOp.BitXor)
infix_op Sign.Or = Some (Infix.Binary BinaryOp.BitOr)
infix_op Sign.AndAnd = Some (Infix.Binary BinaryOp.And)
infix_op Sign.OrOr = Some (Infix.Binary BinaryOp.Or)
infix_op Sign.Question = Some Infix.Question
infix_op Sign.Assign = Some (Infix.Assign AssignOp.Set)
infix_op Sign.PlusAssign = Some (Infix.Assign AssignOp.Plus)
infix_op Sign.MinusAssign = Some (Infix.Assign AssignOp.Minus)
infix_op Sign.StarAssign = Some (Infix.Assign AssignOp.Times)
infix_op Sign.SlashAssign = Some (Infix.Assign AssignOp.Divide)
infix_op Sign.PercentAssign = Some (Infix.Assign AssignOp.Remainder)
infix_op Sign.AndAssign = Some (Infix.Assign AssignOp.BitAnd)
infix_op Sign.OrAssign = Some (Infix.Assign AssignOp.BitOr)
infix_op Sign.CaretAssign = Some (Infix.Assign AssignOp.BitXor)
infix_op Sign.ShiftLeftAssign = Some (Infix.Assign AssignOp.ShiftLeft)
infix_op Sign.ShiftRightAssign = Some (Infix.Assign AssignOp.ShiftRight)
infix_op _ = None

-- with its line
abbrev pub placed : {A : Type 0} → ℕ → Option A → Option (A × ℕ)
placed line None = None
placed line (Some a) = Some (a, line)

-- the step that a token is, with its line
abbrev pub step_of : Option Lexeme → Option (StepOp × ℕ)
step_of (Some (sign_at s line)) = placed line (step_op s)
step_of _ = None

-- what stands between operands that a token is, with its line
abbrev pub infix_of : Option Lexeme → Option (Infix × ℕ)
infix_of (Some (sign_at s line)) = placed line (infix_op s)
infix_of _ = None

-- an assignment stands only behind a place
abbrev pub assignment_tightness : Expression → ℕ
assignment_tightness (at place) = 1
assignment_tightness _ = 0

-- how tightly it binds the expression before it: one more than its level, or 0 where it can't stand there
abbrev pub infix_tightness : Expression → Infix → ℕ
infix_tightness left (Infix.Binary op) = binary_level op + 1
infix_tightness left Infix.Question = 2
infix_tightness left (Infix.Assign op) = assignment_tightness left

-- the same, and 0 of nothing
abbrev pub tightness_of : Expression → Option (Infix × ℕ) → ℕ
tightness_of left None = 0
tightness_of left (Some (found, line)) = infix_tightness left found

-- how tightly what comes next binds the expression before it: one more than its level, or 0 where it can't stand there
abbrev pub tightness : Expression → Option Lexeme → ℕ
tightness left token = tightness_of left (infix_of token)

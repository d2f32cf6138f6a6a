-- Operators and their signs.
use Rattle.std.proofs.Common.{◌≡◌, ◌≤◌, ℕ, Option, Some, None, refl, ap, ◌∙◌, arith}
use Rattle.dsm_syntax.specs.declared.sign.Sign.{Sign}
use Rattle.dsm_syntax.specs.declared.tree.UnaryOp.{UnaryOp}
use Rattle.dsm_syntax.specs.declared.tree.StepOp.{StepOp}
use Rattle.dsm_syntax.specs.declared.tree.BinaryOp.{BinaryOp}
use Rattle.dsm_syntax.specs.declared.tree.AssignOp.{AssignOp}
use Rattle.dsm_syntax.specs.declared.tree.Name.{Name}
use Rattle.dsm_syntax.specs.Tree.{Place, Expression, at}
use Rattle.dsm_syntax.specs.declared.operator.Infix.{Infix}
use Rattle.dsm_syntax.specs.declared.operator.Lead.{Lead}
use Rattle.dsm_syntax.specs.Lexemes.{Lexeme, named, numeral, sign, sign_at}
use Rattle.dsm_syntax.specs.Operators.{unary_sign, step_sign, binary_sign, assign_sign, binary_level}
use Rattle.dsm_syntax.specs.Roles.{step_op, lead_sign, lead, infix_op, placed, step_of, infix_of, assignment_tightness, tightness_of, tightness}

abbrev pub infix_sign : Infix → Sign
infix_sign (Infix.Binary op) = binary_sign op
infix_sign Infix.Question = Sign.Question
infix_sign (Infix.Assign op) = assign_sign op

abbrev pub infix_level : Infix → ℕ
infix_level (Infix.Binary op) = binary_level op
infix_level Infix.Question = 1
infix_level (Infix.Assign op) = 0

-- each operator has its sign

binary_back : (op : BinaryOp) → infix_op (binary_sign op) ≡ Some (Infix.Binary op)
binary_back BinaryOp.Times = refl
binary_back _ = refl

assign_back : (op : AssignOp) → infix_op (assign_sign op) ≡ Some (Infix.Assign op)
assign_back AssignOp.Set = refl
assign_back _ = refl

infix_back : (i : Infix) → infix_op (infix_sign i) ≡ Some i
infix_back (Infix.Binary op) = binary_back op
infix_back Infix.Question = refl
infix_back (Infix.Assign op) = assign_back op

pub infix_of_sign : (i : Infix) (line : ℕ) → infix_of (Some (sign_at (infix_sign i) line)) ≡ Some (i, line)
infix_of_sign i line = ap (placed line) (infix_back i)

pub unary_lead : (op : UnaryOp) (line : ℕ) → lead (Some (sign_at (unary_sign op) line)) ≡ Lead.Unary op line
unary_lead UnaryOp.Negate line = refl
unary_lead _ line = refl

pub step_lead : (op : StepOp) (line : ℕ) → lead (Some (sign_at (step_sign op) line)) ≡ Lead.Step op line
step_lead StepOp.Increment line = refl
step_lead StepOp.Decrement line = refl

pub step_of_sign : (op : StepOp) (line : ℕ) → step_of (Some (sign_at (step_sign op) line)) ≡ Some (op, line)
step_of_sign StepOp.Increment line = refl
step_of_sign StepOp.Decrement line = refl

-- and each sign at most one operator

abbrev SignOf : Option Infix → Sign → Type 0
SignOf None s = Unit {0}
SignOf (Some i) s = s ≡ infix_sign i

sign_of : (s : Sign) → SignOf (infix_op s) s
sign_of Sign.ParenOpen = tt
sign_of Sign.Star = refl
sign_of Sign.Slash = refl
sign_of Sign.Percent = refl
sign_of Sign.Plus = refl
sign_of Sign.Minus = refl
sign_of Sign.ShiftLeft = refl
sign_of Sign.ShiftRight = refl
sign_of Sign.Less = refl
sign_of Sign.LessEqual = refl
sign_of Sign.Greater = refl
sign_of Sign.GreaterEqual = refl
sign_of Sign.Equal = refl
sign_of Sign.NotEqual = refl
sign_of Sign.And = refl
sign_of Sign.Caret = refl
sign_of Sign.Or = refl
sign_of Sign.AndAnd = refl
sign_of Sign.OrOr = refl
sign_of Sign.Question = refl
sign_of Sign.Assign = refl
sign_of Sign.PlusAssign = refl
sign_of Sign.MinusAssign = refl
sign_of Sign.StarAssign = refl
sign_of Sign.SlashAssign = refl
sign_of Sign.PercentAssign = refl
sign_of Sign.AndAssign = refl
sign_of Sign.OrAssign = refl
sign_of Sign.CaretAssign = refl
sign_of Sign.ShiftLeftAssign = refl
sign_of Sign.ShiftRightAssign = refl
sign_of _ = tt

pub infix_at : (o : Option Lexeme) (i : Infix) (line : ℕ) → infix_of o ≡ Some (i, line) → o ≡ Some (sign_at (infix_sign i) line)
infix_at (Some (sign_at s at_line)) i line e = of (infix_op s) refl (sign_of s) e
  where
    of : (o : Option Infix) → infix_op s ≡ o → SignOf o s → placed at_line o ≡ Some (i, line) → Some (sign_at s at_line) ≡ Some (sign_at (infix_sign i) line)
    of None f g h = absurd cc
    of (Some j) f g h =
        let one : j ≡ i = ap first h in
        let other : at_line ≡ line = ap second h in
        ap (λ s. Some (sign_at s at_line)) (g ∙ ap infix_sign one) ∙ ap (λ n. Some (sign_at (infix_sign i) n)) other
      where
        first : Option (Infix × ℕ) → Infix
        first None = i
        first (Some (j, n)) = j

        second : Option (Infix × ℕ) → ℕ
        second None = line
        second (Some (j, n)) = n
infix_at _ i line e = absurd cc

abbrev StepOf : Option StepOp → Sign → Type 0
StepOf None s = Unit {0}
StepOf (Some op) s = s ≡ step_sign op

step_is : (s : Sign) → StepOf (step_op s) s
step_is Sign.PlusPlus = refl
step_is Sign.MinusMinus = refl
step_is _ = tt

-- what step comes next
abbrev pub SteppedBy : Option (StepOp × ℕ) → Option Lexeme → Type 0
SteppedBy None next = Unit {0}
SteppedBy (Some (op, line)) next = next ≡ Some (sign_at (step_sign op) line)

pub stepped_by : (next : Option Lexeme) → SteppedBy (step_of next) next
stepped_by (Some (sign_at s line)) = of (step_op s) (step_is s)
  where
    of : (o : Option StepOp) → StepOf o s → SteppedBy (placed line o) (Some (sign_at s line))
    of None e = tt
    of (Some op) e = ap (λ s. Some (sign_at s line)) e
stepped_by None = tt
stepped_by (Some _) = tt

-- which token leads
abbrev pub Led : Lead → Option Lexeme → Type 0
Led (Lead.Number value) next = next ≡ Some (numeral value)
Led Lead.Name next = (name : Name) × (next ≡ Some (named name))
Led Lead.Paren next = next ≡ Some (sign Sign.ParenOpen)
Led (Lead.Unary op line) next = next ≡ Some (sign_at (unary_sign op) line)
Led (Lead.Step op line) next = next ≡ Some (sign_at (step_sign op) line)
Led Lead.Nothing next = Unit {0}

led_sign : (s : Sign) (line : ℕ) → Led (lead_sign s line) (Some (sign_at s line))
led_sign Sign.Minus line = refl
led_sign Sign.Plus line = refl
led_sign Sign.Not line = refl
led_sign Sign.Tilde line = refl
led_sign Sign.PlusPlus line = refl
led_sign Sign.MinusMinus line = refl
led_sign _ line = tt

led_paren : (s : Sign) → Led (lead (Some (sign s))) (Some (sign s))
led_paren Sign.ParenOpen = refl
led_paren _ = tt

pub led : (next : Option Lexeme) → Led (lead next) next
led (Some (numeral value)) = refl
led (Some (named name)) = (name, refl)
led (Some (sign s)) = led_paren s
led (Some (sign_at s line)) = led_sign s line
led None = tt
led (Some _) = tt

-- How tightly operators bind.

pub loose : (op : BinaryOp) → 2 ≤ binary_level op
loose BinaryOp.Times = omega arith
loose _ = omega arith

pub tight : (op : BinaryOp) → binary_level op ≤ 11
tight BinaryOp.Times = omega arith
tight _ = omega arith

pub assignment_small : (e : Expression) → assignment_tightness e ≤ 1
assignment_small (at place) = omega arith
assignment_small _ = omega arith

tightness_of_small : (e : Expression) (o : Option (Infix × ℕ)) → tightness_of e o ≤ 12
tightness_of_small e None = omega arith
tightness_of_small e (Some (Infix.Binary op, line)) = omega (arith, tight op)
tightness_of_small e (Some (Infix.Question, line)) = omega arith
tightness_of_small e (Some (Infix.Assign op, line)) = omega (arith, assignment_small e)

pub tightness_small : (e : Expression) (next : Option Lexeme) → tightness e next ≤ 12
tightness_small e next = tightness_of_small e (infix_of next)

-- what no place is binds less
tightness_of_less : (e f : Expression) (o : Option (Infix × ℕ)) → assignment_tightness e ≡ 0 → tightness_of e o ≤ tightness_of f o
tightness_of_less e f None none = omega arith
tightness_of_less e f (Some (Infix.Binary op, line)) none = omega arith
tightness_of_less e f (Some (Infix.Question, line)) none = omega arith
tightness_of_less e f (Some (Infix.Assign op, line)) none = omega arith

pub tightness_less : (e f : Expression) (next : Option Lexeme) → assignment_tightness e ≡ 0 → tightness e next ≤ tightness f next
tightness_less e f next none = tightness_of_less e f (infix_of next) none

-- behind a place all operators can stand
tightness_of_most : (p : Place) (e : Expression) (o : Option (Infix × ℕ)) → tightness_of e o ≤ tightness_of (at p) o
tightness_of_most p e None = omega arith
tightness_of_most p e (Some (Infix.Binary op, line)) = omega arith
tightness_of_most p e (Some (Infix.Question, line)) = omega arith
tightness_of_most p e (Some (Infix.Assign op, line)) = assignment_small e

pub tightness_most : (p : Place) (e : Expression) (next : Option Lexeme) → tightness e next ≤ tightness (at p) next
tightness_most p e next = tightness_of_most p e (infix_of next)

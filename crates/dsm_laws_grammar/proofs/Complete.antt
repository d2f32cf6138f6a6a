-- Each expression and each place that the grammar has is read from its spelling.
use Rattle.std.proofs.Common.{◌≡◌, ◌≤◌, ◌<◌, ℕ, zero, suc, ◌+◌, max, false, cond, List, [], ◌∷◌, ◌++◌, Option, Some, None, refl, ap, ◌∙◌, subst, arith, append_assoc}
use Rattle.std.specs.List.{AllByRecursion}
use Rattle.std.proofs.lemmas.Bool.{le-ltb}
use Rattle.dsm_syntax.specs.declared.sign.Sign.{Sign}
use Rattle.dsm_syntax.specs.declared.tree.Name.{Name}
use Rattle.dsm_syntax.specs.declared.tree.BinaryOp.{BinaryOp}
use Rattle.dsm_syntax.specs.declared.tree.AssignOp.{AssignOp}
use Rattle.dsm_syntax.specs.Tree.{Place, single, element, Expression, number, at, paren, call, unary, prefix, postfix, binary, choice, assign, Expressions, nil, cons}
use Rattle.dsm_syntax.specs.declared.operator.Infix.{Infix}
use Rattle.dsm_syntax.specs.Lexemes.{Lexeme, sign, sign_at}
use Rattle.dsm_syntax.specs.Operators.{unary_sign, step_sign, binary_sign, assign_sign, binary_level}
use Rattle.dsm_laws_grammar.specs.Grammar.{spell_place, spell, spell_arguments, spell_more, spell_list, level, FitsPlace, Fits, FitArguments}
use Rattle.dsm_syntax.specs.Heights.{height_place, height, height_arguments}
use Rattle.dsm_syntax.specs.Reading.{ok, too_high, Reader, and_then, look, tail, is_sign, after_sign, ended_by, list_of}
use Rattle.dsm_syntax.specs.Roles.{step_of, infix_of, infix_tightness, tightness_of, tightness, begins_expression}
use Rattle.dsm_laws_grammar.specs.Expressions.{expressions, over, place_behind, place_at, stepped_by, stepped, arguments, operand_by, operand, operation, climb, at_least, below, expression, place}
use Rattle.dsm_laws_grammar.proofs.Lists.{list_reads}
use Rattle.dsm_laws_grammar.proofs.Tables.{infix_sign, infix_of_sign, unary_lead, step_lead, step_of_sign, loose, tight, tightness_small, tightness_most}
use Rattle.dsm_laws_grammar.proofs.Expressions.{height_pos, height_place_pos, spell_expressions, height_expressions, climb_stops, climb_turns}
use Rattle.dsm_laws_grammar.proofs.Beginnings.{spell_begins, no_sign}

-- What may come behind an expression.

-- what goes on with no operand
pub record Apart (rest : List Lexeme) : Type 0 where
  pub step : step_of (look rest) ≡ None
  pub bracket : is_sign Sign.BracketOpen rest ≡ false
  pub paren : is_sign Sign.ParenOpen rest ≡ false

-- what goes on with no expression
pub record Ends (rest : List Lexeme) : Type 0 where
  pub apart : Apart rest
  pub infix_none : infix_of (look rest) ≡ None

pub ends_nothing : Ends []
ends_nothing = record { apart = record { step = refl; bracket = refl; paren = refl }; infix_none = refl }

pub ends_paren : (rest : List Lexeme) → Ends (sign Sign.ParenClose ∷ rest)
ends_paren rest = record { apart = record { step = refl; bracket = refl; paren = refl }; infix_none = refl }

pub ends_bracket : (rest : List Lexeme) → Ends (sign Sign.BracketClose ∷ rest)
ends_bracket rest = record { apart = record { step = refl; bracket = refl; paren = refl }; infix_none = refl }

pub ends_semicolon : (rest : List Lexeme) → Ends (sign Sign.Semicolon ∷ rest)
ends_semicolon rest = record { apart = record { step = refl; bracket = refl; paren = refl }; infix_none = refl }

pub ends_comma : (rest : List Lexeme) → Ends (sign Sign.Comma ∷ rest)
ends_comma rest = record { apart = record { step = refl; bracket = refl; paren = refl }; infix_none = refl }

pub ends_colon : (rest : List Lexeme) → Ends (sign Sign.Colon ∷ rest)
ends_colon rest = record { apart = record { step = refl; bracket = refl; paren = refl }; infix_none = refl }

-- no infix is a step
apart_infix : (i : Infix) (line : ℕ) (rest : List Lexeme) → Apart (sign_at (infix_sign i) line ∷ rest)
apart_infix i line rest = record { step = of i; bracket = refl; paren = refl }
  where
    binary_case : (op : BinaryOp) → step_of (Some (sign_at (binary_sign op) line)) ≡ None
    binary_case BinaryOp.Times = refl
    binary_case _ = refl

    assign_case : (op : AssignOp) → step_of (Some (sign_at (assign_sign op) line)) ≡ None
    assign_case AssignOp.Set = refl
    assign_case _ = refl

    of : (i : Infix) → step_of (Some (sign_at (infix_sign i) line)) ≡ None
    of (Infix.Binary op) = binary_case op
    of Infix.Question = refl
    of (Infix.Assign op) = assign_case op

-- how tightly what comes next can bind at most
abbrev any : Expression
any = at (single (record { text = []; line = 0 }))

abbrev most_tightness : Option Lexeme → ℕ
most_tightness next = tightness any next

-- what may come behind an expression that stands in a higher one
record Behind (e : Expression) (rest : List Lexeme) : Type 0 where
  apart : Apart rest
  near : most_tightness (look rest) ≤ level e + 1
  last : level e ≤ 1 → most_tightness (look rest) ≤ level e

ends_behind : (e : Expression) (rest : List Lexeme) → Ends rest → Behind e rest
ends_behind e rest ends =
    let zero_tight : most_tightness (look rest) ≡ 0 = ap (tightness_of any) ends.infix_none in
    record { apart = ends.apart; near = omega arith; last = λ small. omega arith }

-- What is read one level lower.

record IsComplete (d : ℕ) : Type 0 where
  expr : (least : ℕ) (e : Expression) (rest : List Lexeme) → Fits e → least ≤ level e → height e ≤ d → Behind e rest → most_tightness (look rest) ≤ least
      → (below d).at_least least (spell e ++ rest) ≡ ok e rest
  placed : (p : Place) (rest : List Lexeme) → FitsPlace p → height_place p ≤ d → is_sign Sign.BracketOpen rest ≡ false → (below d).place (spell_place p ++ rest) ≡ ok p rest

abbrev CompleteBelow : ℕ → Type 0
CompleteBelow d = 1 ≤ d → IsComplete d

-- passes over a token
over_low : {A : Type 0} (d high : ℕ) (more : Reader A) (ts : List Lexeme) → high ≤ d → over d high more ts ≡ more (tail ts)
over_low d high more ts le = ap (λ b. cond b (too_high ts) (more (tail ts))) (le-ltb d high le)

module _ (d : ℕ) (ih : CompleteBelow d) where
  -- any expression before what ends it
  inside : 1 ≤ d → (e : Expression) (rest : List Lexeme) → Fits e → height e ≤ d → Ends rest → (below d).at_least 0 (spell e ++ rest) ≡ ok e rest
  inside one e rest fits low ends = (ih one).expr 0 e rest fits (omega arith) low (ends_behind e rest ends)
      (omega (arith, ap (tightness_of any) ends.infix_none))

  -- Places.

  reads_single : (name : Name) (rest : List Lexeme) → is_sign Sign.BracketOpen rest ≡ false → place_behind d (below d) name rest ≡ ok (single name) rest
  reads_single name rest no_index = rw no_index refl

  abbrev IndexRest : Expression → List Lexeme → List Lexeme
  IndexRest index rest = sign Sign.BracketOpen ∷ ((spell index ++ sign Sign.BracketClose ∷ []) ++ rest)

  reads_element : (name : Name) (index : Expression) (rest : List Lexeme) → Fits index → max 1 (height index) ≤ d → place_behind d (below d) name (IndexRest index rest) ≡ ok (element name index) rest
  reads_element name index rest fits low =
      over_low d 1 (λ rest. and_then ((below d).at_least 0 rest) (λ index. ended_by Sign.BracketClose (element name index))) (IndexRest index rest) (omega arith)
      ∙ ap (λ l. and_then ((below d).at_least 0 l) (λ index. ended_by Sign.BracketClose (element name index))) (append_assoc (spell index) (sign Sign.BracketClose ∷ []) rest)
      ∙ ap (λ r. and_then r (λ index. ended_by Sign.BracketClose (element name index))) (inside (omega arith) index (sign Sign.BracketClose ∷ rest) fits (omega arith) (ends_bracket rest))

  reads_place : (p : Place) (rest : List Lexeme) → FitsPlace p → height_place p ≤ d + 1 → is_sign Sign.BracketOpen rest ≡ false → place_at d (below d) (spell_place p ++ rest) ≡ ok p rest
  reads_place (single name) rest fits low no_index = reads_single name rest no_index
  reads_place (element name index) rest fits low no_index = reads_element name index rest fits (omega arith)

  -- Operands.

  reads_named : (p : Place) (rest : List Lexeme) → FitsPlace p → height_place p ≤ d + 1 → is_sign Sign.BracketOpen rest ≡ false → is_sign Sign.ParenOpen rest ≡ false
      → operand d (below d) (spell_place p ++ rest) ≡ stepped d (below d) p rest
  reads_named (single name) rest fits low no_index no_call =
      ap (λ b. cond b (over d 1 (arguments d (below d) name) rest) (and_then (place_behind d (below d) name rest) (stepped d (below d)))) no_call
      ∙ ap (λ r. and_then r (stepped d (below d))) (reads_single name rest no_index)
  reads_named (element name index) rest fits low no_index no_call = ap (λ r. and_then r (stepped d (below d))) (reads_element name index rest fits (omega arith))

  list_back : (arguments : Expressions) → (list : List Expression) × (expressions list ≡ arguments)
  list_back nil = ([], refl)
  list_back (cons e rest) = let l = list_back rest in (e ∷ l.0, ap (cons e) l.1)

  all_fit : (list : List Expression) → FitArguments (expressions list) → AllByRecursion Fits list
  all_fit [] fits = tt
  all_fit (e ∷ list) fits = (fits.0, all_fit list fits.1)

  reads_arguments : 1 ≤ d → (name : Name) (list : List Expression) (rest : List Lexeme) → FitArguments (expressions list) → height_arguments (expressions list) ≤ d
      → arguments d (below d) name ((spell_arguments (expressions list) ++ sign Sign.ParenClose ∷ []) ++ rest) ≡ ok (call name (expressions list)) rest
  reads_arguments one name [] rest fits low = refl
  reads_arguments one name (e ∷ list) rest fits low =
      let all = e ∷ list in
      let tokens = spell_list spell all ++ sign Sign.ParenClose ∷ rest in
      let more = λ (list : List Expression). ended_by Sign.ParenClose (call name (expressions list)) in
      let spelled : (spell_arguments (expressions all) ++ sign Sign.ParenClose ∷ []) ++ rest ≡ tokens = append_assoc (spell_arguments (expressions all)) (sign Sign.ParenClose ∷ []) rest ∙ ap (λ l. l ++ sign Sign.ParenClose ∷ rest) (spell_expressions all) in
      let begun : is_sign Sign.ParenClose tokens ≡ false =
      no_sign Sign.ParenClose tokens refl (ap (λ l. begins_expression (look l)) (append_assoc (spell e) (spell_more spell list) (sign Sign.ParenClose ∷ rest)) ∙ spell_begins e (spell_more spell list ++ sign Sign.ParenClose ∷ rest)) in
      ap (arguments d (below d) name) spelled
      ∙ ap (λ b. cond b (ok (call name nil) (tail tokens)) (and_then (list_of ((below d).at_least 0) tokens) more)) begun
      ∙ ap (λ r. and_then r more) (list_reads spell Fits height Ends d ((below d).at_least 0)
      (λ a rest f l n. inside one a rest f l n) ends_comma all (sign Sign.ParenClose ∷ rest) (fits.0, all_fit list fits.1) (omega (arith, height_expressions all)) (ends_paren rest) refl)

  reads_call : (name : Name) (given : Expressions) (rest : List Lexeme) → FitArguments given → max 1 (height_arguments given) ≤ d
      → operand d (below d) (spell (call name given) ++ rest) ≡ ok (call name given) rest
  reads_call name given rest fits low =
      let back = list_back given in
      over_low d 1 (arguments d (below d) name) (sign Sign.ParenOpen ∷ ((spell_arguments given ++ sign Sign.ParenClose ∷ []) ++ rest)) (omega arith)
      ∙ subst (λ given. FitArguments given → height_arguments given ≤ d → arguments d (below d) name ((spell_arguments given ++ sign Sign.ParenClose ∷ []) ++ rest) ≡ ok (call name given) rest) back.1
      (λ f l. reads_arguments (omega arith) name back.0 rest f l) fits (omega arith)

  -- what stands between operators
  reads_operand : (e : Expression) (rest : List Lexeme) → Fits e → 12 ≤ level e → height e ≤ d + 1 → Apart rest → operand d (below d) (spell e ++ rest) ≡ ok e rest
  reads_operand (number value) rest fits tightest low apart = refl
  reads_operand (at p) rest fits tightest low apart = reads_named p rest fits low apart.bracket apart.paren ∙ ap (λ o. stepped_by d (below d) o p rest) apart.step
  reads_operand (paren e) rest fits tightest low apart =
      over_low d 1 (λ rest. and_then ((below d).at_least 0 rest) (λ e. ended_by Sign.ParenClose (paren e))) (sign Sign.ParenOpen ∷ ((spell e ++ sign Sign.ParenClose ∷ []) ++ rest)) (omega (arith, height_pos e))
      ∙ ap (λ l. and_then ((below d).at_least 0 l) (λ e. ended_by Sign.ParenClose (paren e))) (append_assoc (spell e) (sign Sign.ParenClose ∷ []) rest)
      ∙ ap (λ r. and_then r (λ e. ended_by Sign.ParenClose (paren e))) (inside (omega (arith, height_pos e)) e (sign Sign.ParenClose ∷ rest) fits (omega arith) (ends_paren rest))
  reads_operand (call name given) rest fits tightest low apart = reads_call name given rest fits (omega arith)
  reads_operand (unary op line e) rest fits tightest low apart =
      ap (λ l. operand_by d (below d) l (sign_at (unary_sign op) line ∷ (spell e ++ rest))) (unary_lead op line)
      ∙ over_low d 1 (λ rest. and_then ((below d).at_least 12 rest) (λ e. ok (unary op line e))) (sign_at (unary_sign op) line ∷ (spell e ++ rest)) (omega (arith, height_pos e))
      ∙ ap (λ r. and_then r (λ e. ok (unary op line e))) ((ih (omega (arith, height_pos e))).expr 12 e rest fits.0 fits.1 (omega arith)
      (let fits_any = tightness_small any (look rest) in record { apart = apart; near = omega (arith, fits.1); last = λ small. absurd (omega (arith, fits.1)) }) (tightness_small any (look rest)))
  reads_operand (prefix op line p) rest fits tightest low apart =
      ap (λ l. operand_by d (below d) l (sign_at (step_sign op) line ∷ (spell_place p ++ rest))) (step_lead op line)
      ∙ over_low d 1 (λ rest. and_then ((below d).place rest) (λ p. ok (prefix op line p))) (sign_at (step_sign op) line ∷ (spell_place p ++ rest)) (omega (arith, height_place_pos p))
      ∙ ap (λ r. and_then r (λ p. ok (prefix op line p))) ((ih (omega (arith, height_place_pos p))).placed p rest fits (omega arith) apart.bracket)
  reads_operand (postfix p op line) rest fits tightest low apart =
      ap (operand d (below d)) (append_assoc (spell_place p) (sign_at (step_sign op) line ∷ []) rest)
      ∙ reads_named p (sign_at (step_sign op) line ∷ rest) fits (omega arith) refl refl
      ∙ ap (λ o. stepped_by d (below d) o p (sign_at (step_sign op) line ∷ rest)) (step_of_sign op line)
      ∙ over_low d (height_place p) (ok (postfix p op line)) (sign_at (step_sign op) line ∷ rest) (omega arith)
  reads_operand (binary a op line b) rest fits tightest low apart = absurd (omega (arith, tight op))
  reads_operand (choice test line a b) rest fits tightest low apart = absurd (omega arith)
  reads_operand (assign p op line e) rest fits tightest low apart = absurd (omega arith)

  -- The loop is at the expression, whatever comes behind it.

  abbrev IsAt : Expression → ℕ → List Lexeme → Type 0
  IsAt e least rest = at_least d (below d) least (spell e ++ rest) ≡ climb d (below d) d least e rest

  at_operand : (e : Expression) (least : ℕ) (rest : List Lexeme) → Fits e → 12 ≤ level e → height e ≤ d + 1 → Apart rest → IsAt e least rest
  at_operand e least rest fits tightest low apart = ap (λ r. and_then r (climb d (below d) d least)) (reads_operand e rest fits tightest low apart)

  -- a turn
  turned : (left c : Expression) (i : Infix) (line least : ℕ) (ts rest : List Lexeme) → height left ≤ d → least < infix_tightness left i → operation d (below d) (Some (i, line)) left ts ≡ ok c rest
      → climb d (below d) d least left (sign_at (infix_sign i) line ∷ ts) ≡ climb d (below d) d least c rest
  turned left c i line least ts rest low binds one =
      climb_turns d (below d) least left i line (sign_at (infix_sign i) line ∷ ts) (infix_of_sign i line) (omega (arith, ap (tightness_of left) (infix_of_sign i line)))
      ∙ over_low d (height left) (λ rest. and_then (operation d (below d) (Some (i, line)) left rest) (climb d (below d) d least)) (sign_at (infix_sign i) line ∷ ts) low
      ∙ ap (λ r. and_then r (climb d (below d) d least)) one

  -- before an operator
  before : (left : Expression) (i : Infix) (line : ℕ) (ts : List Lexeme) → 2 ≤ level left → infix_tightness any i ≤ level left + 1 → Behind left (sign_at (infix_sign i) line ∷ ts)
  before left i line ts tight near =
      let is_tight : most_tightness (Some (sign_at (infix_sign i) line)) ≡ infix_tightness any i = ap (tightness_of any) (infix_of_sign i line) in
      record { apart = apart_infix i line ts; near = omega arith; last = λ small. absurd (omega arith) }

  is_at : (e : Expression) (least : ℕ) (rest : List Lexeme) → Fits e → least ≤ level e → height e ≤ d + 1 → Behind e rest → IsAt e least rest
  is_at (binary a op line b) least rest fits le low behind =
      ap (at_least d (below d) least) (append_assoc (spell a) (sign_at (binary_sign op) line ∷ spell b) rest)
      ∙ is_at a least (sign_at (binary_sign op) line ∷ (spell b ++ rest)) fits.0 (omega (arith, fits.1)) (omega arith) (before a (Infix.Binary op) line (spell b ++ rest) (omega (arith, fits.1, loose op)) (omega (arith, fits.1)))
      ∙ turned a (binary a op line b) (Infix.Binary op) line least (spell b ++ rest) rest (omega arith) (omega arith)
      (ap (λ r. and_then r (λ right. ok (binary a op line right))) ((ih (omega (arith, height_pos a))).expr (binary_level op + 1) b rest fits.2 fits.3 (omega arith)
      (record { apart = behind.apart; near = omega (arith, behind.near, fits.3); last = λ small. absurd (omega (arith, loose op, fits.3)) }) (omega (arith, behind.near))))
  is_at (choice test line a b) least rest fits le low behind =
      let tokens = sign_at Sign.Question line ∷ (spell a ++ sign Sign.Colon ∷ spell b) in
      let one : 1 ≤ d = omega (arith, height_pos test) in
      let most : most_tightness (look rest) ≤ 1 = behind.last (omega arith) in
      ap (at_least d (below d) least) (append_assoc (spell test) tokens rest)
      ∙ is_at test least (tokens ++ rest) fits.0 (omega (arith, fits.1)) (omega arith) (before test Infix.Question line ((spell a ++ sign Sign.Colon ∷ spell b) ++ rest) fits.1 (omega (arith, fits.1)))
      ∙ turned test (choice test line a b) Infix.Question line least ((spell a ++ sign Sign.Colon ∷ spell b) ++ rest) rest (omega arith) (omega arith)
      (ap (λ l. operation d (below d) (Some (Infix.Question, line)) test l) (append_assoc (spell a) (sign Sign.Colon ∷ spell b) rest)
      ∙ ap (λ r. and_then r (λ a. after_sign Sign.Colon (λ rest. and_then ((below d).at_least 1 rest) (λ b. ok (choice test line a b))))) (inside one a (sign Sign.Colon ∷ (spell b ++ rest)) fits.2 (omega arith) (ends_colon (spell b ++ rest)))
      ∙ ap (λ r. and_then r (λ b. ok (choice test line a b))) ((ih one).expr 1 b rest fits.3 fits.4 (omega arith)
      (record { apart = behind.apart; near = omega (arith, fits.4); last = λ small. omega (arith, fits.4) }) most))
  is_at (assign p op line e) least rest fits le low behind =
      let none : most_tightness (look rest) ≤ 0 = behind.last (omega arith) in
      ap (at_least d (below d) least) (append_assoc (spell_place p) (sign_at (assign_sign op) line ∷ spell e) rest)
      ∙ at_operand (at p) least (sign_at (assign_sign op) line ∷ (spell e ++ rest)) fits.0 (omega arith) (omega arith) (apart_infix (Infix.Assign op) line (spell e ++ rest))
      ∙ turned (at p) (assign p op line e) (Infix.Assign op) line least (spell e ++ rest) rest (omega arith) (omega arith)
      (ap (λ r. and_then r (λ e. ok (assign p op line e))) ((ih (omega (arith, height_place_pos p))).expr 0 e rest fits.1 (omega arith) (omega arith)
      (record { apart = behind.apart; near = omega arith; last = λ small. omega arith }) none))
  is_at (number value) least rest fits le low behind = at_operand (number value) least rest fits (omega arith) low behind.apart
  is_at (at p) least rest fits le low behind = at_operand (at p) least rest fits (omega arith) low behind.apart
  is_at (paren e) least rest fits le low behind = at_operand (paren e) least rest fits (omega arith) low behind.apart
  is_at (call name given) least rest fits le low behind = at_operand (call name given) least rest fits (omega arith) low behind.apart
  is_at (unary op line e) least rest fits le low behind = at_operand (unary op line e) least rest fits (omega arith) low behind.apart
  is_at (prefix op line p) least rest fits le low behind = at_operand (prefix op line p) least rest fits (omega arith) low behind.apart
  is_at (postfix p op line) least rest fits le low behind = at_operand (postfix p op line) least rest fits (omega arith) low behind.apart

  reads_at : (least : ℕ) (e : Expression) (rest : List Lexeme) → Fits e → least ≤ level e → height e ≤ d + 1 → Behind e rest → most_tightness (look rest) ≤ least
      → at_least d (below d) least (spell e ++ rest) ≡ ok e rest
  reads_at least e rest fits le low behind stops =
      is_at e least rest fits le low behind
      ∙ climb_stops d (below d) d least e rest (omega (arith, tightness_most (single (record { text = []; line = 0 })) e (look rest)))

complete_level : (d : ℕ) → CompleteBelow d
complete_level zero one = absurd (omega arith)
complete_level (suc d) one = record {
  expr = λ least e rest fits le low behind stops. reads_at d (complete_level d) least e rest fits le (omega arith) behind stops;
  placed = λ p rest fits low no_index. reads_place d (complete_level d) p rest fits (omega arith) no_index;
}

-- an expression before what ends it
pub expression_reads : (d : ℕ) (e : Expression) (rest : List Lexeme) → Fits e → height e ≤ d → Ends rest → expression d (spell e ++ rest) ≡ ok e rest
expression_reads d e rest fits low ends = inside d (complete_level d) (omega (arith, height_pos e)) e rest fits low ends

-- a place before what is no index
pub place_reads : (d : ℕ) (p : Place) (rest : List Lexeme) → FitsPlace p → height_place p ≤ d → is_sign Sign.BracketOpen rest ≡ false → place d (spell_place p ++ rest) ≡ ok p rest
place_reads d p rest fits low no_index = (complete_level d (omega (arith, height_place_pos p))).placed p rest fits low no_index

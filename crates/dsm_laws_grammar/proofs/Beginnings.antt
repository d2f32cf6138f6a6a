-- With which tokens expressions begin.
use Rattle.std.proofs.Common.{◌≡◌, ◌≤◌, pos, Bool, true, false, List, [], ◌∷◌, ◌++◌, length, Option, Some, None, refl, sym, ap, ◌∙◌, arith}
use Rattle.dsm_syntax.specs.declared.sign.Sign.{Sign}
use Rattle.dsm_syntax.specs.declared.word.Word.{Word}
use Rattle.dsm_syntax.specs.declared.tree.Name.{Name}
use Rattle.dsm_syntax.specs.Tree.{Place, single, element, Expression, number, at, paren, call, unary, prefix, postfix, binary, choice, assign}
use Rattle.dsm_syntax.specs.declared.operator.Lead.{Lead}
use Rattle.dsm_syntax.specs.Lexemes.{Lexeme, named, numeral, quoted, word, sign, word_at, sign_at}
use Rattle.dsm_syntax.specs.Operators.{unary_sign, step_sign, binary_sign, assign_sign}
use Rattle.dsm_laws_grammar.specs.Grammar.{spell_place, spell, Fits}
use Rattle.dsm_syntax.specs.Reading.{unexpected, too_high, look, tail, is_sign, is_word}
use Rattle.dsm_syntax.specs.Tokens.{is_name, is_string, plain_word, placed_word}
use Rattle.dsm_syntax.specs.Roles.{lead, is_lead, begins_expression}
use Rattle.dsm_laws_grammar.specs.Expressions.{expression, place, none_fits}
use Rattle.dsm_laws_grammar.proofs.Fronts.{of_sign, of_word}
use Rattle.dsm_laws_grammar.proofs.Tables.{unary_lead, step_lead, Led, led}

-- a token that can begin an expression, and what comes behind it
pub record Starts (w : List Lexeme) : Type 0 where
  pub token : Lexeme
  pub more : List Lexeme
  pub is : w ≡ token ∷ more
  pub begins : begins_expression (Some token) ≡ true

-- what begins so
starts_on : (u v : List Lexeme) → Starts u → Starts (u ++ v)
starts_on u v s = record { token = s.token; more = s.more ++ v; is = ap (λ l. l ++ v) s.is; begins = s.begins }

place_starts : (p : Place) → Starts (spell_place p)
place_starts (single name) = record { token = named name; more = []; is = refl; begins = refl }
place_starts (element name index) = record { token = named name; more = sign Sign.BracketOpen ∷ (spell index ++ sign Sign.BracketClose ∷ []); is = refl; begins = refl }

-- each expression does
pub expression_starts : (e : Expression) → Starts (spell e)
expression_starts (number value) = record { token = numeral value; more = []; is = refl; begins = refl }
expression_starts (at p) = place_starts p
expression_starts (paren e) = record { token = sign Sign.ParenOpen; more = spell e ++ sign Sign.ParenClose ∷ []; is = refl; begins = refl }
expression_starts (call name arguments) = record { token = named name; more = tail (spell (call name arguments)); is = refl; begins = refl }
expression_starts (unary op line e) = record { token = sign_at (unary_sign op) line; more = spell e; is = refl; begins = ap is_lead (unary_lead op line) }
expression_starts (prefix op line p) = record { token = sign_at (step_sign op) line; more = spell_place p; is = refl; begins = ap is_lead (step_lead op line) }
expression_starts (postfix p op line) = starts_on (spell_place p) (sign_at (step_sign op) line ∷ []) (place_starts p)
expression_starts (binary a op line b) = starts_on (spell a) (sign_at (binary_sign op) line ∷ spell b) (expression_starts a)
expression_starts (choice test line a b) = starts_on (spell test) (sign_at Sign.Question line ∷ (spell a ++ sign Sign.Colon ∷ spell b)) (expression_starts test)
expression_starts (assign p op line e) = starts_on (spell_place p) (sign_at (assign_sign op) line ∷ spell e) (place_starts p)

pub spell_begins : (e : Expression) (rest : List Lexeme) → begins_expression (look (spell e ++ rest)) ≡ true
spell_begins e rest = let s = expression_starts e in ap (λ l. begins_expression (look (l ++ rest))) s.is ∙ s.begins

pub spell_long : (e : Expression) → 1 ≤ length (spell e)
spell_long e = let s = expression_starts e in omega (arith, ap length s.is)

-- and some expression with each such token
pub record BeginsWith (x : Lexeme) : Type 0 where
  pub value : Expression
  pub more : List Lexeme
  pub is : spell value ≡ x ∷ more
  pub fits : Fits value

pub begun_with : (x : Lexeme) → begins_expression (Some x) ≡ true → BeginsWith x
begun_with x begins = of (lead (Some x)) refl (led (Some x))
  where
    name_of_none : Name
    name_of_none = record { text = []; line = 0 }

    of : (l : Lead) → lead (Some x) ≡ l → Led l (Some x) → BeginsWith x
    of (Lead.Number value) e next = let same : x ≡ numeral value = cc in record { value = number value; more = []; is = ap (λ y. y ∷ []) (sym same); fits = tt }
    of Lead.Name e next = let is = next.1 in let same : x ≡ named next.0 = cc in record { value = at (single next.0); more = []; is = ap (λ y. y ∷ []) (sym same); fits = tt }
    of Lead.Paren e next =
        let same : x ≡ sign Sign.ParenOpen = cc in
        record { value = paren (number (pos 0)); more = numeral (pos 0) ∷ sign Sign.ParenClose ∷ []; is = ap (λ y. y ∷ numeral (pos 0) ∷ sign Sign.ParenClose ∷ []) (sym same); fits = tt }
    of (Lead.Unary op line) e next =
        let same : x ≡ sign_at (unary_sign op) line = cc in
        record { value = unary op line (number (pos 0)); more = numeral (pos 0) ∷ []; is = ap (λ y. y ∷ numeral (pos 0) ∷ []) (sym same); fits = (tt, omega arith) }
    of (Lead.Step op line) e next =
        let same : x ≡ sign_at (step_sign op) line = cc in
        record { value = prefix op line (single name_of_none); more = named name_of_none ∷ []; is = ap (λ y. y ∷ named name_of_none ∷ []) (sym same); fits = tt }
    of Lead.Nothing e next = absurd (let no_lead : is_lead (lead (Some x)) ≡ false = ap is_lead e in cc)

-- Other tokens.

pub no_sign : (s : Sign) (ts : List Lexeme) → begins_expression (Some (sign s)) ≡ false → begins_expression (look ts) ≡ true → is_sign s ts ≡ false
no_sign s ts never begins = of (is_sign s ts) refl
  where
    of : (b : Bool) → is_sign s ts ≡ b → b ≡ false
    of true e = let other : begins_expression (look ts) ≡ false = ap (λ l. begins_expression (look l)) (of_sign s ts e) ∙ never in absurd cc
    of false e = refl

pub no_word : (w : Word) (ts : List Lexeme) → begins_expression (look ts) ≡ true → is_word w ts ≡ false
no_word w ts begins = of (is_word w ts) refl
  where
    of : (b : Bool) → is_word w ts ≡ b → b ≡ false
    of true e = let other : begins_expression (look ts) ≡ false = ap (λ l. begins_expression (look l)) (of_word w ts e) in absurd cc
    of false e = refl

pub no_plain_word : (next : Option Lexeme) → begins_expression next ≡ true → plain_word next ≡ None
no_plain_word (Some (word w)) begins = absurd cc
no_plain_word None begins = refl
no_plain_word (Some _) begins = refl

pub no_placed_word : (next : Option Lexeme) → begins_expression next ≡ true → placed_word next ≡ None
no_placed_word (Some (word_at w line)) begins = absurd cc
no_placed_word None begins = refl
no_placed_word (Some _) begins = refl

pub no_string : (next : Option Lexeme) → begins_expression next ≡ true → is_string next ≡ false
no_string (Some (quoted held)) begins = absurd cc
no_string None begins = refl
no_string (Some _) begins = refl

-- with no level left none is read
pub expression_none : (ts : List Lexeme) → begins_expression (look ts) ≡ false → expression 0 ts ≡ unexpected ts
expression_none ts e = ap (λ b. none_fits {A = Expression} b ts) e

pub expression_high : (ts : List Lexeme) → begins_expression (look ts) ≡ true → expression 0 ts ≡ too_high ts
expression_high ts e = ap (λ b. none_fits {A = Expression} b ts) e

pub place_none : (ts : List Lexeme) → is_name (look ts) ≡ false → place 0 ts ≡ unexpected ts
place_none ts e = ap (λ b. none_fits {A = Place} b ts) e

pub place_high : (ts : List Lexeme) → is_name (look ts) ≡ true → place 0 ts ≡ too_high ts
place_high ts e = ap (λ b. none_fits {A = Place} b ts) e

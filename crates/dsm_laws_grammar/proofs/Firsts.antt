-- What a statement is, by its first token.
use Rattle.std.proofs.Common.{◌≡◌, ◌≤◌, ◌⊎◌, inl, inr, ℕ, zero, suc, pos, Bool, true, false, List, [], ◌∷◌, ◌++◌, length, length-append, Option, Some, None, refl, sym, ap, ◌∙◌, arith}
use Rattle.dsm_syntax.specs.declared.sign.Sign.{Sign}
use Rattle.dsm_syntax.specs.declared.word.Word.{Word}
use Rattle.dsm_syntax.specs.declared.tree.Name.{Name}
use Rattle.dsm_syntax.specs.Tree.{single, Expression, number, start_nothing, Statement}
use Rattle.dsm_syntax.specs.Tree as t
use Rattle.dsm_syntax.specs.declared.kind.StatementKind.{StatementKind}
use Rattle.dsm_syntax.specs.Lexemes.{Lexeme, named, numeral, quoted, word, sign, word_at}
use Rattle.dsm_laws_grammar.specs.Grammar.{spell, spell_statement, FitsStatement, ends_open}
use Rattle.dsm_syntax.specs.Heights.{height_statement}
use Rattle.dsm_syntax.specs.Reading.{unexpected, too_high, and_then, look, is_word, ended_by}
use Rattle.dsm_syntax.specs.Roles.{begins_expression}
use Rattle.dsm_syntax.specs.Kinds.{kind}
use Rattle.dsm_laws_grammar.specs.Statements.{no_statement, statement_by, statement}
use Rattle.dsm_laws_grammar.proofs.Good.{Language, Follow, Spelled}
use Rattle.dsm_laws_grammar.proofs.Beginnings.{begun_with, expression_high, spell_long}
use Rattle.dsm_laws_grammar.proofs.Values.{expression_refused}

-- Words.

abbrev pub StatementOf : Language Statement
StatementOf = Spelled spell_statement FitsStatement height_statement

-- no `else` comes next that would belong to it
abbrev pub NoElse : Follow Statement
NoElse s next = ends_open s ≡ true → (r : List Lexeme) → look r ≡ next → is_word Word.Else r ≡ false

-- The token that a kind has first, where it has only one.
abbrev pub Kinded : StatementKind → Option Lexeme → Type 0
Kinded StatementKind.Block next = next ≡ Some (sign Sign.BraceOpen)
Kinded StatementKind.Empty next = next ≡ Some (sign Sign.Semicolon)
Kinded StatementKind.Variables next = next ≡ Some (word Word.Int)
Kinded StatementKind.If next = next ≡ Some (word Word.If)
Kinded StatementKind.While next = next ≡ Some (word Word.While)
Kinded StatementKind.For next = next ≡ Some (word Word.For)
Kinded (StatementKind.Break line) next = next ≡ Some (word_at Word.Break line)
Kinded (StatementKind.Continue line) next = next ≡ Some (word_at Word.Continue line)
Kinded (StatementKind.Return line) next = next ≡ Some (word_at Word.Return line)
Kinded StatementKind.Acquire next = next ≡ Some (word Word.Acquire)
Kinded StatementKind.AcquireShared next = next ≡ Some (word Word.AcquireShared)
Kinded StatementKind.Release next = next ≡ Some (word Word.Release)
Kinded StatementKind.Barrier next = next ≡ Some (word Word.Barrier)
Kinded StatementKind.Print next = next ≡ Some (word Word.Print)
Kinded StatementKind.Expression next = Unit {0}

pub kinded : (next : Option Lexeme) → Kinded (kind next) next
kinded None = tt
kinded (Some (word Word.Int)) = refl
kinded (Some (word Word.If)) = refl
kinded (Some (word Word.While)) = refl
kinded (Some (word Word.For)) = refl
kinded (Some (word Word.Acquire)) = refl
kinded (Some (word Word.AcquireShared)) = refl
kinded (Some (word Word.Release)) = refl
kinded (Some (word Word.Barrier)) = refl
kinded (Some (word Word.Print)) = refl
kinded (Some (word _)) = tt
kinded (Some (word_at Word.Break line)) = refl
kinded (Some (word_at Word.Continue line)) = refl
kinded (Some (word_at Word.Return line)) = refl
kinded (Some (word_at _ line)) = tt
kinded (Some (sign Sign.BraceOpen)) = refl
kinded (Some (sign Sign.Semicolon)) = refl
kinded (Some (sign _)) = tt
kinded (Some _) = tt

-- what begins an expression begins no other statement
pub no_kind : (next : Option Lexeme) → begins_expression next ≡ true → kind next ≡ StatementKind.Expression
no_kind None e = refl
no_kind (Some (word w)) e = absurd cc
no_kind (Some (word_at w line)) e = absurd cc
no_kind (Some (sign Sign.BraceOpen)) e = absurd cc
no_kind (Some (sign Sign.Semicolon)) e = absurd cc
no_kind (Some (sign _)) e = refl
no_kind (Some _) e = refl

-- Some statement with a token first.

pub record StartsWith (x : Lexeme) : Type 0 where
  pub value : Statement
  pub more : List Lexeme
  pub is : spell_statement value ≡ x ∷ more
  pub fits : FitsStatement value

abbrev nameless : Name
nameless = record { text = []; line = 0 }

abbrev zero_test : List Lexeme
zero_test = sign Sign.ParenOpen ∷ numeral (pos 0) ∷ sign Sign.ParenClose ∷ sign Sign.Semicolon ∷ []

abbrev nameless_lock : List Lexeme
nameless_lock = sign Sign.ParenOpen ∷ named nameless ∷ sign Sign.ParenClose ∷ sign Sign.Semicolon ∷ []

-- of each kind that is no expression
abbrev pub Example : StatementKind → Type 0
Example StatementKind.Block = StartsWith (sign Sign.BraceOpen)
Example StatementKind.Empty = StartsWith (sign Sign.Semicolon)
Example StatementKind.Variables = StartsWith (word Word.Int)
Example StatementKind.If = StartsWith (word Word.If)
Example StatementKind.While = StartsWith (word Word.While)
Example StatementKind.For = StartsWith (word Word.For)
Example (StatementKind.Break line) = StartsWith (word_at Word.Break line)
Example (StatementKind.Continue line) = StartsWith (word_at Word.Continue line)
Example (StatementKind.Return line) = StartsWith (word_at Word.Return line)
Example StatementKind.Acquire = StartsWith (word Word.Acquire)
Example StatementKind.AcquireShared = StartsWith (word Word.AcquireShared)
Example StatementKind.Release = StartsWith (word Word.Release)
Example StatementKind.Barrier = StartsWith (word Word.Barrier)
Example StatementKind.Print = StartsWith (word Word.Print)
Example StatementKind.Expression = Unit {0}

pub example : (k : StatementKind) → Example k
example StatementKind.Block = record { value = t.block t.none; more = sign Sign.BraceClose ∷ []; is = refl; fits = tt }
example StatementKind.Empty = record { value = t.empty; more = []; is = refl; fits = tt }
example StatementKind.Variables =
    record { value = t.variables (record { name = nameless; initial = None } ∷ []); more = named nameless ∷ sign Sign.Semicolon ∷ []; is = refl; fits = (tt, tt) }
example StatementKind.If = record { value = t.when (number (pos 0)) t.empty; more = zero_test; is = refl; fits = (tt, tt) }
example StatementKind.While = record { value = t.while (number (pos 0)) t.empty; more = zero_test; is = refl; fits = (tt, tt) }
example StatementKind.For = record {
  value = t.for start_nothing None None t.empty;
  more = sign Sign.ParenOpen ∷ sign Sign.Semicolon ∷ sign Sign.Semicolon ∷ sign Sign.ParenClose ∷ sign Sign.Semicolon ∷ [];
  is = refl;
  fits = (tt, tt, tt, tt);
}
example (StatementKind.Break line) = record { value = t.break line; more = sign Sign.Semicolon ∷ []; is = refl; fits = tt }
example (StatementKind.Continue line) = record { value = t.continue line; more = sign Sign.Semicolon ∷ []; is = refl; fits = tt }
example (StatementKind.Return line) = record { value = t.return line None; more = sign Sign.Semicolon ∷ []; is = refl; fits = tt }
example StatementKind.Acquire = record { value = t.acquire (single nameless); more = nameless_lock; is = refl; fits = tt }
example StatementKind.AcquireShared = record { value = t.acquire_shared (single nameless); more = nameless_lock; is = refl; fits = tt }
example StatementKind.Release = record { value = t.release (single nameless); more = nameless_lock; is = refl; fits = tt }
example StatementKind.Barrier = record { value = t.barrier nameless; more = nameless_lock; is = refl; fits = tt }
example StatementKind.Print = record {
  value = t.print (t.part_text [] ∷ []);
  more = sign Sign.ParenOpen ∷ quoted [] ∷ sign Sign.ParenClose ∷ sign Sign.Semicolon ∷ [];
  is = refl;
  fits = (tt, tt);
}
example StatementKind.Expression = tt

expression_example : (x : Lexeme) → begins_expression (Some x) ≡ true → StartsWith x
expression_example x e =
    let b = begun_with x e in
    record { value = t.expression b.value; more = b.more ++ sign Sign.Semicolon ∷ []; is = ap (λ l. l ++ sign Sign.Semicolon ∷ []) b.is; fits = b.fits }

-- Each statement takes a token.

pub statement_long : (s : Statement) → 1 ≤ length (spell_statement s)
statement_long (t.expression e) = omega (arith, length-append (spell e) (sign Sign.Semicolon ∷ []), spell_long e)
statement_long (t.block body) = omega arith
statement_long t.empty = omega arith
statement_long (t.variables all) = omega arith
statement_long (t.when test body) = omega arith
statement_long (t.either test body other) = omega arith
statement_long (t.while test body) = omega arith
statement_long (t.for start test step body) = omega arith
statement_long (t.break line) = omega arith
statement_long (t.continue line) = omega arith
statement_long (t.return line value) = omega arith
statement_long (t.acquire place) = omega arith
statement_long (t.acquire_shared place) = omega arith
statement_long (t.release place) = omega arith
statement_long (t.barrier name) = omega arith
statement_long (t.print parts) = omega arith

pub height_statement_pos : (s : Statement) → 1 ≤ height_statement s
height_statement_pos (t.block body) = omega arith
height_statement_pos t.empty = omega arith
height_statement_pos (t.variables all) = omega arith
height_statement_pos (t.expression e) = omega arith
height_statement_pos (t.when test body) = omega arith
height_statement_pos (t.either test body other) = omega arith
height_statement_pos (t.while test body) = omega arith
height_statement_pos (t.for start test step body) = omega arith
height_statement_pos (t.break line) = omega arith
height_statement_pos (t.continue line) = omega arith
height_statement_pos (t.return line value) = omega arith
height_statement_pos (t.acquire place) = omega arith
height_statement_pos (t.acquire_shared place) = omega arith
height_statement_pos (t.release place) = omega arith
height_statement_pos (t.barrier name) = omega arith
height_statement_pos (t.print parts) = omega arith

-- With no level.

-- too high where some statement begins so
pub record High (ts : List Lexeme) : Type 0 where
  pub token : Lexeme
  pub next_is : look ts ≡ Some token
  pub some : StartsWith token
  pub high : (r : List Lexeme) → look r ≡ look ts → statement 0 r ≡ too_high r

-- and else refused at each height
abbrev pub Refused : List Lexeme → Type 0
Refused ts = (m : ℕ) (r : List Lexeme) → look r ≡ look ts → statement m r ≡ unexpected r

pub at_zero : (ts : List Lexeme) → High ts ⊎ Refused ts
at_zero ts = of (kind (look ts)) refl (kinded (look ts)) (example (kind (look ts)))
  where
    plain : (k : StatementKind) → kind (look ts) ≡ k → ((r : List Lexeme) → no_statement k r ≡ too_high r) → (x : Lexeme) → look ts ≡ Some x → StartsWith x → High ts
    plain k e high x at s = record { token = x; next_is = at; some = s; high = λ r lk. ap (λ n. no_statement (kind n) r) lk ∙ ap (λ k. no_statement k r) e ∙ high r }

    refused : (b : Bool) → begins_expression (look ts) ≡ b → kind (look ts) ≡ StatementKind.Expression → High ts ⊎ Refused ts
    refused true b e = inl (next (look ts) refl)
      where
        next : (o : Option Lexeme) → look ts ≡ o → High ts
        next None at = absurd (let no : begins_expression (look ts) ≡ false = ap begins_expression at in cc)
        next (Some x) at = record {
          token = x;
          next_is = at;
          some = expression_example x (ap begins_expression (sym at) ∙ b);
          high = λ r lk. ap (λ n. no_statement (kind n) r) lk ∙ ap (λ k. no_statement k r) e
              ∙ ap (λ x. and_then x (λ e. ended_by Sign.Semicolon (t.expression e))) (expression_high r (ap begins_expression lk ∙ b));
        }
    refused false b e = inr never
      where
        never : (m : ℕ) (r : List Lexeme) → look r ≡ look ts → statement m r ≡ unexpected r
        never zero r lk = ap (λ n. no_statement (kind n) r) lk ∙ ap (λ k. no_statement k r) e
            ∙ ap (λ x. and_then x (λ e. ended_by Sign.Semicolon (t.expression e))) (expression_refused 0 r (ap begins_expression lk ∙ b))
        never (suc m) r lk = ap (λ n. statement_by m (statement m) (kind n) r) lk ∙ ap (λ k. statement_by m (statement m) k r) e
            ∙ ap (λ x. and_then x (λ e. ended_by Sign.Semicolon (t.expression e))) (expression_refused m r (ap begins_expression lk ∙ b))

    of : (k : StatementKind) → kind (look ts) ≡ k → Kinded k (look ts) → Example k → High ts ⊎ Refused ts
    of StatementKind.Expression e at s = refused (begins_expression (look ts)) refl e
    of StatementKind.Block e at s = inl (plain StatementKind.Block e (λ r. refl) _ at s)
    of StatementKind.Empty e at s = inl (plain StatementKind.Empty e (λ r. refl) _ at s)
    of StatementKind.Variables e at s = inl (plain StatementKind.Variables e (λ r. refl) _ at s)
    of StatementKind.If e at s = inl (plain StatementKind.If e (λ r. refl) _ at s)
    of StatementKind.While e at s = inl (plain StatementKind.While e (λ r. refl) _ at s)
    of StatementKind.For e at s = inl (plain StatementKind.For e (λ r. refl) _ at s)
    of (StatementKind.Break line) e at s = inl (plain (StatementKind.Break line) e (λ r. refl) _ at s)
    of (StatementKind.Continue line) e at s = inl (plain (StatementKind.Continue line) e (λ r. refl) _ at s)
    of (StatementKind.Return line) e at s = inl (plain (StatementKind.Return line) e (λ r. refl) _ at s)
    of StatementKind.Acquire e at s = inl (plain StatementKind.Acquire e (λ r. refl) _ at s)
    of StatementKind.AcquireShared e at s = inl (plain StatementKind.AcquireShared e (λ r. refl) _ at s)
    of StatementKind.Release e at s = inl (plain StatementKind.Release e (λ r. refl) _ at s)
    of StatementKind.Barrier e at s = inl (plain StatementKind.Barrier e (λ r. refl) _ at s)
    of StatementKind.Print e at s = inl (plain StatementKind.Print e (λ r. refl) _ at s)

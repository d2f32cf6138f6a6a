-- What stands in parentheses in a statement.
use Rattle.std.proofs.Common.{◌≡◌, ◌≤◌, ℕ, max, true, false, cond, List, [], ◌∷◌, ◌++◌, Option, Some, None, IfSome, refl, sym, ap, ◌∙◌, arith, append_assoc}
use Rattle.std.proofs.lemmas.List.{append-nil}
use Rattle.dsm_syntax.specs.declared.sign.Sign.{Sign}
use Rattle.dsm_syntax.specs.declared.word.Word.{Word}
use Rattle.dsm_syntax.specs.Tree.{Expression, ForStart, start_nothing, start_variables, start_expression, Part, part_text, part_value}
use Rattle.dsm_syntax.specs.Lexemes.{Lexeme, quoted, sign}
use Rattle.dsm_laws_grammar.specs.Grammar.{spell, spell_option, spell_start, spell_test, spell_part, spell_list, Fits, FitsStart, FitsPart, Listed}
use Rattle.dsm_syntax.specs.Heights.{height, highest, height_option, height_start, height_part}
use Rattle.dsm_syntax.specs.Reading.{ok, Reader, and_then, look, is_sign, is_word, after_sign, ended_by, list_of}
use Rattle.dsm_syntax.specs.Tokens.{read_string, is_string}
use Rattle.dsm_syntax.specs.Roles.{begins_expression}
use Rattle.dsm_laws_grammar.specs.Expressions.{expression}
use Rattle.dsm_laws_grammar.specs.Statements.{unless_sign, variables, part, test, argument, start, Head, head}
use Rattle.dsm_laws_grammar.proofs.Fronts.{Looks, is_sign_look, is_word_look}
use Rattle.dsm_laws_grammar.proofs.Good.{Language, Follow, Free, Spelled, Good, good_ok, good_weaken, good_map, good_next, good_if, good_sign, good_end}
use Rattle.dsm_laws_grammar.proofs.Singles.{single_string, good_single}
use Rattle.dsm_laws_grammar.proofs.Lists.{list_reads}
use Rattle.dsm_laws_grammar.proofs.Expressions.{expression_good}
use Rattle.dsm_laws_grammar.proofs.Beginnings.{spell_begins, no_sign, no_word, no_string}
use Rattle.dsm_laws_grammar.proofs.Complete.{Ends, ends_paren, ends_semicolon, ends_comma, expression_reads}
use Rattle.dsm_laws_grammar.proofs.Values.{good_value, good_unless}
use Rattle.dsm_laws_grammar.proofs.Variables.{variables_good, variables_reads}

-- A condition.

abbrev pub TestOf : Language Expression
TestOf = Spelled spell_test Fits height

pub test_good : (d : ℕ) → 1 ≤ d → (ts : List Lexeme) → Good TestOf Free test d ts
test_good d one ts = good_sign Sign.ParenOpen (λ rest. good_next (expression_good d one rest)
    (λ m e le fits low. record { value = e; more = sign Sign.ParenClose ∷ []; is = record { is = refl; fits = fits; low = low } })
    (λ e rest at fits low next. good_end Sign.ParenClose e (record { is = refl; fits = fits; low = low }) (λ next. tt)))

pub test_reads : (d : ℕ) (e : Expression) (rest : List Lexeme) → Fits e → height e ≤ d → test d (spell_test e ++ rest) ≡ ok e rest
test_reads d e rest fits low =
    ap (λ l. and_then (expression d l) (ended_by Sign.ParenClose)) (append_assoc (spell e) (sign Sign.ParenClose ∷ []) rest)
    ∙ ap (λ x. and_then x (ended_by Sign.ParenClose)) (expression_reads d e (sign Sign.ParenClose ∷ rest) fits low (ends_paren rest))

-- What a statement is about, and a semicolon.

abbrev pub spell_argument : {A : Type 0} → (A → List Lexeme) → A → List Lexeme
spell_argument spell a = sign Sign.ParenOpen ∷ (spell a ++ sign Sign.ParenClose ∷ sign Sign.Semicolon ∷ [])

pub argument_good : {A : Type 0} {spell : A → List Lexeme} {Fits : A → Type 0} {height : A → ℕ} {F : Follow A} {one : ℕ → Reader A} {d : ℕ} →
    ((ts : List Lexeme) → Good (Spelled spell Fits height) F one d ts)
    → (ts : List Lexeme) → Good (Spelled (spell_argument spell) Fits height) Free (λ m. argument (one m)) d ts
argument_good good ts = good_sign Sign.ParenOpen (λ rest. good_next (good rest)
    (λ m a le fits low. record { value = a; more = sign Sign.ParenClose ∷ sign Sign.Semicolon ∷ []; is = record { is = refl; fits = fits; low = low } })
    (λ a rest at fits low next. good_sign Sign.ParenClose (λ rest. good_end Sign.Semicolon a (record { is = refl; fits = fits; low = low }) (λ next. tt))))

pub argument_reads : {A : Type 0} (spell : A → List Lexeme) (one : Reader A) (a : A) (rest : List Lexeme)
    → one (spell a ++ sign Sign.ParenClose ∷ sign Sign.Semicolon ∷ rest) ≡ ok a (sign Sign.ParenClose ∷ sign Sign.Semicolon ∷ rest)
    → argument one (spell_argument spell a ++ rest) ≡ ok a rest
argument_reads spell one a rest read =
    ap (λ l. and_then (one l) (λ a. after_sign Sign.ParenClose (ended_by Sign.Semicolon a))) (append_assoc (spell a) (sign Sign.ParenClose ∷ sign Sign.Semicolon ∷ []) rest)
    ∙ ap (λ x. and_then x (λ a. after_sign Sign.ParenClose (ended_by Sign.Semicolon a))) read

-- Parts of a print.

abbrev pub PartOf : Language Part
PartOf = Spelled spell_part FitsPart height_part

string_looks : Looks (λ ts. is_string (look ts))
string_looks r s lk = ap is_string lk

pub part_good : (d : ℕ) (ts : List Lexeme) → Good PartOf Free part d ts
part_good d ts = good_if (λ ts. is_string (look ts)) string_looks
    (λ e. good_single single_string (λ held rest. good_ok (part_text held) (record { is = refl; fits = tt; low = omega arith }) tt) ts)
    (λ e. good_value (record { value = part_text []; more = quoted [] ∷ []; is = record { is = refl; fits = tt; low = omega arith } })
    (λ m e le fits low. record { value = part_value e; more = []; is = record { is = sym (append-nil (spell e)); fits = fits; low = low } })
    (λ e rest fits low. good_ok (part_value e) (record { is = sym (append-nil (spell e)); fits = fits; low = low }) tt) ts)

pub part_reads : (d : ℕ) (p : Part) (rest : List Lexeme) → FitsPart p → height_part p ≤ d → Ends rest → part d (spell_part p ++ rest) ≡ ok p rest
part_reads d (part_text held) rest fits low ends = refl
part_reads d (part_value e) rest fits low ends =
    ap (λ b. cond b (and_then (read_string (spell e ++ rest)) (λ held. ok (part_text held))) (and_then (expression d (spell e ++ rest)) (λ e. ok (part_value e)))) (no_string (look (spell e ++ rest)) (spell_begins e rest))
    ∙ ap (λ x. and_then x (λ e. ok (part_value e))) (expression_reads d e rest fits low ends)

pub parts_reads : (d : ℕ) (all : List Part) (rest : List Lexeme) → Listed FitsPart all → highest height_part all ≤ d → list_of (part d) (spell_list spell_part all ++ sign Sign.ParenClose ∷ rest) ≡ ok all (sign Sign.ParenClose ∷ rest)
parts_reads d all rest fits low =
    list_reads spell_part FitsPart height_part Ends d (part d) (λ p rest f l e. part_reads d p rest f l e) ends_comma all (sign Sign.ParenClose ∷ rest) fits low (ends_paren rest) refl

-- A part that may be left out.

pub unless_reads : (s : Sign) → begins_expression (Some (sign s)) ≡ false → (d : ℕ) (o : Option Expression) (rest : List Lexeme) → IfSome o Fits → height_option height o ≤ d
    → is_sign s rest ≡ true → Ends rest → unless_sign s (expression d) (spell_option spell o ++ rest) ≡ ok o rest
unless_reads s never d None rest fits low is ends = ap (λ b. cond b (ok None rest) (and_then (expression d rest) (λ a. ok (Some a)))) is
unless_reads s never d (Some e) rest fits low is ends =
    let ts = spell e ++ rest in
    ap (λ b. cond b (ok None ts) (and_then (expression d ts) (λ a. ok (Some a)))) (no_sign s ts never (spell_begins e rest))
    ∙ ap (λ x. and_then x (λ a. ok (Some a))) (expression_reads d e rest fits low ends)

-- The head of a `for`.

abbrev pub StartOf : Language ForStart
StartOf = Spelled spell_start FitsStart height_start

start_good : (d : ℕ) → 1 ≤ d → (ts : List Lexeme) → Good StartOf Free start d ts
start_good d one ts = good_if (is_sign Sign.Semicolon) (is_sign_look Sign.Semicolon)
    (λ e. good_ok start_nothing (record { is = refl; fits = tt; low = omega arith }) tt)
    (λ e. good_if (is_word Word.Int) (is_word_look Word.Int)
    (λ e. good_map start_variables (good_weaken (λ m all w le h. record { is = h.is; fits = h.fits; low = h.low }) (λ all next f. tt) (variables_good d one ts)))
    (λ e. good_map start_expression (good_weaken (λ m e w le h. record { is = h.is; fits = h.fits; low = h.low }) (λ e next f. tt) (expression_good d one ts))))

start_reads : (d : ℕ) (s : ForStart) (rest : List Lexeme) → FitsStart s → height_start s ≤ d → start d (spell_start s ++ sign Sign.Semicolon ∷ rest) ≡ ok s (sign Sign.Semicolon ∷ rest)
start_reads d start_nothing rest fits low = refl
start_reads d (start_variables all) rest fits low =
    ap (λ x. and_then x (λ all. ok (start_variables all))) (variables_reads d all (sign Sign.Semicolon ∷ rest) fits low (ends_semicolon rest) refl)
start_reads d (start_expression e) rest fits low =
    let ts = spell e ++ sign Sign.Semicolon ∷ rest in
    let begins = spell_begins e (sign Sign.Semicolon ∷ rest) in
    ap (λ b. cond b (ok start_nothing ts) (cond (is_word Word.Int ts) (and_then (variables d ts) (λ all. ok (start_variables all))) (and_then (expression d ts) (λ e. ok (start_expression e))))) (no_sign Sign.Semicolon ts refl begins)
    ∙ ap (λ b. cond b (and_then (variables d ts) (λ all. ok (start_variables all))) (and_then (expression d ts) (λ e. ok (start_expression e)))) (no_word Word.Int ts begins)
    ∙ ap (λ x. and_then x (λ e. ok (start_expression e))) (expression_reads d e (sign Sign.Semicolon ∷ rest) fits low (ends_semicolon rest))

abbrev pub spell_head : Head → List Lexeme
spell_head h =
    sign Sign.ParenOpen ∷ (spell_start h.start
    ++ sign Sign.Semicolon ∷ (spell_option spell h.test
    ++ sign Sign.Semicolon ∷ (spell_option spell h.step
    ++ sign Sign.ParenClose ∷ [])))

abbrev pub FitsHead : Head → Type 0
FitsHead h = FitsStart h.start × IfSome h.test Fits × IfSome h.step Fits

abbrev pub height_head : Head → ℕ
height_head h = max (max (height_start h.start) (height_option height h.test)) (height_option height h.step)

abbrev pub HeadOf : Language Head
HeadOf = Spelled spell_head FitsHead height_head

pub head_good : (d : ℕ) → 1 ≤ d → (ts : List Lexeme) → Good HeadOf Free head d ts
head_good d one ts = good_sign Sign.ParenOpen (λ ts. good_next (start_good d one ts)
    (λ m s le fits low. record {
      value = record { start = s; test = None; step = None };
      more = sign Sign.Semicolon ∷ sign Sign.Semicolon ∷ sign Sign.ParenClose ∷ [];
      is = record { is = refl; fits = (fits, tt, tt); low = omega arith };
    })
    (λ s rest at fits low next. good_sign Sign.Semicolon (λ ts. good_next (good_unless Sign.Semicolon d ts)
    (λ m e le f l. record {
      value = record { start = s; test = e; step = None };
      more = sign Sign.Semicolon ∷ sign Sign.ParenClose ∷ [];
      is = record { is = refl; fits = (fits, f, tt); low = omega arith };
    })
    (λ e rest at f l next. good_sign Sign.Semicolon (λ ts. good_next (good_unless Sign.ParenClose d ts)
    (λ m step le g k. record {
      value = record { start = s; test = e; step = step };
      more = sign Sign.ParenClose ∷ [];
      is = record { is = refl; fits = (fits, f, g); low = omega arith };
    })
    (λ step rest at g k next. good_end Sign.ParenClose (record { start = s; test = e; step = step })
    (record { is = refl; fits = (fits, f, g); low = omega arith }) (λ next. tt)))))))

-- the tokens of a head before what follows it
pub spell_head_on : (h : Head) (rest : List Lexeme) → spell_head h ++ rest ≡
    sign Sign.ParenOpen ∷ (spell_start h.start
    ++ sign Sign.Semicolon ∷ (spell_option spell h.test
    ++ sign Sign.Semicolon ∷ (spell_option spell h.step
    ++ sign Sign.ParenClose ∷ rest)))
spell_head_on h rest = simp append_assoc

pub head_reads : (d : ℕ) (h : Head) (rest : List Lexeme) → FitsHead h → height_head h ≤ d → head d (spell_head h ++ rest) ≡ ok h rest
head_reads d h rest fits low =
    let third = sign Sign.ParenClose ∷ rest in
    let second = sign Sign.Semicolon ∷ (spell_option spell h.step ++ third) in
    let first = sign Sign.Semicolon ∷ (spell_option spell h.test ++ second) in
    ap (head d) (spell_head_on h rest)
    ∙ ap (λ x. and_then x (more_0)) (start_reads d h.start (spell_option spell h.test ++ second) fits.0 (omega arith))
    ∙ ap (λ x. and_then x (more_1 h.start)) (unless_reads Sign.Semicolon refl d h.test second fits.1 (omega arith) refl (ends_semicolon (spell_option spell h.step ++ third)))
    ∙ ap (λ x. and_then x (more_2 h.start h.test)) (unless_reads Sign.ParenClose refl d h.step third fits.2 (omega arith) refl (ends_paren rest))
  where
    more_2 : ForStart → Option Expression → Option Expression → Reader Head
    more_2 s e f = ended_by Sign.ParenClose (record { start = s; test = e; step = f })

    more_1 : ForStart → Option Expression → Reader Head
    more_1 s e = after_sign Sign.Semicolon (λ rest. and_then (unless_sign Sign.ParenClose (expression d) rest) (more_2 s e))

    more_0 : ForStart → Reader Head
    more_0 s = after_sign Sign.Semicolon (λ rest. and_then (unless_sign Sign.Semicolon (expression d) rest) (more_1 s))

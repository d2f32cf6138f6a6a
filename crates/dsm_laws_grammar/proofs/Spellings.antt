-- Each item is read from its spelling.
use Rattle.std.proofs.Common.{◌≡◌, ◌≤◌, ◌+◌, ℕ, ℤ, true, false, List, [], ◌∷◌, ◌++◌, length, flat_map, Option, Some, None, refl, sym, ap, ◌∙◌, arith, append_assoc, append-nil}
use Rattle.std.specs.List.{AllByRecursion}
use Rattle.dsm_syntax.specs.declared.sign.Sign.{Sign}
use Rattle.dsm_syntax.specs.declared.tree.Name.{Name}
use Rattle.dsm_syntax.specs.declared.tree.Declarator.{Declarator}
use Rattle.dsm_syntax.specs.declared.tree.Returns.{Returns}
use Rattle.dsm_syntax.specs.declared.tree.Returns.TheVariants as returns
use Rattle.dsm_syntax.specs.declared.tree.Sharing.{Sharing}
use Rattle.dsm_syntax.specs.declared.tree.Sharing.TheVariants as sharing
use Rattle.dsm_syntax.specs.Tree as t
use Rattle.dsm_syntax.specs.Tree.{Item, Params, Statements}
use Rattle.dsm_syntax.specs.Lexemes.{Lexeme, named, numeral, sign}
use Rattle.dsm_laws_grammar.specs.Grammar.{end_of_binding, spell_size, spell_declarator, spell_name, spell_param, spell_params, spell_returns, spell_list, spell_more, spell_item, spell_body, Listed, HasSome, FitsItem, FitsParams, FitStatements}
use Rattle.dsm_syntax.specs.Heights.{height_item, height_statements, highest}
use Rattle.dsm_syntax.specs.Reading.{ok, and_then, is_sign, more_of, list_of}
use Rattle.dsm_syntax.specs.Tokens.{read_name}
use Rattle.dsm_laws_grammar.specs.Items.{size, declarator_of, declarator, param, params, function_of, int_item, item, goes_on, items}
use Rattle.dsm_laws_grammar.proofs.Repeats.{all_reads, all_low}
use Rattle.dsm_laws_grammar.proofs.Lists.{list_reads, more_reads}
use Rattle.dsm_laws_grammar.proofs.Bodies.{body_reads}
use Rattle.dsm_laws_grammar.proofs.Items.{item_long}

-- no bracket comes
abbrev NoBracket : List Lexeme → Type 0
NoBracket rest = is_sign Sign.BracketOpen rest ≡ false

size_reads : (s : Option ℤ) (rest : List Lexeme) → NoBracket rest → size (spell_size s ++ rest) ≡ ok s rest
size_reads None rest e = rw e refl
size_reads (Some n) rest e = refl

declarator_of_reads : (x : Declarator) (rest : List Lexeme) → NoBracket rest → declarator_of x.name (spell_size x.size ++ rest) ≡ ok x rest
declarator_of_reads x rest e = ap (λ r. and_then r (λ size. ok (record { name = x.name; size = size }))) (size_reads x.size rest e)

-- where there is some, each is a list
each : {A : Type 0} (all : List A) → AllByRecursion (λ a. Unit {0}) all
each [] = tt
each (a ∷ all) = (tt, each all)

listed : {A : Type 0} (all : List A) → HasSome all → Listed (λ a. Unit {0}) all
listed [] h = h
listed (a ∷ all) h = (tt, each all)

flat : {A : Type 0} (all : List A) → highest (λ a. 0) all ≤ 0
flat [] = omega arith
flat (a ∷ all) = let h = flat all in omega arith

declarators_read : (all : List Declarator) (rest : List Lexeme) → HasSome all → list_of declarator (spell_list spell_declarator all ++ sign Sign.Semicolon ∷ rest) ≡ ok all (sign Sign.Semicolon ∷ rest)
declarators_read all rest some = list_reads spell_declarator (λ a. Unit {0}) (λ a. 0) NoBracket 0 declarator
    (λ a rest f low e. declarator_of_reads a rest e) (λ rest. refl) all (sign Sign.Semicolon ∷ rest) (listed all some) (flat all) refl refl

names_read : (all : List Name) (rest : List Lexeme) → HasSome all → list_of read_name (spell_list spell_name all ++ sign Sign.Semicolon ∷ rest) ≡ ok all (sign Sign.Semicolon ∷ rest)
names_read all rest some = list_reads spell_name (λ a. Unit {0}) (λ a. 0) (λ rest. Unit {0}) 0 read_name
    (λ a rest f low e. refl) (λ rest. tt) all (sign Sign.Semicolon ∷ rest) (listed all some) (flat all) tt refl

-- behind the first of the data that each processor has for itself
others_read : (all : List Declarator) (rest : List Lexeme) → more_of declarator (spell_more spell_declarator all ++ sign Sign.Semicolon ∷ rest) ≡ ok all (sign Sign.Semicolon ∷ rest)
others_read all rest = more_reads spell_declarator (λ a. Unit {0}) (λ a. 0) NoBracket 0 declarator
    (λ a rest f low e. declarator_of_reads a rest e) (λ rest. refl) all (sign Sign.Semicolon ∷ rest) (each all) (flat all) refl refl

private_reads : (d : ℕ) (x : Declarator) (all : List Declarator) (rest : List Lexeme)
    → int_item d (named x.name ∷ (spell_size x.size ++ (spell_more spell_declarator all ++ sign Sign.Semicolon ∷ rest))) ≡ ok (t.cells Sharing.Private (x ∷ all)) rest
private_reads d x all rest =
    let more = spell_more spell_declarator all ++ sign Sign.Semicolon ∷ rest in
    rw (no_paren x.size, declarator_of_reads x more (no_bracket all), others_read all rest) refl
  where
    no_bracket : (all : List Declarator) → NoBracket (spell_more spell_declarator all ++ sign Sign.Semicolon ∷ rest)
    no_bracket [] = refl
    no_bracket (a ∷ all) = refl

    no_paren : (s : Option ℤ) → is_sign Sign.ParenOpen (spell_size s ++ (spell_more spell_declarator all ++ sign Sign.Semicolon ∷ rest)) ≡ false
    no_paren (Some n) = refl
    no_paren None = of all
      where
        of : (all : List Declarator) → is_sign Sign.ParenOpen (spell_more spell_declarator all ++ sign Sign.Semicolon ∷ rest) ≡ false
        of [] = refl
        of (a ∷ all) = refl

params_read : (p : Params) (rest : List Lexeme) → FitsParams p → params (spell_params p ++ sign Sign.ParenClose ∷ rest) ≡ ok p (sign Sign.ParenClose ∷ rest)
params_read t.no_params rest f = refl
params_read t.void_params rest f = refl
params_read (t.named_params []) rest f = absurd f
params_read (t.named_params (name ∷ names)) rest f =
    ap (λ r. and_then r (λ names. ok (t.named_params names)))
    (list_reads spell_param (λ a. Unit {0}) (λ a. 0) (λ rest. Unit {0}) 0 param (λ a rest f low e. refl) (λ rest. tt)
    (name ∷ names) (sign Sign.ParenClose ∷ rest) (listed (name ∷ names) tt) (flat (name ∷ names)) tt refl)

function_reads : (d : ℕ) (f : t.Function) (rest : List Lexeme) → FitsParams f.params → FitStatements f.body → height_statements f.body + 1 ≤ d
    → function_of d f.returns f.name (sign Sign.ParenOpen ∷ (spell_params f.params ++ sign Sign.ParenClose ∷ (spell_body f.body ++ rest))) ≡ ok (t.function f) rest
function_reads d f rest p b low =
    rw (params_read f.params (spell_body f.body ++ rest) p) (ap (λ r. and_then r (λ body. ok (t.function (record { returns = f.returns; name = f.name; params = f.params; body = body }))))
    (body_reads f.body d rest b low))

whole_reads : (d : ℕ) (r : Returns) (name : Name) (p : Params) (b : Statements) (rest : List Lexeme) → FitsParams p → FitStatements b → height_statements b + 1 ≤ d
    → item d (spell_returns r ∷ named name ∷ sign Sign.ParenOpen ∷ (spell_params p ++ sign Sign.ParenClose ∷ (spell_body b ++ rest)))
    ≡ ok (t.function (record { returns = r; name = name; params = p; body = b })) rest
whole_reads d returns.Int name p b rest fp fb low = function_reads d (record { returns = Returns.Int; name = name; params = p; body = b }) rest fp fb low
whole_reads d returns.Void name p b rest fp fb low = function_reads d (record { returns = Returns.Void; name = name; params = p; body = b }) rest fp fb low

pub item_reads : (d : ℕ) (i : Item) (rest : List Lexeme) → FitsItem i → height_item i ≤ d → item d (spell_item i ++ rest) ≡ ok i rest
item_reads d (t.cells sharing.Shared all) rest f low =
    rw (append_assoc (spell_list spell_declarator all) (sign Sign.Semicolon ∷ []) rest, declarators_read all rest f) refl
item_reads d (t.cells sharing.Private []) rest f low = absurd f
item_reads d (t.cells sharing.Private (x ∷ all)) rest f low =
    ap (λ l. int_item d (named x.name ∷ l))
    (append_assoc (spell_size x.size ++ spell_more spell_declarator all) (sign Sign.Semicolon ∷ []) rest
    ∙ append_assoc (spell_size x.size) (spell_more spell_declarator all) (sign Sign.Semicolon ∷ rest))
    ∙ private_reads d x all rest
item_reads d (t.locks all) rest f low =
    rw (append_assoc (spell_list spell_declarator all) (sign Sign.Semicolon ∷ []) rest, declarators_read all rest f) refl
item_reads d (t.barriers all) rest f low =
    rw (append_assoc (spell_list spell_name all) (sign Sign.Semicolon ∷ []) rest, names_read all rest f) refl
item_reads d (t.bind b) rest f low =
    let more = sign Sign.Comma ∷ named b.data ∷ sign Sign.Comma ∷ numeral b.first ∷ sign Sign.Comma ∷ numeral b.count ∷ end_of_binding in
    rw (append_assoc (spell_size b.index) more rest, size_reads b.index (more ++ rest) refl) refl
item_reads d (t.bind_each b) rest f low = refl
item_reads d (t.bind_barrier b) rest f low = refl
item_reads d (t.function f) rest fits low =
    ap (λ l. item d (spell_returns f.returns ∷ named f.name ∷ sign Sign.ParenOpen ∷ l)) (append_assoc (spell_params f.params) (sign Sign.ParenClose ∷ spell_body f.body) rest)
    ∙ whole_reads d f.returns f.name f.params f.body rest fits.0 fits.1 low

pub items_read : (d : ℕ) (all : List Item) → AllByRecursion FitsItem all → highest height_item all ≤ d → items d (flat_map spell_item all) ≡ ok all []
items_read d all fits low =
    ap (items d) (sym (append-nil (flat_map spell_item all)))
    ∙ all_reads spell_item (λ i. FitsItem i × (height_item i ≤ d)) (λ rest. Unit {0}) goes_on (item d)
    (λ i rest f next. item_reads d i rest f.0 f.1) (λ i rest f. some (spell_item i) rest (item_long i f.0)) (λ i rest f. tt) (λ i f. item_long i f.0)
    all [] (all_low FitsItem height_item d all fits low) tt refl
  where
    some : (l rest : List Lexeme) → 1 ≤ length l → goes_on (l ++ rest) ≡ true
    some [] rest h = absurd (omega arith)
    some (x ∷ l) rest h = refl

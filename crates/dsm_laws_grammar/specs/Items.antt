-- Items from the left.
use Rattle.std.specs.Prelude.{ℕ, ℤ, Bool, true, false, if◌then◌else◌, List, [], ◌∷◌, length, Option, Some, None}
use Rattle.dsm_syntax.specs.declared.sign.Sign.{Sign}
use Rattle.dsm_syntax.specs.declared.word.Word.{Word}
use Rattle.dsm_syntax.specs.declared.tree.Name.{Name}
use Rattle.dsm_syntax.specs.declared.tree.Declarator.{Declarator}
use Rattle.dsm_syntax.specs.declared.tree.Returns.{Returns}
use Rattle.dsm_syntax.specs.declared.tree.Sharing.{Sharing}
use Rattle.dsm_syntax.specs.Tree as t
use Rattle.dsm_syntax.specs.Tree.{Item, Params}
use Rattle.dsm_syntax.specs.Lexemes.{Lexeme}
use Rattle.dsm_syntax.specs.Reading.{Reader, ok, unexpected, and_then, look, tail, is_sign, is_word, after_sign, ended_by, repeated, more_of, list_of}
use Rattle.dsm_syntax.specs.Tokens.{read_name, read_number, plain_word, placed_word}
use Rattle.dsm_laws_grammar.specs.Statements.{body}

-- a number in brackets, where a bracket comes
abbrev pub size : Reader (Option ℤ)
size tokens =
    if is_sign Sign.BracketOpen tokens
    then and_then (read_number (tail tokens)) (λ n. ended_by Sign.BracketClose (Some n))
    else ok None tokens

-- behind its name
abbrev pub declarator_of : Name → Reader Declarator
declarator_of name tokens = and_then (size tokens) (λ size. ok (record { name = name; size = size }))

-- a name, and its size where a bracket follows
abbrev pub declarator : Reader Declarator
declarator tokens = and_then (read_name tokens) declarator_of

-- locks, behind their word
abbrev pub locks : Reader Item
locks tokens = and_then (list_of declarator tokens) (λ all. ended_by Sign.Semicolon (t.locks all))

-- barriers, behind their word
abbrev pub barriers : Reader Item
barriers tokens = and_then (list_of read_name tokens) (λ names. ended_by Sign.Semicolon (t.barriers names))

-- behind the word `shared`
abbrev pub shared_data : Reader Item
shared_data tokens =
    if is_word Word.Int tokens
    then and_then (list_of declarator (tail tokens)) (λ all. ended_by Sign.Semicolon (t.cells Sharing.Shared all))
    else unexpected tokens

-- data that each processor has for itself, behind its first name
abbrev pub private_data : Name → Reader Item
private_data name tokens =
    and_then (declarator_of name tokens) (λ first rest.
    and_then (more_of declarator rest) (λ others. ended_by Sign.Semicolon (t.cells Sharing.Private (first ∷ others))))

-- the word `int` and a name
abbrev pub param : Reader Name
param tokens = if is_word Word.Int tokens then read_name (tail tokens) else unexpected tokens

-- what stands between the parentheses of a function
abbrev pub params : Reader Params
params tokens =
    if is_word Word.Void tokens then ok t.void_params (tail tokens)
    else (if is_word Word.Int tokens then and_then (list_of param tokens) (λ names. ok (t.named_params names))
    else ok t.no_params tokens)

-- behind its name, with a body of at most this height
abbrev pub function_of : ℕ → Returns → Name → Reader Item
function_of d returns name =
    after_sign Sign.ParenOpen (λ rest. and_then (params rest) (λ params. after_sign Sign.ParenClose (λ rest.
    and_then (body d rest) (λ body. ok (t.function (record { returns = returns; name = name; params = params; body = body }))))))

-- behind the word `int`
abbrev pub int_item : ℕ → Reader Item
int_item d tokens =
    and_then (read_name tokens) (λ name rest.
    if is_sign Sign.ParenOpen rest then function_of d Returns.Int name rest else private_data name rest)

-- a function, behind the word `void`
abbrev pub void_item : ℕ → Reader Item
void_item d tokens = and_then (read_name tokens) (function_of d Returns.Void)

-- a name or a number of a binding behind another
abbrev pub next_name : Reader Name
next_name = after_sign Sign.Comma read_name

-- a comma and a number
abbrev pub next_number : Reader ℤ
next_number = after_sign Sign.Comma read_number

-- what ends a binding
abbrev pub end_of_binding : Item → Reader Item
end_of_binding item = after_sign Sign.ParenClose (ended_by Sign.Semicolon item)

-- behind their words
abbrev pub bind : ℕ → Reader Item
bind line = after_sign Sign.ParenOpen (λ rest.
    and_then (read_name rest) (λ lock rest. and_then (size rest) (λ index rest. and_then (next_name rest) (λ cells rest.
    and_then (next_number rest) (λ first rest. and_then (next_number rest) (λ count.
    end_of_binding (t.bind (record { line = line; lock = lock; index = index; «data» = cells; first = first; count = count }))))))))

-- what is behind `bindeach`
abbrev pub bind_each : ℕ → Reader Item
bind_each line = after_sign Sign.ParenOpen (λ rest.
    and_then (read_name rest) (λ locks rest. and_then (next_name rest) (λ cells rest. and_then (next_number rest) (λ count.
    end_of_binding (t.bind_each (record { line = line; locks = locks; «data» = cells; count = count }))))))

-- what is behind `bindb`
abbrev pub bind_barrier : ℕ → Reader Item
bind_barrier line = after_sign Sign.ParenOpen (λ rest.
    and_then (read_name rest) (λ barrier rest. and_then (next_name rest) (λ cells rest.
    and_then (next_number rest) (λ first rest. and_then (next_number rest) (λ count rest. and_then (next_number rest) (λ owner rest.
    and_then (next_number rest) (λ phase rest. and_then (next_number rest) (λ period.
    end_of_binding (t.bind_barrier (record {
      line = line;
      barrier = barrier;
      «data» = cells;
      first = first;
      count = count;
      owner = owner;
      phase = phase;
      period = period;
    }))))))))))

-- a binding, by its word
abbrev pub binding : Word → ℕ → Reader Item
binding Word.Bind line tokens = bind line (tail tokens)
binding Word.BindEach line tokens = bind_each line (tail tokens)
binding Word.BindBarrier line tokens = bind_barrier line (tail tokens)
binding _ line tokens = unexpected tokens

-- what a word declares
abbrev pub declaration : ℕ → Word → Reader Item
declaration d Word.Shared tokens = shared_data (tail tokens)
declaration d Word.Int tokens = int_item d (tail tokens)
declaration d Word.Void tokens = void_item d (tail tokens)
declaration d Word.LockType tokens = locks (tail tokens)
declaration d Word.BarrierType tokens = barriers (tail tokens)
declaration d _ tokens = unexpected tokens

-- by its first word
abbrev pub item_by : ℕ → Option (Word × ℕ) → Option Word → Reader Item
item_by d (Some (w, line)) plain tokens = binding w line tokens
item_by d None (Some w) tokens = declaration d w tokens
item_by d None None tokens = unexpected tokens

-- with a body of at most this height
abbrev pub item : ℕ → Reader Item
item d tokens = item_by d (placed_word (look tokens)) (plain_word (look tokens)) tokens

-- whether a token is left
abbrev pub goes_on : List Lexeme → Bool
goes_on [] = false
goes_on (token ∷ rest) = true

-- a program, where each function is of at most this height
abbrev pub items : ℕ → Reader (List Item)
items d tokens = repeated goes_on (item d) (length tokens) tokens

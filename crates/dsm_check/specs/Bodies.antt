-- The bodies of functions with every name resolved, or the first fault from the left.
use Rattle.std.specs.Prelude.{ℕ, suc, ◌+◌, Bool, true, false, ◌==◌, ◌&&◌, min, bytes_eq, List, [], ◌∷◌, ◌++◌, length, Option, Some, None, Ok, Err, if◌then◌else◌}
use Rattle.dsm_base.specs.declared.names.Mode.{Mode}
use Rattle.dsm_syntax.specs.declared.errors.ProgErr.TheVariants as err
use Rattle.dsm_syntax.specs.declared.errors.Which.TheVariants as which
use Rattle.dsm_syntax.specs.declared.tree.Name.{Name}
use Rattle.dsm_syntax.specs.declared.tree.Returns.{Returns}
use Rattle.dsm_syntax.specs.declared.tree.Sharing.{Sharing}
use Rattle.dsm_syntax.specs.Tree as t
use Rattle.dsm_check.specs.declared.names.Named.{Named}
use Rattle.dsm_check.specs.declared.resolved.Array.{Array}
use Rattle.dsm_check.specs.Resolved as r
use Rattle.dsm_check.specs.Environments.{Entry, opened, known, closed}
use Rattle.dsm_check.specs.Checks.{Check, ◌>>=◌, each, each_made, wrong_kind, used, new, within}
use Rattle.dsm_check.specs.FileNames.{main_name, params_of}
use Rattle.dsm_check.specs.Bindings.{as_barrier}

-- Expressions.

-- a single cell or a variable
abbrev pub as_single : Name → Named → Check r.Location
as_single name (Named.Variable slot) = Ok (r.variable slot)
as_single name (Named.Cells sharing first None) = Ok (r.cell sharing first name.line)
as_single name _ = wrong_kind name

-- an array of cells
abbrev pub as_array : Name → Named → Check (Sharing × Array)
as_array name (Named.Cells sharing first (Some size)) = Ok (sharing, record { first = first; size = size })
as_array name _ = wrong_kind name

-- whether a function returns nothing
abbrev pub is_void : Returns → Bool
is_void Returns.Int = false
is_void Returns.Void = true

-- how many expressions there are
abbrev pub count_of : t.Expressions → ℕ
count_of t.nil = 0
count_of (t.cons e rest) = suc (count_of rest)

-- a function other than `main`, with a value where one is needed, and with so many parameters
abbrev pub as_called : Bool → Name → ℕ → Named → Check ℕ
as_called needed name given (Named.Function number returns wanted) =
    if bytes_eq name.text main_name then wrong_kind name
    else (if needed && is_void returns then wrong_kind name
    else (if given == wanted then Ok number
    else Err (err.ArgCount name.text name.line (min given 4294967295) wanted)))
as_called needed name given _ = wrong_kind name

-- places and expressions, each with its names resolved
abbrev mutual
  pub resolve_place : List Entry → t.Place → Check r.Location
  resolve_place names (t.single name) = do
    named ← used names name
    as_single name named
  resolve_place names (t.element name index) = do
    named ← used names name
    array ← as_array name named
    place ← resolve names index
    Ok (r.element array.0 array.1 place name.line)

  -- an expression whose value is needed
  pub resolve : List Entry → t.Expression → Check r.Expression
  resolve names (t.number value) = Ok (r.number value)
  resolve names (t.at place) = do
    location ← resolve_place names place
    Ok (r.load location)
  resolve names (t.paren e) = resolve names e
  resolve names (t.call name arguments) = do
    named ← used names name
    function ← as_called true name (count_of arguments) named
    values ← resolve_all names arguments
    Ok (r.call function values name.line)
  resolve names (t.unary op line e) = do
    value ← resolve names e
    Ok (r.unary op line value)
  resolve names (t.prefix op line place) = do
    location ← resolve_place names place
    Ok (r.prefix op line location)
  resolve names (t.postfix place op line) = do
    location ← resolve_place names place
    Ok (r.postfix location op line)
  resolve names (t.binary a op line b) = do
    left_value ← resolve names a
    right_value ← resolve names b
    Ok (r.binary left_value op line right_value)
  resolve names (t.choice test line a b) = do
    condition ← resolve names test
    one ← resolve names a
    other ← resolve names b
    Ok (r.choice condition one other)
  resolve names (t.assign place op line e) = do
    location ← resolve_place names place
    value ← resolve names e
    Ok (r.assign location op line value)

  pub resolve_all : List Entry → t.Expressions → Check r.Expressions
  resolve_all names t.nil = Ok r.nil
  resolve_all names (t.cons e rest) = do
    first ← resolve names e
    others ← resolve_all names rest
    Ok (r.cons first others)

-- a call, by whether its value is needed
abbrev pub resolve_call : Bool → List Entry → Name → t.Expressions → Check r.Expression
resolve_call needed names name arguments = do
  named ← used names name
  function ← as_called needed name (count_of arguments) named
  values ← resolve_all names arguments
  Ok (r.call function values name.line)

-- an expression whose value isn't needed: where it is a call, the function may have none
abbrev pub resolve_effect : List Entry → t.Expression → Check r.Expression
resolve_effect names (t.call name arguments) = resolve_call false names name arguments
resolve_effect names e = resolve names e

-- where there is one
abbrev pub optional : {A B : Type 0} → (A → Check B) → Option A → Check (Option B)
optional check None = Ok None
optional check (Some a) = do
  b ← check a
  Ok (Some b)

-- Variables.

-- the names that are known at a place of a body, the names of all the function's variables up to there in order of declaration,
-- and how many these are; those of blocks that are closed count too
pub record Scope : Type 0 where
  pub names : List Entry
  pub variables : List (List ℕ)
  pub slots : ℕ

-- a new variable has the next slot
abbrev pub with_variable : Scope → Name → Check Scope
with_variable scope name = do
  text ← new scope.names name
  count ← within which.Slots 192 (scope.slots + 1)
  Ok (record {
    names = known text (Named.Variable scope.slots) ∷ scope.names;
    variables = scope.variables ++ (text ∷ []);
    slots = scope.slots + 1;
  })

-- a variable is known in its own beginning
abbrev pub resolve_variable : Scope → t.Variable → Check (r.Variable × Scope)
resolve_variable scope variable = do
  after ← with_variable scope variable.name
  initial ← optional (λ initial. resolve after.names initial.value) variable.initial
  Ok (record { slot = scope.slots; initial = initial }, after)

-- a scope in which a block begins
abbrev pub open_block : Scope → Scope
open_block scope = record scope { names = opened ∷ scope.names }

-- what is made in a block, and the scope after the block
abbrev pub closing : {A : Type 0} → Check (A × Scope) → Check (A × Scope)
closing check = do
  made ← check
  Ok (made.0, record made.1 { names = closed made.1.names })

-- Statements.

-- what holds of all of a function's body: the function's name, and whether it has a value
pub record Around : Type 0 where
  pub name : List ℕ
  pub returns : Returns

-- a lock without an index, or an array of locks with one
abbrev pub as_one_lock : Name → Named → Check r.LockPlace
as_one_lock name (Named.Locks first None) = Ok (r.one_lock (record { 0 = first }) name.line)
as_one_lock name _ = wrong_kind name

-- what a name stands for, which has to be an array of locks
abbrev pub as_lock_array : Name → Named → Check Array
as_lock_array name (Named.Locks first (Some size)) = Ok (record { first = first; size = size })
as_lock_array name _ = wrong_kind name

-- a lock by its name, or by the name of an array and an index
abbrev pub resolve_lock : List Entry → t.Place → Check r.LockPlace
resolve_lock names (t.single name) = do
  named ← used names name
  as_one_lock name named
resolve_lock names (t.element name index) = do
  named ← used names name
  locks ← as_lock_array name named
  place ← resolve names index
  Ok (r.lock_element locks place name.line)

-- a part of what is printed
abbrev pub resolve_part : List Entry → t.Part → Check r.Part
resolve_part names (t.part_text text) = Ok (r.part_text text)
resolve_part names (t.part_value e) = do
  value ← resolve names e
  Ok (r.part_value value)

-- each made of its own, or the first refusal
abbrev pub all_made : {A B : Type 0} → (A → Check B) → List A → Check (List B)
all_made make [] = Ok []
all_made make (a ∷ rest) = do
  first ← make a
  others ← all_made make rest
  Ok (first ∷ others)

-- the bytes of the strings among parts
abbrev pub text_bytes : List t.Part → ℕ
text_bytes [] = 0
text_bytes (t.part_text text ∷ rest) = length text + text_bytes rest
text_bytes (t.part_value e ∷ rest) = text_bytes rest

-- what is printed: at most eight parts, and 96 bytes of text
abbrev pub resolve_print : List Entry → List t.Part → Check (List r.Part)
resolve_print names parts = do
  count ← within which.PrintParts 8 (length parts)
  bytes ← within which.PrintText 96 (text_bytes parts)
  all_made (resolve_part names) parts

-- the start of a `for`, with the scope after it
abbrev pub resolve_start : Scope → t.ForStart → Check (r.ForStart × Scope)
resolve_start scope t.start_nothing = Ok (r.start_nothing, scope)
resolve_start scope (t.start_variables variables) = do
  made ← each_made resolve_variable scope variables
  Ok (r.start_variables made.0, made.1)
resolve_start scope (t.start_expression e) = do
  effect ← resolve_effect scope.names e
  Ok (r.start_expression effect, scope)

-- the value of a `return`, which a function without a value can't have
abbrev pub resolve_return : Around → List Entry → ℕ → Option t.Expression → Check (Option r.Expression)
resolve_return around names line None = Ok None
resolve_return around names line (Some e) =
    if is_void around.returns then Err (err.WrongKind around.name line) else optional (resolve names) (Some e)

-- statements, one and many
abbrev mutual
  -- a statement, by whether it is in a loop, with the scope after it; one that is part of another is a block of its own
  pub resolve_statement : Around → Bool → Scope → t.Statement → Check (r.Statement × Scope)
  resolve_statement around looped scope (t.block body) = do
    made ← closing (resolve_statements around looped (open_block scope) body)
    Ok (r.block made.0, made.1)
  resolve_statement around looped scope t.empty = Ok (r.empty, scope)
  resolve_statement around looped scope (t.variables variables) = do
    made ← each_made resolve_variable scope variables
    Ok (r.variables made.0, made.1)
  resolve_statement around looped scope (t.expression e) = do
    effect ← resolve_effect scope.names e
    Ok (r.expression effect, scope)
  resolve_statement around looped scope (t.when test body) = do
    condition ← resolve scope.names test
    made ← closing (resolve_statement around looped (open_block scope) body)
    Ok (r.when condition made.0, made.1)
  resolve_statement around looped scope (t.either test body other) = do
    condition ← resolve scope.names test
    made ← closing (resolve_statement around looped (open_block scope) body)
    more ← closing (resolve_statement around looped (open_block made.1) other)
    Ok (r.either condition made.0 more.0, more.1)
  resolve_statement around looped scope (t.while test body) = do
    condition ← resolve scope.names test
    made ← closing (resolve_statement around true (open_block scope) body)
    Ok (r.while condition made.0, made.1)
  resolve_statement around looped scope (t.for start test step body) = closing (do
    begun ← resolve_start (open_block scope) start
    condition ← optional (resolve begun.1.names) test
    effect ← optional (resolve_effect begun.1.names) step
    made ← closing (resolve_statement around true (open_block begun.1) body)
    Ok (r.for begun.0 condition effect made.0, made.1))
  resolve_statement around looped scope (t.break line) = if looped then Ok (r.break, scope) else Err (err.OutsideLoop line)
  resolve_statement around looped scope (t.continue line) = if looped then Ok (r.continue, scope) else Err (err.OutsideLoop line)
  resolve_statement around looped scope (t.return line value) = do
    given ← resolve_return around scope.names line value
    Ok (r.return given, scope)
  resolve_statement around looped scope (t.acquire place) = do
    lock ← resolve_lock scope.names place
    Ok (r.acquire lock Mode.Excl, scope)
  resolve_statement around looped scope (t.acquire_shared place) = do
    lock ← resolve_lock scope.names place
    Ok (r.acquire lock Mode.Shared, scope)
  resolve_statement around looped scope (t.release place) = do
    lock ← resolve_lock scope.names place
    Ok (r.release lock, scope)
  resolve_statement around looped scope (t.barrier name) = do
    named ← used scope.names name
    number ← as_barrier name named
    Ok (r.barrier (record { 0 = number }), scope)
  resolve_statement around looped scope (t.print parts) = do
    made ← resolve_print scope.names parts
    Ok (r.print made, scope)

  pub resolve_statements : Around → Bool → Scope → t.Statements → Check (r.Statements × Scope)
  resolve_statements around looped scope t.none = Ok (r.none, scope)
  resolve_statements around looped scope (t.then statement rest) = do
    first ← resolve_statement around looped scope statement
    others ← resolve_statements around looped first.1 rest
    Ok (r.then first.0 others.0, others.1)

-- Functions.

-- parameters and body are one block; each slot has the name of its variable
abbrev pub resolve_function : List Entry → t.Function → Check r.Function
resolve_function names function = do
  start ← each with_variable (record { names = opened ∷ names; variables = []; slots = 0 }) (params_of function.params)
  made ← resolve_statements (record { name = function.name.text; returns = function.returns }) false start function.body
  Ok (record {
    name = function.name.text;
    params = length (params_of function.params);
    slots = made.1.slots;
    names = made.1.variables;
    body = made.0;
  })

-- the functions with that of an item, if it is one
abbrev pub with_body : List Entry → List r.Function → t.Item → Check (List r.Function)
with_body names functions (t.function function) = do
  made ← resolve_function names function
  Ok (functions ++ (made ∷ []))
with_body names functions (t.cells sharing cells) = Ok functions
with_body names functions (t.locks locks) = Ok functions
with_body names functions (t.barriers barriers) = Ok functions
with_body names functions (t.bind bind) = Ok functions
with_body names functions (t.bind_each bind) = Ok functions
with_body names functions (t.bind_barrier bind) = Ok functions

-- the functions of a program, in the order of the text
abbrev pub functions_of : List Entry → List t.Item → Check (List r.Function)
functions_of names items = each (with_body names) [] items

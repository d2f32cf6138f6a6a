-- The functions and the prints of a closed program's code are valid.
use Rattle.std.proofs.Common.{◌≡◌, ℕ, zero, suc, ◌+◌, ◌^◌, ◌≤◌, max, Bool, true, false, ◌&&◌, if◌then◌else◌, List, [], ◌∷◌, ◌++◌, length, map, drop, Some, None, refl, sym, ap, ◌∙◌, subst, arith}
use Rattle.std.specs.Prelude.{IsTrue, slice_get, option_map, not, nat_le, ◌==◌, sum_by}
use Rattle.std.specs.List.{list_all}
use Rattle.std.specs.Option.{option_flatten}
use Rattle.std.proofs.Math.Nat.{le-max_left, le-max_right}
use Rattle.std.proofs.lemmas.Bool.{and_parts, lt-ltb, ltb-true, le-leb, leb-true, eq-eqb}
use Rattle.std.proofs.lemmas.List.{append-nil}
use Rattle.std.proofs.lemmas.List.Folds.{list_all-append}
use Rattle.std.proofs.lemmas.List.Sums.{sum_by-cons}
use Rattle.std.proofs.lemmas.Option.{slice_get-map}
use Rattle.dsm_syntax.specs.Bytes.{is_string_byte}
use Rattle.dsm_syntax.specs.Sound.{is_sound_string}
use Rattle.dsm_syntax.specs.Heights.{highest}
use Rattle.dsm_check.specs.Resolved as r
use Rattle.dsm_check.specs.Programs as check
use Rattle.dsm_semantics.specs.Within.{most_bytes}
use Rattle.dsm_code.specs.declared.parts.Row.{Row}
use Rattle.dsm_code.specs.declared.parts.PrintPart.{PrintPart}
use Rattle.dsm_code.specs.Instructions.{is_stop}
use Rattle.dsm_code.specs.Programs.{Program, Function}
use Rattle.dsm_code.specs.Valid.{are_names, are_known, is_sound, is_printable, is_print_part, part_bytes, is_print, has_main, are_few, is_valid}
use Rattle.dsm_laws_language.specs.Closed.{is_closed_expression, is_closed_option, is_closed_start, are_closed_parts, is_closed_print, is_closed_statement, are_closed_statements, is_closed_function, has_limits, is_callable, is_closed}
use Rattle.dsm_laws_language.proofs.Tests.{both}
use Rattle.dsm_laws_code.specs.Statements.{print_of, statement_prints, statements_prints, statements_code}
use Rattle.dsm_laws_code.specs.Programs.{ending, no_exits, names_at, function_code, functions_code, functions_prints, deepest_in, code_of}
use Rattle.dsm_laws_compiled.specs.Short.{is_short, are_short}
use Rattle.dsm_laws_compiled.proofs.Parts.{IsPlaced, Leads, leads_both, starts_there}
use Rattle.dsm_laws_compiled.proofs.Expressions.{called}
use Rattle.dsm_laws_compiled.proofs.Statements.{LeadOut, StandFrom, prints_front, prints_back, push_leaves, statements_lead}

-- Prints.

byte_printable : (byte : ℕ) → is_string_byte byte ≡ true → is_printable byte ≡ true
byte_printable byte h =
    let a = and_parts (nat_le 32 byte && nat_le byte 126 && not (byte == 34)) (not (byte == 92)) h in
    (and_parts (nat_le 32 byte && nat_le byte 126) (not (byte == 34)) a.0).0

printable : (text : List ℕ) → is_sound_string text ≡ true → list_all is_printable text ≡ true
printable [] h = refl
printable (byte ∷ rest) h =
    let split = and_parts (is_string_byte byte) (is_sound_string rest) h in
    both (byte_printable byte split.0) (printable rest split.1)

parts_fine : (program : check.Program) (slots : ℕ) (parts : List r.Part) → are_closed_parts program slots parts ≡ true → list_all is_print_part (print_of parts) ≡ true
parts_fine program slots [] h = refl
parts_fine program slots (r.part_text text ∷ rest) h =
    let split = and_parts (is_sound_string text) (are_closed_parts program slots rest) h in
    both (printable text split.0) (parts_fine program slots rest split.1)
parts_fine program slots (r.part_value e ∷ rest) h =
    parts_fine program slots rest (and_parts (is_closed_expression program slots e) (are_closed_parts program slots rest) h).1

same_bytes : (parts : List r.Part) → sum_by part_bytes (print_of parts) ≡ most_bytes parts
same_bytes [] = refl
same_bytes (r.part_text text ∷ rest) = sum_by-cons part_bytes (PrintPart.Text text) (print_of rest) ∙ ap (λ n. length text + n) (same_bytes rest)
same_bytes (r.part_value e ∷ rest) = sum_by-cons part_bytes PrintPart.Value (print_of rest) ∙ ap (λ n. 20 + n) (same_bytes rest)

print_fine : (program : check.Program) (slots : ℕ) (parts : List r.Part) → is_closed_print program slots parts ≡ true → is_print (print_of parts) ≡ true
print_fine program slots parts h =
    let split = and_parts (are_closed_parts program slots parts) (nat_le (most_bytes parts) 256) h in
    both (ap (λ n. nat_le n 256) (same_bytes parts) ∙ split.1) (parts_fine program slots parts split.0)

both_fine : (a b : List (List PrintPart)) → list_all is_print a ≡ true → list_all is_print b ≡ true → list_all is_print (a ++ b) ≡ true
both_fine a b one other = list_all-append is_print a b ∙ both one other

mutual
  statement_fine : (program : check.Program) (slots : ℕ) (looped : Bool) (statement : r.Statement) → is_closed_statement program slots looped statement ≡ true → list_all is_print (statement_prints statement) ≡ true
  statement_fine program slots looped (r.block body) h = statements_fine program slots looped body h
  statement_fine program slots looped (r.when test body) h =
      statement_fine program slots looped body (and_parts (is_closed_expression program slots test) (is_closed_statement program slots looped body) h).1
  statement_fine program slots looped (r.either test body other) h =
      let split = and_parts (is_closed_expression program slots test) (is_closed_statement program slots looped body && is_closed_statement program slots looped other) h in
      let parts = and_parts (is_closed_statement program slots looped body) (is_closed_statement program slots looped other) split.1 in
      both_fine (statement_prints other) (statement_prints body) (statement_fine program slots looped other parts.1) (statement_fine program slots looped body parts.0)
  statement_fine program slots looped (r.while test body) h =
      statement_fine program slots true body (and_parts (is_closed_expression program slots test) (is_closed_statement program slots true body) h).1
  statement_fine program slots looped (r.for start test step body) h =
      let a = and_parts (is_closed_start program slots start) (is_closed_option (is_closed_expression program slots) test && (is_closed_option (is_closed_expression program slots) step && is_closed_statement program slots true body)) h in
      let b = and_parts (is_closed_option (is_closed_expression program slots) test) (is_closed_option (is_closed_expression program slots) step && is_closed_statement program slots true body) a.1 in
      let c = and_parts (is_closed_option (is_closed_expression program slots) step) (is_closed_statement program slots true body) b.1 in
      statement_fine program slots true body c.1
  statement_fine program slots looped (r.print parts) h = both (print_fine program slots parts h) refl
  statement_fine program slots looped _ h = refl

  statements_fine : (program : check.Program) (slots : ℕ) (looped : Bool) (statements : r.Statements) → are_closed_statements program slots looped statements ≡ true → list_all is_print (statements_prints statements) ≡ true
  statements_fine program slots looped r.none h = refl
  statements_fine program slots looped (r.then statement rest) h =
      let split = and_parts (is_closed_statement program slots looped statement) (are_closed_statements program slots looped rest) h in
      both_fine (statements_prints rest) (statement_prints statement) (statements_fine program slots looped rest split.1) (statement_fine program slots looped statement split.0)

-- a closed function
record IsFunction (program : check.Program) (function : r.Function) : Type 0 where
  params : function.params ≤ function.slots
  body : are_closed_statements program function.slots false function.body ≡ true

function_facts : (program : check.Program) (function : r.Function) → is_closed_function program function ≡ true → IsFunction program function
function_facts program function h =
    let closes = are_closed_statements program function.slots false function.body in
    let a = and_parts (nat_le function.params function.slots) (nat_le function.slots 192 && (length function.names == function.slots && closes)) h in
    let b = and_parts (nat_le function.slots 192) (length function.names == function.slots && closes) a.1 in
    let c = and_parts (length function.names == function.slots) closes b.1 in
    record { params = leb-true function.params function.slots a.0; body = c.1 }

all_prints_fine : (program : check.Program) (functions : List r.Function) → list_all (is_closed_function program) functions ≡ true → list_all is_print (functions_prints functions) ≡ true
all_prints_fine program [] h = refl
all_prints_fine program (function ∷ rest) h =
    let split = and_parts (is_closed_function program function) (list_all (is_closed_function program) rest) h in
    both_fine (statements_prints function.body) (functions_prints rest) (statements_fine program function.slots false function.body (function_facts program function split.0).body) (all_prints_fine program rest split.1)

-- Functions.

-- none is above the highest
below_highest : {A : Type 0} (height : A → ℕ) (xs : List A) (place : ℕ) (x : A) → slice_get xs place ≡ Some x → height x ≤ highest height xs
below_highest height [] place x e = absurd cc
below_highest height (y ∷ xs) zero x e =
    let same : y ≡ x = cc in
    subst (λ z. height z ≤ max (height y) (highest height xs)) same (le-max_left (height y) (highest height xs))
below_highest height (y ∷ xs) (suc place) x e =
    let more = below_highest height xs place x e in
    let most = le-max_right (height y) (highest height xs) in
    omega (arith, more, most)

-- names are told where a step has a label
names_are : (slots : ℕ) (here : Row) → are_names slots (is_stop here.instr) (names_at here) ≡ true
names_are slots here = by (is_stop here.instr)
  where
    by : (stops : Bool) → are_names slots stops (if stops then Some [] else None) ≡ true
    by true = refl
    by false = refl

known_at : (f : Function) (place : ℕ) (here : Row) → f.names ≡ map names_at f.rows → slice_get f.rows place ≡ Some here → are_known f place here.instr ≡ true
known_at f place here named found =
    let same : slice_get f.names place ≡ Some (names_at here) = ap (λ names. slice_get names place) named ∙ (slice_get-map names_at f.rows place ∙ ap (option_map names_at) found) in
    ap (λ names. are_names f.slots (is_stop here.instr) (option_flatten names)) same ∙ names_are f.slots here

module _ (program : check.Program) (function : r.Function) (prints : ℕ) where
  abbrev code : Program
  code = code_of program

  abbrev f : Function
  f = function_code program.pieces prints function

  placed_is : is_short f ≡ true → deepest_in f ≤ code.deepest → IsPlaced code f
  placed_is short deep = record {
    short = ltb-true (length f.rows) (2 ^ 32) short;
    deep = λ place here found. let low = below_highest (λ one. one.depth) f.rows place here found in omega (arith, low, deep);
    known = λ place here found. known_at f place here refl found;
  }

  sound_is : is_closed_function program function ≡ true → is_short f ≡ true → deepest_in f ≤ code.deepest → f.slots ≤ code.widest → StandFrom code.prints prints (statements_prints function.body)
      → is_sound code f ≡ true
  sound_is closed short deep wide stand =
      let placed = placed_is short deep in
      let facts = function_facts program function closed in
      let body = statements_code program.pieces no_exits prints function.body in
      let out : LeadOut no_exits (ending ++ []) = record { loop = (refl, refl); body = (refl, refl) } in
      let whole : Leads code f 0 (body ++ ending) [] =
      leads_both code f 0 0 body ending [] (λ s. statements_lead program f placed function.body false no_exits prints (ending ++ []) facts.body stand out s) (push_leaves program f placed []) in
      let at : drop 0 f.rows ≡ (body ++ ending) ++ [] = sym (append-nil (body ++ ending)) in
      both (starts_there code f placed 0 0 ((body ++ ending) ++ []) at whole.starts) (both (le-leb f.params f.slots facts.params) (both (le-leb f.slots code.widest wide) (whole.part 0 at)))

all_sound_from : (program : check.Program) (functions : List r.Function) (prints : ℕ) → list_all (is_closed_function program) functions ≡ true → list_all is_short (functions_code program.pieces prints functions) ≡ true
    → highest deepest_in (functions_code program.pieces prints functions) ≤ (code_of program).deepest → highest (λ f. f.slots) (functions_code program.pieces prints functions) ≤ (code_of program).widest
    → StandFrom (code_of program).prints prints (functions_prints functions) → list_all (is_sound (code_of program)) (functions_code program.pieces prints functions) ≡ true
all_sound_from program [] prints closed short deep wide stand = refl
all_sound_from program (function ∷ rest) prints closed short deep wide stand =
    let f = function_code program.pieces prints function in
    let next = prints + length (statements_prints function.body) in
    let others = functions_code program.pieces next rest in
    let is_closed = and_parts (is_closed_function program function) (list_all (is_closed_function program) rest) closed in
    let shorts = and_parts (is_short f) (list_all is_short others) short in
    let deep_one = le-max_left (deepest_in f) (highest deepest_in others) in
    let deep_rest = le-max_right (deepest_in f) (highest deepest_in others) in
    let wide_one = le-max_left f.slots (highest (λ g. g.slots) others) in
    let wide_rest = le-max_right f.slots (highest (λ g. g.slots) others) in
    let first = sound_is program function prints is_closed.0 shorts.0 (omega (arith, deep, deep_one)) (omega (arith, wide, wide_one))
    (prints_front (code_of program).prints prints (statements_prints function.body) (functions_prints rest) stand) in
    let more = all_sound_from program rest next is_closed.1 shorts.1 (omega (arith, deep, deep_rest)) (omega (arith, wide, wide_rest))
    (prints_back (code_of program).prints prints (statements_prints function.body) (functions_prints rest) stand) in
    both first more

-- Programs.

limits_kept : (program : check.Program) → has_limits program ≡ true → are_few (code_of program) ≡ true
limits_kept program h =
    let a = and_parts (nat_le program.shared_cells 65536) (nat_le program.private_cells 16384 && (nat_le program.locks 256 && (nat_le program.barriers 64 && nat_le (length program.functions) 256))) h in
    let b = and_parts (nat_le program.private_cells 16384) (nat_le program.locks 256 && (nat_le program.barriers 64 && nat_le (length program.functions) 256)) a.1 in
    let c = and_parts (nat_le program.locks 256) (nat_le program.barriers 64 && nat_le (length program.functions) 256) b.1 in
    let d = and_parts (nat_le program.barriers 64) (nat_le (length program.functions) 256) c.1 in
    both a.0 (both c.0 d.0)

pub code_valid : (program : check.Program) → IsTrue (is_closed program) → IsTrue (are_short (code_of program)) → IsTrue (is_valid (code_of program))
code_valid program closed short =
    let code = code_of program in
    let a = and_parts (is_callable program program.main 2) (has_limits program && list_all (is_closed_function program) program.functions) closed in
    let b = and_parts (has_limits program) (list_all (is_closed_function program) program.functions) a.1 in
    let main = called program.pieces 0 program.functions program.main 2 a.0 in
    let is_main : has_main code ≡ true = both (lt-ltb program.main (length code.functions) main.within) (eq-eqb _ 2 main.params) in
    let stand : StandFrom code.prints 0 (functions_prints program.functions) = record { rest = []; is = sym (append-nil (functions_prints program.functions)) } in
    let sound = all_sound_from program program.functions 0 b.1 short (omega arith) (omega arith) stand in
    both is_main (both (limits_kept program b.0) (both (all_prints_fine program program.functions b.1) sound))

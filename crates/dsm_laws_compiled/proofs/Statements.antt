-- The code of statements is fine.
use Rattle.std.proofs.Common.{◌≡◌, ℕ, zero, suc, ◌+◌, pos, Bool, true, ◌&&◌, List, [], ◌∷◌, ◌++◌, length, drop, get_or, Option, Some, None, refl, sym, ap, ◌∙◌, subst, arith, append_assoc}
use Rattle.std.specs.Prelude.{slice_get, nat_lt, nat_le}
use Rattle.std.proofs.Math.Seq.{drop-append_seam, drop-append-add}
use Rattle.std.proofs.lemmas.Bool.{and_parts, lt-ltb, eq-eqb}
use Rattle.dsm_base.specs.declared.names.Bar.{Bar}
use Rattle.dsm_base.specs.declared.names.Mode.{Mode}
use Rattle.dsm_base.specs.declared.setup.Piece.{Piece}
use Rattle.dsm_check.specs.Resolved as r
use Rattle.dsm_check.specs.Programs as check
use Rattle.dsm_semantics.specs.Semantics.{lock_place_of, lock_line}
use Rattle.dsm_semantics.specs.Within.{most_bytes}
use Rattle.dsm_code.specs.declared.instruction.Target.{Target}
use Rattle.dsm_code.specs.declared.instruction.Instr.{Instr}
use Rattle.dsm_code.specs.declared.parts.Row.{Row}
use Rattle.dsm_code.specs.declared.parts.PrintPart.{PrintPart}
use Rattle.dsm_code.specs.Programs.{Program, Function, print_at, values_in}
use Rattle.dsm_code.specs.Instructions.{index_count, is_take, is_cross, is_below, same_target, same_mode}
use Rattle.dsm_laws_language.specs.Closed as closed
use Rattle.dsm_laws_language.specs.Closed.{is_closed_option, is_closed_expression, is_closed_variable, are_closed_variables, is_closed_part, are_closed_parts, is_closed_print, is_closed_start, is_closed_lock, is_closed_statement, are_closed_statements}
use Rattle.dsm_laws_language.proofs.Tests.{both}
use Rattle.dsm_laws_code.specs.Instructions.{row, array_of, lock_target, lock_depth}
use Rattle.dsm_laws_code.specs.Expressions.{expression_code, chosen_code}
use Rattle.dsm_laws_code.specs.Statements.{print_of, statement_prints, statements_prints, initial_code, variables_code, effect_code, option_code, start_code, reaching_lock_code, parts_code, Exits, before, loop_exits, test_code, round_code, loop_code, statement_code, statements_code}
use Rattle.dsm_laws_code.specs.Programs.{code_of}
use Rattle.dsm_laws_code.proofs.Places.{drop_on, first_left}
use Rattle.dsm_laws_compiled.proofs.Parts.{Starts, is_within, IsPlaced, Part, no_part, part_both, part_one, to_next, there_is, low_at, fine_at, Leads, leads_both, one_leads, one_then}
use Rattle.dsm_laws_compiled.proofs.Jumps.{jump_leads, skip_leads, chosen_leads, loop_leads}
use Rattle.dsm_laws_compiled.proofs.Expressions.{array_below, expression_leads}

-- the exits of a loop lead to where a statement can begin
pub record LeadOut (exits : Exits) (behind : List Row) : Type 0 where
  pub loop : Starts 0 (drop exits.loop behind)
  pub body : Starts 0 (drop exits.body behind)

-- so they do from before a part
pub out_before : (count : ℕ) (part : List Row) (exits : Exits) (behind : List Row) → count ≡ length part → LeadOut exits behind → LeadOut (before count exits) (part ++ behind)
out_before count part exits behind is out =
    let shifted : (n : ℕ) → drop (n + count) (part ++ behind) ≡ drop n behind =
    λ n. let e : n + count ≡ length part + n = omega (arith, is) in ap (λ m. drop m (part ++ behind)) e ∙ drop-append-add part behind n in
    record { loop = subst (Starts 0) (sym (shifted exits.loop)) out.loop; body = subst (Starts 0) (sym (shifted exits.body)) out.body }

-- these prints have the numbers from this one on
pub record StandFrom (prints : List (List PrintPart)) (number : ℕ) (some : List (List PrintPart)) : Type 0 where
  pub rest : List (List PrintPart)
  pub is : drop number prints ≡ some ++ rest

pub prints_front : (prints : List (List PrintPart)) (number : ℕ) (a b : List (List PrintPart)) → StandFrom prints number (a ++ b) → StandFrom prints number a
prints_front prints number a b h = record { rest = b ++ h.rest; is = h.is ∙ append_assoc a b h.rest }

pub prints_back : (prints : List (List PrintPart)) (number : ℕ) (a b : List (List PrintPart)) → StandFrom prints number (a ++ b) → StandFrom prints (number + length a) b
prints_back prints number a b h = record {
  rest = h.rest;
  is = drop_on number (length a) prints ∙ (ap (drop (length a)) (h.is ∙ append_assoc a b h.rest) ∙ drop-append_seam a (b ++ h.rest));
}

-- an item that is there, whatever stands where none is
get_is : {A : Type 0} (xs : List A) (place : ℕ) (x default : A) → slice_get xs place ≡ Some x → get_or xs place default ≡ x
get_is [] place x default e = absurd cc
get_is (y ∷ xs) zero x default e = cc
get_is (y ∷ xs) (suc place) x default e = get_is xs place x default e

module _ (program : check.Program) (f : Function) (placed : IsPlaced (code_of program) f) where
  abbrev code : Program
  code = code_of program

  abbrev pieces : List Piece
  pieces = program.pieces

  abbrev Goes : ℕ → List Row → List Row → Type 0
  Goes depth rows behind = Leads code f depth rows behind

  nothing : (behind : List Row) → Starts 0 behind → Goes 0 [] behind
  nothing behind starts = record { part = no_part code f behind; starts = starts }

  discard_leads : (behind : List Row) → Starts 0 behind → Goes 1 (row 1 Instr.Discard ∷ []) behind
  discard_leads behind starts = one_leads code f placed 1 0 Instr.Discard behind refl (omega arith) refl refl (λ place. refl) starts

  leave_leads : (behind : List Row) → Goes 1 (row 1 Instr.Leave ∷ []) behind
  leave_leads behind = record {
    part = part_leave;
    starts = (refl, refl);
  }
    where
      part_leave : Part code f (row 1 Instr.Leave ∷ []) behind
      part_leave place at = both (fine_at code f placed place 1 0 Instr.Leave behind (omega arith) refl refl at (omega arith, refl)) refl

  -- a value, and the end of the function
  pub push_leaves : (behind : List Row) → Goes 0 (row 0 (Instr.Push (pos 0)) ∷ row 1 Instr.Leave ∷ []) behind
  push_leaves behind = one_then code f placed 0 1 (Instr.Push (pos 0)) (row 1 Instr.Leave ∷ []) behind refl (omega arith) refl refl (λ place. refl) (leave_leads behind)

  -- Parts of statements.

  initial_leads : (initial : Option r.Expression) (behind : List Row) → is_closed_option (is_closed_expression program f.slots) initial ≡ true → Starts 1 behind → Goes 0 (initial_code pieces initial) behind
  initial_leads None behind names starts = one_leads code f placed 0 1 (Instr.Push (pos 0)) behind refl (omega arith) refl refl (λ place. refl) starts
  initial_leads (Some e) behind names starts = expression_leads program f placed e 0 behind names starts

  variables_lead : (variables : List r.Variable) (behind : List Row) → are_closed_variables program f.slots variables ≡ true → Starts 0 behind → Goes 0 (variables_code pieces variables) behind
  variables_lead [] behind names starts = nothing behind starts
  variables_lead (variable ∷ rest) behind names starts =
      let split = and_parts (is_closed_variable program f.slots variable) (are_closed_variables program f.slots rest) names in
      let own = and_parts (nat_lt variable.slot f.slots) (is_closed_option (is_closed_expression program f.slots) variable.initial) split.0 in
      let more = variables_lead rest behind split.1 starts in
      let drops = one_then code f placed 1 0 Instr.Discard (variables_code pieces rest) behind refl (omega arith) refl refl (λ place. refl) more in
      let stores = one_then code f placed 1 1 (Instr.StoreSlot variable.slot) (row 1 Instr.Discard ∷ variables_code pieces rest) behind refl (omega arith) refl own.0 (λ place. refl) drops in
      let tail = row 1 (Instr.StoreSlot variable.slot) ∷ row 1 Instr.Discard ∷ variables_code pieces rest in
      leads_both code f 0 1 (initial_code pieces variable.initial) tail behind (initial_leads variable.initial (tail ++ behind) own.1) stores

  effect_leads : (e : r.Expression) (behind : List Row) → is_closed_expression program f.slots e ≡ true → Starts 0 behind → Goes 0 (effect_code pieces e) behind
  effect_leads e behind names starts =
      leads_both code f 0 1 (expression_code pieces 0 e) (row 1 Instr.Discard ∷ []) behind (expression_leads program f placed e 0 (row 1 Instr.Discard ∷ behind) names) (discard_leads behind starts)

  option_leads : (e : Option r.Expression) (behind : List Row) → is_closed_option (is_closed_expression program f.slots) e ≡ true → Starts 0 behind → Goes 0 (option_code pieces e) behind
  option_leads None behind names starts = nothing behind starts
  option_leads (Some e) behind names starts = effect_leads e behind names starts

  start_leads : (start : r.ForStart) (behind : List Row) → is_closed_start program f.slots start ≡ true → Starts 0 behind → Goes 0 (start_code pieces start) behind
  start_leads r.start_nothing behind names starts = nothing behind starts
  start_leads (r.start_variables variables) behind names starts = variables_lead variables behind names starts
  start_leads (r.start_expression e) behind names starts = effect_leads e behind names starts

  parts_lead : (parts : List r.Part) (depth : ℕ) (behind : List Row) → are_closed_parts program f.slots parts ≡ true → Starts (depth + values_in (print_of parts)) behind
      → Goes depth (parts_code pieces depth parts) behind
  parts_lead [] depth behind names starts = let e : depth + 0 ≡ depth = omega arith in record { part = no_part code f behind; starts = subst (λ n. Starts n behind) e starts }
  parts_lead (r.part_text text ∷ rest) depth behind names starts =
      parts_lead rest depth behind (and_parts (is_closed_part program f.slots (r.part_text text)) (are_closed_parts program f.slots rest) names).1 starts
  parts_lead (r.part_value e ∷ rest) depth behind names starts =
      let split = and_parts (is_closed_expression program f.slots e) (are_closed_parts program f.slots rest) names in
      let same : depth + (values_in (print_of rest) + 1) ≡ depth + 1 + values_in (print_of rest) = omega arith in
      let more = parts_lead rest (depth + 1) behind split.1 (subst (λ n. Starts n behind) same starts) in
      leads_both code f depth (depth + 1) (expression_code pieces depth e) (parts_code pieces (depth + 1) rest) behind
      (expression_leads program f placed e depth (parts_code pieces (depth + 1) rest ++ behind) split.0) more

  print_leads : (parts : List r.Part) (number : ℕ) (behind : List Row) → is_closed_print program f.slots parts ≡ true → StandFrom code.prints number (print_of parts ∷ []) → Starts 0 behind
      → Goes 0 (parts_code pieces 0 parts ++ (row (values_in (print_of parts)) (Instr.Print number) ∷ [])) behind
  print_leads parts number behind names stand starts =
      let count = values_in (print_of parts) in
      let found = first_left number code.prints (print_of parts) stand.rest stand.is in
      let within = is_within code.prints number (print_of parts) found in
      let takes_it : values_in (print_at code number) ≡ count = ap values_in (get_is code.prints number (print_of parts) [] found) in
      let same : count ≡ 0 + count = omega arith in
      let print = one_leads code f placed count 0 (Instr.Print number) behind refl (omega (arith, takes_it)) (omega (arith, takes_it)) (lt-ltb number (length code.prints) within) (λ place. refl) starts in
      let split = and_parts (are_closed_parts program f.slots parts) (nat_le (most_bytes parts) 256) names in
      leads_both code f 0 count (parts_code pieces 0 parts) (row count (Instr.Print number) ∷ []) behind
      (λ s. parts_lead parts 0 (row count (Instr.Print number) ∷ behind) split.0 (subst (λ n. Starts n (row count (Instr.Print number) ∷ behind)) same s)) print

  -- Locks and barriers.

  reaching_lock : (lock : r.LockPlace) (behind : List Row) → is_closed_lock program f.slots lock ≡ true → Starts (lock_depth lock) behind → Goes 0 (reaching_lock_code pieces lock) behind
  reaching_lock (r.one_lock lock line) behind names starts = nothing behind starts
  reaching_lock (r.lock_element array index line) behind names starts =
      let inner = (and_parts (closed.is_below program.locks array) (is_closed_expression program f.slots index) names).1 in
      let test = row 1 (Instr.TestIndex (array_of array) line) in
      let last = one_leads code f placed 1 1 (Instr.TestIndex (array_of array) line) behind refl (omega arith) refl refl (λ place. refl) starts in
      leads_both code f 0 1 (expression_code pieces 0 index) (test ∷ []) behind (expression_leads program f placed index 0 (test ∷ behind) inner) last

  -- what locks a lock's target names
  lock_names : (lock : r.LockPlace) → is_closed_lock program f.slots lock ≡ true → is_below program.locks (lock_target (lock_place_of lock)) ≡ true
  lock_names (r.one_lock lock line) names = names
  lock_names (r.lock_element array index line) names = array_below program.locks array (and_parts (closed.is_below program.locks array) (is_closed_expression program f.slots index) names).0

  lock_counts : (lock : r.LockPlace) → index_count (lock_target (lock_place_of lock)) ≡ lock_depth lock
  lock_counts (r.one_lock lock line) = refl
  lock_counts (r.lock_element array index line) = refl

  same_is : (target : Target) → same_target target target ≡ true
  same_is (Target.One number) = eq-eqb number number refl
  same_is (Target.Member array) = both (eq-eqb array.first array.first refl) (eq-eqb array.size array.size refl)

  mode_is : (mode : Mode) → same_mode mode mode ≡ true
  mode_is Mode.Shared = refl
  mode_is Mode.Excl = refl

  taking : (lock : r.LockPlace) (mode : Mode) (behind : List Row) → is_closed_lock program f.slots lock ≡ true → Starts 0 behind
      → Goes (lock_depth lock) (row (lock_depth lock) (Instr.Ask (lock_target (lock_place_of lock)) mode (lock_line (lock_place_of lock))) ∷ row (lock_depth lock) (Instr.Take (lock_target (lock_place_of lock)) mode (lock_line (lock_place_of lock))) ∷ []) behind
  taking lock mode behind names starts =
      let target = lock_target (lock_place_of lock) in
      let line = lock_line (lock_place_of lock) in
      let depth = lock_depth lock in
      let counts = lock_counts lock in
      let ask = row depth (Instr.Ask target mode line) in
      let take = row depth (Instr.Take target mode line) in
      let takes_part = part_one code f placed depth 0 (Instr.Take target mode line) behind (omega (arith, counts)) (omega (arith, counts)) (lock_names lock names) (to_next code f placed 0 (Instr.Take target mode line) behind (λ place. refl) starts) in
      let asks_part = part_one code f placed depth depth (Instr.Ask target mode line) (take ∷ behind) (omega (arith, counts)) (omega (arith, counts)) (lock_names lock names)
      (λ place at. (low_at code f placed depth (place + 1) take behind at refl, there_is code f placed (is_take target mode) depth (place + 1) take behind at (both (same_is target) (mode_is mode)) refl)) in
      record { part = part_both code f (ask ∷ []) (take ∷ []) behind asks_part takes_part; starts = (refl, refl) }

  giving : (lock : r.LockPlace) (behind : List Row) → is_closed_lock program f.slots lock ≡ true → Starts 0 behind
      → Goes (lock_depth lock) (row (lock_depth lock) (Instr.Give (lock_target (lock_place_of lock)) (lock_line (lock_place_of lock))) ∷ []) behind
  giving lock behind names starts =
      let counts = lock_counts lock in
      one_leads code f placed (lock_depth lock) 0 (Instr.Give (lock_target (lock_place_of lock)) (lock_line (lock_place_of lock))) behind refl (omega (arith, counts)) (omega (arith, counts)) (lock_names lock names) (λ place. refl) starts

  crossing : (bar : Bar) (behind : List Row) → nat_lt bar.0 program.barriers ≡ true → Starts 0 behind → Goes 0 (row 0 (Instr.Arrive bar) ∷ row 0 (Instr.Cross bar) ∷ []) behind
  crossing bar behind names starts =
      let arrive = row 0 (Instr.Arrive bar) in
      let cross = row 0 (Instr.Cross bar) in
      let crosses = part_one code f placed 0 0 (Instr.Cross bar) behind (omega arith) refl names (to_next code f placed 0 (Instr.Cross bar) behind (λ place. refl) starts) in
      let arrives = part_one code f placed 0 0 (Instr.Arrive bar) (cross ∷ behind) (omega arith) refl names
      (λ place at. (omega arith, there_is code f placed (is_cross bar) 0 (place + 1) cross behind at (eq-eqb bar.0 bar.0 refl) refl)) in
      record { part = part_both code f (arrive ∷ []) (cross ∷ []) behind arrives crosses; starts = (refl, refl) }

  -- Loops.

  test_leads : (test : Option r.Expression) (count : ℕ) (behind : List Row) → is_closed_option (is_closed_expression program f.slots) test ≡ true → Starts 0 behind → Starts 0 (drop count behind)
      → Goes 0 (test_code pieces test count) behind
  test_leads None count behind names next past = nothing behind next
  test_leads (Some e) count behind names next past =
      leads_both code f 0 1 (expression_code pieces 0 e) (row 1 (Instr.SkipIfZero count) ∷ []) behind (expression_leads program f placed e 0 (row 1 (Instr.SkipIfZero count) ∷ behind) names)
      (skip_leads code f placed 0 count behind next past)

  -- a whole loop, by its body
  rounds_lead : (test : Option r.Expression) (step : Option r.Expression) (body behind : List Row) → is_closed_option (is_closed_expression program f.slots) test ≡ true
      → is_closed_option (is_closed_expression program f.slots) step ≡ true
      → ((next : List Row) → Starts 0 next → LeadOut (loop_exits (option_code pieces step)) next → Goes 0 body next) → Starts 0 behind
      → Goes 0 (loop_code pieces test body (option_code pieces step)) behind
  rounds_lead test step body behind test_names step_names leads starts = record { part = part_loop; starts = starts_loop }
    where
      third : List Row
      third = option_code pieces step

      whole : List Row
      whole = round_code pieces test body third

      back : Row
      back = row 0 (Instr.GoBack (length whole))

      third_goes : Goes 0 third (back ∷ behind)
      third_goes = option_leads step (back ∷ behind) step_names (refl, refl)

      out : LeadOut (loop_exits third) (third ++ (back ∷ behind))
      out = record { loop = subst (Starts 0) (sym (drop-append-add third (back ∷ behind) 1)) starts; body = third_goes.starts }

      body_goes : Goes 0 body (third ++ (back ∷ behind))
      body_goes = leads (third ++ (back ∷ behind)) third_goes.starts out

      inner_part : Part code f (body ++ third) (back ∷ behind)
      inner_part = part_both code f body third (back ∷ behind) body_goes.part third_goes.part

      inner_starts : Starts 0 ((body ++ third) ++ (back ∷ behind))
      inner_starts = subst (Starts 0) (sym (append_assoc body third (back ∷ behind))) body_goes.starts

      past : drop (length body + (length third + 1)) ((body ++ third) ++ (back ∷ behind)) ≡ behind
      past = ap (drop (length body + (length third + 1))) (append_assoc body third (back ∷ behind))
          ∙ (drop-append-add body (third ++ (back ∷ behind)) (length third + 1) ∙ drop-append-add third (back ∷ behind) 1)

      round_goes : Goes 0 whole (back ∷ behind)
      round_goes =
          let test_goes = test_leads test (length body + (length third + 1)) ((body ++ third) ++ (back ∷ behind)) test_names inner_starts (subst (Starts 0) (sym past) starts) in
          record {
            part = part_both code f (test_code pieces test (length body + (length third + 1))) (body ++ third) (back ∷ behind) test_goes.part inner_part;
            starts = subst (Starts 0) (sym (append_assoc (test_code pieces test (length body + (length third + 1))) (body ++ third) (back ∷ behind))) test_goes.starts;
          }

      loop_goes : Goes 0 (whole ++ (back ∷ [])) behind
      loop_goes = loop_leads code f placed whole behind round_goes

      part_loop : Part code f (loop_code pieces test body third) behind
      part_loop = loop_goes.part

      starts_loop : Starts 0 (loop_code pieces test body third ++ behind)
      starts_loop = loop_goes.starts

  -- Statements.

  mutual
    pub statement_leads : (statement : r.Statement) (looped : Bool) (exits : Exits) (number : ℕ) (behind : List Row) → is_closed_statement program f.slots looped statement ≡ true
        → StandFrom code.prints number (statement_prints statement) → LeadOut exits behind → Starts 0 behind → Goes 0 (statement_code pieces exits number statement) behind
    statement_leads (r.block body) looped exits number behind names stand out starts = statements_lead body looped exits number behind names stand out starts
    statement_leads r.empty looped exits number behind names stand out starts = nothing behind starts
    statement_leads (r.variables variables) looped exits number behind names stand out starts = variables_lead variables behind names starts
    statement_leads (r.expression e) looped exits number behind names stand out starts = effect_leads e behind names starts
    statement_leads (r.when test body) looped exits number behind names stand out starts =
        let split = and_parts (is_closed_expression program f.slots test) (is_closed_statement program f.slots looped body) names in
        let one = statement_code pieces exits number body in
        let inner = statement_leads body looped exits number behind split.1 stand out starts in
        let skip = skip_leads code f placed 0 (length one) (one ++ behind) inner.starts (subst (Starts 0) (sym (drop-append_seam one behind)) starts) in
        let rest : Goes 1 (row 1 (Instr.SkipIfZero (length one)) ∷ one) behind = record { part = part_both code f (row 1 (Instr.SkipIfZero (length one)) ∷ []) one behind skip.part inner.part; starts = skip.starts } in
        leads_both code f 0 1 (expression_code pieces 0 test) (row 1 (Instr.SkipIfZero (length one)) ∷ one) behind
        (expression_leads program f placed test 0 (row 1 (Instr.SkipIfZero (length one)) ∷ (one ++ behind)) split.0) rest
    statement_leads (r.either test body other) looped exits number behind names stand out starts =
        let split = and_parts (is_closed_expression program f.slots test) (is_closed_statement program f.slots looped body && is_closed_statement program f.slots looped other) names in
        let parts = and_parts (is_closed_statement program f.slots looped body) (is_closed_statement program f.slots looped other) split.1 in
        let two = statement_code pieces exits number other in
        let count = number + length (statement_prints other) in
        let inner = before (length two + 1) exits in
        let one = statement_code pieces inner count body in
        let jump = row 0 (Instr.GoOn (length two)) in
        let other_goes = statement_leads other looped exits number behind parts.1 (prints_front code.prints number (statement_prints other) (statement_prints body) stand) out starts in
        let other_stand = prints_back code.prints number (statement_prints other) (statement_prints body) stand in
        let more : length two + 1 ≡ length (jump ∷ two) = omega arith in
        let inner_out : LeadOut inner (jump ∷ (two ++ behind)) = out_before (length two + 1) (jump ∷ two) exits behind more out in
        let one_goes = statement_leads body looped inner count (jump ∷ (two ++ behind)) parts.0 other_stand inner_out (refl, refl) in
        let rest = chosen_leads code f placed 0 0 one two behind one_goes other_goes starts in
        leads_both code f 0 1 (expression_code pieces 0 test) (chosen_code 1 0 one two) behind (expression_leads program f placed test 0 (chosen_code 1 0 one two ++ behind) split.0) rest
    statement_leads (r.while test body) looped exits number behind names stand out starts =
        let split = and_parts (is_closed_expression program f.slots test) (is_closed_statement program f.slots true body) names in
        rounds_lead (Some test) None (statement_code pieces (loop_exits []) number body) behind split.0 refl
        (λ next s o. statement_leads body true (loop_exits []) number next split.1 stand o s) starts
    statement_leads (r.for start test step body) looped exits number behind names stand out starts =
        let a = and_parts (is_closed_start program f.slots start) (is_closed_option (is_closed_expression program f.slots) test && (is_closed_option (is_closed_expression program f.slots) step && is_closed_statement program f.slots true body)) names in
        let b = and_parts (is_closed_option (is_closed_expression program f.slots) test) (is_closed_option (is_closed_expression program f.slots) step && is_closed_statement program f.slots true body) a.1 in
        let c = and_parts (is_closed_option (is_closed_expression program f.slots) step) (is_closed_statement program f.slots true body) b.1 in
        let third = option_code pieces step in
        let loop = loop_code pieces test (statement_code pieces (loop_exits third) number body) third in
        leads_both code f 0 0 (start_code pieces start) loop behind (start_leads start (loop ++ behind) a.0)
        (rounds_lead test step (statement_code pieces (loop_exits third) number body) behind b.0 c.0 (λ next s o. statement_leads body true (loop_exits third) number next c.1 stand o s) starts)
    statement_leads r.break looped exits number behind names stand out starts = jump_leads code f placed 0 exits.loop behind out.loop
    statement_leads r.continue looped exits number behind names stand out starts = jump_leads code f placed 0 exits.body behind out.body
    statement_leads (r.return None) looped exits number behind names stand out starts = push_leaves behind
    statement_leads (r.return (Some e)) looped exits number behind names stand out starts =
        leads_both code f 0 1 (expression_code pieces 0 e) (row 1 Instr.Leave ∷ []) behind (expression_leads program f placed e 0 (row 1 Instr.Leave ∷ behind) names) (leave_leads behind)
    statement_leads (r.acquire lock mode) looped exits number behind names stand out starts =
        let last = taking lock mode behind names starts in
        let target = lock_target (lock_place_of lock) in
        let line = lock_line (lock_place_of lock) in
        let rows = row (lock_depth lock) (Instr.Ask target mode line) ∷ row (lock_depth lock) (Instr.Take target mode line) ∷ [] in
        leads_both code f 0 (lock_depth lock) (reaching_lock_code pieces lock) rows behind (reaching_lock lock (rows ++ behind) names) last
    statement_leads (r.release lock) looped exits number behind names stand out starts =
        let give = row (lock_depth lock) (Instr.Give (lock_target (lock_place_of lock)) (lock_line (lock_place_of lock))) in
        leads_both code f 0 (lock_depth lock) (reaching_lock_code pieces lock) (give ∷ []) behind (reaching_lock lock (give ∷ behind) names) (giving lock behind names starts)
    statement_leads (r.barrier bar) looped exits number behind names stand out starts = crossing bar behind names starts
    statement_leads (r.print parts) looped exits number behind names stand out starts = print_leads parts number behind names stand starts

    pub statements_lead : (statements : r.Statements) (looped : Bool) (exits : Exits) (number : ℕ) (behind : List Row) → are_closed_statements program f.slots looped statements ≡ true
        → StandFrom code.prints number (statements_prints statements) → LeadOut exits behind → Starts 0 behind → Goes 0 (statements_code pieces exits number statements) behind
    statements_lead r.none looped exits number behind names stand out starts = nothing behind starts
    statements_lead (r.then statement rest) looped exits number behind names stand out starts =
        let split = and_parts (is_closed_statement program f.slots looped statement) (are_closed_statements program f.slots looped rest) names in
        let tail = statements_code pieces exits number rest in
        let count = number + length (statements_prints rest) in
        let more = statements_lead rest looped exits number behind split.1 (prints_front code.prints number (statements_prints rest) (statement_prints statement) stand) out starts in
        let inner = before (length tail) exits in
        let inner_out = out_before (length tail) tail exits behind refl out in
        let inner_stand = prints_back code.prints number (statements_prints rest) (statement_prints statement) stand in
        leads_both code f 0 0 (statement_code pieces inner count statement) tail behind
        (λ s. statement_leads statement looped inner count (tail ++ behind) split.0 inner_stand inner_out s) more

-- The code of expressions is fine.
use Rattle.std.proofs.Common.{◌≡◌, ℕ, zero, suc, ◌+◌, ◌-◌, ◌<◌, pos, true, List, [], ◌∷◌, ◌++◌, length, drop, Option, Some, None, refl, sym, ap, ◌∙◌, subst, arith, append_assoc}
use Rattle.std.specs.Prelude.{slice_get, ◌&&◌, nat_lt}
use Rattle.std.proofs.Math.Seq.{drop-append-add}
use Rattle.std.proofs.lemmas.Bool.{and_parts, lt-ltb, leb-true, eqb-true}
use Rattle.dsm_base.specs.declared.setup.Piece.{Piece}
use Rattle.dsm_syntax.specs.declared.tree.Sharing.{Sharing}
use Rattle.dsm_syntax.specs.declared.tree.BinaryOp.{BinaryOp}
use Rattle.dsm_check.specs.declared.resolved.Array as resolved
use Rattle.dsm_check.specs.Resolved as r
use Rattle.dsm_check.specs.Programs as check
use Rattle.dsm_semantics.specs.Assignments.{operator_of}
use Rattle.dsm_semantics.specs.Semantics.{place_of}
use Rattle.dsm_semantics.specs.States.{cell, member}
use Rattle.dsm_code.specs.declared.instruction.Target.{Target}
use Rattle.dsm_code.specs.declared.instruction.Use.{Use}
use Rattle.dsm_code.specs.declared.instruction.Instr.{Instr}
use Rattle.dsm_code.specs.declared.parts.Row.{Row}
use Rattle.dsm_code.specs.Programs.{Program, Function, function_at, numbered}
use Rattle.dsm_code.specs.Instructions.{loaded_count}
use Rattle.dsm_laws_language.specs.Closed as closed
use Rattle.dsm_laws_language.specs.Closed.{is_closed_location, is_closed_expression, are_closed_arguments, is_callable, has_params, count_in}
use Rattle.dsm_laws_code.specs.Instructions.{row, array_of, loading, storing, depth_at}
use Rattle.dsm_laws_code.specs.Expressions.{second_depth, and_code, or_code, second_code, chosen_code, assigned_depth, assigning_code, count_of, reaching_code, expression_code, arguments_code}
use Rattle.dsm_laws_code.specs.Statements.{statements_prints}
use Rattle.dsm_laws_code.specs.Programs.{code_of, functions_code}
use Rattle.dsm_laws_compiled.proofs.Parts.{Starts, IsPlaced, no_part, part_both, Leads, leads_both, one_leads, one_then}
use Rattle.dsm_laws_compiled.proofs.Jumps.{jump_leads, skip_leads, chosen_leads}

-- an array below a bound, as instructions name it
pub array_below : (bound : ℕ) (array : resolved.Array) → closed.is_below bound array ≡ true → nat_lt (array.first + array.size) (bound + 1) ≡ true
array_below bound array h = let low = leb-true (array.first + array.size) bound h in lt-ltb (array.first + array.size) (bound + 1) (omega (arith, low))

-- arguments are counted alike
same_count : (arguments : r.Expressions) → count_in arguments ≡ count_of arguments
same_count r.nil = refl
same_count (r.cons e rest) = let more = same_count rest in omega (arith, more)

-- a function that can be called is there, with so many parameters
pub record IsCalled (functions : List Function) (number count : ℕ) : Type 0 where
  pub within : number < length functions
  pub params : (numbered (slice_get functions number)).params ≡ count

pub called : (pieces : List Piece) (prints : ℕ) (functions : List r.Function) (number count : ℕ) → has_params count (slice_get functions number) ≡ true
    → IsCalled (functions_code pieces prints functions) number count
called pieces prints [] number count h = absurd cc
called pieces prints (function ∷ rest) zero count h = record { within = omega arith; params = eqb-true function.params count h }
called pieces prints (function ∷ rest) (suc number) count h =
    let more = called pieces (prints + length (statements_prints function.body)) rest number count h in
    let within = more.within in
    record { within = omega (arith, within); params = more.params }

-- the operands that a load leaves, by those before its index and by those with it
abbrev after_load : Use → ℕ → ℕ → ℕ
after_load Use.Value depth at = depth + 1
after_load Use.Change depth at = at + 1
after_load Use.StepBehind depth at = at + 2

without_index : (way : Use) (depth : ℕ) → depth - 0 + loaded_count way 0 ≡ after_load way depth depth
without_index Use.Value depth = omega arith
without_index Use.Change depth = omega arith
without_index Use.StepBehind depth = omega arith

with_index : (way : Use) (depth : ℕ) → depth + 1 - 1 + loaded_count way 1 ≡ after_load way depth (depth + 1)
with_index Use.Value depth = omega arith
with_index Use.Change depth = omega arith
with_index Use.StepBehind depth = omega arith

module _ (program : check.Program) (f : Function) (placed : IsPlaced (code_of program) f) where
  abbrev code : Program
  code = code_of program

  abbrev pieces : List Piece
  pieces = program.pieces

  abbrev Goes : ℕ → List Row → List Row → Type 0
  Goes depth rows behind = Leads code f depth rows behind

  -- Places.

  load_leads : (location : r.Location) (way : Use) (depth : ℕ) (behind : List Row) → is_closed_location program f.slots location ≡ true → Starts (after_load way depth (depth_at depth location)) behind
      → Goes (depth_at depth location) (row (depth_at depth location) (loading (place_of location) way) ∷ []) behind
  load_leads (r.variable number) way depth behind names starts =
      one_leads code f placed depth (after_load way depth depth) (Instr.LoadSlot number way) behind refl (omega arith) (without_index way depth) names (λ place. refl) starts
  load_leads (r.cell Sharing.Shared number line) way depth behind names starts =
      one_leads code f placed depth (after_load way depth depth) (Instr.Load (Target.One number) way line) behind refl (omega arith) (without_index way depth) names (λ place. refl) starts
  load_leads (r.cell Sharing.Private number line) way depth behind names starts =
      one_leads code f placed depth (after_load way depth depth) (Instr.LoadOwn (Target.One number) way line) behind refl (omega arith) (without_index way depth) names (λ place. refl) starts
  load_leads (r.element Sharing.Shared array index line) way depth behind names starts =
      let below = (and_parts (closed.is_below program.shared_cells array) (is_closed_expression program f.slots index) names).0 in
      one_leads code f placed (depth + 1) (after_load way depth (depth + 1)) (Instr.Load (Target.Member (array_of array)) way line) behind refl (omega arith) (with_index way depth)
      (array_below program.shared_cells array below) (λ place. refl) starts
  load_leads (r.element Sharing.Private array index line) way depth behind names starts =
      let below = (and_parts (closed.is_below program.private_cells array) (is_closed_expression program f.slots index) names).0 in
      one_leads code f placed (depth + 1) (after_load way depth (depth + 1)) (Instr.LoadOwn (Target.Member (array_of array)) way line) behind refl (omega arith) (with_index way depth)
      (array_below program.private_cells array below) (λ place. refl) starts

  store_leads : (location : r.Location) (depth top : ℕ) (behind : List Row) → top ≡ depth_at depth location + 1 → is_closed_location program f.slots location ≡ true → Starts (depth + 1) behind
      → Goes top (row top (storing pieces (place_of location)) ∷ []) behind
  store_leads (r.variable number) depth top behind is names starts =
      one_leads code f placed top (depth + 1) (Instr.StoreSlot number) behind refl (omega (arith, is)) (omega (arith, is)) names (λ place. refl) starts
  store_leads (r.cell Sharing.Shared number line) depth top behind is names starts =
      one_leads code f placed top (depth + 1) (storing pieces (cell Sharing.Shared number line)) behind refl (omega (arith, is)) (omega (arith, is)) names (λ place. refl) starts
  store_leads (r.cell Sharing.Private number line) depth top behind is names starts =
      one_leads code f placed top (depth + 1) (Instr.StoreOwn (Target.One number) line) behind refl (omega (arith, is)) (omega (arith, is)) names (λ place. refl) starts
  store_leads (r.element Sharing.Shared array index line) depth top behind is names starts =
      let below = (and_parts (closed.is_below program.shared_cells array) (is_closed_expression program f.slots index) names).0 in
      one_leads code f placed top (depth + 1) (storing pieces (member Sharing.Shared array line)) behind refl (omega (arith, is)) (omega (arith, is)) (array_below program.shared_cells array below) (λ place. refl) starts
  store_leads (r.element Sharing.Private array index line) depth top behind is names starts =
      let below = (and_parts (closed.is_below program.private_cells array) (is_closed_expression program f.slots index) names).0 in
      one_leads code f placed top (depth + 1) (Instr.StoreOwn (Target.Member (array_of array)) line) behind refl (omega (arith, is)) (omega (arith, is)) (array_below program.private_cells array below) (λ place. refl) starts

  -- Operators of two operands.

  and_leads : (depth : ℕ) (second behind : List Row) → ((next : List Row) → Starts (depth + 1) next → Goes depth second next) → Starts (depth + 1) behind
      → Goes (depth + 1) (and_code depth second) behind
  and_leads depth second behind leads starts =
      let zero_is = row depth (Instr.Push (pos 0)) in
      let tail = row (depth + 1) Instr.ToTruth ∷ row (depth + 1) (Instr.GoOn 1) ∷ zero_is ∷ [] in
      let push = one_leads code f placed depth (depth + 1) (Instr.Push (pos 0)) behind refl (omega arith) (omega arith) refl (λ place. refl) starts in
      let jump = jump_leads code f placed (depth + 1) 1 (zero_is ∷ behind) starts in
      let jumped : Goes (depth + 1) (row (depth + 1) (Instr.GoOn 1) ∷ zero_is ∷ []) behind =
      record { part = part_both code f (row (depth + 1) (Instr.GoOn 1) ∷ []) (zero_is ∷ []) behind jump.part push.part; starts = jump.starts } in
      let rest : Goes (depth + 1) tail behind =
      one_then code f placed (depth + 1) (depth + 1) Instr.ToTruth (row (depth + 1) (Instr.GoOn 1) ∷ zero_is ∷ []) behind refl (omega arith) (omega arith) refl (λ place. refl) jumped in
      let whole = leads_both code f depth (depth + 1) second tail behind (leads (tail ++ behind)) rest in
      let over : drop (length second + 2) ((second ++ tail) ++ behind) ≡ zero_is ∷ behind =
      ap (drop (length second + 2)) (append_assoc second tail behind) ∙ drop-append-add second (tail ++ behind) 2 in
      let skip = skip_leads code f placed depth (length second + 2) ((second ++ tail) ++ behind) whole.starts (subst (Starts depth) (sym over) push.starts) in
      record { part = part_both code f (row (depth + 1) (Instr.SkipIfZero (length second + 2)) ∷ []) (second ++ tail) behind skip.part whole.part; starts = skip.starts }

  or_leads : (depth : ℕ) (second behind : List Row) → ((next : List Row) → Starts (depth + 1) next → Goes depth second next) → Starts (depth + 1) behind
      → Goes (depth + 1) (or_code depth second) behind
  or_leads depth second behind leads starts =
      let truth = row (depth + 1) Instr.ToTruth in
      let last = one_leads code f placed (depth + 1) (depth + 1) Instr.ToTruth behind refl (omega arith) (omega arith) refl (λ place. refl) starts in
      let whole = leads_both code f depth (depth + 1) second (truth ∷ []) behind (leads (truth ∷ behind)) last in
      let rest = second ++ (truth ∷ []) in
      let over : drop (length second + 1) (rest ++ behind) ≡ behind =
      ap (drop (length second + 1)) (append_assoc second (truth ∷ []) behind) ∙ drop-append-add second (truth ∷ behind) 1 in
      let jump = jump_leads code f placed (depth + 1) (length second + 1) (rest ++ behind) (subst (Starts (depth + 1)) (sym over) starts) in
      let goes = row (depth + 1) (Instr.GoOn (length second + 1)) in
      let jumped : Goes (depth + 1) (goes ∷ rest) behind = record { part = part_both code f (goes ∷ []) rest behind jump.part whole.part; starts = jump.starts } in
      let one = row depth (Instr.Push (pos 1)) in
      let push = one_then code f placed depth (depth + 1) (Instr.Push (pos 1)) (goes ∷ rest) behind refl (omega arith) (omega arith) refl (λ place. refl) jumped in
      let skip = skip_leads code f placed depth 2 (one ∷ goes ∷ (rest ++ behind)) push.starts whole.starts in
      record { part = part_both code f (row (depth + 1) (Instr.SkipIfZero 2) ∷ []) (one ∷ goes ∷ rest) behind skip.part push.part; starts = skip.starts }

  -- the two operands are there
  binary_leads : (op : BinaryOp) (line depth : ℕ) (second behind : List Row) → ((next : List Row) → Starts (depth + 2) next → Goes (depth + 1) second next) → Starts (depth + 1) behind
      → Goes (depth + 1) (second ++ (row (depth + 2) (Instr.Binary op line) ∷ [])) behind
  binary_leads op line depth second behind leads starts =
      let last = one_leads code f placed (depth + 2) (depth + 1) (Instr.Binary op line) behind refl (omega arith) (omega arith) refl (λ place. refl) starts in
      leads_both code f (depth + 1) (depth + 2) second (row (depth + 2) (Instr.Binary op line) ∷ []) behind (leads (row (depth + 2) (Instr.Binary op line) ∷ behind)) last

  abbrev Second : BinaryOp → ℕ → ℕ → List Row → List Row → Type 0
  Second op line depth second behind = ((next : List Row) → Starts (second_depth op depth + 1) next → Goes (second_depth op depth) second next) → Starts (depth + 1) behind → Goes (depth + 1) (second_code op line depth second) behind

  two : (depth : ℕ) (rows : List Row) → Starts (depth + 2) rows → Starts (depth + 1 + 1) rows
  two depth rows starts = let e : depth + 2 ≡ depth + 1 + 1 = omega arith in subst (λ n. Starts n rows) e starts

  second_leads : (op : BinaryOp) (line depth : ℕ) (second behind : List Row) → Second op line depth second behind
  second_leads BinaryOp.And line depth second behind leads starts = and_leads depth second behind leads starts
  second_leads BinaryOp.Or line depth second behind leads starts = or_leads depth second behind leads starts
  second_leads op line depth second behind leads starts = binary_leads op line depth second behind (λ next s. leads next (two depth next s)) starts

  deeper : (location : r.Location) (depth : ℕ) → depth_at depth location + 2 ≡ depth_at (depth + 1) location + 1
  deeper (r.variable number) depth = omega arith
  deeper (r.cell sharing number line) depth = omega arith
  deeper (r.element sharing array index line) depth = omega arith

  -- Assignments, behind the index of the place.

  assigning_leads : (location : r.Location) (op : Option BinaryOp) (line depth : ℕ) (value behind : List Row) → is_closed_location program f.slots location ≡ true
      → ((next : List Row) → Starts (assigned_depth op (depth_at depth location) + 1) next → Goes (assigned_depth op (depth_at depth location)) value next) → Starts (depth + 1) behind
      → Goes (depth_at depth location) (assigning_code op line (depth_at depth location) (loading (place_of location) Use.Change) (storing pieces (place_of location)) value) behind
  assigning_leads location None line depth value behind names leads starts =
      let at = depth_at depth location in
      let last = store_leads location depth (at + 1) behind refl names starts in
      leads_both code f at (at + 1) value (row (at + 1) (storing pieces (place_of location)) ∷ []) behind (leads (row (at + 1) (storing pieces (place_of location)) ∷ behind)) last
  assigning_leads location (Some op) line depth value behind names leads starts =
      let at = depth_at depth location in
      let stores = row (at + 1) (storing pieces (place_of location)) in
      let last = store_leads location depth (at + 1) behind refl names starts in
      let operator = one_then code f placed (at + 2) (at + 1) (Instr.Binary op line) (stores ∷ []) behind refl (omega arith) (omega arith) refl (λ place. refl) last in
      let rest = row (at + 2) (Instr.Binary op line) ∷ stores ∷ [] in
      let values = leads_both code f (at + 1) (at + 2) value rest behind (λ s. leads (rest ++ behind) (two at (rest ++ behind) s)) operator in
      leads_both code f at (at + 1) (row at (loading (place_of location) Use.Change) ∷ []) (value ++ rest) behind
      (λ s. load_leads location Use.Change depth ((value ++ rest) ++ behind) names s) values

  -- Expressions.

  mutual
    pub reaching_leads : (location : r.Location) (depth : ℕ) (behind : List Row) → is_closed_location program f.slots location ≡ true → Starts (depth_at depth location) behind
        → Goes depth (reaching_code pieces depth location) behind
    reaching_leads (r.variable number) depth behind names starts = record { part = no_part code f behind; starts = starts }
    reaching_leads (r.cell sharing number line) depth behind names starts = record { part = no_part code f behind; starts = starts }
    reaching_leads (r.element sharing array index line) depth behind names starts =
        let inner = (and_parts (closed.is_below (closed.cells_of program sharing) array) (is_closed_expression program f.slots index) names).1 in
        let last = one_leads code f placed (depth + 1) (depth + 1) (Instr.TestIndex (array_of array) line) behind refl (omega arith) (omega arith) refl (λ place. refl) starts in
        leads_both code f depth (depth + 1) (expression_code pieces depth index) (row (depth + 1) (Instr.TestIndex (array_of array) line) ∷ []) behind
        (expression_leads index depth (row (depth + 1) (Instr.TestIndex (array_of array) line) ∷ behind) inner) last

    pub expression_leads : (e : r.Expression) (depth : ℕ) (behind : List Row) → is_closed_expression program f.slots e ≡ true → Starts (depth + 1) behind
        → Goes depth (expression_code pieces depth e) behind
    expression_leads (r.number n) depth behind names starts =
        one_leads code f placed depth (depth + 1) (Instr.Push n) behind refl (omega arith) (omega arith) refl (λ place. refl) starts
    expression_leads (r.load location) depth behind names starts =
        let at = depth_at depth location in
        let load = row at (loading (place_of location) Use.Value) in
        leads_both code f depth at (reaching_code pieces depth location) (load ∷ []) behind
        (reaching_leads location depth (load ∷ behind) names) (load_leads location Use.Value depth behind names starts)
    expression_leads (r.call function arguments line) depth behind names starts =
        let split = and_parts (is_callable program function (count_in arguments)) (are_closed_arguments program f.slots arguments) names in
        let callee = called pieces 0 program.functions function (count_in arguments) split.0 in
        let count = count_of arguments in
        let params : (function_at code function).params ≡ count = callee.params ∙ same_count arguments in
        let enter = one_leads code f placed (depth + count) (depth + 1) (Instr.Enter function line) behind refl (omega (arith, params)) (omega (arith, params))
        (lt-ltb function (length code.functions) callee.within) (λ place. refl) starts in
        leads_both code f depth (depth + count) (arguments_code pieces depth arguments) (row (depth + count) (Instr.Enter function line) ∷ []) behind
        (arguments_lead arguments depth (row (depth + count) (Instr.Enter function line) ∷ behind) split.1) enter
    expression_leads (r.unary op line e) depth behind names starts =
        let last = one_leads code f placed (depth + 1) (depth + 1) (Instr.Unary op line) behind refl (omega arith) (omega arith) refl (λ place. refl) starts in
        leads_both code f depth (depth + 1) (expression_code pieces depth e) (row (depth + 1) (Instr.Unary op line) ∷ []) behind
        (expression_leads e depth (row (depth + 1) (Instr.Unary op line) ∷ behind) names) last
    expression_leads (r.prefix op line location) depth behind names starts =
        let at = depth_at depth location in
        let load = row at (loading (place_of location) Use.Change) in
        let stores = row (at + 1) (storing pieces (place_of location)) in
        let last = store_leads location depth (at + 1) behind refl names starts in
        let steps = one_then code f placed (at + 1) (at + 1) (Instr.StepBy op line) (stores ∷ []) behind refl (omega arith) (omega arith) refl (λ place. refl) last in
        let rest = row (at + 1) (Instr.StepBy op line) ∷ stores ∷ [] in
        let whole = leads_both code f at (at + 1) (load ∷ []) rest behind (λ s. load_leads location Use.Change depth (rest ++ behind) names s) steps in
        leads_both code f depth at (reaching_code pieces depth location) (load ∷ rest) behind (reaching_leads location depth (load ∷ (rest ++ behind)) names) whole
    expression_leads (r.postfix location op line) depth behind names starts =
        let at = depth_at depth location in
        let load = row at (loading (place_of location) Use.StepBehind) in
        let stores = row (at + 2) (storing pieces (place_of location)) in
        let drops = row (depth + 2) Instr.Discard in
        let last = one_leads code f placed (depth + 2) (depth + 1) Instr.Discard behind refl (omega arith) (omega arith) refl (λ place. refl) starts in
        let stored = leads_both code f (at + 2) (depth + 2) (stores ∷ []) (drops ∷ []) behind (λ s. store_leads location (depth + 1) (at + 2) (drops ∷ behind) (deeper location depth) names (two depth (drops ∷ behind) s)) last in
        let steps = one_then code f placed (at + 2) (at + 2) (Instr.StepBy op line) (stores ∷ drops ∷ []) behind refl (omega arith) (omega arith) refl (λ place. refl) stored in
        let rest = row (at + 2) (Instr.StepBy op line) ∷ stores ∷ drops ∷ [] in
        let whole = leads_both code f at (at + 2) (load ∷ []) rest behind (λ s. load_leads location Use.StepBehind depth (rest ++ behind) names s) steps in
        leads_both code f depth at (reaching_code pieces depth location) (load ∷ rest) behind (reaching_leads location depth (load ∷ (rest ++ behind)) names) whole
    expression_leads (r.binary a op line b) depth behind names starts =
        let split = and_parts (is_closed_expression program f.slots a) (is_closed_expression program f.slots b) names in
        let second = expression_code pieces (second_depth op depth) b in
        let rest = second_leads op line depth second behind (λ next s. expression_leads b (second_depth op depth) next split.1 s) starts in
        leads_both code f depth (depth + 1) (expression_code pieces depth a) (second_code op line depth second) behind
        (expression_leads a depth (second_code op line depth second ++ behind) split.0) rest
    expression_leads (r.choice test a b) depth behind names starts =
        let split = and_parts (is_closed_expression program f.slots test) (is_closed_expression program f.slots a && is_closed_expression program f.slots b) names in
        let parts = and_parts (is_closed_expression program f.slots a) (is_closed_expression program f.slots b) split.1 in
        let one = expression_code pieces depth a in
        let other = expression_code pieces depth b in
        let rest = chosen_leads code f placed depth (depth + 1) one other behind (expression_leads a depth (row (depth + 1) (Instr.GoOn (length other)) ∷ (other ++ behind)) parts.0 (refl, refl)) (expression_leads b depth behind parts.1 starts) starts in
        leads_both code f depth (depth + 1) (expression_code pieces depth test) (chosen_code (depth + 1) (depth + 1) one other) behind
        (expression_leads test depth (chosen_code (depth + 1) (depth + 1) one other ++ behind) split.0) rest
    expression_leads (r.assign location op line e) depth behind names starts =
        let split = and_parts (is_closed_location program f.slots location) (is_closed_expression program f.slots e) names in
        let at = depth_at depth location in
        let value = expression_code pieces (assigned_depth (operator_of op) at) e in
        let assign = assigning_code (operator_of op) line at (loading (place_of location) Use.Change) (storing pieces (place_of location)) value in
        let rest = assigning_leads location (operator_of op) line depth value behind split.0 (λ next s. expression_leads e (assigned_depth (operator_of op) at) next split.1 s) starts in
        leads_both code f depth at (reaching_code pieces depth location) assign behind (reaching_leads location depth (assign ++ behind) split.0) rest

    -- arguments leave their values
    pub arguments_lead : (arguments : r.Expressions) (depth : ℕ) (behind : List Row) → are_closed_arguments program f.slots arguments ≡ true → Starts (depth + count_of arguments) behind
        → Goes depth (arguments_code pieces depth arguments) behind
    arguments_lead r.nil depth behind names starts =
        let e : depth + 0 ≡ depth = omega arith in record { part = no_part code f behind; starts = subst (λ n. Starts n behind) e starts }
    arguments_lead (r.cons e rest) depth behind names starts =
        let split = and_parts (is_closed_expression program f.slots e) (are_closed_arguments program f.slots rest) names in
        let same : depth + (count_of rest + 1) ≡ depth + 1 + count_of rest = omega arith in
        let more = arguments_lead rest (depth + 1) behind split.1 (subst (λ n. Starts n behind) same starts) in
        leads_both code f depth (depth + 1) (expression_code pieces depth e) (arguments_code pieces (depth + 1) rest) behind
        (expression_leads e depth (arguments_code pieces (depth + 1) rest ++ behind) split.0) more

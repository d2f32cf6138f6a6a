-- Calls and returns.
use Rattle.std.proofs.Common.{◌≡◌, ℕ, zero, suc, ◌+◌, ◌-◌, ◌<◌, nat_lt, ℤ, pos, Bool, true, false, List, [], ◌∷◌, ◌++◌, length, drop, take, reverse, get_or, Option, Some, None, refl, sym, ap, ◌∙◌, subst, arith, append_assoc, length-append}
use Rattle.std.specs.Prelude.{slice_get, if◌then◌else◌}
use Rattle.std.proofs.lemmas.Bool.{ltb-true}
use Rattle.std.proofs.Math.Seq.{get_or-append_seam}
use Rattle.dsm_base.specs.declared.names.Fault.{Fault}
use Rattle.dsm_base.specs.declared.label.Want.{Want}
use Rattle.dsm_base.specs.declared.setup.Piece.{Piece}
use Rattle.dsm_base.specs.Steps.{Move, goes, asks, ended}
use Rattle.dsm_check.specs.Resolved as r
use Rattle.dsm_semantics.specs.States as t
use Rattle.dsm_semantics.specs.States.{Item, run}
use Rattle.dsm_semantics.specs.Semantics as sem
use Rattle.dsm_code.specs.declared.instruction.Instr.{Instr}
use Rattle.dsm_code.specs.declared.parts.Row.{Row}
use Rattle.dsm_code.specs.declared.parts.PrintPart.{PrintPart}
use Rattle.dsm_code.specs.Instructions as ins
use Rattle.dsm_code.specs.Programs as prog
use Rattle.dsm_code.specs.Programs.{Program, Function, function_at, print_at}
use Rattle.dsm_code.specs.Valid.{is_valid}
use Rattle.dsm_code.specs.Machine as mac
use Rattle.dsm_code.specs.Machine.{State, Frame, act, ready}
use Rattle.dsm_code.proofs.Facts.{row_fine}
use Rattle.dsm_laws_code.specs.Instructions.{row}
use Rattle.dsm_laws_code.specs.Statements.{statements_prints, statements_code}
use Rattle.dsm_laws_code.specs.Programs.{ending, no_exits, body_code, function_code, functions_code, functions_prints}
use Rattle.dsm_laws_code.proofs.Places.{at, IsThere, there_next, row_there, runs, no_leap}
use Rattle.dsm_laws_code.proofs.Standing.{Labels, HasPrints, Stands, AllWaitAs, Follows}
use Rattle.dsm_laws_code.proofs.Answering.{tree, Answers, answers_from, here, asks_one}
use Rattle.dsm_laws_code.proofs.Sequences.{prints_front, prints_back}

module _ (code : Program) (pieces : List Piece) where
  -- as many functions of the code are under way as of the tree
  pub same_depth : (frames : List t.Frame) (callers : List Frame) → AllWaitAs code pieces frames callers → length frames ≡ length callers
  same_depth [] [] wait = refl
  same_depth [] (caller ∷ callers) wait = absurd wait
  same_depth (frame ∷ frames) [] wait = absurd wait
  same_depth (frame ∷ frames) (caller ∷ callers) wait = let more = same_depth frames callers wait.1 in omega (arith, more)

  -- a function of the code is that of the tree
  pub record IsCompiled (functions : List r.Function) (number : ℕ) : Type 0 where
    pub function : r.Function
    pub prints : ℕ
    pub is : slice_get functions number ≡ Some function
    pub code_is : function_at code number ≡ function_code pieces prints function
    pub has : HasPrints code pieces prints (statements_prints function.body)

  -- a function begins
  pub begins : (functions : List r.Function) (number : ℕ) (c : IsCompiled functions number) → Stands code pieces number (run c.function.body ∷ []) [] (body_code pieces c.prints c.function)
  begins functions number c =
      let rows = body_code pieces c.prints c.function in
      (rows, no_leap code number rows, (ending, record { exits = no_exits; prints = c.prints; is = refl; exit = record { loop = refl; body = refl }; has = c.has }, (refl, no_leap code number ending)))

  pub starts : (functions : List r.Function) (number : ℕ) (c : IsCompiled functions number) → IsThere code number 0 (body_code pieces c.prints c.function)
  starts functions number c = ap (λ f. f.rows) c.code_is

  module _ (f : ℕ) where
    -- the innermost function returns
    pub returns_on : (frames : List t.Frame) (callers : List Frame) (wait : AllWaitAs code pieces frames callers) (place : ℕ) (o sl ow left_over : List ℤ) (k : List Item) (depth : ℕ) (behind : List Row)
        (value : ℤ) → IsThere code f place (row depth Instr.Leave ∷ behind) → ins.top o ≡ value
        → Answers code pieces [] ow (sem.returns (tree k left_over sl frames ow) value frames) (here code pieces f frames callers wait place o sl ow)
    returns_on [] [] wait place o sl ow left_over k depth behind value there is =
        asks_one code pieces f [] [] wait place o sl ow [] (row depth Instr.Leave) behind Want.End (λ answer. tree k left_over sl [] ow)
        (λ answer. mac.over (here code pieces f [] [] wait place o sl ow) ended) there refl refl (λ answer. tt)
    returns_on [] (caller ∷ callers) wait place o sl ow left_over k depth behind value there is = absurd wait
    returns_on (frame ∷ frames) [] wait place o sl ow left_over k depth behind value there is = absurd wait
    returns_on (frame ∷ frames) (caller ∷ callers) wait place o sl ow left_over k depth behind value there is =
        asks_one code pieces f (frame ∷ frames) (caller ∷ callers) wait place o sl ow [] (row depth Instr.Leave) behind Want.Quiet
        (λ answer. tree frame.todo (value ∷ frame.operands) frame.slots frames ow)
        (λ answer. mac.back_in (here code pieces f (frame ∷ frames) (caller ∷ callers) wait place o sl ow) (ins.top o) caller callers) there refl refl
        (λ answer. record {
          alive = refl;
          function = caller.function;
          place = caller.place + 1;
          callers = callers;
          is = λ i. at code caller.function (caller.place + 1) (record { operands = is i ∷ wait.0.operands i; slots = wait.0.slots i; outer = callers; own = ow });
          rows = wait.0.rows;
          there = wait.0.there;
          labels = wait.0.labels;
          stands = wait.0.stands;
          wait = wait.1;
        })

  module _ (functions : List r.Function) (compiled : (number : ℕ) → number < length code.functions → IsCompiled functions number) (valid : is_valid code ≡ true)
      (f : ℕ) (frames : List t.Frame) (callers : List Frame) (wait : AllWaitAs code pieces frames callers) (place : ℕ) (o sl ow : List ℤ) where
    abbrev c : State
    c = here code pieces f frames callers wait place o sl ow

    -- the code of a function ends
    pub ends_on : (rows : List Row) → IsThere code f place rows → Stands code pieces f [] [] rows → Answers code pieces [] ow (sem.returns (tree [] o sl frames ow) (pos 0) frames) c
    ends_on rows there st =
        let lands = st.1 place there in
        let x = row 0 (Instr.Push (pos 0)) in
        let y = row 1 Instr.Leave in
        let next = here code pieces f frames callers wait (lands.to + 1) (pos 0 ∷ o) sl ow in
        answers_from code pieces [] ow (sem.returns (tree [] o sl frames ow) (pos 0) frames) c next
        (lands.same (record { operands = o; slots = sl; outer = callers; own = ow })
        ∙ runs code f lands.to x (y ∷ []) (record { operands = o; slots = sl; outer = callers; own = ow }) next lands.there refl)
        (returns_on f frames callers wait (lands.to + 1) (pos 0 ∷ o) sl ow o [] 1 [] (pos 0) (there_next code f lands.to x (y ∷ []) lands.there) refl)

    enters : (k : List Item) (labels : List Labels) (behind : List Row) (depth number line : ℕ) → IsThere code f place (row depth (Instr.Enter number line) ∷ behind)
        → Stands code pieces f k labels behind → (m : IsCompiled functions number)
        → Follows code pieces (sem.entered (tree k o sl frames ow) (sem.numbered (slice_get functions number))) (mac.entered c number (function_at code number))
    enters k labels behind depth number line there st m =
        let rest = tree k o sl frames ow in
        let to = mac.entered c number (function_at code number) in
        let known : sem.numbered (slice_get functions number) ≡ m.function = ap sem.numbered m.is in
        let params = m.function.params in
        let caller = mac.waiting c (drop params o) in
        let follows : Follows code pieces (sem.entered rest m.function) to = record {
          alive = refl;
          function = number;
          place = 0;
          callers = caller ∷ callers;
          is = ap (mac.entered c number) m.code_is;
          rows = body_code pieces m.prints m.function;
          there = starts functions number m;
          labels = [];
          stands = begins functions number m;
          wait = (record { operands = refl; slots = refl; rows = behind; there = there_next code f place (row depth (Instr.Enter number line)) behind there; labels = labels; stands = st }, wait);
        } in
        subst (λ g. Follows code pieces (sem.entered rest g) to) (sym known) follows

    pub enter_on : (k : List Item) (labels : List Labels) (rows behind : List Row) (depth number line : ℕ) → IsThere code f place rows → rows ≡ row depth (Instr.Enter number line) ∷ behind
        → Stands code pieces f k labels behind → Answers code pieces [] ow (sem.entering (tree k o sl frames ow) line (sem.numbered (slice_get functions number))) c
    enter_on k labels rows behind depth number line there₁ e st = of (nat_lt (length frames + 1) 256) refl
      where
        of : (few : Bool) → nat_lt (length frames + 1) 256 ≡ few
            → Answers code pieces [] ow (if few then asks Want.Quiet (λ answer. sem.entered (tree k o sl frames ow) (sem.numbered (slice_get functions number))) else sem.faults (tree k o sl frames ow) Fault.Depth line) c
        of true is =
            let here_is = row depth (Instr.Enter number line) in
            let there = there₁ ∙ e in
            let fine = row_fine code f place here_is valid (row_there code f place here_is behind there) in
            let within = ltb-true number (length code.functions) fine.names in
            let same : nat_lt (length callers + 1) 256 ≡ true = ap (λ n. nat_lt (n + 1) 256) (sym (same_depth frames callers wait)) ∙ is in
            asks_one code pieces f frames callers wait place o sl ow [] here_is behind Want.Quiet _ (λ answer. mac.entered c number (function_at code number)) there
            (ap (λ b. if b then asks Want.Quiet (λ answer. mac.entered c number (function_at code number)) else mac.faults c Fault.Depth line) same) refl
            (λ answer. enters k labels behind depth number line there st (compiled number within))
        of false is =
            let here_is = row depth (Instr.Enter number line) in
            let same : nat_lt (length callers + 1) 256 ≡ false = ap (λ n. nat_lt (n + 1) 256) (sym (same_depth frames callers wait)) ∙ is in
            asks_one code pieces f frames callers wait place o sl ow [] here_is behind (Want.Stop Fault.Depth line) (λ answer. tree k o sl frames ow) (λ answer. c) (there₁ ∙ e)
            (ap (λ b. if b then asks Want.Quiet (λ answer. mac.entered c number (function_at code number)) else mac.faults c Fault.Depth line) same) refl (λ answer. tt)

  -- Whole programs.

  pub record IsFound (functions : List r.Function) (made : List Function) (number : ℕ) : Type 0 where
    pub function : r.Function
    pub prints : ℕ
    pub is : slice_get functions number ≡ Some function
    pub code_is : slice_get made number ≡ Some (function_code pieces prints function)
    pub has : HasPrints code pieces prints (statements_prints function.body)

  pub found : (functions : List r.Function) (base number : ℕ) → HasPrints code pieces base (functions_prints functions) → number < length (functions_code pieces base functions)
      → IsFound functions (functions_code pieces base functions) number
  found [] base number has within = absurd (omega (arith, within))
  found (function ∷ rest) base zero has within =
      record { function = function; prints = base; is = refl; code_is = refl; has = prints_front code pieces base (statements_prints function.body) (functions_prints rest) has }
  found (function ∷ rest) base (suc number) has within =
      let more = found rest (base + length (statements_prints function.body)) number (prints_back code pieces base (statements_prints function.body) (functions_prints rest) has) (omega (arith, within)) in
      record { function = more.function; prints = more.prints; is = more.is; code_is = more.code_is; has = more.has }

  -- the prints of the code have their numbers
  pub all_prints : (front prints : List (List PrintPart)) → code.prints ≡ front ++ prints → HasPrints code pieces (length front) prints
  all_prints front [] e = tt
  all_prints front (parts ∷ prints) e =
      let first : print_at code (length front) ≡ parts = ap (λ l. get_or l (length front) []) e ∙ get_or-append_seam front parts prints [] in
      let n : length (front ++ (parts ∷ [])) ≡ length front + 1 = omega (arith, length-append front (parts ∷ [])) in
      (first, subst (λ m. HasPrints code pieces m prints) n (all_prints (front ++ (parts ∷ [])) prints (e ∙ sym (append_assoc front (parts ∷ []) prints))))

-- What a thread wants at an instruction, by the value that decides.
use Rattle.std.proofs.Common.{◌≡◌, ◌∙◌, ℕ, ℤ, ◌+◌, ◌≤◌, Bool, true, false, List, [], ◌∷◌, ◌++◌, length, Option, Some, None, Ok, Err, refl, sym, ap, subst, arith, append_assoc}
use Rattle.std.specs.Prelude.{reverse, is_none, is_err, nat_lt}
use Rattle.std.proofs.lemmas.List.{reverse-append, length-append, length-reverse}
use Rattle.dsm_base.specs.Steps.{Move, goes}
use Rattle.dsm_syntax.specs.declared.tree.UnaryOp.{UnaryOp}
use Rattle.dsm_syntax.specs.declared.tree.BinaryOp.{BinaryOp}
use Rattle.dsm_values.specs.Values.{Outcome, unary_value, step_value, binary_value}
use Rattle.dsm_fields.specs.Fields.{are_kept, are_fit, numbered}
use Rattle.dsm_code.specs.declared.instruction.Target.{Target}
use Rattle.dsm_code.specs.declared.instruction.Instr.{Instr}
use Rattle.dsm_code.specs.declared.parts.Row.{Row}
use Rattle.dsm_code.specs.Instructions.{top, below, number_at}
use Rattle.dsm_code.specs.Programs.{Function, function_at}
use Rattle.dsm_code.specs.Valid.{takes}
use Rattle.dsm_code.specs.Machine.{State, Frame, at_number, comes_to, entering, returns, act}
use Rattle.dsm_saved.specs.Stops.{may_want, decider, stops, under}
use Rattle.dsm_saved.specs.Spelling.{value_fields}
use Rattle.dsm_saved.specs.States.{Asks}
use Rattle.dsm_saved.proofs.Deciding.{early_values, last_stops, fit_last_stops, last_but_one_stops, fit_last_but_one_stops}
use Rattle.dsm_saved.proofs.Writing.{last_after, last_of_one}

-- ---- an operand that isn't one of those named, or an operator's fault

no_number : (s : State) (line : ℕ) (o : Option ℕ) (t : ℕ → State) → Asks (at_number s line o (λ n. goes (t n))) → is_none o ≡ true
no_number s line None t asks = refl
no_number s line (Some n) t asks = absurd asks

numberless : (s : State) (line : ℕ) (o : Option ℕ) (t : ℕ → State) → is_none o ≡ true → Asks (at_number s line o (λ n. goes (t n)))
numberless s line None t none = tt
numberless s line (Some n) t none = absurd cc

no_value : (s : State) (rest : List ℤ) (line : ℕ) (outcome : Outcome) → Asks (comes_to s rest line outcome) → is_err outcome ≡ true
no_value s rest line (Ok value) asks = absurd asks
no_value s rest line (Err fault) asks = refl

valueless : (s : State) (rest : List ℤ) (line : ℕ) (outcome : Outcome) → is_err outcome ≡ true → Asks (comes_to s rest line outcome)
valueless s rest line (Ok value) err = absurd cc
valueless s rest line (Err fault) err = tt

-- ---- instructions at which a thread can stand

unary_may : (op : UnaryOp) (line : ℕ) (s : State) → Asks (act s (Instr.Unary op line)) → may_want (Instr.Unary op line) ≡ true
unary_may UnaryOp.Negate line s asks = refl
unary_may UnaryOp.Plus line s asks = absurd asks
unary_may UnaryOp.Not line s asks = absurd asks
unary_may UnaryOp.Complement line s asks = absurd asks

binary_may : (op : BinaryOp) (line : ℕ) (s : State) → Asks (act s (Instr.Binary op line)) → may_want (Instr.Binary op line) ≡ true
binary_may BinaryOp.Times line s asks = refl
binary_may BinaryOp.Divide line s asks = refl
binary_may BinaryOp.Remainder line s asks = refl
binary_may BinaryOp.Plus line s asks = refl
binary_may BinaryOp.Minus line s asks = refl
binary_may BinaryOp.ShiftLeft line s asks = refl
binary_may BinaryOp.ShiftRight line s asks = refl
binary_may BinaryOp.Less line s asks = absurd asks
binary_may BinaryOp.LessEqual line s asks = absurd asks
binary_may BinaryOp.Greater line s asks = absurd asks
binary_may BinaryOp.GreaterEqual line s asks = absurd asks
binary_may BinaryOp.Equal line s asks = absurd asks
binary_may BinaryOp.NotEqual line s asks = absurd asks
binary_may BinaryOp.BitAnd line s asks = absurd asks
binary_may BinaryOp.BitXor line s asks = absurd asks
binary_may BinaryOp.BitOr line s asks = absurd asks
binary_may BinaryOp.And line s asks = absurd asks
binary_may BinaryOp.Or line s asks = absurd asks

pub may_of : (i : Instr) (s : State) → Asks (act s i) → may_want i ≡ true
may_of (Instr.Push n) s asks = absurd asks
may_of Instr.Discard s asks = absurd asks
may_of (Instr.LoadSlot x way) s asks = absurd asks
may_of (Instr.StoreSlot x) s asks = absurd asks
may_of (Instr.LoadOwn (Target.One number) way line) s asks = absurd asks
may_of (Instr.LoadOwn (Target.Member array) way line) s asks = refl
may_of (Instr.StoreOwn (Target.One number) line) s asks = absurd asks
may_of (Instr.StoreOwn (Target.Member array) line) s asks = refl
may_of (Instr.Unary op line) s asks = unary_may op line s asks
may_of (Instr.Binary op line) s asks = binary_may op line s asks
may_of Instr.ToTruth s asks = absurd asks
may_of (Instr.GoOn count) s asks = absurd asks
may_of (Instr.SkipIfZero count) s asks = absurd asks
may_of (Instr.TestIndex array line) s asks = refl
may_of (Instr.Load target way line) s asks = refl
may_of (Instr.Store target bound line) s asks = refl
may_of (Instr.StepBy op line) s asks = refl
may_of (Instr.GoBack count) s asks = refl
may_of (Instr.Enter number line) s asks = refl
may_of Instr.Leave s asks = refl
may_of (Instr.Ask target mode line) s asks = refl
may_of (Instr.Take target mode line) s asks = refl
may_of (Instr.Give target line) s asks = refl
may_of (Instr.Arrive bar) s asks = refl
may_of (Instr.Cross bar) s asks = refl
may_of (Instr.Print number) s asks = refl

-- ---- the values of a function, with its operands on top

one_above : (slots rest : List ℤ) (value : ℤ) → slots ++ reverse (value ∷ rest) ≡ (slots ++ reverse rest) ++ value ∷ []
one_above slots rest value =
    ap (λ (w : List ℤ). slots ++ w) (reverse-append (value ∷ []) rest) ∙ sym (append_assoc slots (reverse rest) (value ∷ []))

two_above : (slots rest : List ℤ) (index value : ℤ) → slots ++ reverse (value ∷ index ∷ rest) ≡ (slots ++ reverse rest) ++ index ∷ value ∷ []
two_above slots rest index value =
    one_above slots (index ∷ rest) value ∙ ap (λ (w : List ℤ). w ++ value ∷ []) (one_above slots rest index)
    ∙ append_assoc (slots ++ reverse rest) (index ∷ []) (value ∷ [])

pub len_of : (slots rest : List ℤ) → length (slots ++ reverse rest) ≡ length slots + length rest
len_of slots rest = omega (arith, length-append slots (reverse rest), length-reverse rest)

under_is : (slots rest : List ℤ) (value : ℤ) → under (last_after None (slots ++ reverse (value ∷ rest))) ≡ value
under_is slots rest value = ap (λ (w : List ℤ). under (last_after None w)) (one_above slots rest value) ∙ ap under (last_of_one (slots ++ reverse rest) value None)

-- the instruction stands as the value that decides says
module _ (row : Row) (slots : List ℤ) (count : ℕ) where
  abbrev Kept : List ℤ → Type 0
  Kept operands = are_kept (numbered (value_fields (Some row) count) 0 None (slots ++ reverse operands)) ≡ true

  abbrev Fit : List ℤ → Type 0
  Fit operands = are_fit (numbered (value_fields (Some row) count) 0 None (slots ++ reverse operands)) ≡ true

  -- none decides
  pub kept_idle : (operands : List ℤ) → decider row.instr ≡ 0 → count ≡ length slots + length operands → Kept operands
  kept_idle operands zero len = early_values row count 0 None (slots ++ reverse operands) (omega (arith, zero, len, len_of slots operands))

  -- the one on top decides
  pub kept_top : (operands : List ℤ) → decider row.instr ≡ 1 → count ≡ length slots + length operands → 1 ≤ length operands
      → ((rest : List ℤ) (value : ℤ) → operands ≡ value ∷ rest → stops row.instr (under (last_after None (slots ++ reverse rest))) value ≡ true) → Kept operands
  kept_top [] one len some stop = absurd (omega (arith, some))
  kept_top (value ∷ rest) one len some stop =
      ap (λ (w : List ℤ). are_kept (numbered (value_fields (Some row) count) 0 None w)) (one_above slots rest value)
      ∙ last_stops row count (slots ++ reverse rest) value one (omega (arith, len, len_of slots rest)) (stop rest value refl)

  pub fit_top : (rest : List ℤ) (value : ℤ) → decider row.instr ≡ 1 → count ≡ length slots + length (value ∷ rest) → Fit (value ∷ rest) → stops row.instr (under (last_after None (slots ++ reverse rest))) value ≡ true
  fit_top rest value one len fit =
      fit_last_stops row count (slots ++ reverse rest) value one (omega (arith, len, len_of slots rest))
      (ap (λ (w : List ℤ). are_fit (numbered (value_fields (Some row) count) 0 None w)) (sym (one_above slots rest value)) ∙ fit)

  -- the one below it decides
  pub kept_below : (operands : List ℤ) → decider row.instr ≡ 2 → count ≡ length slots + length operands → 2 ≤ length operands
      → ((rest : List ℤ) (index value : ℤ) → operands ≡ value ∷ index ∷ rest → stops row.instr (under (last_after None (slots ++ reverse rest))) index ≡ true) → Kept operands
  kept_below [] two len some stop = absurd (omega (arith, some))
  kept_below (value ∷ []) two len some stop = absurd (omega (arith, some))
  kept_below (value ∷ index ∷ rest) two len some stop =
      ap (λ (w : List ℤ). are_kept (numbered (value_fields (Some row) count) 0 None w)) (two_above slots rest index value)
      ∙ last_but_one_stops row count (slots ++ reverse rest) index value two (omega (arith, len, len_of slots rest)) (stop rest index value refl)

  pub fit_below : (rest : List ℤ) (index value : ℤ) → decider row.instr ≡ 2 → count ≡ length slots + length (value ∷ index ∷ rest) → Fit (value ∷ index ∷ rest)
      → stops row.instr (under (last_after None (slots ++ reverse rest))) index ≡ true
  fit_below rest index value two len fit =
      fit_last_but_one_stops row count (slots ++ reverse rest) index value two (omega (arith, len, len_of slots rest))
      (ap (λ (w : List ℤ). are_fit (numbered (value_fields (Some row) count) 0 None w)) (sym (two_above slots rest index value)) ∙ fit)

under_top : (slots rest : List ℤ) → 1 ≤ length rest → under (last_after None (slots ++ reverse rest)) ≡ top rest
under_top slots [] some = absurd (omega (arith, some))
under_top slots (value ∷ rest) some = under_is slots rest value

record First (operands : List ℤ) : Type 0 where
  value : ℤ
  rest : List ℤ
  is : operands ≡ value ∷ rest

first_of : (operands : List ℤ) → 1 ≤ length operands → First operands
first_of [] some = absurd (omega (arith, some))
first_of (value ∷ rest) some = record { value = value; rest = rest; is = refl }

-- ---- with a state

module _ (depth count : ℕ) (s : State) (len : count ≡ length s.slots + length s.operands) where
  abbrev row_of : Instr → Row
  row_of i = record { instr = i; depth = depth }

  abbrev Keeps : Instr → Type 0
  Keeps i = Kept (row_of i) s.slots count s.operands

  -- the value on top names nothing, or brings a fault
  top_keeps : (i : Instr) (bad : List ℤ → Bool) → decider i ≡ 1 → 1 ≤ length s.operands → ((rest : List ℤ) (value : ℤ) → s.operands ≡ value ∷ rest → stops i (under (last_after None (s.slots ++ reverse rest))) value ≡ bad (value ∷ rest))
      → bad s.operands ≡ true → Keeps i
  top_keeps i bad one some same is = kept_top (row_of i) s.slots count s.operands one len some (λ rest value parts. same rest value parts ∙ ap bad (sym parts) ∙ is)

  second_is : (rest : List ℤ) (value : ℤ) → s.operands ≡ value ∷ rest → 2 ≤ length s.operands → 1 ≤ length rest
  second_is rest value parts some = omega (arith, ap length parts, some)

  -- a thread that wants something at an instruction has values that are kept
  pub kept_of : (i : Instr) → takes s.program i ≤ length s.operands → Asks (act s i) → Keeps i
  kept_of (Instr.TestIndex array line) some asks =
      top_keeps (Instr.TestIndex array line) (λ w. is_none (number_at (Target.Member array) (top w))) refl some (λ rest value parts. refl)
      (no_number s line (number_at (Target.Member array) (top s.operands)) _ asks)
  kept_of (Instr.LoadOwn (Target.One number) way line) some asks = absurd asks
  kept_of (Instr.LoadOwn (Target.Member array) way line) some asks =
      top_keeps (Instr.LoadOwn (Target.Member array) way line) (λ w. is_none (number_at (Target.Member array) (top w))) refl some (λ rest value parts. refl)
      (no_number s line (number_at (Target.Member array) (top s.operands)) _ asks)
  kept_of (Instr.StoreOwn (Target.One number) line) some asks = absurd asks
  kept_of (Instr.StoreOwn (Target.Member array) line) some asks =
      kept_below (row_of (Instr.StoreOwn (Target.Member array) line)) s.slots count s.operands refl len some
      (λ rest index value parts. ap (λ (w : List ℤ). is_none (number_at (Target.Member array) (top (below w)))) (sym parts) ∙ no_number s line (number_at (Target.Member array) (top (below s.operands))) _ asks)
  kept_of (Instr.Unary op line) some asks =
      top_keeps (Instr.Unary op line) (λ w. is_err (unary_value op (top w))) refl some (λ rest value parts. refl)
      (no_value s (below s.operands) line (unary_value op (top s.operands)) asks)
  kept_of (Instr.StepBy op line) some asks =
      top_keeps (Instr.StepBy op line) (λ w. is_err (step_value op (top w))) refl some (λ rest value parts. refl)
      (no_value s (below s.operands) line (step_value op (top s.operands)) asks)
  kept_of (Instr.Binary op line) some asks =
      top_keeps (Instr.Binary op line) (λ w. is_err (binary_value op (top (below w)) (top w))) refl (omega (arith, some))
      (λ rest value parts. ap (λ (u : ℤ). is_err (binary_value op u value)) (under_top s.slots rest (second_is rest value parts some)))
      (no_value s (below (below s.operands)) line (binary_value op (top (below s.operands)) (top s.operands)) asks)
  kept_of (Instr.Push n) some asks = absurd asks
  kept_of Instr.Discard some asks = absurd asks
  kept_of (Instr.LoadSlot x way) some asks = absurd asks
  kept_of (Instr.StoreSlot x) some asks = absurd asks
  kept_of Instr.ToTruth some asks = absurd asks
  kept_of (Instr.GoOn n) some asks = absurd asks
  kept_of (Instr.SkipIfZero n) some asks = absurd asks
  kept_of (Instr.Load target way line) some asks = kept_idle (row_of (Instr.Load target way line)) s.slots count s.operands refl len
  kept_of (Instr.Store target bound line) some asks = kept_idle (row_of (Instr.Store target bound line)) s.slots count s.operands refl len
  kept_of (Instr.GoBack n) some asks = kept_idle (row_of (Instr.GoBack n)) s.slots count s.operands refl len
  kept_of (Instr.Enter number line) some asks = kept_idle (row_of (Instr.Enter number line)) s.slots count s.operands refl len
  kept_of Instr.Leave some asks = kept_idle (row_of Instr.Leave) s.slots count s.operands refl len
  kept_of (Instr.Ask target mode line) some asks = kept_idle (row_of (Instr.Ask target mode line)) s.slots count s.operands refl len
  kept_of (Instr.Take target mode line) some asks = kept_idle (row_of (Instr.Take target mode line)) s.slots count s.operands refl len
  kept_of (Instr.Give target line) some asks = kept_idle (row_of (Instr.Give target line)) s.slots count s.operands refl len
  kept_of (Instr.Arrive bar) some asks = kept_idle (row_of (Instr.Arrive bar)) s.slots count s.operands refl len
  kept_of (Instr.Cross bar) some asks = kept_idle (row_of (Instr.Cross bar)) s.slots count s.operands refl len
  kept_of (Instr.Print number) some asks = kept_idle (row_of (Instr.Print number)) s.slots count s.operands refl len

  -- ---- and one whose values fit wants something

  abbrev Fits : Instr → Type 0
  Fits i = Fit (row_of i) s.slots count s.operands

  -- what the value on top brings
  top_fits : (i : Instr) (bad : List ℤ → Bool) → decider i ≡ 1 → 1 ≤ length s.operands → ((rest : List ℤ) (value : ℤ) → s.operands ≡ value ∷ rest → stops i (under (last_after None (s.slots ++ reverse rest))) value ≡ bad (value ∷ rest))
      → Fits i → bad s.operands ≡ true
  top_fits i bad one some same fit =
      let f = first_of s.operands some in
      ap bad f.is ∙ sym (same f.rest f.value f.is)
      ∙ fit_top (row_of i) s.slots count f.rest f.value one (subst (λ (w : List ℤ). count ≡ length s.slots + length w) f.is len) (subst (λ (w : List ℤ). Fit (row_of i) s.slots count w) f.is fit)

  below_fits : (i : Instr) (bad : List ℤ → Bool) → decider i ≡ 2 → 2 ≤ length s.operands
      → ((rest : List ℤ) (index value : ℤ) → stops i (under (last_after None (s.slots ++ reverse rest))) index ≡ bad (value ∷ index ∷ rest)) → Fits i → bad s.operands ≡ true
  below_fits i bad two some same fit =
      let f = first_of s.operands (omega (arith, some)) in
      let g = first_of f.rest (second_is f.rest f.value f.is some) in
      let parts : s.operands ≡ f.value ∷ g.value ∷ g.rest = f.is ∙ ap (λ (w : List ℤ). f.value ∷ w) g.is in
      ap bad parts ∙ sym (same g.rest g.value f.value)
      ∙ fit_below (row_of i) s.slots count g.rest g.value f.value two (subst (λ (w : List ℤ). count ≡ length s.slots + length w) parts len) (subst (λ (w : List ℤ). Fit (row_of i) s.slots count w) parts fit)

  number_or : (line : ℕ) (o : Option ℕ) (go : ℕ → Move State) → ((n : ℕ) → Asks (go n)) → Asks (at_number s line o go)
  number_or line None go asks = tt
  number_or line (Some n) go asks = asks n

  entering_asks : (number line : ℕ) (f : Function) → Asks (entering s number line f)
  entering_asks number line f = of (nat_lt (length s.outer + 1) 256) refl
    where
      of : (b : Bool) → nat_lt (length s.outer + 1) 256 ≡ b → Asks (entering s number line f)
      of true is = rw is tt
      of false is = rw is tt

  returning_asks : (value : ℤ) (outer : List Frame) → Asks (returns s value outer)
  returning_asks value [] = tt
  returning_asks value (caller ∷ outer) = tt

  pub asks_of : (i : Instr) → may_want i ≡ true → takes s.program i ≤ length s.operands → Fits i → Asks (act s i)
  asks_of (Instr.TestIndex array line) may some fit =
      numberless s line (number_at (Target.Member array) (top s.operands)) _
      (top_fits (Instr.TestIndex array line) (λ w. is_none (number_at (Target.Member array) (top w))) refl some (λ rest value parts. refl) fit)
  asks_of (Instr.LoadOwn (Target.One number) way line) may some fit = absurd cc
  asks_of (Instr.LoadOwn (Target.Member array) way line) may some fit =
      numberless s line (number_at (Target.Member array) (top s.operands)) _
      (top_fits (Instr.LoadOwn (Target.Member array) way line) (λ w. is_none (number_at (Target.Member array) (top w))) refl some (λ rest value parts. refl) fit)
  asks_of (Instr.StoreOwn (Target.One number) line) may some fit = absurd cc
  asks_of (Instr.StoreOwn (Target.Member array) line) may some fit =
      numberless s line (number_at (Target.Member array) (top (below s.operands))) _
      (below_fits (Instr.StoreOwn (Target.Member array) line) (λ w. is_none (number_at (Target.Member array) (top (below w)))) refl some (λ rest index value. refl) fit)
  asks_of (Instr.Unary op line) may some fit =
      valueless s (below s.operands) line (unary_value op (top s.operands)) (top_fits (Instr.Unary op line) (λ w. is_err (unary_value op (top w))) refl some (λ rest value parts. refl) fit)
  asks_of (Instr.StepBy op line) may some fit =
      valueless s (below s.operands) line (step_value op (top s.operands)) (top_fits (Instr.StepBy op line) (λ w. is_err (step_value op (top w))) refl some (λ rest value parts. refl) fit)
  asks_of (Instr.Binary op line) may some fit =
      valueless s (below (below s.operands)) line (binary_value op (top (below s.operands)) (top s.operands))
      (top_fits (Instr.Binary op line) (λ w. is_err (binary_value op (top (below w)) (top w))) refl (omega (arith, some))
      (λ rest value parts. ap (λ (u : ℤ). is_err (binary_value op u value)) (under_top s.slots rest (second_is rest value parts some))) fit)
  asks_of (Instr.Push n) may some fit = absurd cc
  asks_of Instr.Discard may some fit = absurd cc
  asks_of (Instr.LoadSlot x way) may some fit = absurd cc
  asks_of (Instr.StoreSlot x) may some fit = absurd cc
  asks_of Instr.ToTruth may some fit = absurd cc
  asks_of (Instr.GoOn n) may some fit = absurd cc
  asks_of (Instr.SkipIfZero n) may some fit = absurd cc
  asks_of (Instr.Load target way line) may some fit = number_or line (number_at target (top s.operands)) _ (λ n. tt)
  asks_of (Instr.Store target bound line) may some fit = number_or line (number_at target (top (below s.operands))) _ (λ n. tt)
  asks_of (Instr.GoBack n) may some fit = tt
  asks_of (Instr.Enter number line) may some fit = entering_asks number line (function_at s.program number)
  asks_of Instr.Leave may some fit = returning_asks (top s.operands) s.outer
  asks_of (Instr.Ask target mode line) may some fit = number_or line (number_at target (top s.operands)) _ (λ n. tt)
  asks_of (Instr.Take target mode line) may some fit = number_or line (number_at target (top s.operands)) _ (λ n. tt)
  asks_of (Instr.Give target line) may some fit = number_or line (number_at target (top s.operands)) _ (λ n. tt)
  asks_of (Instr.Arrive bar) may some fit = tt
  asks_of (Instr.Cross bar) may some fit = tt
  asks_of (Instr.Print number) may some fit = tt

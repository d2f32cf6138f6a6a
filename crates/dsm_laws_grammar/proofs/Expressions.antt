-- Expressions and places are read as their grammar has them.
use Rattle.std.proofs.Common.{◌≡◌, ◌≤◌, ◌<◌, ◌⊎◌, inl, inr, ℕ, zero, suc, ◌+◌, max, pos, Bool, true, false, cond, List, [], ◌∷◌, ◌++◌, Option, Some, None, refl, sym, ap, ◌∙◌, subst, arith, append_assoc}
use Rattle.std.specs.List.{AllByRecursion}
use Rattle.std.proofs.lemmas.List.{append-nil}
use Rattle.std.proofs.lemmas.Bool.{lt-ltb, le-ltb, cases_lt}
use Rattle.dsm_syntax.specs.declared.sign.Sign.{Sign}
use Rattle.dsm_syntax.specs.declared.tree.Name.{Name}
use Rattle.dsm_syntax.specs.declared.tree.StepOp.{StepOp}
use Rattle.dsm_syntax.specs.declared.tree.BinaryOp.{BinaryOp}
use Rattle.dsm_syntax.specs.declared.tree.AssignOp.{AssignOp}
use Rattle.dsm_syntax.specs.Tree.{Place, single, element, Expression, number, at, paren, call, unary, prefix, postfix, binary, choice, assign, nil}
use Rattle.dsm_syntax.specs.declared.operator.Infix.{Infix}
use Rattle.dsm_syntax.specs.declared.operator.Lead.{Lead}
use Rattle.dsm_syntax.specs.Lexemes.{Lexeme, named, numeral, sign, sign_at}
use Rattle.dsm_syntax.specs.Operators.{unary_sign, step_sign, binary_sign, assign_sign, binary_level}
use Rattle.dsm_laws_grammar.specs.Grammar.{spell_place, spell, spell_arguments, spell_more_arguments, spell_more, spell_list, Listed, level, FitsPlace, Fits, FitArguments}
use Rattle.dsm_syntax.specs.Heights.{height_place, height, height_arguments, highest}
use Rattle.dsm_syntax.specs.Reading.{Read, ok, unexpected, too_high, Reader, and_then, look, tail, is_sign, after_sign}
use Rattle.dsm_syntax.specs.Tokens.{is_name, read_name}
use Rattle.dsm_syntax.specs.Roles.{lead, step_of, infix_of, infix_tightness, tightness_of, tightness}
use Rattle.dsm_laws_grammar.specs.Expressions.{Lower, expressions, over, place_behind, place_at, stepped_by, stepped, arguments, named_behind, operand_by, operand, operation, climb, at_least, below, expression, place}
use Rattle.dsm_laws_grammar.proofs.Fronts.{cons_of, is_sign_look, of_sign}
use Rattle.dsm_laws_grammar.proofs.Good.{Language, Follow, Free, Spelled, Begins, BeginsPast, Good, good_ok, good_unexpected, good_too_high, good_as, good_weaken, good_map, good_up, good_after, good_then, good_next, good_if, good_sign, good_end}
use Rattle.dsm_laws_grammar.proofs.Lists.{good_list}
use Rattle.dsm_laws_grammar.proofs.Tables.{infix_sign, infix_level, assignment_small, infix_at, SteppedBy, stepped_by as step_next, Led, led, loose, tight, tightness_small, tightness_less}

-- Words.

-- what binds at least so tightly
abbrev pub Tight : ℕ → Expression → Type 0
Tight least e = Fits e × (least ≤ level e)

abbrev pub Exprs : ℕ → Language Expression
Exprs least = Spelled spell (Tight least) height

abbrev pub Places : Language Place
Places = Spelled spell_place FitsPlace height_place

-- what comes next doesn't go on with it
abbrev pub Stops : ℕ → Follow Expression
Stops least e next = tightness e next ≤ least

-- Heights.

pub height_place_pos : (p : Place) → 1 ≤ height_place p
height_place_pos (single name) = omega arith
height_place_pos (element name index) = omega arith

pub height_pos : (e : Expression) → 1 ≤ height e
height_pos (number value) = omega arith
height_pos (at place) = height_place_pos place
height_pos (paren e) = omega arith
height_pos (call name arguments) = omega arith
height_pos (unary op line e) = omega arith
height_pos (prefix op line place) = omega arith
height_pos (postfix place op line) = omega arith
height_pos (binary a op line b) = omega arith
height_pos (choice test line a b) = omega arith
height_pos (assign place op line e) = omega arith

-- Lists of arguments.

spell_more_list : (list : List Expression) → spell_more_arguments (expressions list) ≡ spell_more spell list
spell_more_list [] = refl
spell_more_list (e ∷ list) = ap (λ l. sign Sign.Comma ∷ (spell e ++ l)) (spell_more_list list)

pub spell_expressions : (list : List Expression) → spell_arguments (expressions list) ≡ spell_list spell list
spell_expressions [] = refl
spell_expressions (e ∷ list) = ap (λ l. spell e ++ l) (spell_more_list list)

fit_all : (least : ℕ) (list : List Expression) → AllByRecursion (Tight least) list → FitArguments (expressions list)
fit_all least [] fits = tt
fit_all least (e ∷ list) fits = (fits.0.0, fit_all least list fits.1)

pub fit_expressions : (least : ℕ) (list : List Expression) → Listed (Tight least) list → FitArguments (expressions list)
fit_expressions least [] fits = absurd fits
fit_expressions least (e ∷ list) fits = (fits.0.0, fit_all least list fits.1)

pub height_expressions : (list : List Expression) → height_arguments (expressions list) ≡ highest height list
height_expressions [] = refl
height_expressions (e ∷ list) = ap (λ n. max (height e) n) (height_expressions list)

-- Readers behind a token.

-- from a token that comes next
behind : {A : Type 0} {L : Language A} {F : Follow A} {P : ℕ → Reader A} {d : ℕ} {ts : List Lexeme} (x : Lexeme) → look ts ≡ Some x → ((rest : List Lexeme) → Good L F P d (x ∷ rest)) → Good L F P d ts
behind {L = L} {F = F} {P = P} {d = d} {ts = ts} x e good = subst (Good L F P d) (sym (cons_of ts x e)) (good (tail ts))

behind_sign : {A : Type 0} {L : Language A} {F : Follow A} {P : ℕ → Reader A} {d : ℕ} {ts : List Lexeme} (s : Sign) → is_sign s ts ≡ true → ((rest : List Lexeme) → Good L F P d (sign s ∷ rest)) → Good L F P d ts
behind_sign {L = L} {F = F} {P = P} {d = d} {ts = ts} s e good = subst (Good L F P d) (sym (of_sign s ts e)) (good (tail ts))

-- a token that makes a node over what is so high
good_over : {A : Type 0} {L : Language A} {F : Follow A} {P : ℕ → Reader A} {d : ℕ} {rest : List Lexeme} (x : Lexeme) (high : ℕ) → Begins L d [] → BeginsPast L d [] (Some x)
    → (high ≤ d → Good (λ m a w. L m a (x ∷ w)) F P d rest) → Good L F (λ m. over m high (P m)) d (x ∷ rest)
good_over {L = L} {F = F} {P = P} {d = d} {rest = rest} x high begun past good = of (cases_lt d high)
  where
    of : (d < high) ⊎ (high ≤ d) → Good L F (λ m. over m high (P m)) d (x ∷ rest)
    of (inl lt) = good_too_high begun past (λ r lk. ap (λ b. cond b (too_high r) (P d (tail r))) (lt-ltb d high lt))
    of (inr le) = good_after x (good le) (λ m s more. ap (λ b. cond b (too_high (x ∷ s)) (P m s)) (le-ltb m high (omega arith)))

-- What a level has of the levels below it.

pub record IsGood (d : ℕ) : Type 0 where
  pub expr : (least : ℕ) → least ≤ 12 → (ts : List Lexeme) → Good (Exprs least) (Stops least) (λ m. (below m).at_least least) d ts
  pub placed : (ts : List Lexeme) → Good Places Free (λ m. (below m).place) d ts

-- where there is one
abbrev pub GoodBelow : ℕ → Type 0
GoodBelow d = 1 ≤ d → IsGood d

-- The loop over operators.

-- what may come behind an expression that was read
pub record Follows (e : Expression) (next : Option Lexeme) : Type 0 where
  pub near : tightness e next ≤ level e + 1
  -- a choice and an assignment have taken what binds like them
  pub last : level e ≤ 1 → tightness e next ≤ level e

module _ (d : ℕ) (lower : Lower) where
  pub climb_stops : (n least : ℕ) (e : Expression) (ts : List Lexeme) → tightness e (look ts) ≤ least → climb d lower n least e ts ≡ ok e ts
  climb_stops zero least e ts h = rw (le-ltb _ _ h) refl
  climb_stops (suc n) least e ts h = rw (le-ltb _ _ h) refl

  climb_nests : (n least : ℕ) (e : Expression) (ts : List Lexeme) → least < tightness e (look ts) → d < height e → climb d lower n least e ts ≡ too_high ts
  climb_nests zero least e ts h g = rw (lt-ltb _ _ h) refl
  climb_nests (suc n) least e ts h g = rw (lt-ltb _ _ h, lt-ltb _ _ g) refl

  -- an operation is higher than what stands before it
  abbrev IsHigher : Expression → Read Expression → Type 0
  IsHigher left (ok e rest) = height left + 1 ≤ height e
  IsHigher left _ = Unit {0}

  higher : (o : Option (Infix × ℕ)) (left : Expression) (ts : List Lexeme) → IsHigher left (operation d lower o left ts)
  higher None left ts = tt
  higher (Some (Infix.Binary op, line)) left ts = of (lower.at_least (binary_level op + 1) ts)
    where
      of : (r : Read Expression) → IsHigher left (and_then r (λ right. ok (binary left op line right)))
      of (ok right rest) = omega arith
      of (unexpected rest) = tt
      of (too_high rest) = tt
  higher (Some (Infix.Question, line)) left ts = of (lower.at_least 0 ts)
    where
      on : (a : Expression) (r : Read Expression) → IsHigher left (and_then r (λ b. ok (choice left line a b)))
      on a (ok right rest) = omega arith
      on a (unexpected rest) = tt
      on a (too_high rest) = tt

      after : (a : Expression) (rest : List Lexeme) (b : Bool) → IsHigher left (cond b (and_then (lower.at_least 1 (tail rest)) (λ b. ok (choice left line a b))) (unexpected rest))
      after a rest true = on a (lower.at_least 1 (tail rest))
      after a rest false = tt

      of : (r : Read Expression) → IsHigher left (and_then r (λ a. after_sign Sign.Colon (λ rest. and_then (lower.at_least 1 rest) (λ b. ok (choice left line a b)))))
      of (ok a rest) = after a rest (is_sign Sign.Colon rest)
      of (unexpected rest) = tt
      of (too_high rest) = tt
  higher (Some (Infix.Assign op, line)) (at place) ts = of (lower.at_least 0 ts)
    where
      of : (r : Read Expression) → IsHigher (at place) (and_then r (λ e. ok (assign place op line e)))
      of (ok right rest) = omega arith
      of (unexpected rest) = tt
      of (too_high rest) = tt
  higher (Some (Infix.Assign op, line)) _ ts = tt

  -- enough turns are enough
  same_fuel : (n m least : ℕ) (e : Expression) (ts : List Lexeme) → d + 1 ≤ n + height e → d + 1 ≤ m + height e → climb d lower n least e ts ≡ climb d lower m least e ts
  same_fuel zero m least e ts p q = elim (cases_lt least (tightness e (look ts))) [
    | inl lt ↦ climb_nests zero least e ts lt (omega arith) ∙ sym (climb_nests m least e ts lt (omega arith))
    | inr le ↦ climb_stops zero least e ts le ∙ sym (climb_stops m least e ts le)
  ]
  same_fuel (suc n) zero least e ts p q = elim (cases_lt least (tightness e (look ts))) [
    | inl lt ↦ climb_nests (suc n) least e ts lt (omega arith) ∙ sym (climb_nests zero least e ts lt (omega arith))
    | inr le ↦ climb_stops (suc n) least e ts le ∙ sym (climb_stops zero least e ts le)
  ]
  same_fuel (suc n) (suc m) least e ts p q = of (λ c rest u v. same_fuel n m least c rest u v) (cases_lt least (tightness e (look ts))) (cases_lt d (height e))
    where
      of : ((c : Expression) (rest : List Lexeme) → d + 1 ≤ n + height c → d + 1 ≤ m + height c → climb d lower n least c rest ≡ climb d lower m least c rest)
          → (least < tightness e (look ts)) ⊎ (tightness e (look ts) ≤ least) → (d < height e) ⊎ (height e ≤ d) → climb d lower (suc n) least e ts ≡ climb d lower (suc m) least e ts
      of ih (inr le) h = climb_stops (suc n) least e ts le ∙ sym (climb_stops (suc m) least e ts le)
      of ih (inl lt) (inl above) = climb_nests (suc n) least e ts lt above ∙ sym (climb_nests (suc m) least e ts lt above)
      of ih (inl lt) (inr low) = rw (lt-ltb _ _ lt, le-ltb _ _ low) (both (operation d lower (infix_of (look ts)) e (tail ts)) (higher (infix_of (look ts)) e (tail ts)))
        where
          both : (r : Read Expression) → IsHigher e r → and_then r (climb d lower n least) ≡ and_then r (climb d lower m least)
          both (ok c rest) h = ih c rest (omega arith) (omega arith)
          both (unexpected rest) h = refl
          both (too_high rest) h = refl

  -- a turn
  pub climb_turns : (least : ℕ) (e : Expression) (i : Infix) (line : ℕ) (ts : List Lexeme) → infix_of (look ts) ≡ Some (i, line) → least < tightness e (look ts)
      → climb d lower d least e ts ≡ over d (height e) (λ rest. and_then (operation d lower (Some (i, line)) e rest) (climb d lower d least)) ts
  climb_turns least e i line ts next h = elim (cases_lt d (height e)) [
    | inl above ↦ climb_nests d least e ts h above ∙ sym (ap (λ b. cond b (too_high ts) (and_then (operation d lower (Some (i, line)) e (tail ts)) (climb d lower d least))) (lt-ltb _ _ above))
    | inr low ↦
        same_fuel d (suc d) least e ts (omega (arith, height_pos e)) (omega arith)
        ∙ (let turned : climb d lower (suc d) least e ts ≡ and_then (operation d lower (infix_of (look ts)) e (tail ts)) (climb d lower d least) = rw (lt-ltb _ _ h, le-ltb _ _ low) refl in turned)
        ∙ ap (λ o. and_then (operation d lower o e (tail ts)) (climb d lower d least)) next
        ∙ sym (ap (λ b. cond b (too_high ts) (and_then (operation d lower (Some (i, line)) e (tail ts)) (climb d lower d least))) (le-ltb _ _ low))
  ]

-- a name
name_of_none : Name
name_of_none = record { text = []; line = 0 }

-- Places.

-- behind its name
abbrev PlaceRest : Name → Language Place
PlaceRest name m p w = Places (suc m) p (named name ∷ w)

module _ (d : ℕ) (ih : GoodBelow d) where
  good_place_behind : (name : Name) (ts : List Lexeme) → Good (PlaceRest name) Free (λ m. place_behind m (below m) name) d ts
  good_place_behind name ts = good_if (is_sign Sign.BracketOpen) (is_sign_look Sign.BracketOpen)
      (λ e. behind_sign Sign.BracketOpen e (λ rest.
      good_over (sign Sign.BracketOpen) 1
      (record { value = single name; more = []; is = record { is = refl; fits = tt; low = omega arith } })
      (record { token = sign Sign.BracketOpen; next_is = refl; most = suc d; enough = omega arith; value = element name (number (pos 0)); more = numeral (pos 0) ∷ sign Sign.BracketClose ∷ []; is = record { is = refl; fits = tt; low = omega arith } })
      (λ le. good_next ((ih le).expr 0 (omega arith) rest)
      (λ m index more fits low. record { value = element name index; more = sign Sign.BracketClose ∷ []; is = record { is = refl; fits = fits.0; low = omega arith } })
      (λ index rest at fits low next. good_end Sign.BracketClose (element name index) (record { is = refl; fits = fits.0; low = omega arith }) (λ next. tt)))))
      (λ e. good_ok (single name) (record { is = refl; fits = tt; low = omega arith }) tt)

  good_place_at : (ts : List Lexeme) → Good (λ m. Places (suc m)) Free (λ m. place_at m (below m)) d ts
  good_place_at ts = of (is_name (look ts)) refl
    where
      refused : (s : List Lexeme) → is_name (look s) ≡ false → read_name s ≡ unexpected s
      refused (named name ∷ s) e = absurd cc
      refused [] e = refl
      refused (_ ∷ s) e = refl

      taken : (ts : List Lexeme) → is_name (look ts) ≡ true → Good (λ m. Places (suc m)) Free (λ m. place_at m (below m)) d ts
      taken (named name ∷ rest) e = good_after (named name) (good_place_behind name rest) (λ m s le. refl)
      taken [] e = absurd cc
      taken (_ ∷ s) e = absurd cc

      of : (b : Bool) → is_name (look ts) ≡ b → Good (λ m. Places (suc m)) Free (λ m. place_at m (below m)) d ts
      of true e = taken ts e
      of false e = good_as (good_unexpected (record { value = single name_of_none; more = named name_of_none ∷ []; is = record { is = refl; fits = tt; low = omega arith } }))
          (λ m s le lk. ap (λ r. and_then r (place_behind m (below m))) (refused s (ap is_name lk ∙ e)))

  -- Operands.

  -- behind a place
  good_stepped : (p : Place) → FitsPlace p → height_place p ≤ suc d → (ts : List Lexeme)
      → Good (λ m e w. Exprs 12 (suc m) e (spell_place p ++ w)) Free (λ m. stepped m (below m) p) d ts
  good_stepped p fits low ts = of (step_of (look ts)) refl (step_next (look ts))
    where
      of : (o : Option (StepOp × ℕ)) → step_of (look ts) ≡ o → SteppedBy o (look ts) → Good (λ m e w. Exprs 12 (suc m) e (spell_place p ++ w)) Free (λ m. stepped m (below m) p) d ts
      of None e next = good_as (good_ok (at p) (record { is = sym (append-nil (spell_place p)); fits = (fits, omega arith); low = low }) tt)
          (λ m s le lk. ap (λ o. stepped_by m (below m) o p s) (ap step_of lk ∙ e))
      of (Some (op, line)) e next = good_as (behind (sign_at (step_sign op) line) next (λ rest.
          good_over (sign_at (step_sign op) line) (height_place p)
          (record { value = at p; more = []; is = record { is = sym (append-nil (spell_place p)); fits = (fits, omega arith); low = low } })
          (record { token = sign_at (step_sign op) line; next_is = refl; most = d + height_place p; enough = omega arith; value = postfix p op line; more = []; is = record { is = refl; fits = (fits, omega arith); low = omega arith } })
          (λ le. good_ok (postfix p op line) (record { is = refl; fits = (fits, omega arith); low = omega arith }) tt)))
          (λ m s le lk. ap (λ o. stepped_by m (below m) o p s) (ap step_of lk ∙ e))

  -- behind the parenthesis that opens a call's arguments
  good_arguments : (name : Name) → 1 ≤ d → (ts : List Lexeme)
      → Good (λ m e w. Exprs 12 (suc m) e (named name ∷ sign Sign.ParenOpen ∷ w)) Free (λ m. arguments m (below m) name) d ts
  good_arguments name le ts = good_if (is_sign Sign.ParenClose) (is_sign_look Sign.ParenClose)
      (λ e. good_as (good_end Sign.ParenClose (call name nil) (record { is = refl; fits = (tt, omega arith); low = omega arith }) (λ next. tt))
      (λ m s more lk. ap (λ b. cond b (ok (call name nil) (tail s)) (unexpected s)) (sym (is_sign_look Sign.ParenClose s ts lk ∙ e))))
      (λ e. good_next (good_list (λ ts. (ih le).expr 0 (omega arith) ts) ts)
      (λ m list more fits low. record { value = call name (expressions list); more = sign Sign.ParenClose ∷ []; is = record { is = ap (λ l. named name ∷ sign Sign.ParenOpen ∷ (l ++ sign Sign.ParenClose ∷ [])) (spell_expressions list); fits = (fit_expressions 0 list fits, omega arith); low = omega (arith, height_expressions list) } })
      (λ list rest at fits low next. good_end Sign.ParenClose (call name (expressions list)) (record { is = ap (λ l. named name ∷ sign Sign.ParenOpen ∷ (l ++ sign Sign.ParenClose ∷ [])) (spell_expressions list); fits = (fit_expressions 0 list fits, omega arith); low = omega (arith, height_expressions list) }) (λ next. tt)))

  -- behind a name
  good_named : (name : Name) (ts : List Lexeme) → Good (λ m e w. Exprs 12 (suc m) e (named name ∷ w)) Free (λ m. named_behind m (below m) name) d ts
  good_named name ts = good_if (is_sign Sign.ParenOpen) (is_sign_look Sign.ParenOpen)
      (λ e. behind_sign Sign.ParenOpen e (λ rest. good_over (sign Sign.ParenOpen) 1
      (record { value = at (single name); more = []; is = record { is = refl; fits = (tt, omega arith); low = omega arith } })
      (record { token = sign Sign.ParenOpen; next_is = refl; most = suc d; enough = omega arith; value = call name nil; more = sign Sign.ParenClose ∷ []; is = record { is = refl; fits = (tt, omega arith); low = omega arith } })
      (λ le. good_arguments name le rest)))
      (λ e. good_then (good_place_behind name ts)
      (λ m p u more k. record { value = at p; more = []; is = record { is = k.is ∙ ap (λ l. named name ∷ l) (sym (append-nil u)); fits = (k.fits, omega arith); low = k.low } })
      (λ p u rest at k next. good_weaken (λ m e w more h. record { is = h.is ∙ ap (λ l. l ++ w) k.is; fits = h.fits; low = h.low }) (λ e next f. tt) (good_stepped p k.fits k.low rest)))

  first : Begins (λ m. Exprs 12 (suc m)) d []
  first = record { value = number (pos 0); more = numeral (pos 0) ∷ []; is = record { is = refl; fits = (tt, omega arith); low = omega arith } }

  good_operand : (ts : List Lexeme) → Good (λ m. Exprs 12 (suc m)) Free (λ m. operand m (below m)) d ts
  good_operand ts = of (lead (look ts)) refl (led (look ts))
    where
      by : (l : Lead) → Led l (look ts) → Good (λ m. Exprs 12 (suc m)) Free (λ m. operand_by m (below m) l) d ts
      by (Lead.Number value) next = behind (numeral value) next (λ rest. good_after (numeral value) (good_ok (number value) (record { is = refl; fits = (tt, omega arith); low = omega arith }) tt) (λ m s le. refl))
      by Lead.Name next = behind (named next.0) next.1 (λ rest. good_after (named next.0) (good_named next.0 rest) (λ m s le. refl))
      by Lead.Paren next = behind (sign Sign.ParenOpen) next (λ rest. good_over (sign Sign.ParenOpen) 1 first
          (record { token = sign Sign.ParenOpen; next_is = refl; most = suc d; enough = omega arith; value = paren (number (pos 0)); more = numeral (pos 0) ∷ sign Sign.ParenClose ∷ []; is = record { is = refl; fits = (tt, omega arith); low = omega arith } })
          (λ le. good_next ((ih le).expr 0 (omega arith) rest)
          (λ m e more fits low. record { value = paren e; more = sign Sign.ParenClose ∷ []; is = record { is = refl; fits = (fits.0, omega arith); low = omega arith } })
          (λ e rest at fits low next. good_end Sign.ParenClose (paren e) (record { is = refl; fits = (fits.0, omega arith); low = omega arith }) (λ next. tt))))
      by (Lead.Unary op line) next = behind (sign_at (unary_sign op) line) next (λ rest. good_over (sign_at (unary_sign op) line) 1 first
          (record { token = sign_at (unary_sign op) line; next_is = refl; most = suc d; enough = omega arith; value = unary op line (number (pos 0)); more = numeral (pos 0) ∷ []; is = record { is = refl; fits = ((tt, omega arith), omega arith); low = omega arith } })
          (λ le. good_map (unary op line) (good_weaken
          (λ m e w more h. record { is = ap (λ l. sign_at (unary_sign op) line ∷ l) h.is; fits = (h.fits, omega arith); low = let l = h.low in omega arith }) (λ e next f. tt)
          ((ih le).expr 12 (omega arith) rest))))
      by (Lead.Step op line) next = behind (sign_at (step_sign op) line) next (λ rest. good_over (sign_at (step_sign op) line) 1 first
          (record { token = sign_at (step_sign op) line; next_is = refl; most = suc d; enough = omega arith; value = prefix op line (single name_of_none); more = named name_of_none ∷ []; is = record { is = refl; fits = (tt, omega arith); low = omega arith } })
          (λ le. good_map (prefix op line) (good_weaken
          (λ m p w more h. record { is = ap (λ l. sign_at (step_sign op) line ∷ l) h.is; fits = (h.fits, omega arith); low = let l = h.low in omega arith }) (λ e next f. tt)
          ((ih le).placed rest))))
      by Lead.Nothing next = good_unexpected first

      of : (l : Lead) → lead (look ts) ≡ l → Led l (look ts) → Good (λ m. Exprs 12 (suc m)) Free (λ m. operand m (below m)) d ts
      of l e next = good_as (by l next) (λ m s le lk. ap (λ l. operand_by m (below m) l s) (ap lead lk ∙ e))

  -- The loop.

  -- what an operator makes of the expression before it
  abbrev Turned : Expression → Lexeme → ℕ → Language Expression
  Turned left x p m c w = Spelled spell (λ c. Fits c × (level c ≡ p) × (height left + 1 ≤ height c)) height (suc m) c (spell left ++ x ∷ w)

  abbrev TurnsTo : Follow Expression
  TurnsTo c next = Follows c next

  of_two : (n : ℕ) → (n ≤ 1 → 2 ≤ n) → 2 ≤ n
  of_two n h = elim (cases_lt n 2) [ inl lt ↦ h (omega arith) | inr le ↦ le ]

  -- what stands before an operator
  record Left (left : Expression) (i : Infix) : Type 0 where
    fits : Fits left
    low : height left ≤ d
    near : infix_tightness left i ≤ level left + 1
    last : level left ≤ 1 → infix_tightness left i ≤ level left
    binds : 1 ≤ infix_tightness left i

  good_binary : (left : Expression) (op : BinaryOp) (line : ℕ) → Left left (Infix.Binary op) → (ts : List Lexeme)
      → Good (Turned left (sign_at (binary_sign op) line) (binary_level op)) TurnsTo (λ m. operation m (below m) (Some (Infix.Binary op, line)) left) d ts
  good_binary left op line l ts = good_map (λ right. binary left op line right) (good_weaken
      (λ m right w more h. record { is = ap (λ w. spell left ++ sign_at (binary_sign op) line ∷ w) h.is; fits = ((l.fits, tighter, h.fits.0, h.fits.1), refl, omega arith); low = let k = h.low in let j = l.low in omega arith })
      (λ right next f. record { near = omega (arith, tightness_less (binary left op line right) right next refl, f); last = λ small. absurd (omega (arith, loose op, small)) })
      ((ih (omega (arith, height_pos left, l.low))).expr (binary_level op + 1) (omega (arith, tight op)) ts))
    where
      tighter : binary_level op ≤ level left
      tighter = omega (arith, l.near)

  good_choice : (left : Expression) (line : ℕ) → Left left Infix.Question → (ts : List Lexeme)
      → Good (Turned left (sign_at Sign.Question line) 1) TurnsTo (λ m. operation m (below m) (Some (Infix.Question, line)) left) d ts
  good_choice left line l ts =
      let one : 1 ≤ d = omega (arith, height_pos left, l.low) in
      good_next ((ih one).expr 0 (omega arith) ts)
      (λ m a more fits low. record { value = choice left line a (number (pos 0)); more = sign Sign.Colon ∷ numeral (pos 0) ∷ []; is = record { is = refl; fits = ((l.fits, tighter, fits.0, tt, omega arith), refl, omega arith); low = let j = l.low in omega arith } })
      (λ a rest at fits low next. good_sign Sign.Colon (λ rest. good_map (λ b. choice left line a b) (good_weaken
      (λ m b w more h. record { is = ap (λ w. spell left ++ sign_at Sign.Question line ∷ (spell a ++ sign Sign.Colon ∷ w)) h.is; fits = ((l.fits, tighter, fits.0, h.fits.0, h.fits.1), refl, omega arith); low = let k = h.low in let j = l.low in omega arith })
      (λ b next f. let less = tightness_less (choice left line a b) b next refl in record { near = omega arith; last = λ small. omega arith })
      ((ih one).expr 1 (omega arith) rest))))
    where
      tighter : 2 ≤ level left
      tighter = of_two (level left) l.last

  good_assign : (p : Place) (op : AssignOp) (line : ℕ) → Left (at p) (Infix.Assign op) → (ts : List Lexeme)
      → Good (Turned (at p) (sign_at (assign_sign op) line) 0) TurnsTo (λ m. operation m (below m) (Some (Infix.Assign op, line)) (at p)) d ts
  good_assign p op line l ts = good_map (λ e. assign p op line e) (good_weaken
      (λ m e w more h. record { is = ap (λ w. spell_place p ++ sign_at (assign_sign op) line ∷ w) h.is; fits = ((l.fits, h.fits.0), refl, omega arith); low = let k = h.low in let j = l.low in omega arith })
      (λ e next f. let less = tightness_less (assign p op line e) e next refl in record { near = omega arith; last = λ small. omega arith })
      ((ih (omega (arith, height_place_pos p, l.low))).expr 0 (omega arith) ts))

  good_operation : (left : Expression) (i : Infix) (line : ℕ) → Left left i → (ts : List Lexeme)
      → Good (Turned left (sign_at (infix_sign i) line) (infix_level i)) TurnsTo (λ m. operation m (below m) (Some (i, line)) left) d ts
  good_operation left (Infix.Binary op) line l ts = good_binary left op line l ts
  good_operation left Infix.Question line l ts = good_choice left line l ts
  good_operation (at p) (Infix.Assign op) line l ts = good_assign p op line l ts
  good_operation _ (Infix.Assign op) line l ts = absurd (omega (arith, l.binds))

  -- some expression goes on with an operator that can stand there
  goes_on : (left : Expression) (i : Infix) (line : ℕ) → Fits left → infix_tightness left i ≤ level left + 1 → (level left ≤ 1 → infix_tightness left i ≤ level left) → 1 ≤ infix_tightness left i
      → (e : Expression) × (more : List Lexeme) × (spell e ≡ spell left ++ sign_at (infix_sign i) line ∷ more) × Fits e × (level e ≡ infix_level i)
  goes_on left (Infix.Binary op) line fits near last binds = (binary left op line (number (pos 0)), numeral (pos 0) ∷ [], refl, (fits, omega arith, tt, omega (arith, tight op)), refl)
  goes_on left Infix.Question line fits near last binds = (choice left line (number (pos 0)) (number (pos 0)), numeral (pos 0) ∷ sign Sign.Colon ∷ numeral (pos 0) ∷ [], refl, (fits, of_two (level left) last, tt, tt, omega arith), refl)
  goes_on (at p) (Infix.Assign op) line fits near last binds = (assign p op line (number (pos 0)), numeral (pos 0) ∷ [], refl, (fits, tt), refl)
  goes_on _ (Infix.Assign op) line fits near last binds = absurd (omega arith)

  -- what begins with an expression
  abbrev Grown : ℕ → Expression → Language Expression
  Grown least left m e w = Exprs least (suc m) e (spell left ++ w)

  abbrev GoesOn : ℕ → Type 0
  GoesOn n = (least : ℕ) (left : Expression) (ts : List Lexeme) → Fits left → least ≤ level left → height left ≤ suc d → Follows left (look ts) → d + 1 ≤ n + height left
      → Good (Grown least left) (Stops least) (λ m. climb m (below m) m least left) d ts

  good_turn : (n least : ℕ) (left : Expression) (i : Infix) (line : ℕ) (ts : List Lexeme) → Fits left → least ≤ level left → height left ≤ suc d → Follows left (look ts)
      → infix_of (look ts) ≡ Some (i, line) → least < tightness left (look ts)
      → (height left ≤ d → (c : Expression) (rest : List Lexeme) → Fits c → least ≤ level c → height c ≤ suc d → Follows c (look rest) → height left + 1 ≤ height c → Good (Grown least c) (Stops least) (λ m. climb m (below m) m least c) d rest)
      → Good (Grown least left) (Stops least) (λ m. climb m (below m) m least left) d ts
  good_turn n least left i line ts fits reached low follows next binds others = good_as
      (behind (sign_at (infix_sign i) line) (infix_at (look ts) i line next) (λ rest. good_over (sign_at (infix_sign i) line) (height left)
      (record { value = left; more = []; is = record { is = sym (append-nil (spell left)); fits = (fits, reached); low = low } })
      (let more = goes_on left i line fits near last some in
      record { token = sign_at (infix_sign i) line; next_is = refl; most = d + height more.0; enough = omega arith; value = more.0; more = more.1; is = record { is = more.2; fits = (more.3, reaches more.0 more.4); low = omega arith } })
      (λ le. good_then (good_operation left i line (record { fits = fits; low = le; near = near; last = last; binds = some }) rest)
      (λ m c u more k. record { value = c; more = []; is = record { is = k.is ∙ ap (λ l. spell left ++ sign_at (infix_sign i) line ∷ l) (sym (append-nil u)); fits = (k.fits.0, reaches c k.fits.1); low = k.low } })
      (λ c u rest at k next. good_weaken
      (λ m e w more h. record { is = h.is ∙ ap (λ l. l ++ w) k.is ∙ append_assoc (spell left) (sign_at (infix_sign i) line ∷ u) w; fits = h.fits; low = h.low }) (λ e next f. f)
      (others le c rest k.fits.0 (reaches c k.fits.1) k.low next k.fits.2)))))
      (λ m s more lk. climb_turns m (below m) least left i line s (ap infix_of lk ∙ next) (rw lk binds))
    where
      is_tight : tightness left (look ts) ≡ infix_tightness left i
      is_tight = ap (tightness_of left) next

      near : infix_tightness left i ≤ level left + 1
      near = omega (arith, is_tight, follows.near)

      last : level left ≤ 1 → infix_tightness left i ≤ level left
      last small = omega (arith, is_tight, follows.last small)

      some : 1 ≤ infix_tightness left i
      some = omega (arith, is_tight, binds)

      at_level : (e : Expression) (j : Infix) → infix_tightness e j ≤ infix_level j + 1
      at_level e (Infix.Binary op) = omega arith
      at_level e Infix.Question = omega arith
      at_level e (Infix.Assign op) = assignment_small e

      reaches : (c : Expression) → level c ≡ infix_level i → least ≤ level c
      reaches c e = omega (arith, e, is_tight, binds, at_level left i)

  good_climb_by : (n : ℕ) → ((least : ℕ) (left : Expression) (i : Infix) (line : ℕ) (ts : List Lexeme) → Fits left → least ≤ level left → height left ≤ suc d → Follows left (look ts) → d + 1 ≤ n + height left
      → infix_of (look ts) ≡ Some (i, line) → least < tightness left (look ts) → Good (Grown least left) (Stops least) (λ m. climb m (below m) m least left) d ts) → GoesOn n
  good_climb_by n turn least left ts fits tight low follows fuel = of (cases_lt least (tightness left (look ts)))
    where
      by : (o : Option (Infix × ℕ)) → infix_of (look ts) ≡ o → least < tightness left (look ts) → Good (Grown least left) (Stops least) (λ m. climb m (below m) m least left) d ts
      by None e lt = absurd (omega (arith, ap (tightness_of left) e))
      by (Some (i, line)) e lt = turn least left i line ts fits tight low follows fuel e lt

      of : (least < tightness left (look ts)) ⊎ (tightness left (look ts) ≤ least) → Good (Grown least left) (Stops least) (λ m. climb m (below m) m least left) d ts
      of (inr le) = good_as (good_ok left (record { is = sym (append-nil (spell left)); fits = (fits, tight); low = low }) le)
          (λ m s more lk. climb_stops m (below m) m least left s (rw lk le))
      of (inl lt) = by (infix_of (look ts)) refl lt

  good_climb : (n : ℕ) → GoesOn n
  good_climb zero = good_climb_by zero (λ least left i line ts fits tight low follows fuel next binds. good_turn zero least left i line ts fits tight low follows next binds
      (λ le c rest f t h g r. absurd (omega arith)))
  good_climb (suc n) = good_climb_by (suc n) (λ least left i line ts fits tight low follows fuel next binds. good_turn (suc n) least left i line ts fits tight low follows next binds
      (λ le c rest f t h g r. good_climb n least c rest f t h g (omega arith)))

  good_at_least : (least : ℕ) → least ≤ 12 → (ts : List Lexeme) → Good (λ m. Exprs least (suc m)) (Stops least) (λ m. at_least m (below m) least) d ts
  good_at_least least small ts = good_then (good_operand ts)
      (λ m e u more k. record { value = e; more = []; is = record { is = k.is ∙ sym (append-nil u); fits = (k.fits.0, omega (arith, k.fits.1)); low = k.low } })
      (λ e u rest at k next. good_weaken
      (λ m f w more h. record { is = h.is ∙ ap (λ l. l ++ w) k.is; fits = h.fits; low = h.low }) (λ f next s. s)
      (good_climb d least e rest k.fits.0 (omega (arith, k.fits.1)) k.low
      (record { near = omega (arith, tightness_small e (look rest), k.fits.1); last = λ loose. absurd (omega (arith, k.fits.1)) }) (omega (arith, height_pos e))))

-- Whatever the height.

good_level : (d : ℕ) → GoodBelow d
good_level zero one = absurd (omega arith)
good_level (suc d) one = record {
  expr = λ least small ts. good_up (good_at_least d (good_level d) least small ts) (λ m s le lk. refl);
  placed = λ ts. good_up (good_place_at d (good_level d) ts) (λ m s le lk. refl);
}

pub expression_good : (d : ℕ) → 1 ≤ d → (ts : List Lexeme) → Good (Spelled spell Fits height) Free expression d ts
expression_good d one ts = good_weaken (λ m e w le h. record { is = h.is; fits = h.fits.0; low = h.low }) (λ e next f. tt) ((good_level d one).expr 0 (omega arith) ts)

pub place_good : (d : ℕ) → 1 ≤ d → (ts : List Lexeme) → Good (Spelled spell_place FitsPlace height_place) Free place d ts
place_good d one ts = (good_level d one).placed ts

-- Places in code, by the instructions that stand there and behind; what is run there.
use Rattle.std.proofs.Common.{◌≡◌, ℕ, zero, suc, ◌+◌, ℤ, List, [], ◌∷◌, ◌++◌, length, drop, Option, Some, None, refl, sym, ap, ◌∙◌, subst, arith}
use Rattle.std.specs.Prelude.{slice_get}
use Rattle.std.proofs.Math.Seq.{drop-append_seam}
use Rattle.dsm_base.specs.declared.label.Want.{Want}
use Rattle.dsm_base.specs.Steps.{Move, goes, asks}
use Rattle.dsm_base.proofs.StepsSettle.{settled_goes, settled_asks}
use Rattle.dsm_code.specs.declared.instruction.Instr.{Instr}
use Rattle.dsm_code.specs.declared.parts.Row.{Row}
use Rattle.dsm_code.specs.Programs.{Program, function_at, row_at}
use Rattle.dsm_code.specs.Machine.{State, Frame, act, act_at, step, weight, ready, text, text_of, text_at}
use Rattle.dsm_code.proofs.Falls.{step_falls}
use Rattle.dsm_laws_code.specs.Instructions.{row}

none_left : {A : Type 0} (n : ℕ) → drop {A = A} n [] ≡ []
none_left zero = refl
none_left (suc n) = refl

pub drop_on : {A : Type 0} (p n : ℕ) (xs : List A) → drop (p + n) xs ≡ drop n (drop p xs)
drop_on zero n xs = let e : zero + n ≡ n = omega arith in ap (λ m. drop m xs) e
drop_on (suc p) n [] = none_left (suc p + n) ∙ sym (none_left n)
drop_on (suc p) n (x ∷ xs) = let e : suc p + n ≡ suc (p + n) = omega arith in ap (λ m. drop m (x ∷ xs)) e ∙ drop_on p n xs

pub first_left : {A : Type 0} (p : ℕ) (xs : List A) (x : A) (rest : List A) → drop p xs ≡ x ∷ rest → slice_get xs p ≡ Some x
first_left zero [] x rest e = absurd cc
first_left zero (y ∷ xs) x rest e = cc (e)
first_left (suc p) [] x rest e = absurd cc
first_left (suc p) (y ∷ xs) x rest e = first_left p xs x rest e

-- what a function has besides its place: its operands, its slots, its callers, and the private cells
pub record Inner : Type 0 where
  pub operands : List ℤ
  pub slots : List ℤ
  pub outer : List Frame
  pub own : List ℤ

module _ (code : Program) where
  -- a function goes on at a place
  abbrev pub at : ℕ → ℕ → Inner → State
  at f place inner = record {
    program = code;
    function = f;
    place = place;
    operands = inner.operands;
    slots = inner.slots;
    outer = inner.outer;
    own = inner.own;
    life = None;
  }

  -- these instructions stand at a place and behind it, up to the last of the function
  abbrev pub IsThere : ℕ → ℕ → List Row → Type 0
  IsThere f place rows = drop place (function_at code f).rows ≡ rows

  pub there_on : (f place n : ℕ) (rows : List Row) → IsThere f place rows → IsThere f (place + n) (drop n rows)
  there_on f place n rows there = drop_on place n (function_at code f).rows ∙ ap (drop n) there

  pub there_next : (f place : ℕ) (here : Row) (rows : List Row) → IsThere f place (here ∷ rows) → IsThere f (place + 1) rows
  there_next f place here rows there = there_on f place 1 (here ∷ rows) there

  pub there_behind : (f place : ℕ) (first rows : List Row) → IsThere f place (first ++ rows) → IsThere f (place + length first) rows
  there_behind f place first rows there = there_on f place (length first) (first ++ rows) there ∙ drop-append_seam first rows

  pub row_there : (f place : ℕ) (here : Row) (rows : List Row) → IsThere f place (here ∷ rows) → row_at code f place ≡ Some here
  row_there f place here rows there = first_left place (function_at code f).rows here rows there

  -- one instruction is run
  pub act_there : (f place : ℕ) (here : Row) (rows : List Row) (inner : Inner) → IsThere f place (here ∷ rows) → step (at f place inner) ≡ act (at f place inner) here.instr
  act_there f place here rows inner there = ap (act_at (at f place inner)) (row_there f place here rows there)

  pub runs : (f place : ℕ) (here : Row) (rows : List Row) (inner : Inner) (t : State) → IsThere f place (here ∷ rows)
      → act (at f place inner) here.instr ≡ goes t → ready (at f place inner) ≡ ready t
  runs f place here rows inner t there e = settled_goes step weight step_falls (at f place inner) t (act_there f place here rows inner there ∙ e)

  pub text_there : (f place : ℕ) (here : Row) (rows : List Row) (inner : Inner) → IsThere f place (here ∷ rows) → text (at f place inner) ≡ text_of (at f place inner) here.instr
  text_there f place here rows inner there = ap (text_at (at f place inner)) (row_there f place here rows there)

  -- from a place the machine comes by itself to one at which these instructions stand
  pub record Lands (f place : ℕ) (rows : List Row) : Type 0 where
    pub to : ℕ
    pub there : IsThere f to rows
    pub same : (inner : Inner) → ready (at f place inner) ≡ ready (at f to inner)

  abbrev pub Leap : ℕ → List Row → List Row → Type 0
  Leap f from to = (place : ℕ) → IsThere f place from → Lands f place to

  pub no_leap : (f : ℕ) (rows : List Row) → Leap f rows rows
  no_leap f rows place there = record { to = place; there = there; same = λ inner. refl }

  pub leap_then : (f : ℕ) (a b c : List Row) → Leap f a b → Leap f b c → Leap f a c
  leap_then f a b c one other place there =
      let first = one place there in
      let second = other first.to first.there in
      record { to = second.to; there = second.there; same = λ inner. first.same inner ∙ second.same inner }

  pub leap_same : (f : ℕ) (a b : List Row) → a ≡ b → Leap f a b
  leap_same f a b e place there = record { to = place; there = there ∙ e; same = λ inner. refl }

  pub leap_jump : (f depth count : ℕ) (rows : List Row) → Leap f (row depth (Instr.GoOn count) ∷ rows) (drop count rows)
  leap_jump f depth count rows place there = record {
    to = place + 1 + count;
    there = there_on f (place + 1) count rows (there_next f place (row depth (Instr.GoOn count)) rows there);
    same = λ inner. runs f place (row depth (Instr.GoOn count)) rows inner (at f (place + 1 + count) inner) there refl;
  }

  pub leap_over : (f depth : ℕ) (over rows : List Row) → Leap f (row depth (Instr.GoOn (length over)) ∷ (over ++ rows)) rows
  leap_over f depth over rows =
      subst (Leap f (row depth (Instr.GoOn (length over)) ∷ (over ++ rows))) (drop-append_seam over rows) (leap_jump f depth (length over) (over ++ rows))

-- What a thread of code does where that of the tree goes on, or wants something.
use Rattle.std.proofs.Common.{◌≡◌, ℕ, ◌+◌, ℤ, List, [], ◌∷◌, Option, Some, None, refl, sym, ap, ◌∙◌, subst}
use Rattle.dsm_base.specs.declared.names.Fault.{Fault}
use Rattle.dsm_base.specs.declared.label.Want.{Want}
use Rattle.dsm_base.specs.declared.setup.Piece.{Piece}
use Rattle.dsm_base.specs.Steps.{Move, goes, asks}
use Rattle.dsm_semantics.specs.States as t
use Rattle.dsm_semantics.specs.States.{Item}
use Rattle.dsm_code.specs.declared.instruction.Instr.{Instr}
use Rattle.dsm_code.specs.declared.parts.Row.{Row}
use Rattle.dsm_code.specs.Programs.{Program}
use Rattle.dsm_code.specs.Machine.{State, Frame, act, step, ready, text, text_of}
use Rattle.dsm_laws_code.proofs.Places.{Inner, at, IsThere, Leap, there_next, act_there, runs, text_there}
use Rattle.dsm_laws_code.proofs.Standing.{Labels, Stands, AllWaitAs, Follows}

-- a thread of a tree that goes on
abbrev pub tree : List Item → List ℤ → List ℤ → List t.Frame → List ℤ → t.State
tree todo operands slots outer own = record { todo = todo; operands = operands; slots = slots; outer = outer; own = own; life = None }

module _ (code : Program) (pieces : List Piece) where
  -- once a want is answered the threads go on, but behind a stop and an end
  abbrev pub Continues : Want → t.State → State → Type 0
  Continues (Want.Stop fault line) s c = Unit {0}
  Continues Want.End s c = Unit {0}
  Continues Want.Over s c = Unit {0}
  Continues _ s c = Follows code pieces s c

  -- the thread of code comes by itself to where that of the tree is
  pub record Comes (s : t.State) (c : State) : Type 0 where
    pub to : State
    pub same : ready c ≡ ready to
    pub follows : Follows code pieces s to

  -- the thread of code comes by itself to where it wants the same
  pub record Wants (words : List ℕ) (own : List ℤ) (want : Want) (after : ℤ → t.State) (c : State) : Type 0 where
    pub function : ℕ
    pub place : ℕ
    pub inner : Inner
    pub same : ready c ≡ ready (at code function place inner)
    pub then : ℤ → State
    pub asks_it : step (at code function place inner) ≡ asks want then
    pub words_are : text (at code function place inner) ≡ words
    pub own_is : inner.own ≡ own
    pub next : (answer : ℤ) → Continues want (after answer) (then answer)

  -- by the step of the tree, with the text of the line that it wants, if it does, and its private cells
  abbrev pub Answers : List ℕ → List ℤ → Move t.State → State → Type 0
  Answers words own (goes s) c = Comes s c
  Answers words own (asks want after) c = Wants words own want after c

  pub answers_from : (words : List ℕ) (own : List ℤ) (move : Move t.State) (c d : State) → ready c ≡ ready d → Answers words own move d → Answers words own move c
  answers_from words own (goes s) c d e a = record { to = a.to; same = e ∙ a.same; follows = a.follows }
  answers_from words own (asks want after) c d e a = record {
    function = a.function;
    place = a.place;
    inner = a.inner;
    same = e ∙ a.same;
    then = a.then;
    asks_it = a.asks_it;
    words_are = a.words_are;
    own_is = a.own_is;
    next = a.next;
  }

  -- what stands at a place that leads on to where the rest stands
  pub leap_stands : (f : ℕ) (k : List Item) (labels : List Labels) (a b : List Row) → Leap code f a b → Stands code pieces f k labels b → Stands code pieces f k labels a
  leap_stands f [] labels a b leap st = (
    st.0,
    λ place there.
        let first = leap place there in
        let second = st.1 first.to first.there in
        record { to = second.to; there = second.there; same = λ inner. first.same inner ∙ second.same inner },
  )
  leap_stands f (item ∷ k) labels a b leap st = (
    st.0,
    (λ place there.
        let first = leap place there in
        let second = st.1 first.to first.there in
        record { to = second.to; there = second.there; same = λ inner. first.same inner ∙ second.same inner }),
    st.2,
  )

  module _ (f : ℕ) (frames : List t.Frame) (callers : List Frame) (wait : AllWaitAs code pieces frames callers) where
    abbrev pub here : ℕ → List ℤ → List ℤ → List ℤ → State
    here place operands slots own = at code f place (record { operands = operands; slots = slots; outer = callers; own = own })

    pub follow : (k : List Item) (labels : List Labels) (place : ℕ) (rows : List Row) (operands slots own : List ℤ) (c : State) → c ≡ here place operands slots own
        → IsThere code f place rows → Stands code pieces f k labels rows → Follows code pieces (tree k operands slots frames own) c
    follow k labels place rows operands slots own c e there st = record {
      alive = refl;
      function = f;
      place = place;
      callers = callers;
      is = e;
      rows = rows;
      there = there;
      labels = labels;
      stands = st;
      wait = wait;
    }

    -- the tree only takes an item to pieces
    pub stays : (words : List ℕ) (own₀ : List ℤ) (k : List Item) (labels : List Labels) (place : ℕ) (rows : List Row) (operands slots own : List ℤ)
        → IsThere code f place rows → Stands code pieces f k labels rows → Answers words own₀ (goes (tree k operands slots frames own)) (here place operands slots own)
    stays words own₀ k labels place rows operands slots own there st =
        record { to = here place operands slots own; same = refl; follows = follow k labels place rows operands slots own _ refl there st }

    module _ (place : ℕ) (operands slots own : List ℤ) where
      abbrev pub now : State
      now = here place operands slots own

      -- an instruction without a label, behind which the rest stands
      pub goes_one : (words : List ℕ) (k : List Item) (labels : List Labels) (first : Row) (rows : List Row) (operands₁ slots₁ own₁ : List ℤ)
          → IsThere code f place (first ∷ rows) → act now first.instr ≡ goes (here (place + 1) operands₁ slots₁ own₁) → Stands code pieces f k labels rows
          → Answers words own (goes (tree k operands₁ slots₁ frames own₁)) now
      goes_one words k labels first rows operands₁ slots₁ own₁ there e st = record {
        to = here (place + 1) operands₁ slots₁ own₁;
        same = runs code f place first rows (record { operands = operands; slots = slots; outer = callers; own = own }) (here (place + 1) operands₁ slots₁ own₁) there e;
        follows = follow k labels (place + 1) rows operands₁ slots₁ own₁ _ refl (there_next code f place first rows there) st;
      }

      -- an instruction with a label
      pub asks_one : (words : List ℕ) (first : Row) (rows : List Row) (want : Want) (after : ℤ → t.State) (then : ℤ → State)
          → IsThere code f place (first ∷ rows) → act now first.instr ≡ asks want then → text_of now first.instr ≡ words
          → ((answer : ℤ) → Continues want (after answer) (then answer)) → Answers words own (asks want after) now
      asks_one words first rows want after then there e same next = record {
        function = f;
        place = place;
        inner = record { operands = operands; slots = slots; outer = callers; own = own };
        same = refl;
        then = then;
        asks_it = act_there code f place first rows (record { operands = operands; slots = slots; outer = callers; own = own }) there ∙ e;
        words_are = text_there code f place first rows (record { operands = operands; slots = slots; outer = callers; own = own }) there ∙ same;
        own_is = refl;
        next = next;
      }

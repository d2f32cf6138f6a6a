-- What calls leave of a tail, told by what was noted and by what it was told to be held.
use Rattle.std.specs.Prelude.{ℕ, ◌≤◌, List, [], ◌∷◌, ◌++◌, max}
use Rattle.std.specs.List.{All}
use Rattle.dsm_base.specs.declared.lists.PendingLine.{PendingLine}
use Rattle.dsm_base.specs.declared.lists.Record.{Record}
use Rattle.dsm_acqlog.specs.Tails.{TailState, beyond, learned, safe_lines, unsafe_lines, with_line, with_take}

-- a call that changes a tail
pub data TailEvent : Type 0 where
  took : (taken : Record) → TailEvent  -- a lock of the own home was taken
  printed : (line : PendingLine) → TailEvent  -- a line was printed
  told : (turn : ℕ) → TailEvent  -- records up to this turn are held elsewhere

-- one more call
abbrev pub with_event : TailState → TailEvent → TailState
with_event tail (took taken) = with_take tail taken.turn taken.lock taken.version
with_event tail (printed line) = with_line tail line.turn line.text
with_event tail (told turn) = learned tail turn

-- the tail that calls leave, the newest first
abbrev pub tail_after : List TailEvent → TailState
tail_after [] = record { known = 0; records = []; lines = [] }
tail_after (event ∷ before) = with_event (tail_after before) event

-- the lines that the calls have answered, one answer behind another
abbrev pub answered : List TailEvent → List PendingLine
answered [] = []
answered (took taken ∷ before) = answered before
answered (printed line ∷ before) = answered before
answered (told turn ∷ before) =
    answered before ++ safe_lines (learned (tail_after before) turn).records (tail_after before).lines

-- the records of all takes, the oldest first
abbrev pub takes_of : List TailEvent → List Record
takes_of [] = []
takes_of (took taken ∷ before) = takes_of before ++ taken ∷ []
takes_of (printed line ∷ before) = takes_of before
takes_of (told turn ∷ before) = takes_of before

-- all printed lines, the oldest first
abbrev pub lines_of : List TailEvent → List PendingLine
lines_of [] = []
lines_of (took taken ∷ before) = lines_of before
lines_of (printed line ∷ before) = lines_of before ++ line ∷ []
lines_of (told turn ∷ before) = lines_of before

-- what is known as held: the greatest turn that was told, or 0
abbrev pub held_by : List TailEvent → ℕ
held_by [] = 0
held_by (took taken ∷ before) = held_by before
held_by (printed line ∷ before) = held_by before
held_by (told turn ∷ before) = max (held_by before) turn

-- the records beyond it
abbrev pub unheld : List TailEvent → List Record
unheld events = beyond (held_by events) (takes_of events)

-- the lines that weren't safe whenever the tail was told something since they were printed
abbrev pub waiting : List TailEvent → List PendingLine
waiting [] = []
waiting (took taken ∷ before) = waiting before
waiting (printed line ∷ before) = waiting before ++ line ∷ []
waiting (told turn ∷ before) = unsafe_lines (unheld (told turn ∷ before)) (waiting before)

-- no take and no line is of a smaller turn than a line before it
abbrev pub IsInOrder : List TailEvent → Type 0
IsInOrder [] = Unit {0}
IsInOrder (took taken ∷ before) =
    All (λ line. line.turn ≤ taken.turn) (lines_of before) × IsInOrder before
IsInOrder (printed line ∷ before) =
    All (λ other. other.turn ≤ line.turn) (lines_of before) × IsInOrder before
IsInOrder (told turn ∷ before) = IsInOrder before

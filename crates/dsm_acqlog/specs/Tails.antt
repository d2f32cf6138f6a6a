-- The last turns of a processor: what is known to be held elsewhere, and which lines may go out.
use Rattle.std.specs.Prelude.{ℕ, Bool, not, if◌then◌else◌, nat_le, nat_lt, List, [], ◌∷◌, ◌++◌, filter, max}
use Rattle.std.specs.List.{list_all}
use Rattle.dsm_base.specs.declared.names.Lock.{Lock}
use Rattle.dsm_base.specs.declared.lists.PendingLine.{PendingLine}
use Rattle.dsm_base.specs.declared.lists.Record.{Record}

pub record TailState : Type 0 where
  pub known : ℕ  -- the turn up to which records are known to be held elsewhere
  pub records : List Record  -- those beyond
  pub lines : List PendingLine  -- printed lines that aren't out

-- the records beyond what is known to be held
abbrev pub beyond : ℕ → List Record → List Record
beyond known records = filter (λ taken. nat_lt known taken.turn) records

-- a line is safe where no record of a smaller turn is beyond what is known to be held
abbrev pub is_safe : List Record → PendingLine → Bool
is_safe records line = list_all (λ taken. nat_le line.turn taken.turn) records

abbrev pub safe_lines : List Record → List PendingLine → List PendingLine
safe_lines records lines = filter (is_safe records) lines

abbrev pub unsafe_lines : List Record → List PendingLine → List PendingLine
unsafe_lines records lines = filter (λ line. not (is_safe records line)) lines

-- a lock of the processor's own home was taken
abbrev pub with_take : TailState → ℕ → Lock → ℕ → TailState
with_take tail turn lock version = record tail {
  records = if nat_lt tail.known turn
      then tail.records ++ record { turn = turn; lock = lock; version = version } ∷ []
      else tail.records;
}

-- a line was printed
abbrev pub with_line : TailState → ℕ → List ℕ → TailState
with_line tail turn text = record tail { lines = tail.lines ++ record { turn = turn; text = text } ∷ [] }

-- records up to this turn are known to be held, and what is safe is out
abbrev pub learned : TailState → ℕ → TailState
learned tail turn =
    let known = max tail.known turn in
    let records = beyond known tail.records in
    record { known = known; records = records; lines = unsafe_lines records tail.lines }

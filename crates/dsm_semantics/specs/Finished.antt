-- What a labelled step leaves, by the item that it is the step of.
use Rattle.std.specs.Prelude.{ℤ, pos, List, [], ◌∷◌, drop, slice_get}
use Rattle.dsm_check.specs.Resolved as r
use Rattle.dsm_base.specs.Steps.{next_of, ended}
use Rattle.dsm_semantics.specs.States.{Place, slot, cell, member, Use, Item, load, store, enter, execute, round, jump_back, leave, ask, take_lock, give, cross, print, Frame, State, top, below, over}
use Rattle.dsm_semantics.specs.Semantics.{loaded, numbered, entered, returns, below_index, values_in}

-- of a load
abbrev pub load_finished : State → Use → Place → ℤ → State
load_finished s way (slot number) answer = s
load_finished s way (cell sharing number line) answer = record s { operands = loaded way [] s.operands answer }
load_finished s way (member sharing array line) answer = record s { operands = loaded way (top s.operands ∷ []) (below s.operands) answer }

-- of a store
abbrev pub store_finished : State → Place → State
store_finished s (member sharing array line) = record s { operands = top s.operands ∷ below (below s.operands) }
store_finished s _ = s

-- of a statement: an arrival is followed by its crossing
abbrev pub statement_finished : State → r.Statement → State
statement_finished s (r.barrier bar) = record s { todo = cross bar ∷ s.todo }
statement_finished s _ = s

-- main ends the thread
abbrev pub return_finished : State → ℤ → List Frame → State
return_finished s value [] = over s ended
return_finished s value (caller ∷ outer) = next_of s (pos 0) (returns s value (caller ∷ outer))

-- of an item
abbrev pub finished : List r.Function → State → Item → ℤ → State
finished functions s (load place way) answer = load_finished s way place answer
finished functions s (store place) answer = store_finished s place
finished functions s (enter number line) answer = entered s (numbered (slice_get functions number))
finished functions s (execute statement) answer = statement_finished s statement
finished functions s (jump_back loop) answer = record s { todo = round loop ∷ s.todo }
finished functions s leave answer = return_finished s (top s.operands) s.outer
finished functions s (ask lock mode) answer = record s { todo = take_lock lock mode ∷ s.todo }
finished functions s (take_lock lock mode) answer = record s { operands = below_index lock s.operands }
finished functions s (give lock) answer = record s { operands = below_index lock s.operands }
finished functions s (print parts) answer = record s { operands = drop (values_in parts) s.operands }
finished functions s _ answer = s

-- of what remains to be done
abbrev pub all_finished : List r.Function → State → List Item → ℤ → State
all_finished functions s [] answer = return_finished s (pos 0) s.outer
all_finished functions s (item ∷ k) answer = finished functions (record s { todo = k }) item answer

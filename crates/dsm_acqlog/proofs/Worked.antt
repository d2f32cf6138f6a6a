-- Worked calls on a tail: a lock is taken in turn 2, and `x=1` is printed in turn 6.
use Rattle.std.specs.Prelude.{◌≡◌, ◌≤◌, List, [], ◌∷◌}
use Rattle.std.proofs.Common.{refl}
use Rattle.std.proofs.lemmas.List.Elements.{All-nil}
use Rattle.dsm_base.specs.declared.lists.PendingLine.{PendingLine}
use Rattle.dsm_base.specs.declared.lists.Record.{Record}
use Rattle.dsm_acqlog.specs.Tails.{safe_lines}
use Rattle.dsm_acqlog.specs.Histories.{TailEvent, took, printed, told, IsInOrder, answered, lines_of, unheld, waiting}

abbrev pub the_take : Record
the_take = record { turn = 2; lock = record { 0 = 0 }; version = 0 }

abbrev pub the_line : PendingLine
the_line = record { turn = 6; text = 120 ∷ 61 ∷ 49 ∷ [] }

abbrev pub the_turns : List TailEvent
the_turns = printed the_line ∷ took the_take ∷ []

they_are_in_order : IsInOrder the_turns
they_are_in_order = (All-nil (λ (other : PendingLine). other.turn ≤ 6), (All-nil (λ (line : PendingLine). line.turn ≤ 2), tt))

-- as long as the take isn't known as held, the line waits
it_waits : answered (told 1 ∷ the_turns) ≡ []
it_waits = refl

it_is_there : waiting (told 1 ∷ the_turns) ≡ the_line ∷ []
it_is_there = refl

-- then it goes out, once
it_goes_out : answered (told 2 ∷ the_turns) ≡ the_line ∷ []
it_goes_out = refl

it_goes_out_once : answered (told 7 ∷ told 2 ∷ the_turns) ≡ the_line ∷ []
it_goes_out_once = refl

-- a take of a smaller turn that is noted behind the line, against the order: the line is out and isn't safe
abbrev pub out_of_order : List TailEvent
out_of_order = told 0 ∷ took the_take ∷ told 0 ∷ printed the_line ∷ []

it_is_out : answered out_of_order ≡ the_line ∷ []
it_is_out = refl

it_is_not_safe : safe_lines (unheld out_of_order) (lines_of out_of_order) ≡ []
it_is_not_safe = refl

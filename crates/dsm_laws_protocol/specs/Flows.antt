-- What is under way from one processor to another: what the other hasn't handled, in order, and nothing else.
use Rattle.std.specs.Prelude.{◌≡◌, ℕ, ◌≤◌, List, [], ◌∷◌, ◌++◌, length}
use Rattle.dsm_base.specs.declared.label.Label.{Label}
use Rattle.dsm_base.specs.declared.setup.Setup.{Setup}
use Rattle.dsm_msg.specs.declared.message.Body.{Body}
use Rattle.dsm_msg.specs.declared.message.Msg.{Msg}
use Rattle.dsm_laws_protocol.specs.Due.{Item, due, AreOver, Word, asked, gave, arrived, word_for}

-- what a body tells a home or manager
abbrev pub words_in : ℕ → Body → List (Item Word)
words_in turn (Body.Req lock mode «have») = record { turn = turn; body = asked lock mode «have» } ∷ []
words_in turn (Body.Release lock mode version lines) = record { turn = turn; body = gave lock mode version } ∷ []
words_in turn (Body.Arrive bar epoch lines) = record { turn = turn; body = arrived bar } ∷ []
words_in turn _ = []

-- what messages tell, in their order
abbrev pub words : List Msg → List (Item Word)
words [] = []
words (msg ∷ msgs) = words_in msg.carry.turn msg.body ++ words msgs

-- turns from k to n rise weakly, and what is told behind a message is of a later turn than it
abbrev pub IsInOrder : ℕ → ℕ → List Msg → Type 0
IsInOrder k n [] = k ≤ n
IsInOrder k n (msg ∷ msgs) =
    (k ≤ msg.carry.turn) × AreOver msg.carry.turn (words msgs) × IsInOrder msg.carry.turn n msgs

-- what a course has told q beyond a turn is what is under way
pub record IsFlow (setup : Setup) (q : ℕ) (course : List Label) (known : ℕ) (msgs : List Msg) : Type 0 where
  pub in_order : IsInOrder known (length course) msgs
  pub is_due : words msgs ≡ due (word_for setup q) known course

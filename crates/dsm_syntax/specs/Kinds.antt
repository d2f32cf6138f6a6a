-- What a statement is, by its first token.
use Rattle.std.specs.Prelude.{ℕ, Option, Some, None}
use Rattle.dsm_syntax.specs.declared.sign.Sign.{Sign}
use Rattle.dsm_syntax.specs.declared.word.Word.{Word}
use Rattle.dsm_syntax.specs.declared.kind.StatementKind.{StatementKind}
use Rattle.dsm_syntax.specs.Lexemes.{Lexeme, word, sign, word_at}

-- what a statement is that begins with a word
abbrev pub kind_of_word : Word → StatementKind
kind_of_word Word.Int = StatementKind.Variables
kind_of_word Word.If = StatementKind.If
kind_of_word Word.While = StatementKind.While
kind_of_word Word.For = StatementKind.For
kind_of_word Word.Acquire = StatementKind.Acquire
kind_of_word Word.AcquireShared = StatementKind.AcquireShared
kind_of_word Word.Release = StatementKind.Release
kind_of_word Word.Barrier = StatementKind.Barrier
kind_of_word Word.Print = StatementKind.Print
kind_of_word _ = StatementKind.Expression

-- with a word whose line the tree has
abbrev pub kind_of_placed_word : Word → ℕ → StatementKind
kind_of_placed_word Word.Break line = StatementKind.Break line
kind_of_placed_word Word.Continue line = StatementKind.Continue line
kind_of_placed_word Word.Return line = StatementKind.Return line
kind_of_placed_word _ line = StatementKind.Expression

-- with a sign whose line the tree doesn't have
abbrev pub kind_of_sign : Sign → StatementKind
kind_of_sign Sign.BraceOpen = StatementKind.Block
kind_of_sign Sign.Semicolon = StatementKind.Empty
kind_of_sign _ = StatementKind.Expression

-- what a statement is, by its first token
abbrev pub kind : Option Lexeme → StatementKind
kind (Some (word w)) = kind_of_word w
kind (Some (word_at w line)) = kind_of_placed_word w line
kind (Some (sign s)) = kind_of_sign s
kind _ = StatementKind.Expression

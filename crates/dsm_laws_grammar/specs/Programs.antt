-- Which tokens are those of a program.
use Rattle.std.specs.Prelude.{◌≡◌, ◌≤◌, List}
use Rattle.std.specs.List.{AllByRecursion}
use Rattle.dsm_syntax.specs.Tree.{Item}
use Rattle.dsm_syntax.specs.Lexemes.{Lexeme}
use Rattle.dsm_laws_grammar.specs.Grammar.{FitsItem, spell_program}
use Rattle.dsm_syntax.specs.Heights.{height_program}

-- trees that the grammar has
abbrev pub IsProgram : List Item → Type 0
IsProgram items = AllByRecursion FitsItem items

-- the tokens spell the program, and no function is higher than 64
pub record IsProgramOf (tokens : List Lexeme) (items : List Item) : Type 0 where
  pub spelled : spell_program items ≡ tokens
  pub fits : IsProgram items
  pub low : height_program items ≤ 64

-- What a whole text is by both grammars, that of tokens and that of trees: a program, or refused.
use Rattle.std.specs.Prelude.{◌≢◌, ℕ, List}
use Rattle.dsm_syntax.specs.declared.errors.ProgErr.{ProgErr}
use Rattle.dsm_syntax.specs.declared.errors.ProgErr.TheVariants as err
use Rattle.dsm_syntax.specs.declared.token.Token.{Token}
use Rattle.dsm_syntax.specs.Tree.{Item}
use Rattle.dsm_syntax.specs.Texts.{IsLexed, IsRefused as IsTextRefused}
use Rattle.dsm_syntax.specs.Lexemes.{lexemes}
use Rattle.dsm_laws_grammar.specs.Programs.{IsProgramOf}
use Rattle.dsm_laws_grammar.specs.Refusals.{IsRefused as AreTokensRefused}

-- the text has tokens, and they spell this program
pub record IsProgramText (text : List ℕ) (items : List Item) : Type 0 where
  pub tokens : List Token
  pub lexed : IsLexed text tokens
  pub program : IsProgramOf (lexemes tokens) items

-- why a text is no program: it has no tokens, or it has and they are refused
pub data IsNoProgram (text : List ℕ) (e : ProgErr) : Type 0 where
  no_tokens : IsTextRefused text e → IsNoProgram text e
  no_tree : (tokens : List Token) → IsLexed text tokens → e ≢ err.Memory → AreTokensRefused tokens e → IsNoProgram text e

use Rattle.std.proofs.Common.{◌≡◌, ◌≤◌, ◌==◌, false, List, [], ◌∷◌, length, sym, ◌∙◌, arith}
use Rattle.dsm_syntax.specs.declared.token.Token.{Token}
use Rattle.dsm_laws_grammar.proofs.Whole.{line_at_min}
use Rattle.dsm_parse.proofs.program.line_at.Goals as goal

some : (tokens : List Token) → (length tokens == 0) ≡ false → 1 ≤ length tokens
some [] e = absurd cc
some (t ∷ tokens) e = omega arith

pub returns : goal.returns
returns c = sym (line_at_min c.args.tokens.now c.args.place c.min.result c.index-tokens-min.result (some c.args.tokens.now (sym c.is_empty.ensures ∙ c.if-is_empty.false)) c.min.ensures)

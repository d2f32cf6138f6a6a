-- The head of a `for` in the code.
use Rattle.dsm_syntax.specs.Views.{view, view_start, option_view}
use Rattle.dsm_parse.specs.declared.head.ForHead.{ForHead}
use Rattle.dsm_laws_grammar.specs.Statements.{Head}

-- what such a head in the code shows
abbrev pub view_head : ForHead → Head
view_head h = record { start = view_start h.start; test = option_view view h.test; step = option_view view h.step }

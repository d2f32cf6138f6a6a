use Rattle.std.proofs.Common.{◌-◌, ◌+◌, List, length, Vec, Global, ap, ◌∙◌, arith}
use Rattle.dsm_syntax.specs.declared.tree.Item.{Item}
use Rattle.dsm_syntax.specs.Tree as t
use Rattle.dsm_syntax.specs.Views.{view_items}
use Rattle.dsm_laws_grammar.specs.Refusals.{line_at}
use Rattle.dsm_laws_grammar.proofs.Whole.{is_found, left_within, is_unexpected, is_too_high}
use Rattle.dsm_parse.proofs.program.read.Goals as goal

abbrev see : Vec Item Global → List t.Item
see all = view_items all.items

pub overflow_sub-tokens : goal.overflow_sub-tokens
overflow_sub-tokens c =
    omega (arith, c.len.ensures, left_within c.args.most c.requires c.args.tokens.now c.new-cursor.result c.items.new.cursor c.new-cursor.ensures see c.in-Err-Unexpected.field-0 c.in-Err-Unexpected.field-0-is c.in-Err-Unexpected.ensures)

pub returns-in-Ok-clause-found : goal.returns-in-Ok-clause-found
returns-in-Ok-clause-found c = is_found c.args.most c.requires c.args.tokens.now c.new-cursor.result c.items.new.cursor c.new-cursor.ensures (view_items c.in-Ok.items.items) c.in-Ok.ensures

pub returns-in-Err-Unexpected-clause-refused : goal.returns-in-Err-Unexpected-clause-refused
returns-in-Err-Unexpected-clause-refused c =
    is_unexpected c.args.most c.requires c.args.tokens.now c.new-cursor.result c.items.new.cursor c.new-cursor.ensures see c.in-Err-Unexpected.field-0 c.line_at.result c.in-Err-Unexpected.field-0-is c.in-Err-Unexpected.ensures
    (c.line_at.ensures ∙ ap (λ n. line_at c.args.tokens.now (length c.args.tokens.now - n)) c.len.ensures)

pub returns-in-Err-TooHigh-clause-refused : goal.returns-in-Err-TooHigh-clause-refused
returns-in-Err-TooHigh-clause-refused c =
    is_too_high c.args.most c.requires c.args.tokens.now c.new-cursor.result c.items.new.cursor c.new-cursor.ensures see c.in-Err-TooHigh.field-0 (c.args.most + 1) c.in-Err-TooHigh.field-0-is c.in-Err-TooHigh.ensures
    (omega (arith, c.requires))

use Rattle.std.proofs.Common.{sym, ◌∙◌}
use Rattle.dsm_laws_grammar.proofs.Lists.{more_turn}
use Rattle.dsm_laws_grammar.proofs.Declarations.{good_declarator}
use Rattle.dsm_parse.proofs.declarator.declarators_behind.Goals as goal

pub loop-alloc-preserved : goal.loop-alloc-preserved
loop-alloc-preserved c = more_turn (good_declarator 0) c.loop-alloc.all.items c.loop-alloc.cursor c.loop-alloc.invariant (sym c.is_sign.ensures ∙ c.loop-alloc-test.true) c.skip.ensures c.in_ok-declarator.ensures c.in_ok-push-2.ensures.items

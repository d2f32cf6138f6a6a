use Rattle.std.proofs.Common.{inr}
use Rattle.dsm_syntax.proofs.Outcomes.{answers_text, answers_fault}
use Rattle.dsm_syntax.proofs.Slices.{told_in_place}
use Rattle.dsm_syntax.proofs.Turns.{refused_long}
use Rattle.dsm_syntax.proofs.lexer.lex.Goals as goal

pub returns-clause-each_text : goal.returns-clause-each_text
returns-clause-each_text c = answers_text c.args.text.now c.list.result c.list.ensures

pub returns-clause-each_fault : goal.returns-clause-each_fault
returns-clause-each_fault c = answers_fault c.args.text.now c.list.result c.list.ensures

pub returns-then-text-gt-MOST_TEXT-clause-refused : goal.returns-then-text-gt-MOST_TEXT-clause-refused
returns-then-text-gt-MOST_TEXT-clause-refused c = inr (refused_long c.args.text.now c.min.result c.if-text-gt-MOST_TEXT.true c.min.ensures)

pub returns-clause-places : goal.returns-clause-places
returns-clause-places c = told_in_place c.args.text.now c.list.result c.list.ensures

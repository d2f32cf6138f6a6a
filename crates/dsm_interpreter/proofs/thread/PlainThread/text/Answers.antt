use Rattle.dsm_interpreter.proofs.thread.PlainThread.text.Goals as goal

pub returns-clause-line : goal.returns-clause-line
returns-clause-line c = c.text.ensures.line c.requires.0 c.requires.1.state

use Rattle.dsm_processor.proofs.node.Node.number_for.Goals as goal

pub returns-in-Take : goal.returns-in-Take
returns-in-Take g c = rw c.in-Take.is (c.version_for.ensures c.in-Take.field-1)

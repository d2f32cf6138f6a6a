use Rattle.std.proofs.Common.{arith}
use Rattle.std.proofs.lemmas.Grind.{common_steps}
use Rattle.dsm_check.specs.FileTables.{names_of}
use Rattle.dsm_check.proofs.Numberings.{here}
use Rattle.dsm_check.proofs.items.Declared.test_new.Goals as goal

pub returns-in-Some-clause-value : goal.returns-in-Some-clause-value
returns-in-Some-clause-value c =
    let names = c.args.self.now.names in
    let known_here = here (names_of names) c.args.name.now.text names.numbered in
    grind (arith, common_steps, known_here)

pub returns-in-None-clause-value : goal.returns-in-None-clause-value
returns-in-None-clause-value c =
    let names = c.args.self.now.names in
    let known_here = here (names_of names) c.args.name.now.text names.numbered in
    grind (arith, common_steps, known_here)

use Rattle.std.proofs.Common.{IfSome, sym, subst, Option, ◌∙◌}
use Rattle.dsm_check.specs.declared.names.Named.{Named}
use Rattle.dsm_check.specs.Numbers.{IsThere}
use Rattle.dsm_check.specs.FileTables.{names_of}
use Rattle.dsm_check.proofs.Numberings.{there}
use Rattle.dsm_check.proofs.names.Names.get.Goals as goal

pub returns-clause-there : goal.returns-clause-there
returns-clause-there c =
    let table = c.args.self.now in
    let name = c.args.name.now in
    let P : Option Named → Type 0 = λ found. IfSome found (IsThere (names_of table)) in
    subst P (sym (c.copied.ensures ∙ c.get.ensures.value ∙ table.found name)) (there (names_of table) name table.numbered)

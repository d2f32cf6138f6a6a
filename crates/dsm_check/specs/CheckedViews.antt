-- What a checked program is.
use Rattle.dsm_check.specs.declared.checked.Checked.{Checked}
use Rattle.dsm_check.specs.Programs.{Program}
use Rattle.dsm_check.specs.Accepted.{program_from}

-- a checked program as the semantics sees it
abbrev pub program_of : Checked → Program
program_of c = program_from c.names c.main c.shared_cells c.private_cells c.locks c.barriers c.pieces c.functions.items

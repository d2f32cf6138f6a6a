-- What the table of a file's names shows.
use Rattle.std.specs.Prelude.{◌≡◌, List}
use Rattle.dsm_syntax.specs.declared.tree.Sharing.{Sharing}
use Rattle.dsm_check.specs.declared.items.Declared.{Declared}
use Rattle.dsm_check.specs.declared.names.Names.{Names}
use Rattle.dsm_check.specs.Environments.{Entry, total, cells_in, locks_in, barriers_in, functions_in}
use Rattle.dsm_check.specs.Tables.{shown}

-- its names, the newest first
abbrev pub names_of : Names → List Entry
names_of names = shown (λ key. key.items) names.map.entries

-- a file's counts are those of its names
pub record AreCounted (declared : Declared) : Type 0 where
  pub shared : declared.shared_cells ≡ total (cells_in Sharing.Shared) (names_of declared.names)
  pub private : declared.private_cells ≡ total (cells_in Sharing.Private) (names_of declared.names)
  pub locks : declared.locks ≡ total locks_in (names_of declared.names)
  pub barriers : declared.barriers ≡ total barriers_in (names_of declared.names)
  pub functions : declared.functions ≡ total functions_in (names_of declared.names)

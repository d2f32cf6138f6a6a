-- What the tables of a body show.
use Rattle.std.specs.Prelude.{ℕ, suc, Bool, true, false, List, [], ◌∷◌, ◌++◌, map}
use Rattle.dsm_check.specs.declared.names.Named.{Named}
use Rattle.dsm_check.specs.declared.scope.Known.{Known}
use Rattle.dsm_check.specs.declared.scope.Known.TheVariants.{Opened, Variable}
use Rattle.dsm_check.specs.declared.scope.Scope.{Scope}
use Rattle.dsm_check.specs.declared.statement.Around.{Around}
use Rattle.dsm_check.specs.Environments.{Entry, opened, known}
use Rattle.dsm_check.specs.Bodies as bodies
use Rattle.dsm_check.specs.FileTables.{names_of}

-- an entry of a table as the rules see it
abbrev pub entry_of : Known → Entry
entry_of Opened = opened
entry_of (Variable name slot) = known name.now (Named.Variable slot)

-- the names of the function, the newest first
abbrev pub locals_of : Scope → List Entry
locals_of scope = map entry_of scope.locals

-- a table as the rules see it
abbrev pub scope_of : Scope → bodies.Scope
scope_of scope = record { names = locals_of scope ++ names_of scope.file.now; variables = scope.variables; slots = scope.slots }

-- how many blocks are open
abbrev pub blocks_in : List Known → ℕ
blocks_in [] = 0
blocks_in (Opened ∷ locals) = suc (blocks_in locals)
blocks_in (Variable name slot ∷ locals) = blocks_in locals

-- whether an entry is the beginning of a block
abbrev pub is_opened : Known → Bool
is_opened Opened = true
is_opened (Variable name slot) = false

-- what holds of all of a function's body
abbrev pub around_of : Around → bodies.Around
around_of around = record { name = around.name.now; returns = around.returns }

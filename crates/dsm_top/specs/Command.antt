-- What a command names.
use Rattle.std.specs.Prelude.{ℕ, List, [], ◌∷◌}
use Rattle.dsm_command.specs.Commands.{Command, run, check, plain, load}

-- the files that a command names, in its order
abbrev pub files_of : Command → List (List ℕ)
files_of (run program schedule trace state) = program ∷ schedule ∷ []
files_of (check program procs) = program ∷ []
files_of (plain program picks) = program ∷ picks ∷ []
files_of (load seed) = []

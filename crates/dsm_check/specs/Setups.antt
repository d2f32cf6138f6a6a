-- How a program is set up, and which numbers of processors fit it.
use Rattle.std.specs.Prelude.{◌≡◌, ℕ, not, nat_lt, Option, Some, None, find, Ok, Err}
use Rattle.dsm_base.specs.declared.setup.Piece.{Piece}
use Rattle.dsm_base.specs.declared.setup.Setup.{Setup}
use Rattle.dsm_syntax.specs.declared.errors.ProgErr.TheVariants as err
use Rattle.dsm_check.specs.Checks.{Check}
use Rattle.dsm_check.specs.Programs.{Program}

-- the setup of a program for so many processors
pub record IsSetupOf (program : Program) (count : ℕ) (setup : Setup) : Type 0 where
  pub procs : setup.procs ≡ count
  pub locks : setup.locks ≡ program.locks
  pub bars : setup.bars ≡ program.barriers
  pub cells : setup.cells ≡ program.shared_cells
  pub bindings : setup.bindings ≡ program.pieces

-- the first piece whose owner is no processor
abbrev pub misfit : Program → ℕ → Option Piece
misfit program procs = find (λ piece. not (nat_lt piece.owner procs)) program.pieces

-- whether a number of processors fits a program: each owner is one of them
abbrev pub fitting : Program → ℕ → Check (Unit {0})
fitting program procs = elim (misfit program procs) [
  | None ↦ Ok tt
  | Some piece ↦ Err (err.BindOwner piece.owner procs)
]

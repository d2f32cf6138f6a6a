-- What a home in the code means.
use Rattle.std.specs.Prelude.{◌≡◌, ℕ, List, length}
use Rattle.dsm_base.specs.declared.setup.Piece.{Piece}
use Rattle.dsm_base.specs.Family.{family_of}
use Rattle.dsm_lines.specs.LineImages.{image_pieces, image_stamps, image_values}
use Rattle.dsm_home.specs.LockStates.{start_lock}
use Rattle.dsm_home.specs.HomeStates.{HomeState}
use Rattle.dsm_home.specs.declared.home.Home.{Home}

-- what it holds
abbrev pub home_state : Home → HomeState
home_state home = record {
  locks = family_of (λ lock. start_lock) home.locks.items;
  stamps = image_stamps home.lines;
  values = image_values home.lines;
}

-- the pieces whose lines it has
abbrev pub home_pieces : Home → List Piece
home_pieces home = image_pieces home.lines

abbrev pub lock_count : Home → ℕ
lock_count home = length home.locks.items

-- it is a home of the same locks and lines
pub record IsSameHome (old new : Home) : Type 0 where
  pub pieces : home_pieces new ≡ home_pieces old
  pub count : lock_count new ≡ lock_count old

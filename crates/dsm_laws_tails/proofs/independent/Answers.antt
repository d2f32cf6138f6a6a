use Rattle.dsm_laws_tails.proofs.Shuffles.{independent_of}
use Rattle.dsm_laws_tails.proofs.independent.Goals as goal

pub returns : goal.returns
returns c = λ setup settled tails parted. independent_of setup settled tails parted

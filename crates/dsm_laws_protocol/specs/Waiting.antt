-- Who waits for a lock.
use Rattle.std.specs.Prelude.{◌≡◌, ℕ, false, List, [], ◌∷◌, Some}
use Rattle.dsm_base.specs.declared.holders.Holder.{Holder}
use Rattle.dsm_home.specs.declared.waiting.Waiting.{Waiting}
use Rattle.dsm_home.specs.LockStates.{fits_beside}
use Rattle.dsm_net.specs.Processor.{Processor}
use Rattle.dsm_net.specs.Net.{Net}

-- the first who waits may not hold the lock beside its holders
abbrev pub IsBlocked : List Holder → List Waiting → Type 0
IsBlocked holders [] = Unit {0}
IsBlocked holders (one ∷ others) = fits_beside holders one.mode ≡ false

-- at each processor that is up, each lock is granted to all to whom it may be
abbrev pub NobodyWaitsInVain : {S : Type 0} → Net S → Type 0
NobodyWaitsInVain net = (p : ℕ) (s : Processor _) → net.processors p ≡ Some s →
    (lock : ℕ) → IsBlocked (s.locks lock).holders (s.locks lock).queue

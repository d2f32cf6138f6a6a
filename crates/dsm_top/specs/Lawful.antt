-- What is proved of every run of processors without a common memory.
use Rattle.std.specs.Prelude.{ℕ, List, [], ◌∷◌}
use Rattle.dsm_base.specs.declared.setup.Setup.{Setup}
use Rattle.dsm_base.specs.Threads.{Semantics}
use Rattle.dsm_net.specs.declared.trace.Group.{Group}
use Rattle.dsm_net.specs.Fits.{Done, run_of}
use Rattle.dsm_net.specs.Net.{Net}
use Rattle.dsm_net.specs.Story.{history}
use Rattle.dsm_laws_protocol.specs.Holding.{HoldTogether}
use Rattle.dsm_laws_protocol.specs.OwnParts.{HasOwnParts}
use Rattle.dsm_laws_protocol.specs.Waiting.{NobodyWaitsInVain}
use Rattle.dsm_laws_history.specs.BarrierLines.{HasBarrierLines}
use Rattle.dsm_laws_history.specs.Desks.{AllHaveHandled}
use Rattle.dsm_laws_history.specs.Granted.{AllTakesAreGranted}
use Rattle.dsm_laws_history.specs.NewerLines.{HasNewerLines}
use Rattle.dsm_laws_history.specs.OneMemory.{IsOneMemory}
use Rattle.dsm_laws_history.specs.Openings.{OpenWhenAllCame, OpeningsAreInPlace}
use Rattle.dsm_laws_history.specs.Order.{AllWaitInOrder}
use Rattle.dsm_top.specs.StateTexts.{LocksAreTold}

-- what holds of a trace and of what the world holds after it: the turns are a run over one memory, with
-- which each processor agrees; what is a processor's own is what its turns left; takes bring the newer
-- lines and no others, by grants that were delivered; crossings bring the lines of the others'
-- arrivals and no others, and barriers open just when all have come, with each opening in its place;
-- homes know what each processor has done up to a turn of it, and who waits there waits in the order of
-- the requests; a lock is held by one, or shared; nobody waits for a lock that could be granted; and the
-- text of the state tells each lock with its home's version and the values of the one memory
pub record IsLawful {S : Type 0} (setup : Setup) (first : ℕ → S) (threads : Semantics S) (net : Net S)
    (trace : List Group) : Type 0 where
  pub one_memory : IsOneMemory setup first threads trace
  pub own_parts : HasOwnParts setup first threads net trace
  pub newer_lines : HasNewerLines setup first threads net trace
  pub granted : AllTakesAreGranted setup trace
  pub barrier_lines : HasBarrierLines setup first threads net trace
  pub opens : OpenWhenAllCame setup (history trace) net
  pub openings : OpeningsAreInPlace setup (history trace) net
  pub handled : AllHaveHandled setup (history trace) net
  pub in_order : AllWaitInOrder setup trace net
  pub together : HoldTogether net
  pub not_in_vain : NobodyWaitsInVain net
  pub locks_told : LocksAreTold setup first threads net (history trace)

-- it holds of what these units make, the newest first
abbrev pub IsLawfulAfter : {S : Type 0} → Setup → (ℕ → S) → Semantics S → List Done → Type 0
IsLawfulAfter setup first threads done =
    IsLawful setup first threads (run_of setup first threads done).net (run_of setup first threads done).groups

-- and after each unit of them, also before the first
abbrev pub AreLawful : {S : Type 0} → Setup → (ℕ → S) → Semantics S → List Done → Type 0
AreLawful setup first threads [] = IsLawfulAfter setup first threads []
AreLawful setup first threads (one ∷ before) =
    IsLawfulAfter setup first threads (one ∷ before) × AreLawful setup first threads before

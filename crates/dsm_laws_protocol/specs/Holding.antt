-- Who holds a lock.
use Rattle.std.specs.Prelude.{◌≡◌, ◌≢◌, ℕ, List, Some}
use Rattle.std.specs.List.{AllByRecursion}
use Rattle.dsm_base.specs.declared.names.Mode.{Mode}
use Rattle.dsm_base.specs.declared.act.Act.{Act}
use Rattle.dsm_base.specs.declared.setup.Setup.{Setup}
use Rattle.dsm_net.specs.Processor.{Processor}
use Rattle.dsm_net.specs.Net.{Net}
use Rattle.dsm_net.specs.Fits.{IsWithin}

-- all units name processors of the setup
abbrev pub AreWithin : Setup → List Act → Type 0
AreWithin setup acts = AllByRecursion (IsWithin setup) acts

-- two processors hold one lock only where both hold it shared
abbrev pub HoldTogether : {S : Type 0} → Net S → Type 0
HoldTogether net = (p q lock : ℕ) (s t : Processor _) (one other : Mode) → p ≢ q →
    net.processors p ≡ Some s → net.processors q ≡ Some t →
    s.own.held lock ≡ Some one → t.own.held lock ≡ Some other →
    (one ≡ Mode.Shared) × (other ≡ Mode.Shared)

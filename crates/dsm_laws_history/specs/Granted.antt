-- Which takes a trace answers by grants.
use Rattle.std.specs.Prelude.{◌≡◌, ◌⊎◌, ℕ, List, [], ◌∷◌}
use Rattle.dsm_base.specs.declared.names.Lock.{Lock}
use Rattle.dsm_base.specs.declared.names.Mode.{Mode}
use Rattle.dsm_base.specs.declared.label.Label.{Label}
use Rattle.dsm_base.specs.declared.setup.Setup.{Setup}
use Rattle.dsm_lines.specs.declared.list.Line.{Line}
use Rattle.dsm_msg.specs.declared.message.Body.{Body}
use Rattle.dsm_msg.specs.declared.message.Msg.{Msg}
use Rattle.dsm_net.specs.declared.trace.Rec.{Rec}
use Rattle.dsm_net.specs.declared.trace.Group.{Group}
use Rattle.dsm_net.specs.Messages.{home_of}

-- a record stands among others
abbrev pub StandsIn : Rec → List Rec → Type 0
StandsIn one [] = ⊥
StandsIn one (first ∷ others) = (first ≡ one) ⊎ StandsIn one others

-- a record stands in a trace
abbrev pub IsIn : Rec → List Group → Type 0
IsIn one [] = ⊥
IsIn one (group ∷ before) = StandsIn one group.records ⊎ IsIn one before

-- a message with this grant was sent to p and delivered
pub record WasGranted (trace : List Group) (p : ℕ) (turn : ℕ) (lock : Lock) (version : ℕ) (lines : List Line) : Type 0 where
  pub number : ℕ
  pub msg : Msg
  pub mode : Mode
  pub is_sent : IsIn (Rec.Sent number msg) trace
  pub is_delivered : IsIn (Rec.Delivered number) trace
  pub is_to : msg.to.0 ≡ p
  pub is_grant : msg.body ≡ Body.Grant lock mode turn version lines

-- each take among records was granted in the trace before them, or is of a lock of which p is itself the home
abbrev pub TakesAreGranted : Setup → List Group → List Rec → Type 0
TakesAreGranted setup before [] = Unit {0}
TakesAreGranted setup before (Rec.Turn p turn (Label.Take lock mode version) lines ∷ others) =
    ((home_of setup lock.0 ≡ p.0) ⊎ WasGranted before p.0 turn lock version lines) × TakesAreGranted setup before others
TakesAreGranted setup before (one ∷ others) = TakesAreGranted setup before others

abbrev pub AllTakesAreGranted : Setup → List Group → Type 0
AllTakesAreGranted setup [] = Unit {0}
AllTakesAreGranted setup (group ∷ before) = AllTakesAreGranted setup before × TakesAreGranted setup before group.records

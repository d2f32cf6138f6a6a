-- What the world holds as far as locks go, where all processors are up: with the courses of all processors, and the turns up to which each has handled what the others did.
use Rattle.std.specs.Prelude.{◌≡◌, ℕ, ◌==◌, if◌then◌else◌, List, [], ◌∷◌, ◌++◌, map, filter, Some}
use Rattle.dsm_base.specs.declared.label.Label.{Label}
use Rattle.dsm_base.specs.declared.setup.Setup.{Setup}
use Rattle.dsm_lines.specs.declared.of_objects.MailGrant.{MailGrant}
use Rattle.dsm_msg.specs.declared.message.Body.{Body}
use Rattle.dsm_msg.specs.declared.message.Msg.{Msg}
use Rattle.dsm_net.specs.declared.trace.Letter.{Letter}
use Rattle.dsm_net.specs.Processor.{Processor}
use Rattle.dsm_net.specs.Messages.{home_of}
use Rattle.dsm_net.specs.Net.{Net}
use Rattle.dsm_laws_protocol.specs.Courses.{moves_of}
use Rattle.dsm_laws_protocol.specs.Situations.{Situation, IsLawful}

-- the processors and channels, with what each has done and what each home has handled of it
pub record World (S : Type 0) : Type 0 where
  pub processors : ℕ → Processor S
  pub channels : ℕ → ℕ → List Msg  -- by sender and receiver, the oldest first
  pub courses : ℕ → List Label  -- by processor, the newest first
  pub handled : ℕ → ℕ → ℕ  -- by home and processor

-- messages without their numbers
abbrev pub said : List Letter → List Msg
said letters = map (λ letter. letter.msg) letters

-- a net has these processors, all of them up, and these messages under way
pub record IsNet {S : Type 0} (world : World S) (net : Net S) : Type 0 where
  pub up : (p : ℕ) → net.processors p ≡ Some (world.processors p)
  pub under_way : (p q : ℕ) → said (net.channels p q) ≡ world.channels p q

-- the grants of a lock that a body brings
abbrev pub grants_in : ℕ → Body → List MailGrant
grants_in lock (Body.Grant other mode turn version lines) =
    if other.0 == lock
    then record { turn = turn; lock = other; mode = mode; version = version; lines = lines } ∷ []
    else []
grants_in lock _ = []

-- the grants of a lock that messages bring
abbrev pub grants_said : ℕ → List Msg → List MailGrant
grants_said lock [] = []
grants_said lock (msg ∷ msgs) = grants_in lock msg.body ++ grants_said lock msgs

-- those grants that are of a lock
abbrev pub mail_for : ℕ → List MailGrant → List MailGrant
mail_for lock grants = filter (λ grant. grant.lock.0 == lock) grants

-- how things stand at a lock; the grants of its home's mailbox and those under way are one list
abbrev pub situation_at : {S : Type 0} → Setup → World S → ℕ → Situation
situation_at setup world lock = record {
  moves = λ q. moves_of lock (world.courses q);
  handled = world.handled (home_of setup lock);
  grants = λ q. mail_for lock (world.processors q).mail.grants
      ++ grants_said lock (world.channels (home_of setup lock) q);
  state = (world.processors (home_of setup lock)).locks lock;
}

-- the law holds at every lock
abbrev pub AreLawful : {S : Type 0} → Setup → World S → Type 0
AreLawful setup world = (lock : ℕ) → IsLawful setup.procs (situation_at setup world lock)

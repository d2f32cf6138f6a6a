-- The messages by which a manager opens a barrier tell nobody anything of locks.
use Rattle.std.specs.Prelude.{◌≡◌, ℕ, Bool, true, false, not, List, [], ◌∷◌, map, filter}
use Rattle.std.proofs.Common.{arith, refl}
use Rattle.dsm_base.specs.declared.names.Bar.{Bar}
use Rattle.dsm_base.specs.declared.setup.Setup.{Setup}
use Rattle.dsm_lines.specs.declared.of_objects.Opening.{Opening}
use Rattle.dsm_msg.specs.declared.message.Msg.{Msg}
use Rattle.dsm_net.specs.Processor.{Processor}
use Rattle.dsm_net.specs.Openings.{opening_message, is_to, openings_now, opening_messages}
use Rattle.dsm_laws_protocol.specs.Worlds.{grants_said}
use Rattle.dsm_laws_protocol.proofs.Channels.{goes}
use Rattle.dsm_laws_protocol.proofs.Flows.{AreQuiet}
use Rattle.dsm_laws_protocol.proofs.Reached.{AreSent}

module _ {S : Type 0} (setup : Setup) (me : ℕ) (s : Processor S) (bar : Bar) where
  quiet_all : (ones : List Opening) → AreQuiet s.own.turns (map (opening_message me s) ones)
  quiet_all [] = tt
  quiet_all (one ∷ ones) = (refl, refl, quiet_all ones)

  sent_all : (ones : List Opening) → AreSent setup me (map (opening_message me s) ones)
  sent_all [] = tt
  sent_all (one ∷ ones) = (record { from = refl; fits = tt; from_home = λ lock ne. refl }, sent_all ones)

  not_to_me : (ones : List Opening) → filter (goes me me) (map (opening_message me s) (filter (λ one. not (is_to me one)) ones)) ≡ []
  not_to_me [] = refl
  not_to_me (one ∷ ones) = grind (arith, not_to_me ones)

  none_granted : (test : Msg → Bool) (lock : ℕ) (ones : List Opening) → grants_said lock (filter test (map (opening_message me s) ones)) ≡ []
  none_granted test lock [] = refl
  none_granted test lock (one ∷ ones) = go (test (opening_message me s one)) refl (none_granted test lock ones)
    where
      go : (b : Bool) → test (opening_message me s one) ≡ b → grants_said lock (filter test (map (opening_message me s) ones)) ≡ [] →
          grants_said lock (filter test (map (opening_message me s) (one ∷ ones))) ≡ []
      go true e more = rw e more
      go false e more = rw e more

  pub openings_quiet : AreQuiet s.own.turns (opening_messages setup me s bar)
  openings_quiet = quiet_all (filter (λ one. not (is_to me one)) (openings_now setup s bar))

  pub openings_sent : AreSent setup me (opening_messages setup me s bar)
  openings_sent = sent_all (filter (λ one. not (is_to me one)) (openings_now setup s bar))

  pub no_opening_to_me : filter (goes me me) (opening_messages setup me s bar) ≡ []
  no_opening_to_me = not_to_me (openings_now setup s bar)

  pub no_grants_opened : (lock a b : ℕ) → grants_said lock (filter (goes a b) (opening_messages setup me s bar)) ≡ []
  no_grants_opened lock a b = none_granted (goes a b) lock (filter (λ one. not (is_to me one)) (openings_now setup s bar))

-- What a body or a telling does: it sends messages, and nothing else goes out.
use Rattle.std.proofs.Common.{◌≡◌, ◌==◌, ℕ, false, List, [], ◌∷◌, Option, Some, None, refl, sym, ◌∙◌}
use Rattle.dsm_base.specs.declared.lists.PendingLine.{PendingLine}
use Rattle.dsm_base.specs.declared.setup.Setup.{Setup}
use Rattle.dsm_msg.specs.declared.message.Body.{Body}
use Rattle.dsm_msg.specs.declared.message.Msg.{Msg}
use Rattle.dsm_net.specs.Processor.{Processor}
use Rattle.dsm_net.specs.Messages.{keeper_of, message}
use Rattle.dsm_net.specs.Effects.{Effect, only, counts, with_request, with_release, with_arrived, effect_of_openings, effect_of_grants, effect_of_body, effect_of_telling_to, effect_of_telling}
use Rattle.dsm_processor.specs.declared.node.Effects.{Effects}
use Rattle.dsm_processor.specs.Node.{effects_of}
use Rattle.dsm_processor.proofs.Names.{either}

pub record IsPlain {S : Type 0} (effect : Effect S) : Type 0 where
  pub carried : effect.carried ≡ []
  pub replayed : effect.replayed ≡ false
  pub rebuilt : effect.rebuilt ≡ []
  pub outs : effect.outs ≡ []
  pub note : effect.note ≡ None

plain_only : {S : Type 0} (s : Processor S) (sends : List Msg) → IsPlain (only s sends)
plain_only s sends = record { carried = refl; replayed = refl; rebuilt = refl; outs = refl; note = refl }

pub plain_body : {S : Type 0} (setup : Setup) (me : ℕ) (s : Processor S) (from turn : ℕ) (body : Body) → IsPlain (effect_of_body setup me s from turn body)
plain_body setup me s from turn (Body.Req lock mode «have») =
    either IsPlain (counts s from turn (Body.Req lock mode «have»)) (effect_of_grants setup me (with_request s from turn lock mode «have») lock) (only s []) (plain_only _ _) (plain_only s [])
plain_body setup me s from turn (Body.Release lock mode version lines) =
    either IsPlain (counts s from turn (Body.Release lock mode version lines)) (effect_of_grants setup me (with_release setup s from turn lock mode version lines) lock) (only s []) (plain_only _ _) (plain_only s [])
plain_body setup me s from turn (Body.Arrive bar epoch lines) =
    either IsPlain (counts s from turn (Body.Arrive bar epoch lines)) (effect_of_openings setup me (with_arrived s from turn bar lines) bar) (only s []) (plain_only _ _) (plain_only s [])
plain_body setup me s from turn (Body.Opened bar epoch lines) = record { carried = refl; replayed = refl; rebuilt = refl; outs = refl; note = refl }
plain_body setup me s from turn (Body.Grant lock mode take version lines) = record { carried = refl; replayed = refl; rebuilt = refl; outs = refl; note = refl }
plain_body setup me s from turn _ = plain_only s []

-- a body that doesn't count leaves all as it is
pub left_alone : {S : Type 0} (setup : Setup) (me : ℕ) (s : Processor S) (from turn : ℕ) (body : Body) → counts s from turn body ≡ false → s ≡ (effect_of_body setup me s from turn body).processor
left_alone setup me s from turn body fails = rw fails refl

telling_to : {S : Type 0} (setup : Setup) (p : ℕ) (s : Processor S) (body : Body) (keeper : Option ℕ) → IsPlain (effect_of_telling_to setup p s body keeper)
telling_to setup p s body None = plain_only s []
telling_to setup p s body (Some keeper) =
    either IsPlain (keeper == p) (effect_of_body setup p s p s.own.turns body) (only s (message p s keeper body ∷ []))
    (plain_body setup p s p s.own.turns body) (plain_only s (message p s keeper body ∷ []))

pub plain_telling : {S : Type 0} (setup : Setup) (p : ℕ) (s : Processor S) (body : Option Body) → IsPlain (effect_of_telling setup p s body)
plain_telling setup p s None = plain_only s []
plain_telling setup p s (Some body) = telling_to setup p s body (keeper_of setup body)

-- what goes out in a unit, by what is sent
pub effects_are : {S : Type 0} (effect : Effect S) (carried outs : List PendingLine) (sends : List Msg) → IsPlain effect → sends ≡ effect.sends
    → ◌≡◌ {A = Effects} record { carried = carried; sends = sends; replayed = false; rebuilt = []; outs = outs; note = None } (effects_of (record effect { carried = carried; outs = outs }))
effects_are effect carried outs sends plain are i = record {
  carried = carried;
  sends = are i;
  replayed = sym plain.replayed i;
  rebuilt = sym plain.rebuilt i;
  outs = outs;
  note = sym plain.note i;
}

-- the same where what was brought along goes out
pub received_are : {S : Type 0} (effect : Effect S) (carried outs : List PendingLine) (sends : List Msg) → IsPlain effect → outs ≡ [] → sends ≡ effect.sends
    → ◌≡◌ {A = Effects} record { carried = carried; sends = sends; replayed = false; rebuilt = []; outs = outs; note = None } (effects_of (record effect { carried = carried }))
received_are effect carried outs sends plain none are i = record {
  carried = carried;
  sends = are i;
  replayed = sym plain.replayed i;
  rebuilt = sym plain.rebuilt i;
  outs = (none ∙ sym plain.outs) i;
  note = sym plain.note i;
}

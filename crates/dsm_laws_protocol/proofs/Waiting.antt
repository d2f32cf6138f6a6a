-- Nobody waits for a lock that may be granted.
use Rattle.std.specs.Prelude.{◌≡◌, ℕ, Bool, true, false, ◌==◌, List, [], ◌∷◌, ◌++◌, map, Option, Some, None}
use Rattle.std.proofs.Common.{refl, append_assoc, append-nil, inl, inr}
use Rattle.std.proofs.lemmas.Bool.Decides.{eqb_tells}
use Rattle.dsm_base.specs.declared.act.Act.{Act}
use Rattle.dsm_base.specs.declared.holders.Holder.{Holder}
use Rattle.dsm_base.specs.declared.setup.Setup.{Setup}
use Rattle.dsm_base.specs.Family.{update}
use Rattle.dsm_base.specs.Threads.{Semantics}
use Rattle.dsm_msg.specs.declared.message.Body.{Body}
use Rattle.dsm_home.specs.declared.waiting.Waiting.{Waiting}
use Rattle.dsm_home.specs.LockStates.{LockState, fits_beside, holder_of, front_of, behind_front, lock_after_grants, lock_with_request, lock_after_release}
use Rattle.dsm_net.specs.declared.trace.Group.{Group}
use Rattle.dsm_net.specs.Processor.{Processor}
use Rattle.dsm_net.specs.Turns.{OwnTurn}
use Rattle.dsm_net.specs.Messages.{keeper_of, with_carry}
use Rattle.dsm_net.specs.Effects.{waiting_of, counts, effect_of, effect_of_body, body_of, processor_after, effect_of_telling_to, effect_of_telling}
use Rattle.dsm_net.specs.Fits.{FitsUnits, run_of}
use Rattle.dsm_laws_protocol.specs.Waiting.{IsBlocked, NobodyWaitsInVain}
use Rattle.dsm_laws_protocol.proofs.Runs.{each_has}

-- once a lock is granted to all to whom it may be, the first who still waits is blocked
pub blocked : (holders : List Holder) (queue : List Waiting) → IsBlocked (holders ++ map holder_of (front_of holders queue)) (behind_front holders queue)
blocked holders [] = tt
blocked holders (one ∷ others) = go (fits_beside holders one.mode) refl (blocked (holders ++ holder_of one ∷ []) others)
  where
    go : (b : Bool) → fits_beside holders one.mode ≡ b → IsBlocked ((holders ++ holder_of one ∷ []) ++ map holder_of (front_of (holders ++ holder_of one ∷ []) others)) (behind_front (holders ++ holder_of one ∷ []) others) →
        IsBlocked (holders ++ map holder_of (front_of holders (one ∷ others))) (behind_front holders (one ∷ others))
    go true fits more = rw fits (rw append_assoc at more)
    go false fits more = rw fits (rw append-nil fits)

-- every lock of a processor is so
abbrev AreBlocked : (ℕ → LockState) → Type 0
AreBlocked locks = (lock : ℕ) → IsBlocked (locks lock).holders (locks lock).queue

-- one lock is granted to all to whom it may be, whatever it was before
granted_blocked : (locks : ℕ → LockState) (at : ℕ) (state : LockState) → AreBlocked locks → AreBlocked (update (update locks at state) at (lock_after_grants (update locks at state at)))
granted_blocked locks at state h lock =
    elim (eqb_tells lock at) [
      | inl (t, i) ↦ rw t (blocked (update locks at state at).holders (update locks at state at).queue)
      | inr (t, _) ↦ rw t (h lock)
    ]

effect_blocked : {S : Type 0} (setup : Setup) (me : ℕ) (s : Processor S) (from turn : ℕ) (body : Body) → AreBlocked s.locks → AreBlocked (effect_of setup me s from turn body).processor.locks
effect_blocked setup me s from turn (Body.Req lock mode version) h =
    granted_blocked s.locks lock.0 (lock_with_request (s.locks lock.0) (waiting_of from turn mode version)) h
effect_blocked setup me s from turn (Body.Release lock mode version lines) h =
    granted_blocked s.locks lock.0 (lock_after_release (s.locks lock.0) from mode) h
effect_blocked setup me s from turn _ h = h

body_blocked : {S : Type 0} (setup : Setup) (me : ℕ) (s : Processor S) (from turn : ℕ) (body : Body) → AreBlocked s.locks → AreBlocked (effect_of_body setup me s from turn body).processor.locks
body_blocked setup me s from turn body h = go (counts s from turn body) refl
  where
    go : (b : Bool) → counts s from turn body ≡ b → AreBlocked (effect_of_body setup me s from turn body).processor.locks
    go true e = rw e (effect_blocked setup me s from turn body h)
    go false e = rw e h

telling_blocked : {S : Type 0} (setup : Setup) (p : ℕ) (s : Processor S) (body : Option Body) → AreBlocked s.locks → AreBlocked (effect_of_telling setup p s body).processor.locks
telling_blocked setup p s None h = h
telling_blocked setup p s (Some body) h = to_keeper (keeper_of setup body)
  where
    to_keeper : (keeper : Option ℕ) → AreBlocked (effect_of_telling_to setup p s body keeper).processor.locks
    to_keeper None = h
    to_keeper (Some keeper) = go (keeper == p) refl
      where
        go : (b : Bool) → (keeper == p) ≡ b → AreBlocked (effect_of_telling_to setup p s body (Some keeper)).processor.locks
        go true e = rw e (body_blocked setup p s p s.own.turns body h)
        go false e = rw e h

pub nobody_waits : {S : Type 0} (setup : Setup) (first : ℕ → S) (threads : Semantics S) (acts : List Act) (trace : List Group) (fits : FitsUnits setup first threads acts trace) →
    NobodyWaitsInVain (run_of setup first threads fits.done).net
nobody_waits {S} setup first threads = each_has setup first threads IsFine record {
  start = λ p lock. tt;
  turn = λ p s before turn h. telling_blocked setup p (processor_after setup threads s turn) (body_of setup s.own turn.label) h;
  message = λ p s before msg h. body_blocked setup p (with_carry s msg.from.0 msg.carry) msg.from.0 msg.carry.turn msg.body h;
}
  where
    IsFine : ℕ → List OwnTurn → Processor S → Type 0
    IsFine p turns s = AreBlocked s.locks

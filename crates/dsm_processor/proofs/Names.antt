-- What a processor keeps and sends names processors, locks and lines of the setup.
use Rattle.std.proofs.Common.{◌≡◌, ◌<◌, ℕ, Bool, true, false, not, if◌then◌else◌, List, [], ◌∷◌, ◌++◌, filter, refl, inl, inr, sym, subst, Some, arith}
use Rattle.std.specs.List.{All, range_with_len}
use Rattle.std.proofs.lemmas.List.Elements.{All-map, All-filter, All-append, All-cons, All-nil, All-head, All-tail}
use Rattle.std.proofs.lemmas.Bool.Decides.{eqb_tells}
use Rattle.dsm_base.specs.declared.names.Bar.{Bar}
use Rattle.dsm_base.specs.declared.names.Lock.{Lock}
use Rattle.dsm_base.specs.declared.setup.Setup.{Setup}
use Rattle.dsm_base.specs.declared.holders.Holder.{Holder}
use Rattle.dsm_base.specs.Family.{update}
use Rattle.dsm_base.specs.Threads.{Semantics, StaysWithin}
use Rattle.dsm_lines.specs.declared.of_objects.Opening.{Opening}
use Rattle.dsm_msg.specs.declared.message.Body.{Body}
use Rattle.dsm_msg.specs.declared.message.Msg.{Msg}
use Rattle.dsm_home.specs.declared.waiting.Waiting.{Waiting}
use Rattle.dsm_home.specs.LockStates.{LockState, fits_beside, holder_of, front_of, behind_front, grants_of, lock_after_grants, lock_with_request, lock_after_release}
use Rattle.dsm_barrier.specs.BarrierStates.{BarrierState, have_all_come, opening_for, openings_of, openings_due}
use Rattle.dsm_net.specs.Processor.{Own, Processor}
use Rattle.dsm_net.specs.Messages.{keeper_of}
use Rattle.dsm_net.specs.Grants.{is_of, grant_message}
use Rattle.dsm_net.specs.Openings.{is_to, opening_message, openings_now}
use Rattle.dsm_net.specs.Effects.{Effect, only, counts, waiting_of, with_request, with_release, with_arrived, effect_of_openings, effect_of_body, effect_of_grants}
use Rattle.dsm_processor.proofs.Numbered.{range_within}
use Rattle.dsm_processor.specs.Names.{IsKeptBy, IsSendOf, AreOfSetup}

front_of_all : (P : Waiting → Type 0) (holders : List Holder) (queue : List Waiting) → All P queue → All P (front_of holders queue)
front_of_all P holders [] all = all
front_of_all P holders (one ∷ others) all =
    elim (fits_beside holders one.mode) as (λ b. All P (if b then one ∷ front_of (holders ++ holder_of one ∷ []) others else [])) [
      | true ↦ All-cons P one (front_of (holders ++ holder_of one ∷ []) others) (All-head P one others all) (front_of_all P (holders ++ holder_of one ∷ []) others (All-tail P one others all))
      | false ↦ All-nil P
    ]

behind_front_all : (P : Waiting → Type 0) (holders : List Holder) (queue : List Waiting) → All P queue → All P (behind_front holders queue)
behind_front_all P holders [] all = all
behind_front_all P holders (one ∷ others) all =
    elim (fits_beside holders one.mode) as (λ b. All P (if b then behind_front (holders ++ holder_of one ∷ []) others else one ∷ others)) [
      | true ↦ behind_front_all P (holders ++ holder_of one ∷ []) others (All-tail P one others all)
      | false ↦ all
    ]

-- what holds of both answers
pub either : {A : Type 0} (P : A → Type 0) (test : Bool) (one other : A) → P one → P other → P (if test then one else other)
either P true one other is differs = is
either P false one other is differs = differs

-- an effect leaves what is of the setup, tells processors of the setup, and leaves alone what is a processor's own
pub record Keeps {S : Type 0} (setup : Setup) (me : ℕ) (own : Own S) (effect : Effect S) : Type 0 where
  pub waiting : AreOfSetup setup effect.processor.locks
  pub sends : All (IsSendOf setup me) effect.sends
  pub same : effect.processor.own ≡ own

module _ (setup : Setup) where
  abbrev is_of_setup : Waiting → Type 0
  is_of_setup one = one.proc.0 < setup.procs

  changed : (locks : ℕ → LockState) (lock : ℕ) (state : LockState) → AreOfSetup setup locks → All is_of_setup state.queue → AreOfSetup setup (update locks lock state)
  changed locks lock state are is other =
      elim (eqb_tells other lock) as (λ _. All is_of_setup (update locks lock state other).queue) [
        | inl (same, _) ↦ rw same is
        | inr (differs, _) ↦ rw differs (are other)
      ]

  quiet : {S : Type 0} (me : ℕ) (s : Processor S) → AreOfSetup setup s.locks → Keeps setup me s.own (only s [])
  quiet me s are = record { waiting = are; sends = All-nil (IsSendOf setup me); same = refl }

  granted : {S : Type 0} (me : ℕ) (s : Processor S) (lock : Lock) → AreOfSetup setup s.locks → Keeps setup me s.own (effect_of_grants setup me s lock)
  granted me s lock are = record {
    waiting = changed s.locks lock.0 (lock_after_grants (s.locks lock.0)) are (behind_front_all is_of_setup (s.locks lock.0).holders (s.locks lock.0).queue (are lock.0));
    sends = All-map (IsSendOf setup me) (grant_message setup me s lock) (filter (λ one. not (is_of me one)) (grants_of (s.locks lock.0)))
        (λ k d within. record {
          from = refl;
          to = All-filter (λ one. not (is_of me one)) is_of_setup (grants_of (s.locks lock.0)) (front_of_all is_of_setup (s.locks lock.0).holders (s.locks lock.0).queue (are lock.0)) k d within;
          names = tt;
          kept = tt;
        });
    same = refl;
  }

  due_within : (bar : Bar) (state : BarrierState) → All (λ one. one.to.0 < setup.procs) (openings_due setup.procs bar state)
  due_within bar state =
      either (All (λ one. one.to.0 < setup.procs)) (have_all_come setup.procs state) (openings_of setup.procs bar state) []
      (All-map (λ (one : Opening). one.to.0 < setup.procs) (opening_for setup.procs bar state) (range_with_len 0 setup.procs) (range_within 0 setup.procs setup.procs (omega arith)))
      (All-nil (λ (one : Opening). one.to.0 < setup.procs))

  opened : {S : Type 0} (me : ℕ) (s : Processor S) (bar : Bar) → AreOfSetup setup s.locks → Keeps setup me s.own (effect_of_openings setup me s bar)
  opened me s bar are = record {
    waiting = are;
    sends = All-map (IsSendOf setup me) (opening_message me s) (filter (λ one. not (is_to me one)) (openings_now setup s bar))
        (λ k d within. record {
          from = refl;
          to = All-filter (λ one. not (is_to me one)) (λ one. one.to.0 < setup.procs) (openings_now setup s bar) (due_within bar (s.barriers bar.0)) k d within;
          names = tt;
          kept = tt;
        });
    same = refl;
  }

  pub body_keeps : {S : Type 0} (me : ℕ) (s : Processor S) (from turn : ℕ) (body : Body) → AreOfSetup setup s.locks → from < setup.procs → Keeps setup me s.own (effect_of_body setup me s from turn body)
  body_keeps me s from turn (Body.Req lock mode «have») are within =
      let one : Waiting = waiting_of from turn mode «have» in
      either (Keeps setup me s.own) (counts s from turn (Body.Req lock mode «have»)) _ _
      (granted me (with_request s from turn lock mode «have») lock
      (changed s.locks lock.0 (lock_with_request (s.locks lock.0) one) are
      (All-append is_of_setup (s.locks lock.0).queue (one ∷ []) (are lock.0) (All-cons is_of_setup one [] within (All-nil is_of_setup)))))
      (quiet me s are)
  body_keeps me s from turn (Body.Release lock mode version lines) are within =
      either (Keeps setup me s.own) (counts s from turn (Body.Release lock mode version lines)) _ _
      (granted me (with_release setup s from turn lock mode version lines) lock
      (changed s.locks lock.0 (lock_after_release (s.locks lock.0) from mode) are (are lock.0)))
      (quiet me s are)
  body_keeps me s from turn (Body.Arrive bar epoch lines) are within =
      either (Keeps setup me s.own) (counts s from turn (Body.Arrive bar epoch lines)) _ _
      (opened me (with_arrived s from turn bar lines) bar are)
      (quiet me s are)
  body_keeps me s from turn (Body.Grant lock mode take version lines) are within = record { waiting = are; sends = All-nil (IsSendOf setup me); same = refl }
  body_keeps me s from turn (Body.Opened bar epoch lines) are within = record { waiting = are; sends = All-nil (IsSendOf setup me); same = refl }
  body_keeps me s from turn _ are within = quiet me s are

  -- the thread stays within the setup
  pub stays_kept : {S : Type 0} (threads : Semantics S) (me : ℕ) (own : Own S) (effect : Effect S) → Keeps setup me own effect → StaysWithin setup threads own.thread → StaysWithin setup threads effect.processor.own.thread
  stays_kept threads me own effect keeps stays = subst (λ (one : Own _). StaysWithin setup threads one.thread) (sym keeps.same) stays

-- messages of one processor of a setup are those of the same one of the same setup
pub sends_of_same : (old now : Setup) (me p : ℕ) → now ≡ old → p ≡ me → (sends : List Msg) → All (IsSendOf now p) sends → All (IsSendOf old me) sends
sends_of_same old now me p same_setup same_number sends all =
    subst (λ one. All (IsSendOf old one) sends) same_number (subst (λ setup. All (IsSendOf setup p) sends) same_setup all)

-- a body is told to the home or manager that it is for
pub kept_by : (setup : Setup) (body : Body) (p : ℕ) → keeper_of setup body ≡ Some p → IsKeptBy setup p body
kept_by setup (Body.Arrive bar epoch lines) p is = cc
kept_by setup _ p is = tt

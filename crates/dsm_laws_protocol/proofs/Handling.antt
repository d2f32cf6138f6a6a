-- A home handles a request or a release that it is due: the body counts, and the law holds.
use Rattle.std.specs.Prelude.{◌≡◌, ℕ, ◌<◌, true, false, ◌==◌, nat_lt, List, [], ◌∷◌, find, Some, None, is_some}
use Rattle.std.proofs.Common.{arith, refl, sym, ap, ◌∙◌, subst, inl, inr}
use Rattle.std.proofs.lemmas.Bool.Decides.{eqb_tells}
use Rattle.dsm_base.specs.declared.names.Lock.{Lock}
use Rattle.dsm_base.specs.declared.names.Mode.{Mode}
use Rattle.dsm_base.specs.declared.holders.Holder.{Holder}
use Rattle.dsm_base.specs.declared.setup.Setup.{Setup}
use Rattle.dsm_base.specs.Family.{update}
use Rattle.dsm_lines.specs.declared.list.Line.{Line}
use Rattle.dsm_msg.specs.declared.message.Body.{Body}
use Rattle.dsm_home.specs.declared.waiting.Waiting.{Waiting}
use Rattle.dsm_home.specs.LockStates.{LockState, mode_among, lock_with_request, lock_after_release, version_made}
use Rattle.dsm_net.specs.Processor.{Processor}
use Rattle.dsm_net.specs.Messages.{home_of}
use Rattle.dsm_net.specs.Effects.{may_bring, is_mode, may_ask, may_give, counts, waiting_of, with_request, with_release}
use Rattle.dsm_laws_protocol.specs.Courses.{Move, asks, gives, Claim, moves_of, claim_of, have_by}
use Rattle.dsm_laws_protocol.specs.Situations.{IsLawful, modes_of, waits_of}
use Rattle.dsm_laws_protocol.specs.Worlds.{World, situation_at, AreLawful}
use Rattle.dsm_laws_protocol.proofs.Families.{same_number}
use Rattle.dsm_laws_protocol.proofs.Homes.{IsNextMove, asker_out, ask_came, give_came}
use Rattle.dsm_laws_protocol.proofs.Rights.{IsGiver, giver}
use Rattle.dsm_laws_protocol.proofs.Worlds.{with_new, with_handled, IsSameUpto, handled_lawful}

no_mode : (p : ℕ) (holders : List Holder) → modes_of p holders ≡ [] → mode_among holders p ≡ None
no_mode p [] e = refl
no_mode p (holder ∷ holders) e =
    elim (eqb_tells holder.proc.0 p) [ inl (t, _) ↦ (let k : holder.mode ∷ modes_of p holders ≡ [] = rw t at e in cc) | inr (t, _) ↦ rw t (no_mode p holders (rw t at e)) ]

one_mode : (p : ℕ) (mode : Mode) (holders : List Holder) → modes_of p holders ≡ mode ∷ [] → mode_among holders p ≡ Some mode
one_mode p mode [] e = cc
one_mode p mode (holder ∷ holders) e =
    elim (eqb_tells holder.proc.0 p) [
      | inl (t, _) ↦ (let k : holder.mode ∷ modes_of p holders ≡ mode ∷ [] = rw t at e in let m : holder.mode ≡ mode = cc in rw t (ap Some m))
      | inr (t, _) ↦ rw t (one_mode p mode holders (rw t at e))
    ]

not_waiting : (p : ℕ) (queue : List Waiting) → waits_of p queue ≡ [] → is_some (find (λ (one : Waiting). one.proc.0 == p) queue) ≡ false
not_waiting p [] e = refl
not_waiting p (one ∷ queue) e =
    elim (eqb_tells one.proc.0 p) [ inl (t, _) ↦ (let k : one ∷ waits_of p queue ≡ [] = rw t at e in cc) | inr (t, _) ↦ rw t (not_waiting p queue (rw t at e)) ]

own_mode : (mode : Mode) → is_mode mode (Some mode) ≡ true
own_mode Mode.Shared = refl
own_mode Mode.Excl = refl

ask_allowed : (state : LockState) (p : ℕ) → modes_of p state.holders ≡ [] → waits_of p state.queue ≡ [] → may_ask state p ≡ true
ask_allowed state p m w = rw (no_mode p state.holders m, not_waiting p state.queue w) refl

give_allowed : (state : LockState) (p : ℕ) (mode : Mode) (version : ℕ) (lines : List Line) → modes_of p state.holders ≡ mode ∷ [] → version ≡ version_made mode state.version → may_bring mode lines ≡ true → may_give state p mode version lines ≡ true
give_allowed state p mode version lines m v b = rw (one_mode p mode state.holders m, own_mode mode, v, same_number (version_made mode state.version), b) refl

over_last : (last turn : ℕ) → last < turn → nat_lt last turn ≡ true
over_last last turn lt = grind arith

module _ {S : Type 0} (setup : Setup) (w : World S) (h : AreLawful setup w) (p turn : ℕ) (lock : Lock) (heard : Processor S) where
  abbrev home : ℕ
  home = home_of setup lock.0

  -- the home as it is when it handles the next move of p at the lock
  pub record IsDue (next : Move) : Type 0 where
    pub is_home : w.processors home ≡ heard
    pub last : (heard.peers p).last < turn
    pub next_is : IsNextMove (moves_of lock.0 (w.courses p)) (w.handled home p) turn next
    pub others : (other : ℕ) → (lock.0 == other) ≡ false → home_of setup other ≡ home → IsSameUpto (moves_of other (w.courses p)) (w.handled home p) turn

  state_is : {next : Move} → IsDue next → (situation_at setup w lock.0).state ≡ heard.locks lock.0
  state_is is = ap (λ (s : Processor S). s.locks lock.0) is.is_home

  abbrev after : Processor S → World S
  after now = with_handled (with_new w home now) home p turn

  pub ask_counts : (mode : Mode) (own : ℕ) → IsDue (asks mode) → counts heard p turn (Body.Req lock mode own) ≡ true
  ask_counts mode own is =
      let out = asker_out setup.procs (situation_at setup w lock.0) (h lock.0) p turn mode is.next_is in
      let m : modes_of p (heard.locks lock.0).holders ≡ [] = subst (λ (state : LockState). modes_of p state.holders ≡ []) (state_is is) out.0 in
      let q : waits_of p (heard.locks lock.0).queue ≡ [] = subst (λ (state : LockState). waits_of p state.queue ≡ []) (state_is is) out.1 in
      rw (over_last (heard.peers p).last turn is.last) (ask_allowed (heard.locks lock.0) p m q)

  pub ask_lawful : (mode : Mode) (own : ℕ) → IsDue (asks mode) → AreLawful setup (after (with_request heard p turn lock mode own))
  ask_lawful mode own is =
      handled_lawful setup w p turn lock (lock_with_request (heard.locks lock.0) (waiting_of p turn mode own)) (with_request heard p turn lock mode own) record {
        same_mail = ap (λ (s : Processor S). s.mail) (sym is.is_home);
        one_lock = ap (λ (s : Processor S). update s.locks lock.0 (lock_with_request (heard.locks lock.0) (waiting_of p turn mode own))) (sym is.is_home);
        others = is.others;
        right = subst (λ (state : LockState). IsLawful setup.procs (record (situation_at setup w lock.0) { handled = update (w.handled home) p turn; state = lock_with_request state (waiting_of p turn mode own) })) (state_is is)
            (ask_came setup.procs (situation_at setup w lock.0) (h lock.0) p turn mode own is.next_is);
      } h

  -- a release of who has the lock, at the version that its copy makes
  pub record IsReturn (mode : Mode) (version : ℕ) (lines : List Line) : Type 0 where
    pub due : IsDue gives
    pub claim : Claim
    pub is_claim : claim_of due.next_is.before ≡ Some claim
    pub is_mode : claim.mode ≡ mode
    pub is_version : version ≡ version_made mode (have_by due.next_is.before)
    pub brings : may_bring mode lines ≡ true
    pub is_processor : p < setup.procs

  pub give_counts : (mode : Mode) (version : ℕ) (lines : List Line) → IsReturn mode version lines → counts heard p turn (Body.Release lock mode version lines) ≡ true
  give_counts mode version lines is =
      let from : IsGiver setup.procs (situation_at setup w lock.0) (h lock.0) p turn is.due.next_is is.claim is.is_claim = giver setup.procs (situation_at setup w lock.0) (h lock.0) p turn is.due.next_is is.claim is.is_claim in
      let m : modes_of p (heard.locks lock.0).holders ≡ mode ∷ [] = subst (λ (state : LockState). modes_of p state.holders ≡ mode ∷ []) (state_is is.due) (from.is_alone ∙ ap (λ m. m ∷ []) is.is_mode) in
      let v : version ≡ version_made mode (heard.locks lock.0).version = is.is_version ∙ ap (version_made mode) (from.is_desk ∙ ap (λ (state : LockState). state.version) (state_is is.due)) in
      rw (over_last (heard.peers p).last turn is.due.last) (give_allowed (heard.locks lock.0) p mode version lines m v is.brings)

  pub give_lawful : (mode : Mode) (version : ℕ) (lines : List Line) → IsReturn mode version lines → AreLawful setup (after (with_release setup heard p turn lock mode version lines))
  give_lawful mode version lines is =
      handled_lawful setup w p turn lock (lock_after_release (heard.locks lock.0) p mode) (with_release setup heard p turn lock mode version lines) record {
        same_mail = ap (λ (s : Processor S). s.mail) (sym is.due.is_home);
        one_lock = ap (λ (s : Processor S). update s.locks lock.0 (lock_after_release (heard.locks lock.0) p mode)) (sym is.due.is_home);
        others = is.due.others;
        right = subst (λ (m : Mode). IsLawful setup.procs (record (situation_at setup w lock.0) { handled = update (w.handled home) p turn; state = lock_after_release (heard.locks lock.0) p m })) is.is_mode
            (subst (λ (state : LockState). IsLawful setup.procs (record (situation_at setup w lock.0) { handled = update (w.handled home) p turn; state = lock_after_release state p is.claim.mode })) (state_is is.due)
            (give_came setup.procs (situation_at setup w lock.0) (h lock.0) p turn is.claim is.is_processor (sym is.due.next_is.same_claim ∙ is.is_claim) is.due.next_is));
      } h

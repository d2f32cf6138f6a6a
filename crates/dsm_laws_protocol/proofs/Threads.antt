-- What a thread asks for, takes and gives back follows what it did before.
use Rattle.std.specs.Prelude.{◌≡◌, ◌≢◌, ◌⊎◌, ℕ, ℤ, pos, ◌+◌, ◌<◌, Bool, true, false, if◌then◌else◌, List, [], ◌∷◌, length, Option, Some, None, is_some}
use Rattle.std.proofs.Common.{arith, refl, sym, ap, ◌∙◌, subst, inl, inr, true≢false, ⊎_elim}
use Rattle.std.proofs.lemmas.Bool.Decides.{eqb_tells}
use Rattle.dsm_base.specs.declared.names.Lock.{Lock}
use Rattle.dsm_base.specs.declared.names.Mode.{Mode}
use Rattle.dsm_base.specs.declared.names.Fault.{Fault}
use Rattle.dsm_base.specs.declared.label.Label.{Label}
use Rattle.dsm_base.specs.declared.label.Want.{Want}
use Rattle.dsm_base.specs.declared.setup.Piece.{Piece}
use Rattle.dsm_base.specs.Access.{may_load, may_store}
use Rattle.dsm_base.specs.Threads.{Semantics, AsksFirst, Completes, state_after}
use Rattle.dsm_base.specs.Plain.{Surroundings, label_of}
use Rattle.dsm_laws_runs.proofs.Turns.{Outcome, Completed, Stopped}
use Rattle.dsm_laws_protocol.specs.Courses.{Move, asks, takes, gives, still, Claim, claim_of, held_by, move_of, moves_of, May, Follows, IsCourse}
use Rattle.dsm_laws_protocol.proofs.Courses.{claim_within, HasLock, held_has, claim_held}

-- a label that does nothing to a lock
abbrev pub is_other : Label → Bool
is_other (Label.Ask lock mode) = false
is_other (Label.Take lock mode version) = false
is_other (Label.Give lock) = false
is_other _ = true

-- how a label answers a want
pub data Answer (want : Want) (held : ℕ → Option Mode) (label : Label) : Type 0 where
  ByTake : (lock : Lock) (mode : Mode) (version : ℕ) → want ≡ Want.Take lock mode → label ≡ Label.Take lock mode version → Answer want held label
  ByAsk : (lock : Lock) (mode : Mode) (line : ℕ) → want ≡ Want.Ask lock mode line → label ≡ Label.Ask lock mode → is_some (held lock.0) ≡ false → Answer want held label
  ByGive : (lock : Lock) → ((other : Lock) (mode : Mode) → want ≢ Want.Take other mode) → label ≡ Label.Give lock → is_some (held lock.0) ≡ true → Answer want held label
  ByOther : ((other : Lock) (mode : Mode) → want ≢ Want.Take other mode) → is_other label ≡ true → Answer want held label

either : (b : Bool) (done stop label : Label) → Some (if b then done else stop) ≡ Some label → ((b ≡ true) × (label ≡ done)) ⊎ ((b ≡ false) × (label ≡ stop))
either true done stop label e = inl (refl, let k : done ≡ label = cc in sym k)
either false done stop label e = inr (refl, let k : stop ≡ label = cc in sym k)

either_other : (b : Bool) (done stop label : Label) → is_other done ≡ true → is_other stop ≡ true → Some (if b then done else stop) ≡ Some label → is_other label ≡ true
either_other true done stop label d s e = (let k : done ≡ label = cc in ap is_other (sym k)) ∙ d
either_other false done stop label d s e = (let k : stop ≡ label = cc in ap is_other (sym k)) ∙ s

module _ (pieces : List Piece) (p : ℕ) (seen : Surroundings) (text : List ℕ) where
  pub answered : (want : Want) (label : Label) → label_of pieces p seen text want ≡ Some label → Answer want seen.rights.held label
  answered (Want.Load cell line) label e =
      ByOther (λ other mode i. cc) (either_other (may_load pieces p seen.rights cell.0) (Label.Load cell (seen.memory cell.0)) (Label.Stop Fault.Unbound line) label refl refl e)
  answered (Want.Store cell value line) label e =
      ByOther (λ other mode i. cc) (either_other (may_store pieces p seen.rights cell.0) (Label.Store cell value) (Label.Stop Fault.Unbound line) label refl refl e)
  answered (Want.Ask lock mode line) label e =
      ⊎_elim (λ l. ByOther (λ other m i. cc) (ap is_other l.1)) (λ l. ByAsk lock mode line refl l.1 l.0) (either (is_some (seen.rights.held lock.0)) _ _ label e)
  answered (Want.Take lock mode) label e = ByTake lock mode (seen.versions lock.0) refl (let k : Label.Take lock mode (seen.versions lock.0) ≡ label = cc in sym k)
  answered (Want.Give lock line) label e =
      ⊎_elim (λ l. ByGive lock (λ other m i. cc) l.1 l.0) (λ l. ByOther (λ other m i. cc) (ap is_other l.1)) (either (is_some (seen.rights.held lock.0)) _ _ label e)
  answered Want.Quiet label e = ByOther (λ other mode i. cc) (let m : Label.Quiet ≡ label = cc in ap is_other (sym m))
  answered (Want.Arrive bar) label e = ByOther (λ other mode i. cc) (let m : Label.Arrive bar ≡ label = cc in ap is_other (sym m))
  answered (Want.Cross bar) label e = ByOther (λ other mode i. cc) (let m : Label.Cross bar (seen.rights.crossed bar.0 + 1) ≡ label = cc in ap is_other (sym m))
  answered Want.Line label e = ByOther (λ other mode i. cc) (let m : Label.Line text ≡ label = cc in ap is_other (sym m))
  answered Want.End label e = ByOther (λ other mode i. cc) (let m : Label.End ≡ label = cc in ap is_other (sym m))
  answered (Want.Stop fault line) label e = ByOther (λ other mode i. cc) (let m : Label.Stop fault line ≡ label = cc in ap is_other (sym m))
  answered Want.Over label e = absurd (cc)

  pub outcome_of : (want : Want) (label : Label) → label_of pieces p seen text want ≡ Some label → Outcome want label
  outcome_of Want.Quiet label e = Completed (pos 0) (grind arith)
  outcome_of (Want.Load cell line) label e = ⊎_elim (λ l. Completed (seen.memory cell.0) l.1) (λ l. Stopped Fault.Unbound line l.1) (either _ _ _ label e)
  outcome_of (Want.Store cell value line) label e = ⊎_elim (λ l. Completed (pos 0) l.1) (λ l. Stopped Fault.Unbound line l.1) (either _ _ _ label e)
  outcome_of (Want.Ask lock mode line) label e = ⊎_elim (λ l. Stopped Fault.Held line l.1) (λ l. Completed (pos 0) l.1) (either _ _ _ label e)
  outcome_of (Want.Take lock mode) label e = Completed (pos 0) (seen.versions lock.0, grind arith)
  outcome_of (Want.Give lock line) label e = ⊎_elim (λ l. Completed (pos 0) l.1) (λ l. Stopped Fault.NotHeld line l.1) (either _ _ _ label e)
  outcome_of (Want.Arrive bar) label e = Completed (pos 0) (grind arith)
  outcome_of (Want.Cross bar) label e = Completed (pos 0) (seen.rights.crossed bar.0 + 1, grind arith)
  outcome_of Want.Line label e = Completed (pos 0) (text, grind arith)
  outcome_of Want.End label e = Completed (pos 0) (grind arith)
  outcome_of (Want.Stop fault line) label e = Stopped fault line (grind arith)
  outcome_of Want.Over label e = absurd (grind arith)

other_still : (lock : ℕ) (label : Label) → is_other label ≡ true → move_of lock label ≡ still
other_still lock Label.Quiet e = refl
other_still lock (Label.Load cell value) e = refl
other_still lock (Label.Store cell value) e = refl
other_still lock (Label.Ask other mode) e = cc
other_still lock (Label.Take other mode version) e = cc
other_still lock (Label.Give other) e = cc
other_still lock (Label.Arrive bar) e = refl
other_still lock (Label.Cross bar epoch) e = refl
other_still lock (Label.Line text) e = refl
other_still lock Label.End e = refl
other_still lock (Label.Stop fault line) e = refl

may_still : (claim : Option Claim) → May claim still
may_still None = tt
may_still (Some claim) = tt

none_of : (o : Option Mode) → is_some o ≡ false → o ≡ None
none_of None e = refl
none_of (Some mode) e = cc

record IsHeld (o : Option Mode) : Type 0 where
  mode : Mode
  is_held : o ≡ Some mode

some_of : (o : Option Mode) → is_some o ≡ true → IsHeld o
some_of None e = cc
some_of (Some mode) e = record { mode = mode; is_held = refl }

completes_ask : (want : Want) (answer : ℤ) (lock : Lock) (mode : Mode) → Completes want answer (Label.Ask lock mode) → (line : ℕ) × (want ≡ Want.Ask lock mode line)
completes_ask Want.Quiet answer lock mode e = cc
completes_ask (Want.Load cell line) answer lock mode e = cc
completes_ask (Want.Store cell value line) answer lock mode e = cc
completes_ask (Want.Ask other m line) answer lock mode e = let a : lock ≡ other = cc in let b : mode ≡ m = cc in (line, λ i. Want.Ask (sym a i) (sym b i) line)
completes_ask (Want.Take other m) answer lock mode e = let k : Label.Ask lock mode ≡ Label.Take other m e.0 = e.1 in cc
completes_ask (Want.Give other line) answer lock mode e = cc
completes_ask (Want.Arrive bar) answer lock mode e = cc
completes_ask (Want.Cross bar) answer lock mode e = let k : Label.Ask lock mode ≡ Label.Cross bar e.0 = e.1 in cc
completes_ask Want.Line answer lock mode e = let k : Label.Ask lock mode ≡ Label.Line e.0 = e.1 in cc
completes_ask Want.End answer lock mode e = cc
completes_ask (Want.Stop fault line) answer lock mode e = cc
completes_ask Want.Over answer lock mode e = absurd e

outcome_ask : (want : Want) (lock : Lock) (mode : Mode) → Outcome want (Label.Ask lock mode) → (line : ℕ) × (want ≡ Want.Ask lock mode line)
outcome_ask want lock mode (Completed answer c) = completes_ask want answer lock mode c
outcome_ask want lock mode (Stopped fault line e) = cc

record IsAskOf (lock : ℕ) (label : Label) (mode : Mode) : Type 0 where
  other : Lock
  is_label : label ≡ Label.Ask other mode
  is_lock : other.0 ≡ lock

asks_is : (lock : ℕ) (label : Label) (mode : Mode) → move_of lock label ≡ asks mode → IsAskOf lock label mode
asks_is lock (Label.Ask other m) mode e = elim (eqb_tells other.0 lock) [ inl (t, i) ↦ (let k : asks m ≡ asks mode = rw t at e in record { other = other; is_label = ap (Label.Ask other) (let n : m ≡ mode = cc in n); is_lock = i }) | inr (t, _) ↦ absurd (let k : still ≡ asks mode = rw t at e in cc) ]
asks_is lock (Label.Take other m version) mode e = elim (eqb_tells other.0 lock) [ inl (t, i) ↦ absurd (let k : takes m version ≡ asks mode = rw t at e in cc) | inr (t, _) ↦ absurd (let k : still ≡ asks mode = rw t at e in cc) ]
asks_is lock (Label.Give other) mode e = elim (eqb_tells other.0 lock) [ inl (t, i) ↦ absurd (let k : gives ≡ asks mode = rw t at e in cc) | inr (t, _) ↦ absurd (let k : still ≡ asks mode = rw t at e in cc) ]
asks_is lock Label.Quiet mode e = cc
asks_is lock (Label.Load cell value) mode e = cc
asks_is lock (Label.Store cell value) mode e = cc
asks_is lock (Label.Arrive bar) mode e = cc
asks_is lock (Label.Cross bar epoch) mode e = cc
asks_is lock (Label.Line text) mode e = cc
asks_is lock Label.End mode e = cc
asks_is lock (Label.Stop fault line) mode e = cc

-- each label of a thread answers what it wanted
abbrev pub IsMade : {S : Type 0} → Semantics S → S → List Label → Type 0
IsMade threads first [] = Unit {0}
IsMade threads first (label ∷ before) =
    IsMade threads first before × Outcome (threads.want (state_after threads first before)) label

module _ {S : Type 0} (threads : Semantics S) (first : S) (ask_first : AsksFirst threads first) (lock : ℕ) where
  abbrev state : List Label → S
  state labels = state_after threads first labels

  -- at the start nothing is held or asked for
  first_follows : (held : ℕ → Option Mode) → held lock ≡ None → (label : Label) → Answer (threads.want first) held label → May None (move_of lock label)
  first_follows held none label (ByTake other mode version w e) = absurd (ask_first.no_take other mode w)
  first_follows held none label (ByAsk other mode line w e free) = rw e (elim (eqb_tells other.0 lock) [ inl (t, _) ↦ rw t tt | inr (t, _) ↦ rw t tt ])
  first_follows held none label (ByGive other n e some) =
      rw e (elim (eqb_tells other.0 lock) [
        | inl (t, i) ↦ absurd (let k : is_some (held lock) ≡ true = ap (λ l. is_some (held l)) (sym i) ∙ some in true≢false (sym k ∙ ap is_some none))
        | inr (t, _) ↦ rw t tt
      ])
  first_follows held none label (ByOther n e) = rw (other_still lock label e) tt

  -- who has not just asked
  module _ (labels : List Label) (course : IsCourse (moves_of lock labels)) (later : (claim : Claim) → claim_of (moves_of lock labels) ≡ Some claim → claim.turn < length (moves_of lock labels))
      (no_take : (other : Lock) (mode : Mode) → other.0 ≡ lock → threads.want (state labels) ≡ Want.Take other mode → ⊥) (held : ℕ → Option Mode) (same : held lock ≡ held_by (moves_of lock labels)) where
    free_claim : held lock ≡ None → (claim : Option Claim) → claim_of (moves_of lock labels) ≡ claim → claim ≡ None
    free_claim none None c = refl
    free_claim none (Some claim) c = absurd (let k : None ≡ Some claim.mode = sym none ∙ same ∙ claim_held (moves_of lock labels) claim course c (later claim c) in cc)

    held_gives : (mode : Mode) → held lock ≡ Some mode → May (claim_of (moves_of lock labels)) gives
    held_gives mode some = let has : HasLock (moves_of lock labels) mode = held_has (moves_of lock labels) mode course (sym same ∙ some) in rw has.is_claim tt

    may_next : (label : Label) → Answer (threads.want (state labels)) held label → May (claim_of (moves_of lock labels)) (move_of lock label)
    may_next label (ByTake other mode version w e) =
        rw e (elim (eqb_tells other.0 lock) [ inl (t, i) ↦ absurd (no_take other mode i w) | inr (t, _) ↦ rw t (may_still (claim_of (moves_of lock labels))) ])
    may_next label (ByAsk other mode line w e free) =
        rw e (elim (eqb_tells other.0 lock) [
          | inl (t, i) ↦ rw (t, free_claim (none_of (held lock) (ap (λ l. is_some (held l)) (sym i) ∙ free)) (claim_of (moves_of lock labels)) refl) tt
          | inr (t, _) ↦ rw t (may_still (claim_of (moves_of lock labels)))
        ])
    may_next label (ByGive other n e some) =
        rw e (elim (eqb_tells other.0 lock) [
          | inl (t, i) ↦ rw t (let h : IsHeld (held lock) = some_of (held lock) (ap (λ l. is_some (held l)) (sym i) ∙ some) in held_gives h.mode h.is_held)
          | inr (t, _) ↦ rw t (may_still (claim_of (moves_of lock labels)))
        ])
    may_next label (ByOther n e) = rw (other_still lock label e) (may_still (claim_of (moves_of lock labels)))

  -- right after an ask comes the take, and nothing else
  asked_follows : (before : List Label) (newest : Label) (mode : Mode) → move_of lock newest ≡ asks mode → Outcome (threads.want (state before)) newest → (held : ℕ → Option Mode) (label : Label) →
      Answer (threads.want (state (newest ∷ before))) held label → (version : ℕ) × (move_of lock label ≡ takes mode version)
  asked_follows before newest mode e shown held label answer =
      let a : IsAskOf lock newest mode = asks_is lock newest mode e in
      let w : (line : ℕ) × (threads.want (state before) ≡ Want.Ask a.other mode line) = outcome_ask (threads.want (state before)) a.other mode (subst (Outcome (threads.want (state before))) a.is_label shown) in
      let t : threads.want (state (newest ∷ before)) ≡ Want.Take a.other mode = subst (λ x. threads.want (threads.after (state before) x) ≡ Want.Take a.other mode) (sym a.is_label) (ask_first.takes before a.other mode w.0 w.1) in
      go a.other a.is_lock t answer
    where
      go : (asked : Lock) → asked.0 ≡ lock → threads.want (state (newest ∷ before)) ≡ Want.Take asked mode → Answer (threads.want (state (newest ∷ before))) held label → (version : ℕ) × (move_of lock label ≡ takes mode version)
      go asked l t (ByTake other m version w is) =
          let k : Want.Take asked mode ≡ Want.Take other m = sym t ∙ w in
          let o : asked ≡ other = cc in
          let d : m ≡ mode = cc in
          let there : other.0 ≡ lock = ap (λ (x : Lock). x.0) (sym o) ∙ l in
          (version, ap (move_of lock) is ∙ taken other m version there ∙ ap (λ x. takes x version) d)
        where
          taken : (other : Lock) (m : Mode) (version : ℕ) → other.0 ≡ lock → move_of lock (Label.Take other m version) ≡ takes m version
          taken other m version there = elim (eqb_tells other.0 lock) [ inl (u, _) ↦ rw u refl | inr (_, n) ↦ absurd (n there) ]
      go asked l t (ByAsk other m line w is free) = absurd (let k : Want.Take asked mode ≡ Want.Ask other m line = sym t ∙ w in cc)
      go asked l t (ByGive other n is some) = absurd (n asked mode t)
      go asked l t (ByOther n is) = absurd (n asked mode t)

  -- no take is wanted where the newest label didn't ask for the lock
  none_wanted : (before : List Label) (newest : Label) → ((mode : Mode) → move_of lock newest ≢ asks mode) → Outcome (threads.want (state before)) newest → (other : Lock) (mode : Mode) → other.0 ≡ lock →
      threads.want (state (newest ∷ before)) ≡ Want.Take other mode → ⊥
  none_wanted before newest n (Completed answer c) other mode l w =
      let k : newest ≡ Label.Ask other mode = ask_first.took before answer newest other mode c w in
      n mode (ap (move_of lock) k ∙ elim (eqb_tells other.0 lock) [ inl (u, _) ↦ rw u refl | inr (_, m) ↦ absurd (m l) ])
  none_wanted before newest n (Stopped fault line e) other mode l w =
      let k : threads.want (state (newest ∷ before)) ≡ Want.Over = subst (λ x. threads.want (threads.after (state before) x) ≡ Want.Over) (sym e) (ask_first.stops before fault line) in
      let m : Want.Over ≡ Want.Take other mode = sym k ∙ w in cc

  claim_later : (move : Move) (before : List Move) → ((mode : Mode) → move ≢ asks mode) → (claim : Claim) → claim_of (move ∷ before) ≡ Some claim → claim.turn < length (move ∷ before)
  claim_later (asks mode) before n claim c = absurd (n mode refl)
  claim_later (takes mode version) before n claim c = let w = claim_within before claim c in omega arith
  claim_later gives before n claim c = cc
  claim_later still before n claim c = let w = claim_within before claim c in omega arith

  not_asks : (move other : Move) → move ≡ other → ((mode : Mode) → other ≢ asks mode) → (mode : Mode) → move ≢ asks mode
  not_asks move other e n mode k = n mode (sym e ∙ k)

  -- the next label of a thread follows those before it
  pub follows : (labels : List Label) → IsMade threads first labels → IsCourse (moves_of lock labels) → (held : ℕ → Option Mode) → held lock ≡ held_by (moves_of lock labels) → (label : Label) → Answer (threads.want (state labels)) held label →
      Follows (moves_of lock labels) (move_of lock label)
  follows [] version_made course held same label answer = first_follows held same label answer
  follows (newest ∷ before) version_made course held same label answer = go (move_of lock newest) refl
    where
      may : ((mode : Mode) → move_of lock newest ≢ asks mode) → May (claim_of (move_of lock newest ∷ moves_of lock before)) (move_of lock label)
      may n = may_next (newest ∷ before) course (claim_later (move_of lock newest) (moves_of lock before) n) (none_wanted before newest n version_made.1) held same label answer

      go : (move : Move) → move_of lock newest ≡ move → Follows (move_of lock newest ∷ moves_of lock before) (move_of lock label)
      go (asks mode) e = rw e (asked_follows before newest mode e version_made.1 held label answer)
      go (takes mode version) e = rw e (rw e at (may (not_asks (move_of lock newest) (takes mode version) e (λ m k. cc))))
      go gives e = rw e (rw e at (may (not_asks (move_of lock newest) gives e (λ m k. cc))))
      go still e = rw e (rw e at (may (not_asks (move_of lock newest) still e (λ m k. cc))))

-- A home once a body has come that counts, and the grants that it sends for it.
use Rattle.std.proofs.Common.{◌≡◌, ◌≢◌, ℕ, true, false, List, ◌++◌, not, map, filter, sym, ap, ◌∙◌, arith}
use Rattle.dsm_base.specs.declared.names.Lock.{Lock}
use Rattle.dsm_base.specs.declared.names.Mode.{Mode}
use Rattle.dsm_base.specs.declared.setup.Setup.{Setup}
use Rattle.dsm_base.specs.declared.setup.Piece.{Piece}
use Rattle.dsm_base.specs.Family.{update}
use Rattle.dsm_base.proofs.Families.{update_same, update_twice}
use Rattle.dsm_lines.specs.declared.list.Line.{Line}
use Rattle.dsm_lines.specs.Copies.{newer_lines}
use Rattle.dsm_msg.specs.declared.message.Body.{Body}
use Rattle.dsm_msg.specs.declared.message.Msg.{Msg}
use Rattle.dsm_home.specs.declared.waiting.Waiting.{Waiting}
use Rattle.dsm_home.specs.LockStates.{LockState, grants_of, lock_after_grants, lock_with_request, lock_after_release}
use Rattle.dsm_home.specs.HomeStates.{HomeState, home_after_ask, home_after_give}
use Rattle.dsm_net.specs.Processor.{Processor, Peer}
use Rattle.dsm_net.specs.Messages.{message}
use Rattle.dsm_net.specs.Grants.{own_grant, grant_message, is_of}
use Rattle.dsm_net.specs.Effects.{with_version, waiting_of, with_request, with_release, effect_of_grants}

-- whether a request is of a processor
pub is_its : (one : Waiting) (p : ℕ) → one.proc.0 ≡ p → is_of p one ≡ true
is_its one p same = grind arith

pub not_its : (one : Waiting) (p : ℕ) → one.proc.0 ≢ p → is_of p one ≡ false
not_its one p differs = grind arith

-- a processor whose lock is granted to all to whom it may be
abbrev pub granted_at : {S : Type 0} → Processor S → Lock → Processor S
granted_at s lock = record s { locks = update s.locks lock.0 (lock_after_grants (s.locks lock.0)) }

-- a member that is changed twice
pub change_twice : {A : Type 0} (family : ℕ → A) (k : ℕ) (item : A) (change : A → A) → update family k (change item) ≡ update (update family k item) k (change (update family k item k))
change_twice family k item change =
    sym (ap (λ one. update (update family k item) k (change one)) (update_same family k item) ∙ update_twice family k item (change item))

-- the grants of a lock, and the processor once they are sent
module _ {S : Type 0} (setup : Setup) (me : ℕ) (s now : Processor S) (lock : Lock) (granted : List Waiting)
    (is_now : now ≡ granted_at s lock) (is_granted : granted ≡ grants_of (s.locks lock.0)) where
  same_version : ((granted_at s lock).locks lock.0).version ≡ (s.locks lock.0).version
  same_version = ap (λ (one : LockState). one.version) (update_same s.locks lock.0 (lock_after_grants (s.locks lock.0)))

  pub sends_are : (sends : List Msg) → sends ≡ map (grant_message setup me now lock) (filter (λ one. not (is_of me one)) granted) → sends ≡ (effect_of_grants setup me s lock).sends
  sends_are sends are =
      are
      ∙ (λ i. map (grant_message setup me (is_now i) lock) (filter (λ one. not (is_of me one)) (is_granted i)))
      ∙ (λ i. map (λ (one : Waiting). message me s one.proc.0 (Body.Grant lock one.mode one.turn (same_version i) (newer_lines setup.bindings s.lines.stamps s.lines.values lock one.«have»))) (filter (λ one. not (is_of me one)) (grants_of (s.locks lock.0))))

  pub processor_is : (after : Processor S)
      → after ≡ record now { mail = record now.mail { grants = now.mail.grants ++ map (own_grant setup now lock) (filter (is_of me) granted) } }
      → after ≡ (effect_of_grants setup me s lock).processor
  processor_is after is =
      is
      ∙ (λ i. record (is_now i) { mail = record (is_now i).mail { grants = (is_now i).mail.grants ++ map (own_grant setup (is_now i) lock) (filter (is_of me) (is_granted i)) } })
      ∙ (λ i. record (granted_at s lock) {
        mail = record s.mail {
          grants = s.mail.grants
              ++ map (λ (one : Waiting). record { turn = one.turn; lock = lock; mode = one.mode; version = same_version i; lines = newer_lines setup.bindings s.lines.stamps s.lines.values lock one.«have» }) (filter (is_of me) (grants_of (s.locks lock.0)));
        };
      })

-- the home of a processor
abbrev pub home_in : {S : Type 0} → Processor S → HomeState
home_in s = record { locks = s.locks; stamps = s.lines.stamps; values = s.lines.values }

-- a processor with another home and other peers
abbrev pub with_home : {S : Type 0} → Processor S → HomeState → (ℕ → Peer) → Processor S
with_home s home peers = record s {
  locks = home.locks;
  lines = record { stamps = home.stamps; values = home.values };
  peers = peers;
}

module _ {S : Type 0} (s : Processor S) (from turn : ℕ) (lock : Lock) (home : HomeState) (peers : ℕ → Peer)
    (are_peers : peers ≡ update s.peers from (record (s.peers from) { last = turn })) where
  pub request_home : (mode : Mode) (version : ℕ) (request : Waiting) → request ≡ waiting_of from turn mode version
      → home ≡ home_after_ask (home_in s) lock request
      → with_home s home peers ≡ granted_at (with_request s from turn lock mode version) lock
  request_home mode version request is_request is_home =
      (λ i. with_home s (is_home i) (are_peers i))
      ∙ (λ i. record s {
        locks = (ap (λ one. update s.locks lock.0 (lock_after_grants (lock_with_request (s.locks lock.0) one))) is_request
            ∙ change_twice s.locks lock.0 (lock_with_request (s.locks lock.0) (waiting_of from turn mode version)) lock_after_grants) i;
        peers = update s.peers from (record (s.peers from) { last = turn });
      })

  pub request_grants : (mode : Mode) (version : ℕ) (request : Waiting) (granted : List Waiting) → request ≡ waiting_of from turn mode version
      → granted ≡ grants_of (lock_with_request (s.locks lock.0) request)
      → granted ≡ grants_of ((with_request s from turn lock mode version).locks lock.0)
  request_grants mode version request granted is_request are =
      are ∙ ap (λ one. grants_of (lock_with_request (s.locks lock.0) one)) is_request
      ∙ ap grants_of (sym (update_same s.locks lock.0 (lock_with_request (s.locks lock.0) (waiting_of from turn mode version))))

  pub release_home : (setup : Setup) (pieces : List Piece) (mode : Mode) (version : ℕ) (lines : List Line) → pieces ≡ setup.bindings
      → home ≡ home_after_give pieces (home_in s) lock from mode version lines
      → with_home s home peers ≡ granted_at (with_release setup s from turn lock mode version lines) lock
  release_home setup pieces mode version lines are_pieces is_home =
      (λ i. with_home s (is_home i) (are_peers i))
      ∙ (λ i. with_home s (home_after_give (are_pieces i) (home_in s) lock from mode version lines) (update s.peers from (record (s.peers from) { last = turn })))
      ∙ (λ i. record s {
        locks = change_twice s.locks lock.0 (lock_after_release (s.locks lock.0) from mode) lock_after_grants i;
        lines = with_version setup.bindings s.lines version lines;
        peers = update s.peers from (record (s.peers from) { last = turn });
      })

  pub release_grants : (setup : Setup) (mode : Mode) (version : ℕ) (lines : List Line) (granted : List Waiting)
      → granted ≡ grants_of (lock_after_release (s.locks lock.0) from mode)
      → granted ≡ grants_of ((with_release setup s from turn lock mode version lines).locks lock.0)
  release_grants setup mode version lines granted are =
      are ∙ ap grants_of (sym (update_same s.locks lock.0 (lock_after_release (s.locks lock.0) from mode)))

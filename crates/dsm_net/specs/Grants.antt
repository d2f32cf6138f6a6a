-- How a home grants a lock.
use Rattle.std.specs.Prelude.{ℕ, Bool, ◌==◌, not, List, ◌++◌, map, filter}
use Rattle.dsm_base.specs.declared.names.Lock.{Lock}
use Rattle.dsm_base.specs.declared.setup.Setup.{Setup}
use Rattle.dsm_base.specs.Family.{update}
use Rattle.dsm_lines.specs.declared.of_objects.MailGrant.{MailGrant}
use Rattle.dsm_lines.specs.Copies.{newer_lines}
use Rattle.dsm_msg.specs.declared.message.Body.{Body}
use Rattle.dsm_msg.specs.declared.message.Msg.{Msg}
use Rattle.dsm_home.specs.declared.waiting.Waiting.{Waiting}
use Rattle.dsm_home.specs.LockStates.{grants_of, lock_after_grants}
use Rattle.dsm_net.specs.Processor.{Processor}
use Rattle.dsm_net.specs.Messages.{message}

-- the grant for one who waits, as it comes to the home's own mailbox
abbrev pub own_grant : {S : Type 0} → Setup → Processor S → Lock → Waiting → MailGrant
own_grant setup s lock one = record {
  turn = one.turn;
  lock = lock;
  mode = one.mode;
  version = (s.locks lock.0).version;
  lines = newer_lines setup.bindings s.lines.stamps s.lines.values lock one.«have»;
}

-- the same as a message to another processor
abbrev pub grant_message : {S : Type 0} → Setup → ℕ → Processor S → Lock → Waiting → Msg
grant_message setup me s lock one =
    message me s one.proc.0
    (Body.Grant lock one.mode one.turn (s.locks lock.0).version (newer_lines setup.bindings s.lines.stamps s.lines.values lock one.«have»))

-- whether a request is of this processor
abbrev pub is_of : ℕ → Waiting → Bool
is_of p one = one.proc.0 == p

-- the home once it has granted a lock to all to whom it may; its own grant comes to its mailbox
abbrev pub home_after_grants : {S : Type 0} → Setup → ℕ → Processor S → Lock → Processor S
home_after_grants setup me s lock = record s {
  locks = update s.locks lock.0 (lock_after_grants (s.locks lock.0));
  mail = record s.mail {
    grants = s.mail.grants
        ++ map (own_grant setup s lock) (filter (is_of me) (grants_of (s.locks lock.0)));
  };
}

-- the messages by which it does
abbrev pub grant_messages : {S : Type 0} → Setup → ℕ → Processor S → Lock → List Msg
grant_messages setup me s lock =
    map (grant_message setup me s lock) (filter (λ one. not (is_of me one)) (grants_of (s.locks lock.0)))

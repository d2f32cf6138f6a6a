-- Messages: what each brings along, and to whom a body goes.
use Rattle.std.specs.Prelude.{ℕ, ◌%◌, Option, Some, None, max}
use Rattle.dsm_base.specs.declared.names.Proc.{Proc}
use Rattle.dsm_base.specs.declared.setup.Setup.{Setup}
use Rattle.dsm_base.specs.Family.{update}
use Rattle.dsm_msg.specs.declared.message.Body.{Body}
use Rattle.dsm_msg.specs.declared.message.Carry.{Carry}
use Rattle.dsm_msg.specs.declared.message.Msg.{Msg}
use Rattle.dsm_net.specs.Processor.{Processor, Peer}

-- a processor by its number
abbrev pub processor_named : ℕ → Proc
processor_named p = record { 0 = p }

-- the home of a lock
abbrev pub home_of : Setup → ℕ → ℕ
home_of setup lock = lock % setup.procs

-- the manager of a barrier
abbrev pub manager_of : Setup → ℕ → ℕ
manager_of setup bar = bar % setup.procs

-- the home or manager that a body is for
abbrev pub keeper_of : Setup → Body → Option ℕ
keeper_of setup (Body.Req lock mode «have») = Some (home_of setup lock.0)
keeper_of setup (Body.Release lock mode version lines) = Some (home_of setup lock.0)
keeper_of setup (Body.Arrive bar epoch lines) = Some (manager_of setup bar.0)
keeper_of setup _ = None

-- what every message to a processor brings along
abbrev pub carry_of : {S : Type 0} → Processor S → ℕ → Carry
carry_of s to = record {
  turn = s.own.turns;
  seen = (s.peers to).seen;
  records = s.tail.records;
  lines = s.tail.lines;
}

-- a message of a processor as it stands, with this body
abbrev pub message : {S : Type 0} → ℕ → Processor S → ℕ → Body → Msg
message me s to body = record {
  from = processor_named me;
  to = processor_named to;
  carry = carry_of s to;
  body = body;
}

-- what is known of a processor once a carry of it has come
abbrev pub peer_after : Peer → Carry → Peer
peer_after peer carry = record peer { seen = max peer.seen carry.turn; told = max peer.told carry.seen }

-- a processor once it has taken in what a message brought along
abbrev pub with_carry : {S : Type 0} → Processor S → ℕ → Carry → Processor S
with_carry s from carry = record s {
  peers = update s.peers from (peer_after (s.peers from) carry);
  tail = record s.tail { known = max s.tail.known carry.seen };
}

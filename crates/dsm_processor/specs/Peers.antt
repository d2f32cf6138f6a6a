-- What a processor knows of the turns of the others.
use Rattle.std.specs.Prelude.{ℕ, [], length}
use Rattle.dsm_base.specs.Family.{family_of}
use Rattle.dsm_net.specs.Processor.{Peer}
use Rattle.dsm_processor.specs.declared.peers.PeerTurns.{PeerTurns}
use Rattle.dsm_processor.specs.declared.peers.Peers.{Peers}

-- before anything has come
abbrev pub no_turns : PeerTurns
no_turns = record { seen = 0; told = 0; last = 0 }

-- what the definitions know of another processor; bodies for it aren't kept yet
abbrev pub peer_of : PeerTurns → Peer
peer_of turns = record { seen = turns.seen; told = turns.told; last = turns.last; outbox = []; pruned = 0 }

-- what is known of each processor
abbrev pub peers_of : Peers → ℕ → Peer
peers_of peers p = peer_of (family_of (λ _. no_turns) peers.turns p)

abbrev pub peer_count : Peers → ℕ
peer_count peers = length peers.turns

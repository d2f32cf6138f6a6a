-- What is known of the turns of others, by processor.
use Rattle.std.proofs.Common.{◌≡◌, ◌<◌, ℕ, List, length, set, replicate, ◌∙◌}
use Rattle.dsm_base.specs.Family.{update, family_of}
use Rattle.dsm_base.proofs.Families.{family_of_replicate, family_of_set, update_under}
use Rattle.dsm_net.specs.Processor.{Peer}
use Rattle.dsm_processor.specs.declared.peers.PeerTurns.{PeerTurns}
use Rattle.dsm_processor.specs.Peers.{no_turns, peer_of}

-- what a list of them means
abbrev pub known_by : List PeerTurns → ℕ → Peer
known_by turns p = peer_of (family_of (λ _. no_turns) turns p)

pub nothing_known : (count : ℕ) → ◌≡◌ {A = ℕ → Peer} (known_by (replicate count no_turns)) (λ p. peer_of no_turns)
nothing_known count i p = peer_of (family_of_replicate count no_turns i p)

of_set : (items : List PeerTurns) (k : ℕ) (turns : PeerTurns) → k < length items → ◌≡◌ {A = ℕ → Peer} (known_by (set items k turns)) (λ p. peer_of (update (family_of (λ _. no_turns) items) k turns p))
of_set items k turns within i p = peer_of (family_of_set (λ _. no_turns) items k turns within i p)

pub known_after : (items : List PeerTurns) (k : ℕ) (turns : PeerTurns) → k < length items → ◌≡◌ {A = ℕ → Peer} (known_by (set items k turns)) (update (known_by items) k (peer_of turns))
known_after items k turns within = of_set items k turns within ∙ update_under peer_of (family_of (λ _. no_turns) items) k turns

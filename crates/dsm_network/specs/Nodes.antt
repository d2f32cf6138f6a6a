-- The processors of a world.
use Rattle.std.specs.Prelude.{◌≡◌, ℕ, ◌<◌, List, length, map}
use Rattle.std.specs.List.{slice_index_or}
use Rattle.dsm_base.specs.declared.setup.Setup.{Setup}
use Rattle.dsm_base.specs.Family.{family_of}
use Rattle.dsm_base.specs.Threads.{Kind}
use Rattle.dsm_net.specs.Processor.{start_processor}
use Rattle.dsm_processor.specs.Node as nodes
use Rattle.dsm_processor.specs.Node.{processor_of}
use Rattle.dsm_processor.specs.declared.node.Node.{Node}

-- it is the processor of this number, and whole
pub record IsNodeOf {T S : Type 0} (kind : Kind T S) (setup : Setup) (p : ℕ) (node : Node T S) : Type 0 where
  pub whole : nodes.IsWhole kind node
  pub is_setup : nodes.setup_of node ≡ setup
  pub is_me : nodes.me_of node ≡ p

-- they are the first processors of the setup, before their first turns
pub record AreStartNodes {T S : Type 0} (kind : Kind T S) (setup : Setup) (first : ℕ → S) (count : ℕ) (nodes : List (Node T S)) : Type 0 where
  pub count_is : length nodes ≡ count
  pub each : (p : ℕ) (default : Node T S) → p < count → IsNodeOf kind setup p (slice_index_or nodes p default)
  pub starts : (p : ℕ) →
      family_of (λ q. start_processor (first q)) (map (processor_of kind) nodes) p ≡ start_processor (first p)

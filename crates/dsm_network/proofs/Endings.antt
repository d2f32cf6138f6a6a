-- How the threads of the world came to be over.
use Rattle.std.proofs.Common.{◌≡◌, ℕ, Bool, List, map, Option, sym, ap, ◌∙◌}
use Rattle.std.specs.List.{list_all}
use Rattle.std.proofs.lemmas.List.{length-map}
use Rattle.std.proofs.lemmas.List.Folds.{list_all-map}
use Rattle.dsm_base.specs.declared.label.Ending.{Ending}
use Rattle.dsm_base.specs.Family.{all_below}
use Rattle.dsm_base.specs.Threads.{Kind}
use Rattle.dsm_base.proofs.Families.{all_items}
use Rattle.dsm_net.specs.Processor.{start_processor}
use Rattle.dsm_processor.specs.Node.{processor_of}
use Rattle.dsm_processor.specs.declared.node.Node.{Node}
use Rattle.dsm_network.specs.World.{setup_of, first_of, net_of, ending_at, IsShaped}
use Rattle.dsm_network.specs.declared.world.World.{World}

-- what a test of all nodes tells of the processors
pub all_tell : {M T S : Type 0} (kind : Kind T S) (first : M → ℕ → ℕ → S) (world : World M T S) (test : Option Ending → Bool) (nodes : List (Node T S)) (answer : Bool) → IsShaped kind world
    → nodes ≡ world.nodes.items → answer ≡ list_all (λ node. test (processor_of kind node).own.ending) nodes → answer ≡ all_below (setup_of world).procs (λ p. test (ending_at ((net_of kind first world).processors p)))
all_tell kind first world test nodes answer shape read is =
    is ∙ ap (list_all (λ node. test (processor_of kind node).own.ending)) read
    ∙ sym (list_all-map (λ s. test s.own.ending) (processor_of kind) world.nodes.items)
    ∙ all_items (λ s. test s.own.ending) (λ p. start_processor (first_of first world p)) (map (processor_of kind) world.nodes.items)
    ∙ (λ i. all_below ((length-map world.nodes.items (processor_of kind) ∙ shape.count) i) (λ p. test (ending_at ((net_of kind first world).processors p))))

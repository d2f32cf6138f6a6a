-- Messages and lines that go out one by one.
use Rattle.std.proofs.Common.{◌≡◌, ℕ, List, [], ◌∷◌, Some, ◌∙◌}
use Rattle.std.specs.List.{remove, slice_get}
use Rattle.dsm_base.specs.Threads.{Kind}
use Rattle.dsm_processor.specs.Node.{processor_of}
use Rattle.dsm_net.specs.Processor.{start_processor}
use Rattle.dsm_base.specs.Family.{family_of}
use Rattle.std.specs.Prelude.{map}
use Rattle.dsm_network.specs.World.{processor_at, IsSameWorld, HasSameNodes}
use Rattle.dsm_network.specs.declared.world.World.{World}

-- the first item, and those behind it
pub first_removed : {A : Type 0} (items : List A) (item : A) → slice_get items 0 ≡ Some item → items ≡ item ∷ remove items 0
first_removed [] item is = cc
first_removed (first ∷ items) item is = cc

-- two changes that leave the same alone
pub same_trans : {M T S : Type 0} (a b c : World M T S) → IsSameWorld a b → IsSameWorld b c → IsSameWorld a c
same_trans a b c first second = record {
  setup = second.setup ∙ first.setup;
  maker = second.maker ∙ first.maker;
  trace = second.trace ∙ first.trace;
  units = second.units ∙ first.units;
}

pub nodes_trans : {M T S : Type 0} (a b c : World M T S) → HasSameNodes a b → HasSameNodes b c → HasSameNodes a c
nodes_trans a b c first second =
    record { world = same_trans a b c first.world second.world; nodes = second.nodes ∙ first.nodes }

-- the processors are the same
pub same_processors : {M T S : Type 0} (kind : Kind T S) (first : M → ℕ → ℕ → S) (old new : World M T S) → HasSameNodes old new → processor_at kind first new ≡ processor_at kind first old
same_processors kind first old new same i =
    family_of (λ p. start_processor (first (same.world.maker i) (same.world.setup i).procs p)) (map (processor_of kind) (same.nodes i).items)

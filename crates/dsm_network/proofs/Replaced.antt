-- What a change of one processor leaves of the world.
use Rattle.std.proofs.Common.{◌≡◌, ◌<◌, ◌≤◌, ℕ, Bool, true, length, get_or, set, map, Option, Some, None, Result, Ok, Err, refl, sym, ap, ◌∙◌, subst, inl, inr, arith}
use Rattle.std.specs.Prelude.{◌&&◌, nat_le, IfOk, IfSome}
use Rattle.std.specs.List.{All}
use Rattle.std.specs.Vec.{with_item}
use Rattle.std.proofs.lemmas.List.{map-set, get_or-set_same, get_or-set_other, get_or-map, length-map, length-set}
use Rattle.std.proofs.lemmas.Bool.Decides.{eqb_tells, nat_tests}
use Rattle.std.proofs.lemmas.Grind.{common_steps}
use Rattle.dsm_base.specs.declared.errors.MemFault.{MemFault}
use Rattle.dsm_base.specs.declared.setup.Setup.{Setup}
use Rattle.dsm_base.specs.Family.{family_of}
use Rattle.dsm_base.specs.Threads.{Kind}
use Rattle.dsm_base.proofs.Families.{family_of_set, update_under}
use Rattle.dsm_msg.specs.declared.message.Msg.{Msg}
use Rattle.dsm_net.specs.Processor.{Processor, start_processor}
use Rattle.dsm_net.specs.Turns.{OwnTurn, own_turn}
use Rattle.dsm_net.specs.Effects.{effect_of_message, effect_of_turn}
use Rattle.dsm_processor.specs.Names.{BodyNames, IsSendOf}
use Rattle.dsm_processor.specs.Node as nodes
use Rattle.dsm_processor.specs.Node.{processor_of, processor_stepped, stepped_by, effects_of, IsWhole, IsSameNode}
use Rattle.dsm_processor.specs.declared.node.Node.{Node}
use Rattle.dsm_processor.specs.declared.node.Effects.{Effects}
use Rattle.dsm_processor.specs.declared.node.Stepped.{Stepped}
use Rattle.dsm_network.specs.Nodes.{IsNodeOf}
use Rattle.dsm_network.specs.World.{setup_of, first_of, processor_at, net_of, turn_of, with_node, IsShaped}
use Rattle.dsm_network.specs.Effects.{AreSendable}
use Rattle.dsm_network.specs.declared.world.World.{World}
use Rattle.dsm_network.proofs.BarrierLines.{of_manager}
use Rattle.dsm_network.proofs.Orders.{brings_lines, fit_message, fit_turn, fit_sends}

-- a setup has at most 16 processors
pub few_procs : (setup : Setup) → setup.procs ≤ 16
few_procs setup = few setup.procs (nat_le setup.locks 256) (nat_le setup.bars 64) (nat_le setup.cells 65536) _ setup.kept
  where
    few : (procs : ℕ) (locks bars cells rest : Bool) → (((((nat_le 2 procs && nat_le procs 16) && locks) && bars) && cells) && rest) ≡ true → procs ≤ 16
    few procs locks bars cells rest h = grind (arith, nat_tests, common_steps)

module _ {M T S : Type 0} (kind : Kind T S) (first : M → ℕ → ℕ → S) (world : World M T S) (p : ℕ) (is_node : p < length world.nodes.items) where
  -- the processor of a node that is read
  pub node_shown : (node : Node T S) → node ≡ get_or world.nodes.items p node → processor_at kind first world p ≡ processor_of kind node
  node_shown node read =
      get_or-map (processor_of kind) world.nodes.items p node (start_processor (first_of first world p)) is_node ∙ ap (processor_of kind) (sym read)

  net_replaced : (node : Node T S) → net_of kind first (record world { nodes = with_item world.nodes p node }) ≡ with_node (net_of kind first world) p (processor_of kind node)
  net_replaced node i = record (net_of kind first world) {
    processors = (ap {B = ℕ → Option (Processor S)} (λ (ps : ℕ → Processor S). λ q. Some (ps q))
        (ap (family_of (λ q. start_processor (first_of first world q))) (map-set (processor_of kind) world.nodes.items p node)
        ∙ family_of_set (λ q. start_processor (first_of first world q)) (map (processor_of kind) world.nodes.items) p (processor_of kind node) (rw (length-map world.nodes.items (processor_of kind)) is_node))
        ∙ update_under Some (processor_at kind first world) p (processor_of kind node)) i;
  }

  pub shaped_replaced : (node : Node T S) → IsNodeOf kind (setup_of world) p node → IsShaped kind world → IsShaped kind (record world { nodes = with_item world.nodes p node })
  shaped_replaced node is shape = record {
    count = length-set world.nodes.items p node ∙ shape.count;
    nodes = λ q default within.
        elim (eqb_tells q p) [
          | inl (_, same) ↦ subst (λ k. IsNodeOf kind (setup_of world) k (get_or (set world.nodes.items p node) k default)) (sym same) (rw (get_or-set_same world.nodes.items p node default is_node) is)
          | inr (_, differs) ↦ rw (get_or-set_other world.nodes.items p q node default differs) (shape.nodes q default within)
        ];
    channels = shape.channels;
    letters = shape.letters;
    out = shape.out;
  }

  pub node_of : IsShaped kind world → p < (setup_of world).procs → (node : Node T S) → node ≡ get_or world.nodes.items p node → IsNodeOf kind (setup_of world) p node
  node_of shape within node read = subst (IsNodeOf kind (setup_of world) p) (sym read) (shape.nodes p node within)

  module _ (node new : Node T S) (read : node ≡ get_or world.nodes.items p node) (is : IsNodeOf kind (setup_of world) p node) where
    s : processor_of kind node ≡ processor_at kind first world p
    s = sym (node_shown node read)

    -- after a turn of it
    pub turn_net : processor_of kind new ≡ processor_stepped (nodes.setup_of node) kind.semantics (nodes.me_of node) (processor_of kind node) (own_turn (nodes.setup_of node) kind.semantics (nodes.me_of node) (processor_of kind node))
        → net_of kind first (record world { nodes = with_item world.nodes p new }) ≡ with_node (net_of kind first world) p (processor_stepped (setup_of world) kind.semantics p (processor_at kind first world p) (turn_of kind first world p))
    turn_net stepped =
        net_replaced new ∙ ap (with_node (net_of kind first world) p) (stepped ∙ (λ i. processor_stepped (is.is_setup i) kind.semantics (is.is_me i) (s i) (own_turn (is.is_setup i) kind.semantics (is.is_me i) (s i))))

    pub turn_stepped : (stepped : Option Stepped) → stepped ≡ stepped_by (nodes.setup_of node) kind.semantics (nodes.me_of node) (processor_of kind node) (own_turn (nodes.setup_of node) kind.semantics (nodes.me_of node) (processor_of kind node))
        → stepped ≡ stepped_by (setup_of world) kind.semantics p (processor_at kind first world p) (turn_of kind first world p)
    turn_stepped stepped was =
        was ∙ (λ i. stepped_by (is.is_setup i) kind.semantics (is.is_me i) (s i) (own_turn (is.is_setup i) kind.semantics (is.is_me i) (s i)))

    -- after it has handled a message
    pub handled_net : (msg : Msg) → processor_of kind new ≡ (effect_of_message (nodes.setup_of node) (nodes.me_of node) (processor_of kind node) msg).processor
        → net_of kind first (record world { nodes = with_item world.nodes p new }) ≡ with_node (net_of kind first world) p (effect_of_message (setup_of world) p (processor_at kind first world p) msg).processor
    handled_net msg done =
        net_replaced new ∙ ap (with_node (net_of kind first world) p) (done ∙ (λ i. (effect_of_message (is.is_setup i) (is.is_me i) (s i) msg).processor))

    pub handled_effects : (msg : Msg) (effects : Effects) → effects ≡ effects_of (effect_of_message (nodes.setup_of node) (nodes.me_of node) (processor_of kind node) msg)
        → effects ≡ effects_of (effect_of_message (setup_of world) p (processor_at kind first world p) msg)
    handled_effects msg effects was = was ∙ (λ i. effects_of (effect_of_message (is.is_setup i) (is.is_me i) (s i) msg))

-- the same node after a call that leaves it whole
pub node_kept : {T S : Type 0} (kind : Kind T S) (setup : Setup) (p : ℕ) (old new : Node T S) → IsNodeOf kind setup p old → IsWhole kind new → IsSameNode old new → IsNodeOf kind setup p new
node_kept kind setup p old new is whole same = record { whole = whole; is_setup = same.setup ∙ is.is_setup; is_me = same.me ∙ is.is_me }

-- What nodes send can be sent.

module _ {T S : Type 0} (kind : Kind T S) (setup : Setup) (p : ℕ) (within : p < setup.procs) (node : Node T S) (is : IsNodeOf kind setup p node) where
  sends_of : (effects : Effects) → All (IsSendOf (nodes.setup_of node) (nodes.me_of node)) effects.sends → All (IsSendOf setup p) effects.sends
  sends_of effects are =
      subst (λ me. All (IsSendOf setup me) effects.sends) is.is_me
      (subst (λ s. All (IsSendOf s (nodes.me_of node)) effects.sends) is.is_setup are)

  -- for a message that it handled
  pub handled_result : (msg : Msg) (result : Result Effects MemFault) → BodyNames setup msg.body → IfOk result (λ effects. effects ≡ effects_of (effect_of_message (nodes.setup_of node) (nodes.me_of node) (processor_of kind node) msg))
      → IfOk result (λ effects. All (IsSendOf (nodes.setup_of node) (nodes.me_of node)) effects.sends) → IfOk result (AreSendable setup)
  handled_result msg (Err error) names are all = tt
  handled_result msg (Ok effects) names are all =
      fit_sends setup p (effect_of_message setup p (processor_of kind node) msg) effects (few_procs setup) within
      (fit_message setup p (processor_of kind node) msg (of_manager node.manager) (brings_lines setup msg.body names) refl refl)
      (are ∙ (λ i. effects_of (effect_of_message (is.is_setup i) (is.is_me i) (processor_of kind node) msg))) (sends_of effects all)

  -- for a turn
  turn_sendable : (turn : Option OwnTurn) (stepped : Option Stepped) → stepped ≡ stepped_by setup kind.semantics p (processor_of kind node) turn
      → IfSome stepped (λ one. All (IsSendOf (nodes.setup_of node) (nodes.me_of node)) one.effects.sends) → IfSome stepped (λ one. AreSendable setup one.effects)
  turn_sendable turn None are all = tt
  turn_sendable None (Some one) are all = cc
  turn_sendable (Some turn) (Some one) are all =
      let same : one.effects ≡ effects_of (effect_of_turn setup kind.semantics p (processor_of kind node) turn) = cc in
      fit_sends setup p (effect_of_turn setup kind.semantics p (processor_of kind node) turn) one.effects (few_procs setup) within
      (fit_turn setup kind.semantics p (processor_of kind node) turn (of_manager node.manager) refl refl) same (sends_of one.effects all)

  pub turn_result : (result : Result (Option Stepped) MemFault)
      → IfOk result (λ stepped. stepped ≡ stepped_by (nodes.setup_of node) kind.semantics (nodes.me_of node) (processor_of kind node) (own_turn (nodes.setup_of node) kind.semantics (nodes.me_of node) (processor_of kind node)))
      → IfOk result (λ stepped. IfSome stepped (λ one. All (IsSendOf (nodes.setup_of node) (nodes.me_of node)) one.effects.sends))
      → IfOk result (λ stepped. IfSome stepped (λ one. AreSendable setup one.effects))
  turn_result (Err error) are all = tt
  turn_result (Ok stepped) are all =
      turn_sendable (own_turn setup kind.semantics p (processor_of kind node)) stepped
      (are ∙ (λ i. stepped_by (is.is_setup i) kind.semantics (is.is_me i) (processor_of kind node) (own_turn (is.is_setup i) kind.semantics (is.is_me i) (processor_of kind node)))) all

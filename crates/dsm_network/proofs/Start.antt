-- The world before its first unit.
use Rattle.std.proofs.Common.{◌≡◌, ◌+◌, ℕ, List, [], ◌∷◌, ◌++◌, length, map, replicate, reverse, All, Some, None, sym, ap, ◌∙◌, subst, arith, inl, inr, length-append}
use Rattle.std.proofs.lemmas.List.{map_push, length-map, length-replicate, get_or_append_left, get_or_push}
use Rattle.std.proofs.lemmas.List.Elements.{All-nil}
use Rattle.std.proofs.lemmas.Bool.{cases_lt}
use Rattle.dsm_base.specs.declared.setup.Setup.{Setup}
use Rattle.dsm_base.specs.Family.{family_of}
use Rattle.dsm_base.specs.Threads.{Kind}
use Rattle.dsm_base.proofs.Families.{family_of_push, family_of_replicate}
use Rattle.dsm_net.specs.declared.trace.Letter.{Letter}
use Rattle.dsm_net.specs.Processor.{start_processor}
use Rattle.dsm_processor.specs.Node.{processor_of}
use Rattle.dsm_processor.specs.declared.node.Node.{Node}
use Rattle.dsm_channels.specs.Channels.{under_way, proc_count}
use Rattle.dsm_network.specs.Nodes.{IsNodeOf, AreStartNodes}
use Rattle.dsm_network.specs.World.{setup_of, first_of, IsReceivable, IsRunOf, IsWhole}
use Rattle.dsm_network.specs.declared.world.World.{World}

-- one more processor
pub start_more : {T S : Type 0} (kind : Kind T S) (setup : Setup) (first : ℕ → S) (count : ℕ) (nodes now : List (Node T S)) (node : Node T S) → AreStartNodes kind setup first count nodes → IsNodeOf kind setup count node
    → processor_of kind node ≡ start_processor (first count) → now ≡ nodes ++ node ∷ [] → AreStartNodes kind setup first (count + 1) now
start_more kind setup first count nodes now node are is starts more = rw more record {
  count_is = omega (arith, length-append nodes (node ∷ []), are.count_is);
  each = λ p default within.
      elim (cases_lt p (length nodes)) [
        | inl below ↦ rw (get_or_append_left nodes (node ∷ []) default p below) (are.each p default (omega (arith, are.count_is)))
        | inr above ↦
            let last : p ≡ count = omega (arith, are.count_is) in
            rw (get_or_push nodes node default p (omega (arith, are.count_is))) (subst (λ k. IsNodeOf kind setup k node) (sym last) is)
      ];
  starts = λ p.
      ap (λ ps. family_of (λ q. start_processor (first q)) ps p) (map_push (processor_of kind) nodes node)
      ∙ family_of_push (λ q. start_processor (first q)) (map (processor_of kind) nodes) (processor_of kind node)
      (starts ∙ ap (λ q. start_processor (first q)) (sym (length-map nodes (processor_of kind) ∙ are.count_is))) are.starts p;
}

module _ {M T S : Type 0} (kind : Kind T S) (first : M → ℕ → ℕ → S) (world : World M T S)
    (nodes : AreStartNodes kind (setup_of world) (first_of first world) (setup_of world).procs world.nodes.items)
    (letters : under_way world.channels ≡ (λ from to. [])) (channels : proc_count world.channels ≡ (setup_of world).procs)
    (out : world.out ≡ replicate (setup_of world).procs 0) (sent : world.sent ≡ 0) (units : world.units ≡ 0) (trace : world.trace ≡ []) where
  -- no unit has made the world before its first unit
  pub start_run : IsRunOf kind first [] world
  start_run = record {
    ran = sym (λ i. record {
      net = record {
        processors = λ p. Some (nodes.starts p i);
        channels = letters i;
        sent = sent i;
        out = (ap (family_of (λ p. 0)) out ∙ family_of_replicate (setup_of world).procs 0) i;
        images = λ p. record { marked = None; begun = None };
      };
      groups = ap reverse trace i;
    });
    units = sym units;
  }

  pub start_whole : IsWhole kind first world
  start_whole = record {
    shape = record {
      count = nodes.count_is;
      nodes = nodes.each;
      channels = channels;
      letters = λ from to. subst (λ (family : ℕ → ℕ → List Letter). All (λ (letter : Letter). IsReceivable (setup_of world) to letter.msg) (family from to))
          (sym letters) (All-nil (λ (letter : Letter). IsReceivable (setup_of world) to letter.msg));
      out = ap length out ∙ length-replicate (setup_of world).procs 0;
    };
    done = [];
    run = start_run;
  }

-- What one more unit leaves of the world.
use Rattle.std.proofs.Common.{◌≡◌, ◌+◌, ℕ, List, ◌∷◌, reverse, sym, ◌∙◌, arith}
use Rattle.dsm_base.specs.declared.act.Act.{Act}
use Rattle.dsm_base.specs.Threads.{Kind}
use Rattle.dsm_net.specs.declared.trace.Rec.{Rec}
use Rattle.dsm_net.specs.declared.trace.Group.{Group}
use Rattle.dsm_net.specs.Units.{Outcome, unit_of}
use Rattle.dsm_net.specs.Fits.{Done, ran_after, run_of, with_unit}
use Rattle.dsm_network.specs.World.{setup_of, groups_of, net_of, made_of, IsShaped, IsRunOf, IsWhole, IsSameWorld}
use Rattle.dsm_network.specs.declared.world.World.{World}

module _ {M T S : Type 0} (kind : Kind T S) (first : M → ℕ → ℕ → S) (old mid : World M T S) (act : Act) (outcome : Outcome) (records : List Rec) (trace : List Group) (units : ℕ)
    (same : IsSameWorld old mid)
    (made : made_of kind first mid records ≡ unit_of (setup_of old) kind.semantics (net_of kind first old) act outcome)
    (grows : reverse trace ≡ with_unit (old.units + 1) records (groups_of old)) (more : units ≡ old.units + 1) where
  -- the world is made by one unit more
  pub run_after : (done : List Done) → IsRunOf kind first done old → IsRunOf kind first (record { act = act; outcome = outcome } ∷ done) (record mid { trace = trace; units = units })
  run_after done run = record {
    ran =
        (λ i. run_of (same.setup i) (first (same.maker i) (same.setup i).procs) kind.semantics (record { act = act; outcome = outcome } ∷ done))
        ∙ (λ i. ran_after (run.ran i) (run.units i + 1) (unit_of (setup_of old) kind.semantics (run.ran i).net act outcome))
        ∙ (λ i. ran_after (record { net = net_of kind first old; groups = groups_of old }) (old.units + 1) (sym made i))
        ∙ (λ i. record { net = net_of kind first mid; groups = sym grows i });
    units = omega (arith, run.units, more);
  }

  -- it is whole
  pub whole_after : IsShaped kind mid → IsWhole kind first old → IsWhole kind first (record mid { trace = trace; units = units })
  whole_after shape whole = record {
    shape = record { count = shape.count; nodes = shape.nodes; channels = shape.channels; letters = shape.letters; out = shape.out };
    done = record { act = act; outcome = outcome } ∷ whole.done;
    run = run_after whole.done whole.run;
  }

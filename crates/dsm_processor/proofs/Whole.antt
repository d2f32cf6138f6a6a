-- What keeps a processor whole.
use Rattle.std.proofs.Common.{◌≡◌, Result, Ok, Err, sym, subst}
use Rattle.std.specs.Prelude.{OnOk}
use Rattle.dsm_base.specs.Threads.{Kind, StaysWithin}
use Rattle.dsm_net.specs.Processor.{Processor}
use Rattle.dsm_processor.specs.Names.{AreOfSetup}
use Rattle.dsm_processor.specs.Node.{processor_of, setup_of, IsShaped, IsWhole}
use Rattle.dsm_processor.specs.declared.node.Node.{Node}

-- two facts of a success give a third
pub on_ok_both : {A E P Q R : Type 0} (result : Result A E) → (P → Q → R) → OnOk result P → OnOk result Q → OnOk result R
on_ok_both (Ok x) gives p q = gives p q
on_ok_both (Err e) gives p q = tt

module _ {T S : Type 0} (kind : Kind T S) (old new : Node T S) (setup : setup_of new ≡ setup_of old) where
  -- it has its shape, its thread stays within the setup, and who waits is of the setup
  pub whole_from : (s : Processor S) → processor_of kind new ≡ s → StaysWithin (setup_of old) kind.semantics s.own.thread → AreOfSetup (setup_of old) s.locks → IsShaped new → IsWhole kind new
  whole_from s is stays waiting shape = record {
    shape = shape;
    stays = rw setup (subst (λ (p : Processor S). StaysWithin (setup_of old) kind.semantics p.own.thread) (sym is) stays);
    waiting = rw setup (subst (λ (p : Processor S). AreOfSetup (setup_of old) p.locks) (sym is) waiting);
  }

use Rattle.std.proofs.Common.{◌≡◌, ◌*◌, ◌≤◌, length}
use Rattle.std.specs.Prelude.{IfSome}
use Rattle.dsm_base.specs.Store.{IsBlock}
use Rattle.dsm_saver.specs.Blocks.{first_blocks}
use Rattle.dsm_saver.proofs.load.load_blocks.Given as goal

-- the blocks so far, of a store that is as it was
abbrev pub invariant-loop-number : goal.invariant-loop-number
invariant-loop-number g l =
    record {
      bytes : IfSome ((goal.Store-dyn g l.initial.store.now).store_holds l.initial.store.now.1) (λ contents. l.bytes.items ≡ first_blocks l.fn.slot l.number contents);
      length : length l.bytes.items ≡ l.number * 512;
      block : IsBlock l.block;
      same : (goal.Store-dyn g l.store.now).store_holds l.store.now.1 ≡ (goal.Store-dyn g l.initial.store.now).store_holds l.initial.store.now.1;
      room : (goal.Store-dyn g l.store.now).store_room l.store.now.1 ≡ (goal.Store-dyn g l.initial.store.now).store_room l.initial.store.now.1;
      later : (goal.Store-dyn g l.initial.store.now).store_faults l.initial.store.now.1 ≤ (goal.Store-dyn g l.store.now).store_faults l.store.now.1;
    }

use Rattle.std.proofs.Common.{ℕ, Option, take, map}
use Rattle.dsm_fields.specs.Fields.{Appends, numbered}
use Rattle.dsm_code.specs.Programs.{Program}
use Rattle.dsm_saved.specs.declared.saved.SavedFrame.{SavedFrame}
use Rattle.dsm_saved.specs.Spelling.{frame_fields}
use Rattle.dsm_thread.specs.Saving.{kept_of}
use Rattle.dsm_thread.proofs.save.save_waiting.Given as goal

-- the functions gone over are written
abbrev pub invariant-loop-frame : goal.invariant-loop-frame
invariant-loop-frame l =
    (program : Program) (innermost at : ℕ) (last : Option SavedFrame)
    → Appends (numbered (frame_fields program innermost) at last (map kept_of (take l.frame-index l.frames))) l.fn.out.items l.out.items

use Rattle.dsm_saver.proofs.Calls.{saved-free}
use Rattle.dsm_saver.proofs.saver.Saver.begin.Goals as goal

pub returns-in-Ok-clause-saved : goal.returns-in-Ok-clause-saved
returns-in-Ok-clause-saved g c = saved-free c.free_slot-slot.result c.args.self.now.marked _ _ c.free_slot-slot.ensures.value c.requires.mark c.room.ensures.0

pub returns-in-Err-Failed-clause-saved : goal.returns-in-Err-Failed-clause-saved
returns-in-Err-Failed-clause-saved g c = saved-free c.free_slot-slot.result c.args.self.now.marked _ _ c.free_slot-slot.ensures.value c.requires.mark c.room.ensures.0

pub returns-clause-saved : goal.returns-clause-saved
returns-clause-saved g c = saved-free c.free_slot-slot.result c.args.self.now.marked _ _ c.free_slot-slot.ensures.value c.requires.mark c.room.ensures.0

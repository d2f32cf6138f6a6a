-- Functions that are under way, as they are saved.
use Rattle.dsm_machine.specs.declared.frame.Frame.{Frame}
use Rattle.dsm_machine.specs.Frames.{frame_of}
use Rattle.dsm_saved.specs.declared.saved.SavedFrame.{SavedFrame}
use Rattle.dsm_saved.specs.States.{saved_frame}

-- a frame as it is saved
abbrev pub kept_of : Frame → SavedFrame
kept_of f = saved_frame (frame_of f)

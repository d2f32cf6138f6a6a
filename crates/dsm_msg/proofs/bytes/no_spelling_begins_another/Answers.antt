use Rattle.dsm_msg.proofs.Answering.{no_prefix}
use Rattle.dsm_msg.proofs.bytes.no_spelling_begins_another.Goals as goal

pub returns : goal.returns
returns c = no_prefix

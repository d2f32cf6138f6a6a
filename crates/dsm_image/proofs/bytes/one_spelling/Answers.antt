use Rattle.dsm_image_parts.specs.Spelling.{scope_of}
use Rattle.dsm_image.proofs.Answering.{same_spelling}
use Rattle.dsm_image.proofs.bytes.one_spelling.Goals as goal

pub returns : goal.returns
returns c = λ setup. same_spelling (scope_of setup)

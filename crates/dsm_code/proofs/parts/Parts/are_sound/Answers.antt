use Rattle.std.proofs.Common.{◌∙◌, sym}
use Rattle.dsm_code.specs.Programs.{program_of, function_of}
use Rattle.dsm_code.specs.Valid.{is_sound}
use Rattle.dsm_code.proofs.Counting.{list_all_mapped}
use Rattle.dsm_code.proofs.parts.Parts.are_sound.Goals as goal

pub returns : goal.returns
returns c =
    let parts = c.args.self.now in
    c.all_sound.ensures ∙ sym (list_all_mapped (is_sound (program_of parts)) function_of parts.functions.items)

use Rattle.std.proofs.Common.{◌≡◌, drop}
use Rattle.dsm_base.specs.Files.{contents_of}
use Rattle.dsm_base.proofs.files.contents_of.Given as goal

-- no file gone over has the name
abbrev pub invariant-loop-file : goal.invariant-loop-file
invariant-loop-file l = contents_of l.files l.name ≡ contents_of (drop l.file-index l.files) l.name

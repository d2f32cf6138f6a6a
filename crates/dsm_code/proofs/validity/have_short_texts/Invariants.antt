use Rattle.std.proofs.Common.{◌≡◌, drop}
use Rattle.std.specs.Prelude.{nat_le}
use Rattle.std.specs.List.{sum_by}
use Rattle.dsm_code.specs.Valid.{part_bytes}
use Rattle.dsm_code.proofs.validity.have_short_texts.Given as goal

-- as many bytes are left as may still come, or there are too many
abbrev pub invariant-loop-part : goal.invariant-loop-part
invariant-loop-part l = nat_le (sum_by part_bytes l.parts) 256 ≡ nat_le (sum_by part_bytes (drop l.part-index l.parts)) l.left

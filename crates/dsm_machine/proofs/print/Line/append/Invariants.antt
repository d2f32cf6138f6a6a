use Rattle.std.proofs.Common.{◌≡◌, ◌++◌, ◌≤◌, take, vec_capacity}
use Rattle.dsm_machine.specs.declared.print.TheConstants.{MOST_LINE}
use Rattle.dsm_machine.proofs.print.Line.append.Given as goal

-- the bytes gone over are at the end
abbrev pub invariant-loop-byte : goal.invariant-loop-byte
invariant-loop-byte l = record {
  bytes : l.self-inside.bytes.items ≡ l.fn.self ++ take l.byte-index l.bytes;
  room : MOST_LINE ≤ vec_capacity l.self-inside.bytes;
}

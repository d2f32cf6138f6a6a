use Rattle.std.proofs.Common.{◌≡◌, ◌≤◌, ◌+◌, ◌-◌, ◌++◌}
use Rattle.std.specs.List.{range_with_len}
use Rattle.dsm_image_parts.proofs.keys.push_span.Given as goal

-- the lines gone over are added
abbrev pub invariant-loop-line : goal.invariant-loop-line
invariant-loop-line l = record {
  listed : l.list.items ≡ l.fn.list.items ++ range_with_len l.fn.span.first (l.line - l.fn.span.first);
  within : l.line ≤ l.fn.span.first + l.fn.span.count;
}

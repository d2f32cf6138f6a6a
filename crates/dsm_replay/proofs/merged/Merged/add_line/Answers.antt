use Rattle.std.specs.Prelude.{map, is_some}
use Rattle.std.proofs.Common.{◌≡◌, ◌∙◌, ap, true, false, arith}
use Rattle.std.specs.Ordering.{nat_cmp}
use Rattle.std.specs.BTreeMap.{is_at}
use Rattle.std.specs.Map.{lookup}
use Rattle.dsm_barrier.specs.Joined.{with_line}
use Rattle.dsm_replay.specs.Merging.{line_of}
use Rattle.dsm_replay.proofs.Merging.{placed, stays}
use Rattle.dsm_replay.proofs.merged.Merged.add_line.Goals as goal

pub returns-in_ok-insert : goal.returns-in_ok-insert
returns-in_ok-insert c =
    let entries = c.self.inside.values.entries in
    let number = c.args.line.now.number in
    let none : is_some (lookup (is_at (nat_cmp number)) entries) ≡ false = grind (arith, c.contains_key.ensures, c.if-not-contains_key.true) in
    let same : c.from_slice-values.result ≡ c.args.line.now.values = c.from_slice-values.ensures ∙ c.as_slice.ensures.value in
    ap (map line_of) c.in_ok-insert.ensures.entries
    ∙ placed entries number c.from_slice-values.result none
    ∙ (λ i. with_line (c.self.view_is i) (record { number = number; values = same i }))

pub returns-else-not-contains_key : goal.returns-else-not-contains_key
returns-else-not-contains_key c =
    let entries = c.self.inside.values.entries in
    let there : is_some (lookup (is_at (nat_cmp c.args.line.now.number)) entries) ≡ true = grind (arith, c.contains_key.ensures, c.if-not-contains_key.false) in
    rw (← c.self.view_is) (stays entries c.args.line.now c.self.invariant there)

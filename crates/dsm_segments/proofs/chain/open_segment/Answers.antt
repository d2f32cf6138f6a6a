use Rattle.std.proofs.Common.{◌≡◌, ◌≤◌, length, subst, arith}
use Rattle.dsm_segments.proofs.Growing.{closed_at}
use Rattle.dsm_segments.proofs.chain.open_segment.Goals as goal

pub returns-else-entries_at-lt-SEGMENT : goal.returns-else-entries_at-lt-SEGMENT
returns-else-entries_at-lt-SEGMENT g c =
    let full : 64 ≤ length c.entries_at.result.now = omega arith in
    closed_at c.args.slab.now c.in-Some.last c.in-Some.ensures.0 c.args.keys.now c.in-Some.ensures.1 (subst (λ l. 64 ≤ length l) c.entries_at.ensures full)

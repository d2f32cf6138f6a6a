use Rattle.std.proofs.Common.{◌≡◌, refl}
use Rattle.slab.proofs.SlabLemmas.{Updates-with_value}
use Rattle.dsm_segments.proofs.segment.fill.Goals as goal

pub returns-clause-ok : goal.returns-clause-ok
returns-clause-ok g c = record {
  was = c.index_mut.result.now;
  now = record { owner = c.index_mut.result.now.owner; entries = c.push.new.self };
  found = c.index_mut.ensures.value;
  updates = Updates-with_value c.args.slab.now c.args.key _ c.requires;
  owner = refl;
  more = c.in_ok-push.ensures.ok;
}

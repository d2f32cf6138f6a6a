use Rattle.dsm_segments.proofs.Pruning.{trimmed_segment}
use Rattle.dsm_segments.proofs.segment.trim.Goals as goal

pub returns : goal.returns
returns g c =
    trimmed_segment g.T.Numbered.log_number c.args.slab.now c.args.key c.args.upto c.old_count-count.result c.index.result.now c.index_mut.result.now c.as_slice-entries.result.now c.drop_front.new.entries
    c.index.ensures c.as_slice-entries.ensures c.old_count-count.ensures.old c.old_count-count.ensures.within c.if-count-entries.false c.index_mut.ensures.value c.drop_front.ensures c.requires

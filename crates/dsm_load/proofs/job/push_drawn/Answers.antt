use Rattle.dsm_load.proofs.Drawing.{appends-none, appends-more}
use Rattle.dsm_load.proofs.job.push_drawn.Goals as goal

-- src/job.rt:33:5
pub loop-init : goal.loop-init
loop-init c = λ seed from is. appends-none seed from _ _ is

-- src/job.rt:33:5
pub loop-preserved : goal.loop-preserved
loop-preserved c = λ seed from is.
    appends-more seed from c.loop.counter _ _ _ _ _ _ _ (c.loop.invariant seed from is) c.draw.ensures.state c.draw.ensures.number c.act_of-act.ensures
    c.in_ok-push.ensures.ok

use Rattle.std.proofs.Common.{◌∙◌, ap}
use Rattle.std.specs.Prelude.{not, ◌==◌}
use Rattle.std.proofs.lemmas.Bool.{ne_eqb, eq-eqb}
use Rattle.dsm_base.specs.declared.names.Proc.{Proc}
use Rattle.dsm_image_parts.specs.Keys.{numbered_proc}
use Rattle.dsm_image_parts.proofs.Listing.{one_passes, one_fails}
use Rattle.dsm_image_parts.proofs.keys.others.Goals as goal
use Rattle.dsm_image_parts.proofs.keys.others.Goals.{then-proc-me+in_ok-push, else-proc-me}

pub loop-proc-preserved : goal.loop-proc-preserved
loop-proc-preserved c =
    elim c.if-proc-me.branch [
      | then-proc-me+in_ok-push w ↦
          rw w.procs-is (w.in_ok-push.ensures.items ∙ one_passes (λ (proc : Proc). not (proc.0 == c.args.me.0)) numbered_proc c.loop-proc.proc c.loop-proc.procs.items c.loop-proc.invariant (ap not (ne_eqb c.loop-proc.proc c.args.me.0 w.if-proc-me.true)))
      | else-proc-me w ↦
          rw w.procs-is (one_fails (λ (proc : Proc). not (proc.0 == c.args.me.0)) numbered_proc c.loop-proc.proc c.loop-proc.procs.items c.loop-proc.invariant (ap not (eq-eqb c.loop-proc.proc c.args.me.0 w.if-proc-me.false)))
    ]

use Rattle.std.proofs.Common.{◌∙◌, sym}
use Rattle.dsm_base.specs.declared.names.Lock.{Lock}
use Rattle.dsm_image_parts.specs.Keys.{is_home, numbered_lock}
use Rattle.dsm_image_parts.proofs.Listing.{one_passes, one_fails}
use Rattle.dsm_image_parts.proofs.keys.home_locks.Goals as goal
use Rattle.dsm_image_parts.proofs.keys.home_locks.Goals.{then-is_home+in_ok-push, else-is_home}

pub loop-lock-preserved : goal.loop-lock-preserved
loop-lock-preserved c =
    elim c.if-is_home.branch [
      | then-is_home+in_ok-push w ↦
          rw w.locks-is (w.in_ok-push.ensures.items ∙ one_passes (λ (lock : Lock). is_home c.args.scope.now c.args.me.0 lock.0) numbered_lock c.loop-lock.lock c.loop-lock.locks.items c.loop-lock.invariant (sym c.is_home.ensures ∙ w.if-is_home.true))
      | else-is_home w ↦
          rw w.locks-is (one_fails (λ (lock : Lock). is_home c.args.scope.now c.args.me.0 lock.0) numbered_lock c.loop-lock.lock c.loop-lock.locks.items c.loop-lock.invariant (sym c.is_home.ensures ∙ w.if-is_home.false))
    ]

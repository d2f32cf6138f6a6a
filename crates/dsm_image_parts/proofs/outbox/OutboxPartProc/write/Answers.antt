use Rattle.std.proofs.Common.{true}
use Rattle.std.proofs.lemmas.Result.{on_ok_weaker}
use Rattle.dsm_image_parts.specs.Spelling.{sent_fields}
use Rattle.dsm_image_parts.proofs.Writing.{of_listed}
use Rattle.dsm_image_parts.proofs.outbox.OutboxPartProc.write.Goals as goal

pub returns : goal.returns
returns c = on_ok_weaker c.put_listed.result (λ behind. λ scope to at last.
    let v = c.args.self.now in
    of_listed (λ _. true) (sent_fields scope v.proc.0) c.as_slice.ensures (behind (λ _. true) scope v.proc)) c.put_listed.ensures

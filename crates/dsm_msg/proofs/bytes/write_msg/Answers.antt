use Rattle.std.proofs.lemmas.Result.{on_ok_weaker}
use Rattle.dsm_msg.specs.Spelling.{message_fields}
use Rattle.dsm_fields.proofs.Writing.{fit_fields}
use Rattle.dsm_msg.proofs.bytes.write_msg.Goals as goal

pub returns : goal.returns
returns c = record {
  written = on_ok_weaker c.put_message.result (λ appended. appended.bytes) c.put_message.ensures;
  message = on_ok_weaker c.put_message.result (λ appended. λ kept. fit_fields (message_fields c.args.msg.now) appended.held kept) c.put_message.ensures;
}

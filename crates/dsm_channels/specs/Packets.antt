-- What the bytes of a message stand for.
use Rattle.std.specs.Prelude.{ℕ, List, [], Ok, Err}
use Rattle.dsm_msg.specs.declared.message.Msg.{Msg}
use Rattle.dsm_msg.specs.declared.message.Body.TheVariants.{Note}
use Rattle.dsm_fields.specs.Reading.{Read}
use Rattle.dsm_msg.specs.Reading.{message_at}

-- the message that was read; where none was, a note of nobody stands for it
abbrev pub message_read : Read Msg → Msg
message_read (Ok (msg, rest)) = msg
message_read (Err fault) = record {
  from = record { 0 = 0 };
  to = record { 0 = 0 };
  carry = record { turn = 0; seen = 0; records = []; lines = [] };
  body = Note;
}

-- the message that bytes spell
abbrev pub message_in : List ℕ → Msg
message_in bytes = message_read (message_at bytes)

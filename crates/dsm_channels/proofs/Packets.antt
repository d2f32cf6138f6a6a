-- Reading gives back the message whose spelling the bytes are.
use Rattle.std.proofs.Common.{◌≡◌, ◌∙◌, ℕ, List, [], Result, Ok, Err, sym, ap, subst}
use Rattle.std.proofs.lemmas.List.{append-nil}
use Rattle.dsm_msg.specs.declared.error.MsgErr.{MsgErr}
use Rattle.dsm_msg.specs.declared.message.Msg.{Msg}
use Rattle.dsm_msg.specs.Spelling.{spelling, IsMessage}
use Rattle.dsm_msg.specs.Reading.{message_at}
use Rattle.dsm_msg.specs.Answers.{OrMemory, Spells}
use Rattle.dsm_msg.proofs.Answering.{message_exact}
use Rattle.dsm_channels.specs.Packets.{message_read, message_in}

-- a spelling is read as its message
pub read_back : (bytes : List ℕ) (msg : Msg) → IsMessage msg → bytes ≡ spelling msg → message_in bytes ≡ msg
read_back bytes msg is spelled =
    ap message_read (ap message_at (spelled ∙ sym (append-nil (spelling msg))) ∙ message_exact.again msg [] tt is)

-- the bytes of a message are a spelling of what is read
pub spells : (bytes : List ℕ) (msg : Msg) → IsMessage msg → bytes ≡ spelling msg → Spells bytes (message_in bytes)
spells bytes msg is spelled =
    subst (Spells bytes) (sym (read_back bytes msg is spelled)) (record { message = is; spelled = spelled })

-- a message that was read is the one that had to be
pub given_back : (result : Result Msg MsgErr) (msg sent : Msg) → result ≡ Ok msg → OrMemory result (result ≡ Ok sent) → msg ≡ sent
given_back (Ok other) msg sent is or = cc
given_back (Err error) msg sent is or = cc

-- What a server sends.
use Rattle.std.specs.Prelude.{ℕ, List, [], flat_map}
use Rattle.sporc_wire.specs.Stream.{frame}
use Rattle.sporc_wire.specs.ToClient.{to_client_bytes}
use Rattle.sporc_order.specs.declared.session.Answer.{Answer}
use Rattle.sporc_order.specs.declared.session.Answer.TheVariants.{Send, Silent, Close}
use Rattle.sporc_order.specs.declared.reply.Reply.{Reply}
use Rattle.sporc_order.specs.declared.reply.Reply.TheVariants.{Message}
use Rattle.sporc_order.specs.Sessions.{IsSendable}

-- the bytes of an answer
abbrev pub bytes_of : Answer → List ℕ
bytes_of (Send message) = frame (to_client_bytes message)
bytes_of Silent = []
bytes_of Close = []

-- the bytes of answers
abbrev pub sent_of : List Answer → List ℕ
sent_of answers = flat_map bytes_of answers

-- a message that is to be sent is in range, and fits a frame
abbrev pub CanBeSent : Reply → Type 0
CanBeSent (Message message) = IsSendable (Send message)
CanBeSent reply = Unit {0}

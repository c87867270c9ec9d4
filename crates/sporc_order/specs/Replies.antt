-- Answers as a server sends them.
use Rattle.std.specs.Prelude.{◌≡◌}
use Rattle.sporc_wire.specs.Stream.{frame}
use Rattle.sporc_wire.specs.ToClient.{to_client_bytes}
use Rattle.sporc_order.specs.declared.session.Answer.{Answer}
use Rattle.sporc_order.specs.declared.session.Answer.TheVariants as answers
use Rattle.sporc_order.specs.declared.reply.Reply.{Reply}
use Rattle.sporc_order.specs.declared.reply.Reply.TheVariants.{Message, Frame, Silent, Close}

-- a reply says this answer: by its message, or by the frame of it
abbrev pub Says : Answer → Reply → Type 0
Says (answers.Send message) (Message sent) = sent ≡ message
Says (answers.Send message) (Frame bytes) = bytes ≡ frame (to_client_bytes message)
Says answers.Silent Silent = Unit {0}
Says answers.Close Close = Unit {0}
Says answer reply = ⊥

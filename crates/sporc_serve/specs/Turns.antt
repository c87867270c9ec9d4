-- What a session does in one turn at the order.
use Rattle.std.specs.Prelude.{◌≡◌, ◌≤◌, ℕ, Bool, List, [], ◌++◌, Result, Ok, Err, IfErr}
use Rattle.sporc_base.specs.Lists.{StartsWith}
use Rattle.sporc_turn.specs.declared.known.Known.{Known}
use Rattle.sporc_turn.specs.declared.limits.TheConstants.{MAX_TICKETS}
use Rattle.sporc_entry.specs.declared.genesis.Genesis.{Genesis}
use Rattle.sporc_wire.specs.declared.to_server.ToServer.{ToServer}
use Rattle.sporc_order.specs.declared.session.Answer.{Answer}
use Rattle.sporc_order.specs.declared.reply.Reply.{Reply}
use Rattle.sporc_order.specs.Replies.{Says}
use Rattle.sporc_order.specs.declared.tail.Unanswered.{Unanswered}
use Rattle.sporc_order.specs.declared.tail.Unanswered.TheVariants as unanswered
use Rattle.sporc_order.specs.Sessions.{step_of}
use Rattle.sporc_serve.specs.declared.end.SessionEnd.{SessionEnd}
use Rattle.sporc_serve.specs.declared.end.SessionEnd.TheVariants.{Closed, LinkEnded, LinkFault}
use Rattle.sporc_serve.specs.declared.end.SessionEnd.TheVariants.{BadFrame, Worn, Memory, Unkept}
use Rattle.sporc_serve.specs.declared.item.Item.{Item}
use Rattle.sporc_serve.specs.Logs.{order_at, added_of, placed_by}

-- a pass found a log, and added these items to it
pub record SeesAndAdds (before after : Known Item) (found items : List Item) : Type 0 where
  pub begins : StartsWith found before.seen
  pub seen : after.seen ≡ found ++ items
  pub mine : after.mine ≡ before.mine ++ items
  pub number : after.number ≡ before.number
  pub start : after.start ≡ before.start

-- a message was answered at the log that was found
pub record IsAnswered (genesis : Genesis) (before after : Known Item) (greeted greeted' : Bool)
    (message : ToServer) (answer : Answer) (found : List Item) : Type 0 where
  pub answer_is : answer ≡ (step_of (order_at genesis found) greeted message).answer
  pub greeted_is : greeted' ≡ (step_of (order_at genesis found) greeted message).is_greeted
  pub adds : SeesAndAdds before after found
      (placed_by before.number (added_of (order_at genesis found) greeted message))

-- a turn ended without an answer, and changed nothing
pub record LeavesUnanswered (before after : Known Item) (greeted greeted' : Bool)
    (found : List Item) : Type 0 where
  pub greeted_is : greeted' ≡ greeted
  pub adds : SeesAndAdds before after found []

-- how a session ends whose message is not answered
abbrev pub end_of : Unanswered → SessionEnd
end_of unanswered.Memory = Memory
end_of unanswered.Unkept = Unkept

-- why a turn has no answer
abbrev pub IsTurnEnd : SessionEnd → Type 0
IsTurnEnd Closed = ⊥
IsTurnEnd LinkEnded = ⊥
IsTurnEnd LinkFault = ⊥
IsTurnEnd BadFrame = ⊥
IsTurnEnd (Worn ticket) = ticket ≡ MAX_TICKETS
IsTurnEnd Memory = Unit {0}
IsTurnEnd Unkept = Unit {0}

-- a session that ended for want of a ticket has read that every ticket was drawn, where its pass
-- read this as the next one
abbrev pub HasReadLast : ℕ → SessionEnd → Type 0
HasReadLast read (Worn ticket) = MAX_TICKETS ≤ read
HasReadLast read Closed = Unit {0}
HasReadLast read LinkEnded = Unit {0}
HasReadLast read LinkFault = Unit {0}
HasReadLast read BadFrame = Unit {0}
HasReadLast read Memory = Unit {0}
HasReadLast read Unkept = Unit {0}

-- a turn that was taken to look at the log, or was not taken, and changed nothing
abbrev pub Looks : {A : Type 0} → Known Item → Known Item → Result A SessionEnd → Type 0
Looks before after result =
    (found : List Item) × SeesAndAdds before after found [] × IfErr result IsTurnEnd

-- one turn of a session, from what its pass knew before to what it knows after
abbrev pub TakesTurn : Genesis → Known Item → Known Item → Bool → Bool → ToServer
    → Result Reply SessionEnd → Type 0
TakesTurn genesis before after greeted greeted' message (Ok reply) =
    (answer : Answer) × (found : List Item)
    × IsAnswered genesis before after greeted greeted' message answer found × Says answer reply
TakesTurn genesis before after greeted greeted' message (Err end) =
    (found : List Item) × LeavesUnanswered before after greeted greeted' found × IsTurnEnd end

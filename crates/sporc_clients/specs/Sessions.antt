-- What a session did to a client.
use Rattle.std.specs.Prelude.{◌≡◌, List, IfErr, Result, ⊤}
use Rattle.sporc_outside.specs.Chances.{ChanceTold}
use Rattle.sporc_outside.specs.Streams.{StreamTold}
use Rattle.sporc_outside.specs.Uses.{Use}
use Rattle.sporc_turn.specs.declared.known.Known.{Known}
use Rattle.sporc_turn.specs.declared.pass.Pass.{Pass}
use Rattle.sporc_turn.specs.Knowing.{first_known}
use Rattle.sporc_turn.specs.Passes.{known_of}
use Rattle.sporc_client.specs.Log.{Logged}
use Rattle.sporc_shared.specs.Items.{IsAllowed, Item, Past, items_of, with_events}
use Rattle.sporc_session.specs.declared.fault.SessionFault.{SessionFault}
use Rattle.sporc_session.specs.Replies.{HasReadFor}
use Rattle.sporc_session.specs.Sessions.{IsSession}
use Rattle.sporc_session.specs.Traces.{Stand, stand}
use Rattle.sporc_exchange.specs.Wires.{InboxModel, LinkTold, empty_inbox, link_stand, link_told}
use Rattle.sporc_clients.specs.declared.session.Wanted.{Wanted}

-- what a use of a link told, but for whether it was shut
abbrev pub link_use : Use StreamTold → Use LinkTold
link_use link = record { before = link_told link.before; after = link_told link.after }

-- what number 0 knows of the client's log, beside what the link and the chance tell
abbrev pub stand_at : Known Item → InboxModel → LinkTold → ChanceTold → Stand
stand_at known inbox link chance =
    stand known (link_stand link inbox) chance.given chance.faults

-- A session led a client from one past to another, with this pass at its end, which has read what
-- a fault says of the lock: it added events to its log
pub record IsSessionOf (wanted : Wanted) (before after : Past) (link : Use LinkTold)
    (chance : Use ChanceTold) (result : Result ⊤ SessionFault) : Type 0 where
  pub pass : Pass Item
  pub inbox : InboxModel
  pub session : IsSession
      (stand_at (first_known (items_of before)) empty_inbox link.before chance.before)
      (stand_at (known_of pass) inbox link.after chance.after)
      wanted.rounds wanted.until wanted.editors result
  pub read : IfErr result (HasReadFor pass)
  pub seen : (known_of pass).seen ≡ items_of after
  pub events : List Logged
  pub goes_on : after ≡ with_events before events
  pub allowed : IsAllowed after

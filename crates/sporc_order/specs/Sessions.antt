-- What a session of one client with an order answers.
use Rattle.std.specs.Prelude.{ℕ, ◌+◌, ◌≤◌, Bool, true, false, List, [], ◌∷◌, ◌++◌, length, Option}
use Rattle.std.specs.Prelude.{None, Some, if◌then◌else◌}
use Rattle.std.specs.Str.{bytes_eq}
use Rattle.sporc_head.specs.declared.refusal.Refusal.{Refusal}
use Rattle.sporc_head.specs.declared.examined.Verdict.{Verdict}
use Rattle.sporc_head.specs.Examined.{IsExact}
use Rattle.sporc_head.specs.HeadChecks.{head_fault}
use Rattle.sporc_wire.specs.declared.cutter.TheConstants.{MAX_BODY}
use Rattle.sporc_wire.specs.declared.to_server.ToServer.{ToServer}
use Rattle.sporc_wire.specs.declared.to_server.ToServer.TheVariants.{Hello, Submit, Pull}
use Rattle.sporc_wire.specs.declared.to_client.ToClient.{ToClient}
use Rattle.sporc_wire.specs.declared.to_client.ToClient.TheVariants.{Ordered, Rejected, Entries}
use Rattle.sporc_wire.specs.declared.to_client.ToClient.TheVariants.{Empty}
use Rattle.sporc_wire.specs.ToClient.{to_client_bytes, IsToClient}
use Rattle.sporc_order.specs.Batches.{batch_after}
use Rattle.sporc_order.specs.OrderModel.{OrderModel}
use Rattle.sporc_order.specs.declared.session.Answer.{Answer}
use Rattle.sporc_order.specs.declared.session.Answer.TheVariants.{Send, Silent, Close}

-- an answer, the order after it, and whether the client was greeted
pub record Step : Type 0 where
  pub answer : Answer
  pub order : OrderModel
  pub is_greeted : Bool

-- an answer that changes nothing
abbrev pub only : OrderModel → Bool → Answer → Step
only o is_greeted answer = record { answer = answer; order = o; is_greeted = is_greeted }

-- a greeting: of this document
abbrev pub greeted : OrderModel → List ℕ → Step
greeted o document =
    if bytes_eq document o.genesis.document then only o true Silent else only o false Close

-- an entry that fails this check, or none
abbrev pub submitted : OrderModel → List ℕ → Option Refusal → Step
submitted o entry (Some refusal) = only o true (Send (Rejected refusal))
submitted o entry None = record {
  answer = Send (Ordered (length o.entries + 1));
  order = record o { entries = o.entries ++ entry ∷ [] };
  is_greeted = true;
}

-- these entries after the first `from`
abbrev pub entries_after : ℕ → List (List ℕ) → ToClient
entries_after from [] = Empty
entries_after from (e ∷ es) = Entries (from + 1) (e ∷ es)

-- the first message is a greeting, and no later one is; an entry is appended if no check fails that
-- needs no key
abbrev pub step_of : OrderModel → Bool → ToServer → Step
step_of o false (Hello document member) = greeted o document
step_of o false (Submit entry) = only o false Close
step_of o false (Pull from) = only o false Close
step_of o true (Hello document member) = only o true Close
step_of o true (Submit entry) =
    submitted o entry (head_fault o.genesis None o.entries (length o.entries + 1) entry)
step_of o true (Pull from) = only o true (Send (entries_after from (batch_after o.entries from)))

-- what is sent is a message in range, whose body is within the limit of a frame
abbrev pub IsSendable : Answer → Type 0
IsSendable (Send message) = IsToClient message × (length (to_client_bytes message) ≤ MAX_BODY)
IsSendable Silent = Unit {0}
IsSendable Close = Unit {0}

-- an entry has no more bytes than a frame's body
abbrev pub IsFramed : ToServer → Type 0
IsFramed (Hello document member) = Unit {0}
IsFramed (Submit entry) = length entry ≤ MAX_BODY
IsFramed (Pull from) = Unit {0}

-- the entry whose signature the answer to a message asks for: what a greeted client submits
abbrev pub entry_in : Bool → ToServer → Option (List ℕ)
entry_in true (Submit entry) = Some entry
entry_in true (Hello document member) = None
entry_in true (Pull from) = None
entry_in false message = None

-- a verdict tells exactly that of the entry of a message, if it has one
abbrev pub IsExactFor : Verdict → ToServer → Type 0
IsExactFor verdict (Submit entry) = IsExact verdict entry
IsExactFor verdict (Hello document member) = Unit {0}
IsExactFor verdict (Pull from) = Unit {0}

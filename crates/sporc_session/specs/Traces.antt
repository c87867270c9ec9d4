-- What a receiver did from one moment to a later one.
use Rattle.std.specs.Prelude.{◌≡◌, ◌≤◌, ℕ, List, ◌++◌, length, Option}
use Rattle.sporc_base.specs.Lists.{StartsWith}
use Rattle.sporc_outside.specs.Told.{AppendsItems}
use Rattle.sporc_outside.specs.Chances.{ChanceTold}
use Rattle.sporc_outside.specs.Streams.{StreamTold}
use Rattle.sporc_turn.specs.declared.known.Known.{Known}
use Rattle.sporc_turn.specs.declared.pass.Pass.{Pass}
use Rattle.sporc_turn.specs.Log.{Agrees}
use Rattle.sporc_turn.specs.Passes.{known_of}
use Rattle.sporc_wire.specs.declared.to_client.ToClient.{ToClient}
use Rattle.sporc_shared.specs.Items.{Item, Past, IsAllowed, by_of, items_of}
use Rattle.sporc_session.specs.Acts.{Act, items_by, messages_by, answers_by, words_by, all_of}
use Rattle.sporc_session.specs.Acts.{AreInOrder, FitAll}
use Rattle.sporc_exchange.specs.Wires.{InboxModel, LinkStand, Exchanged, link_at, spelled}

-- the receiver's pass and what it knows, what the link tells, and the words that the chance gave,
-- with its count of faults
pub record Stand : Type 0 where
  pub known : Known Item
  pub link : LinkStand
  pub words : Option (List (List ℕ))
  pub chance_faults : ℕ

abbrev pub stand : Known Item → LinkStand → Option (List (List ℕ)) → ℕ → Stand
stand known link words chance_faults =
    record { known = known; link = link; words = words; chance_faults = chance_faults }

-- by a pass, and by what the link and the chance tell
abbrev pub stand_at : Pass Item → StreamTold → InboxModel → ChanceTold → Stand
stand_at pass link inbox chance =
    stand (known_of pass) (link_at link inbox) chance.given chance.faults

-- the items are the log of a client that its own calls can have
pub record IsAllowedLog (log : List Item) : Type 0 where
  pub past : Past
  pub log_is : log ≡ items_of past
  pub allowed : IsAllowed past

-- The pass may have seen more, and added these items. What it has seen stays allowed
pub record KnowsMore (k k' : Known Item) (items : List Item) : Type 0 where
  pub number : k'.number ≡ k.number
  pub start : k'.start ≡ k.start
  pub mine : k'.mine ≡ k.mine ++ items
  pub begins : StartsWith k'.seen k.seen
  pub allowed : IsAllowedLog k.seen → IsAllowedLog k'.seen
  pub agrees : Agrees by_of k k.seen → Agrees by_of k' k'.seen

-- it is the same pass, with the same splits and joins
pub record CountsSame (k k' : Known Item) : Type 0 where
  pub number : k'.number ≡ k.number
  pub splits : k'.splits ≡ k.splits
  pub joined : k'.joined ≡ k.joined

-- It did these acts, and beside them wrote, received and drew no more than this
pub record Trace (a b : Stand) (acts : List Act) (written : List ℕ) (answers : List ToClient)
    (words : List (List ℕ)) : Type 0 where
  pub knows : KnowsMore a.known b.known (all_of items_by acts)
  pub fits : FitAll b.known.seen a.known.start a.known.mine acts
  pub in_order : AreInOrder (length a.known.seen) acts
  pub link : Exchanged a.link b.link (spelled (all_of messages_by acts) ++ written)
      (all_of answers_by acts ++ answers)
  pub words_are : AppendsItems a.words b.words (all_of words_by acts ++ words)
  pub chance : a.chance_faults ≤ b.chance_faults

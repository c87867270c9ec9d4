-- What one session of a server does, as a list of its messages with what the order's log was at
-- each.
use Rattle.std.specs.Prelude.{◌≡◌, ◌≢◌, ◌⊎◌, ◌≤◌, ◌<◌, ℕ, Bool, false, List, [], ◌∷◌, ◌++◌, length}
use Rattle.std.specs.Prelude.{map, take, Option, Some, None, Ok, Err}
use Rattle.std.specs.Io.KnownBytes.{Consumes, Appends, IsAtEnd}
use Rattle.std.specs.List.{AllByRecursion}
use Rattle.sporc_base.specs.Lists.{StartsWith}
use Rattle.sporc_outside.specs.Counts.{Rose}
use Rattle.sporc_outside.specs.Streams.{StreamTold}
use Rattle.sporc_turn.specs.declared.known.Known.{Known}
use Rattle.sporc_turn.specs.declared.limits.TheConstants.{MAX_TICKETS}
use Rattle.sporc_entry.specs.declared.genesis.Genesis.{Genesis}
use Rattle.sporc_wire.specs.declared.fault.FrameFault.{FrameFault}
use Rattle.sporc_wire.specs.declared.to_server.ToServer.{ToServer}
use Rattle.sporc_wire.specs.Messages.{Unread, HandsOut, stream_of, next}
use Rattle.sporc_wire.specs.ToServer.{to_server_of}
use Rattle.sporc_order.specs.declared.session.Answer.{Answer}
use Rattle.sporc_order.specs.declared.session.Answer.TheVariants.{Close}
use Rattle.sporc_order.specs.Sessions.{Step, step_of}
use Rattle.sporc_serve.specs.declared.end.SessionEnd.{SessionEnd}
use Rattle.sporc_serve.specs.declared.end.SessionEnd.TheVariants.{Closed, LinkEnded, LinkFault}
use Rattle.sporc_serve.specs.declared.end.SessionEnd.TheVariants.{BadFrame, Worn, Memory, Unkept}
use Rattle.sporc_serve.specs.declared.item.Item.{Item}
use Rattle.sporc_serve.specs.Logs.{order_at, added_of, placed_by, IsLogOf}
use Rattle.sporc_serve.specs.Sending.{bytes_of, sent_of}

-- a message of a session, and the log as it was answered
pub record Exchange : Type 0 where
  pub message : ToServer
  pub log : List Item

-- what a session's pass knows, what its link has left and was given where it tells that, the link's
-- count of faults, the bytes of it that are no message yet, and whether the client was greeted
pub record ServerStand : Type 0 where
  pub known : Known Item
  pub left : Option (List ℕ)
  pub written : Option (List ℕ)
  pub faults : ℕ
  pub unread : Unread
  pub greeted : Bool

abbrev pub messages_of : List Exchange → List ToServer
messages_of xs = map (λ (x : Exchange). x.message) xs

-- none of these answers closes the session
abbrev pub NoneCloses : List Answer → Type 0
NoneCloses answers = AllByRecursion (λ (answer : Answer). answer ≢ Close) answers

module _ (genesis : Genesis) where
  -- the order machine's answer to a message, at the log that it was answered at
  abbrev pub step_at : Bool → Exchange → Step
  step_at greeted x = step_of (order_at genesis x.log) greeted x.message

  -- whether the client is greeted after these
  abbrev pub greeted_after : Bool → List Exchange → Bool
  greeted_after greeted [] = greeted
  greeted_after greeted (x ∷ xs) = greeted_after (step_at greeted x).is_greeted xs

  -- the answers, each the order machine's
  abbrev pub answers_of : Bool → List Exchange → List Answer
  answers_of greeted [] = []
  answers_of greeted (x ∷ xs) =
      (step_at greeted x).answer ∷ answers_of (step_at greeted x).is_greeted xs

  -- the entries that the session adds
  abbrev pub entries_of : Bool → List Exchange → List (List ℕ)
  entries_of greeted [] = []
  entries_of greeted (x ∷ xs) = added_of (order_at genesis x.log) greeted x.message
      ++ entries_of (step_at greeted x).is_greeted xs

  -- each log begins with what the session knew of the one before, with what it then added, and the
  -- last list with all of that
  abbrev pub Grows : ℕ → List Item → Bool → List Exchange → List Item → Type 0
  Grows number low greeted [] high = StartsWith high low
  Grows number low greeted (x ∷ xs) high = StartsWith x.log low × Grows number
      (x.log ++ placed_by number (added_of (order_at genesis x.log) greeted x.message))
      (step_at greeted x).is_greeted xs high

  -- the messages of these exchanges are the first of the bytes taken, and each is answered at its
  -- log
  pub record Did (a b : ServerStand) (bytes : List ℕ) (xs : List Exchange) : Type 0 where
    pub taken : Consumes a.left b.left bytes
    pub reads : HandsOut to_server_of (stream_of bytes) (messages_of xs) b.unread
    pub greeted : b.greeted ≡ greeted_after false xs
    pub number : b.known.number ≡ a.known.number
    pub start : b.known.start ≡ a.known.start
    pub mine : b.known.mine ≡ a.known.mine ++ placed_by a.known.number (entries_of false xs)
    pub grows : Grows a.known.number a.known.seen false xs b.known.seen
    pub faults : a.faults ≤ b.faults

  -- and all of the answers were sent, none of which closes the session
  pub record ServerTrace (a b : ServerStand) (bytes : List ℕ) (xs : List Exchange) : Type 0 where
    pub did : Did a b bytes xs
    pub none_closes : NoneCloses (answers_of false xs)
    pub sent : Appends a.written b.written (sent_of (answers_of false xs))

  -- as far as one gets: none before the last answer closes the session, and of the last one the
  -- first n bytes were sent
  pub record Broken (a b : ServerStand) (bytes : List ℕ) (xs : List Exchange) (before : List Answer)
      (last : Answer) (n : ℕ) : Type 0 where
    pub did : Did a b bytes xs
    pub answers : answers_of false xs ≡ before ++ last ∷ []
    pub none_closes : NoneCloses before
    pub sent : Appends a.written b.written (sent_of before ++ take n (bytes_of last))

  -- each whole message of the bytes was answered
  pub record AllAnswered (a b : ServerStand) (bytes : List ℕ) (xs : List Exchange) : Type 0 where
    pub trace : ServerTrace a b bytes xs
    pub none_left : (next to_server_of b.unread).answer ≡ Ok None

  -- of the last answer not all bytes were sent
  abbrev pub IsCut : ServerStand → ServerStand → List ℕ → List Exchange → Type 0
  IsCut a b bytes xs = (before : List Answer) × (last : Answer) × (n : ℕ)
      × Broken a b bytes xs before last n × (n < length (bytes_of last))

  -- how a session ended; one that closed sent all of its answers, since a Close has no bytes
  abbrev pub EndsAs : ServerStand → ServerStand → SessionEnd → Type 0
  EndsAs a b Closed = (bytes : List ℕ) × (xs : List Exchange) × (before : List Answer)
      × Broken a b bytes xs before Close 0
  EndsAs a b LinkEnded =
      (bytes : List ℕ) × (xs : List Exchange) × AllAnswered a b bytes xs × IsAtEnd b.left
  EndsAs a b LinkFault = (bytes : List ℕ) × (xs : List Exchange)
      × (AllAnswered a b bytes xs ⊎ IsCut a b bytes xs) × Rose a.faults b.faults
  EndsAs a b BadFrame = (bytes : List ℕ) × (xs : List Exchange) × (fault : FrameFault)
      × ServerTrace a b bytes xs × ((next to_server_of b.unread).answer ≡ Err fault)
  EndsAs a b (Worn ticket) =
      (bytes : List ℕ) × (xs : List Exchange) × ServerTrace a b bytes xs × (ticket ≡ MAX_TICKETS)
  EndsAs a b Memory =
      (bytes : List ℕ) × (xs : List Exchange) × (ServerTrace a b bytes xs ⊎ IsCut a b bytes xs)
  EndsAs a b Unkept = (bytes : List ℕ) × (xs : List Exchange) × ServerTrace a b bytes xs

-- a stand of these
abbrev pub stand : Known Item → Option (List ℕ) → Option (List ℕ) → ℕ → Unread → Bool → ServerStand
stand known left written faults unread greeted = record {
  known = known;
  left = left;
  written = written;
  faults = faults;
  unread = unread;
  greeted = greeted;
}

-- a session that ended, whatever its frames then are
abbrev pub IsEnd : Genesis → ServerStand → ServerStand → SessionEnd → Type 0
IsEnd genesis a b end = (unread : Unread) × (greeted : Bool)
    × EndsAs genesis a (record b { unread = unread; greeted = greeted }) end

-- a session that went on from its beginning to here, or ended
abbrev pub GoesOn : Genesis → ServerStand → ServerStand → Option SessionEnd → Type 0
GoesOn genesis a b None = (bytes : List ℕ) × (xs : List Exchange) × ServerTrace genesis a b bytes xs
GoesOn genesis a b (Some end) = IsEnd genesis a b end

-- a session that went on from any beginning to here goes on to there, or ends
abbrev pub Carries : ServerStand → ServerStand → Option SessionEnd → Type 0
Carries b b' end = (genesis : Genesis) (a : ServerStand) (bytes : List ℕ) (xs : List Exchange)
    → IsLogOf genesis b.known.seen → ServerTrace genesis a b bytes xs → GoesOn genesis a b' end

-- a session that went on to here from any beginning whose log is of a document goes on to there, or
-- ends
abbrev pub Leads : ServerStand → ServerStand → Option SessionEnd → Type 0
Leads b b' end = (genesis : Genesis) (a : ServerStand) (bytes : List ℕ) (xs : List Exchange)
    → IsLogOf genesis a.known.seen → ServerTrace genesis a b bytes xs → GoesOn genesis a b' end

-- by what the link tells
abbrev pub stand_at : Known Item → StreamTold → Unread → Bool → ServerStand
stand_at known link unread greeted = stand known link.left link.written link.faults unread greeted

-- the next message of some bytes is this one, and is answered: a session that went on to these
-- bytes goes on to those behind the message, or ends
abbrev pub CarriesPast : ToServer → (Unread → ServerStand) → (Unread → ServerStand)
    → Option SessionEnd → Type 0
CarriesPast message before after end =
    (unread : Unread) → (next to_server_of unread).answer ≡ Ok (Some message)
    → Carries (before unread) (after (next to_server_of unread).after) end

-- a session ends whose first message is this one, with these bytes behind it, over a link that told
-- `old` and then `new`, by a pass that knew `known` and then `known'`
abbrev pub LeadsFrom : ToServer → Unread → StreamTold → StreamTold → SessionEnd → Known Item
    → Known Item → Type 0
LeadsFrom first behind old new end known known' =
    (unread : Unread) → (next to_server_of unread).answer ≡ Ok (Some first)
    → behind ≡ (next to_server_of unread).after
    → Leads (stand_at known old unread false) (stand_at known' new (stream_of []) false) (Some end)

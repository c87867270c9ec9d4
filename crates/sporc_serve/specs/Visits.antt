-- The sessions of a server, and what they did to the log together.
use Rattle.std.specs.Prelude.{◌≡◌, ◌≢◌, ◌⊎◌, ℕ, false, List, [], ◌∷◌, ◌++◌, length, map, Option}
use Rattle.std.specs.Prelude.{Result, Ok, Err}
use Rattle.std.specs.List.{AllByRecursion}
use Rattle.sporc_base.specs.Lists.{StartsWith}
use Rattle.sporc_outside.specs.Counts.{Rose}
use Rattle.sporc_outside.specs.Nets.{NetTold}
use Rattle.sporc_outside.specs.Told.{IsFalseIfTold, IfBoth}
use Rattle.sporc_outside.specs.Streams.{Shuts, StreamTold}
use Rattle.sporc_turn.specs.declared.known.Known.{Known}
use Rattle.sporc_turn.specs.declared.limits.TheConstants.{MAX_TICKETS}
use Rattle.sporc_turn.specs.Log.{Agrees}
use Rattle.sporc_turn.specs.Knowing.{splitting, copied, joined_with}
use Rattle.sporc_entry.specs.declared.genesis.Genesis.{Genesis}
use Rattle.sporc_wire.specs.Messages.{stream_of}
use Rattle.sporc_serve.specs.declared.end.SessionEnd.{SessionEnd}
use Rattle.sporc_serve.specs.declared.end.SessionEnd.TheVariants.{Worn, Memory, Unkept}
use Rattle.sporc_serve.specs.declared.fault.ServeFault.{ServeFault}
use Rattle.sporc_serve.specs.declared.fault.ServeFault.TheVariants as faults
use Rattle.sporc_serve.specs.declared.item.Item.{Item}
use Rattle.sporc_serve.specs.Logs.{by_of}
use Rattle.sporc_serve.specs.Traces.{stand_at, IsEnd}

-- a link as it came and as it was handed back, and how its session ended
pub record Visit : Type 0 where
  pub before : StreamTold
  pub after : StreamTold
  pub end : SessionEnd

abbrev pub visit : StreamTold → StreamTold → SessionEnd → Visit
visit before after end = record { before = before; after = after; end = end }

module _ (genesis : Genesis) where
  -- a session over a link by a pass that knew this at first and that at last: the link, as the
  -- session came to its end, was as shut as it came, and then it was shut
  pub record ServesSession (first last : Known Item) (v : Visit) (link : StreamTold) : Type 0 where
    pub ends : IsEnd genesis (stand_at first v.before (stream_of []) false)
        (stand_at last link (stream_of []) false) v.end
    pub as_shut : link.is_shut ≡ v.before.is_shut
    pub shuts : Shuts (record { before = link; after = v.after })

  abbrev pub IsServedSession : Known Item → Known Item → Visit → Type 0
  IsServedSession first last v = (link : StreamTold) × ServesSession first last v link

  -- number 0 knew this before, and split a pass for each session and joined it back
  abbrev pub Visits : Known Item → Known Item → List Visit → Type 0
  Visits before after [] = after ≡ before
  Visits before after (v ∷ vs) =
      (rest : Known Item) × (last : Known Item) × IsServedSession (copied before) last v
      × Visits (splitting before) rest vs × (last.number ≡ (copied before).number)
      × (after ≡ joined_with rest last) × StartsWith after.seen rest.seen
      × StartsWith after.seen last.seen × Agrees by_of after after.seen

-- no link was shut as it came
abbrev pub CameOpen : List Visit → Type 0
CameOpen visits = AllByRecursion (λ (v : Visit). IsFalseIfTold v.before.is_shut) visits

-- links in the order in which they came, and in which they were handed back
abbrev pub came : List Visit → List StreamTold
came visits = map (λ (v : Visit). v.before) visits

abbrev pub handed_back : List Visit → List StreamTold
handed_back [] = []
handed_back (v ∷ vs) = handed_back vs ++ v.after ∷ []

-- told links came from the front of those that were to come
abbrev pub AreFrom : Option (List StreamTold) → Option (List StreamTold) → List StreamTold → Type 0
AreFrom old new links = IfBoth old new (λ before after. before ≡ links ++ after)

-- told links went behind those that were handed back before
abbrev pub AreBehind : Option (List StreamTold) → Option (List StreamTold)
    → List StreamTold → Type 0
AreBehind old new links = IfBoth old new (λ before after. after ≡ before ++ links)

-- a session ended out of memory, or at the lock's last ticket
abbrev pub IsWant : SessionEnd → Type 0
IsWant end = (end ≡ Memory) ⊎ (end ≡ Worn MAX_TICKETS)

-- none of the sessions ended so
abbrev pub NoneWants : List Visit → Type 0
NoneWants visits = AllByRecursion (λ (v : Visit). ¬ IsWant v.end) visits

-- a session ended at this ticket
abbrev pub SomeWorn : ℕ → List Visit → Type 0
SomeWorn ticket [] = ⊥
SomeWorn ticket (v ∷ vs) = (v.end ≡ Worn ticket) ⊎ SomeWorn ticket vs

-- a session ended since its entry was not kept
abbrev pub SomeUnkept : List Visit → Type 0
SomeUnkept [] = ⊥
SomeUnkept (v ∷ vs) = (v.end ≡ Unkept) ⊎ SomeUnkept vs

-- none of them did
abbrev pub NoneUnkept : List Visit → Type 0
NoneUnkept visits = AllByRecursion (λ (v : Visit). v.end ≢ Unkept) visits

-- what is answered of these sessions, of so many, where the net's count went from `before` to
-- `after`
abbrev pub TellsOf : ℕ → ℕ → ℕ → List Visit → Result (Unit {0}) ServeFault → Type 0
TellsOf sessions before after visits (Ok done) = (length visits ≡ sessions) × NoneWants visits
TellsOf sessions before after visits (Err faults.ListenFault) = Rose before after
TellsOf sessions before after visits (Err (faults.Worn ticket)) =
    (ticket ≡ MAX_TICKETS) × SomeWorn ticket visits
TellsOf sessions before after visits (Err faults.Memory) = Unit {0}
TellsOf sessions before after visits (Err faults.Unkept) = SomeUnkept visits

-- these links, of so many, came from a net, which told this before and that after, and were handed
-- back to it; this is answered of their sessions, and unless it is that an entry was not kept, none
-- of them ended so
pub record TookLinks (old new : NetTold) (sessions : ℕ) (result : Result (Unit {0}) ServeFault)
    (visits : List Visit) : Type 0 where
  pub came_open : CameOpen visits
  pub coming : AreFrom old.coming new.coming (came visits)
  pub returned : AreBehind old.returned new.returned (handed_back visits)
  pub result_is : TellsOf sessions old.faults new.faults visits result
  pub kept : result ≢ Err faults.Unkept → NoneUnkept visits

-- what is answered once one session more has ended: that an entry was not kept goes before a fault
-- of the net, that before a ticket's, and that before running out of memory
abbrev pub with_end : Result (Unit {0}) ServeFault → SessionEnd → Result (Unit {0}) ServeFault
with_end (Err faults.Unkept) end = Err faults.Unkept
with_end (Err faults.ListenFault) Unkept = Err faults.Unkept
with_end (Err faults.ListenFault) end = Err faults.ListenFault
with_end (Err (faults.Worn ticket)) Unkept = Err faults.Unkept
with_end (Err (faults.Worn ticket)) end = Err (faults.Worn ticket)
with_end (Err faults.Memory) Unkept = Err faults.Unkept
with_end (Err faults.Memory) (Worn ticket) = Err (faults.Worn ticket)
with_end (Err faults.Memory) end = Err faults.Memory
with_end (Ok done) Unkept = Err faults.Unkept
with_end (Ok done) (Worn ticket) = Err (faults.Worn ticket)
with_end (Ok done) Memory = Err faults.Memory
with_end (Ok done) end = Ok done

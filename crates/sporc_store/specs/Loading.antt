-- What is loaded of a saved history: its entries, one after another, until one is refused.
use Rattle.std.specs.Prelude.{◌≡◌, ◌≢◌, ◌≤◌, ℕ, ◌+◌, List, [], ◌∷◌, ◌++◌, length, take, Option}
use Rattle.std.specs.Prelude.{None, Some, IfNone, IfSome, IsSomeAnd, slice_get}
use Rattle.std.specs.List.{All}
use Rattle.sporc_entry.specs.declared.genesis.Genesis.{Genesis}
use Rattle.sporc_entry.specs.declared.limits.TheConstants.{MAX_ENTRY}
use Rattle.sporc_head.specs.declared.limits.TheConstants.{MAX_ENTRIES}
use Rattle.sporc_head.specs.declared.refusal.Refusal.{Refusal}
use Rattle.sporc_head.specs.declared.refusal.Refusal.TheVariants.{Memory}
use Rattle.sporc_head.specs.HeadChecks.{head_fault}
use Rattle.sporc_line.specs.Kit.{Kit}
use Rattle.sporc_line.specs.LineChecks.{first_fault}
use Rattle.sporc_store.specs.declared.stop.Stop.{Stop}
use Rattle.sporc_store.specs.declared.stop.Stop.TheVariants.{End, Foreign, Cut, Refused}
use Rattle.sporc_store.specs.SavedFile.{Taken, read_to, first_and, saved_bytes, saved_in, IsPrefix}

-- who checks entries: nobody, the order of a document, or a member by what it was given
pub data Checker : Type 0 where
  nobody : Checker
  an_order : Genesis → Checker
  a_member : Genesis → Kit → Checker

-- the first check that an entry fails behind these
unfoldable pub fault_behind : Checker → List (List ℕ) → List ℕ → Option Refusal
fault_behind nobody entries bytes = None
fault_behind (an_order genesis) entries bytes =
    head_fault genesis None entries (length entries + 1) bytes
fault_behind (a_member genesis kit) entries bytes =
    first_fault genesis kit entries (length entries + 1) bytes

-- each of these entries fails no check of an order where it stands
abbrev pub AreAccepted : Genesis → List (List ℕ) → Type 0
AreAccepted genesis entries = (i : ℕ) (e : List ℕ) → slice_get entries i ≡ Some e
    → head_fault genesis None (take i entries) (i + 1) e ≡ None

-- entries, and one more unless it is refused
abbrev pub appended : Option Refusal → List ℕ → List (List ℕ) → List (List ℕ)
appended None bytes entries = entries ++ bytes ∷ []
appended (Some refusal) bytes entries = entries

-- what is taken from a position on, unless the entry there is refused
abbrev pub unless_refused : Option Refusal → ℕ → Taken → Taken
unless_refused None position taken = taken
unless_refused (Some refusal) position taken = read_to [] (Refused position refusal)

-- of entries that follow those before, up to a stop, the ones that are accepted
unfoldable pub accepted_behind : Checker → List (List ℕ) → List (List ℕ) → Stop → Taken
accepted_behind checker before [] stop = read_to [] stop
accepted_behind checker before (e ∷ es) stop = unless_refused (fault_behind checker before e)
    (length before + 1) (first_and e (accepted_behind checker (before ++ e ∷ []) es stop))

-- entries that were taken, and those that are accepted of the ones that follow, up to a stop
abbrev pub accepted_from : Checker → List (List ℕ) → List (List ℕ) → Stop → Taken
accepted_from checker taken es stop =
    let behind = accepted_behind checker taken es stop in
    read_to (taken ++ behind.entries) behind.stop

-- of entries that were read, the longest prefix that is accepted
abbrev pub accepted : Checker → Taken → Taken
accepted checker read = accepted_behind checker [] read.entries read.stop

-- what is loaded of a file
abbrev pub loaded : Checker → List ℕ → List ℕ → Taken
loaded checker document bytes = accepted checker (saved_in document bytes)

-- an entry that was read behind those that were taken fails the check that the stop names, with its
-- position
abbrev pub StopsAtRefused : Checker → Taken → Taken → Type 0
StopsAtRefused checker read taken =
    (e : List ℕ) → slice_get read.entries (length taken.entries) ≡ Some e
    → IsSomeAnd (fault_behind checker taken.entries e)
    (λ refusal. taken.stop ≡ Refused (length taken.entries + 1) refusal)

-- the file of these entries is loaded whole, if there are not too many, and none is too long
abbrev pub IsLoadedAgain : Checker → List ℕ → List (List ℕ) → Type 0
IsLoadedAgain checker document entries =
    length entries ≤ MAX_ENTRIES → All (λ e. length e ≤ MAX_ENTRY) entries
    → loaded checker document (saved_bytes document entries) ≡ read_to entries End

-- a refusal that a stop carries names a check
abbrev pub NamesCheck : Stop → Type 0
NamesCheck End = Unit {0}
NamesCheck Foreign = Unit {0}
NamesCheck (Cut at) = Unit {0}
NamesCheck (Refused position refusal) = refusal ≢ Memory

-- what is taken in all once a part of the entries was appended: those behind it go on, unless one
-- of the part was refused
abbrev pub taken_on : Option Stop → Checker → List (List ℕ) → List (List ℕ) → Stop → Taken
taken_on None checker taken rest stop = accepted_from checker taken rest stop
taken_on (Some refused) checker taken rest stop = read_to taken refused

-- a part of the entries of a file was appended to these, up to the first that is refused, whatever
-- follows the part
pub record AppendsPart (checker : Checker) (before part : List (List ℕ)) (refused : Option Stop)
    (after : List (List ℕ)) : Type 0 where
  pub taken : (rest : List (List ℕ)) (stop : Stop)
      → accepted_from checker before (part ++ rest) stop ≡ taken_on refused checker after rest stop
  pub count : IfNone refused (length after ≡ length before + length part)
  pub named : IfSome refused NamesCheck

-- the first few of them were, whatever follows
abbrev pub AppendsSome : Checker → List (List ℕ) → List (List ℕ) → List (List ℕ) → Type 0
AppendsSome checker before part after = (rest : List (List ℕ)) (stop : Stop)
    → IsPrefix after (accepted_from checker before (part ++ rest) stop).entries

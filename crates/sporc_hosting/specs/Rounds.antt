-- Rounds of a server: sessions that are served, and logs that are saved, one time after another.
use Rattle.std.specs.Prelude.{◌≡◌, ◌<◌, ◌+◌, ℕ, List, [], ◌∷◌, length, Result, Ok}
use Rattle.sporc_outside.specs.Streams.{StreamTold}
use Rattle.sporc_outside.specs.Folders.{FolderTold}
use Rattle.sporc_outside.specs.Nets.{NetTold}
use Rattle.sporc_serve.specs.declared.fault.ServeFault.{ServeFault}
use Rattle.sporc_files.specs.declared.fault.Fault.{Fault}
use Rattle.sporc_hosting.specs.declared.rounds.RoundEnd.{RoundEnd}
use Rattle.sporc_hosting.specs.Moments.{IsBehind, Moment, moment_of}
use Rattle.sporc_hosting.specs.Serving.{ended}

-- where a server stands between two rounds: the orders that it holds, what folder and sink tell,
-- and the net
pub record Standing (X : Type 0) : Type 0 where
  pub held : X
  pub moment : Moment
  pub net : NetTold

-- a round: where it left the server, what came of saving the logs, and its answer
pub record Round (X : Type 0) : Type 0 where
  pub after : Standing X
  pub saved : Result (Unit {0}) Fault
  pub answer : Result (Unit {0}) Fault

-- where a server stands with these orders, by what folder, sink and net tell
abbrev pub stands : {F O N X : Type 0} → (F → FolderTold) → (O → StreamTold) → (N → NetTold)
    → X → F → O → N → Standing X
stands folder_told sink_told net_told held folder out net = record {
  held = held;
  moment = moment_of folder_told sink_told folder out;
  net = net_told net;
}

-- the round that ended so, where they tell this
abbrev pub ends : {F O N H X : Type 0} → (F → FolderTold) → (O → StreamTold) → (N → NetTold)
    → (H → X) → RoundEnd H → F → O → N → Round X
ends folder_told sink_told net_told orders end folder out net = record {
  after = stands folder_told sink_told net_told (orders end.held) folder out net;
  saved = end.saved;
  answer = end.answer;
}

-- a round of so many sessions: they were served from the orders that were held, and the logs were
-- saved, whatever came of that
pub record IsRoundOf {X : Type 0}
    (Serves : X → X → NetTold → NetTold → ℕ → Result (Unit {0}) ServeFault → Type 0)
    (Keeps : X → Moment → Moment → Result (Unit {0}) Fault → Type 0) (sessions : ℕ)
    (a : Standing X) (r : Round X) : Type 0 where
  pub served : Result (Unit {0}) ServeFault
  pub serves : Serves a.held r.after.held a.net r.after.net sessions served
  pub keeps : Keeps r.after.held a.moment r.after.moment r.saved
  pub answer_is : r.answer ≡ ended served r.saved
  pub behind : IsBehind a.moment r.after.moment

module _ {X : Type 0} (IsRound : Standing X → Round X → Type 0) where
  -- rounds from one moment to another, each of which ended well
  abbrev pub GoWell : Standing X → List (Round X) → Standing X → Type 0
  GoWell a [] b = b ≡ a
  GoWell a (r ∷ rs) b = IsRound a r × (r.answer ≡ Ok tt) × GoWell r.after rs b

  -- so many rounds at the most, each of which but the last ended well; if that did, there were so
  -- many
  pub record GoRounds (times : ℕ) (a : Standing X) (last : Round X) : Type 0 where
    pub rounds : List (Round X)
    pub before : Standing X
    pub well : GoWell a rounds before
    pub last_is : IsRound before last
    pub within : length rounds < times
    pub all : last.answer ≡ Ok tt → length rounds + 1 ≡ times

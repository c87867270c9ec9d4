-- Runs of a server over one log and its tail: openings, entries that are put, logs that are saved,
-- and stops at any moment.
use Rattle.std.specs.Prelude.{◌≡◌, ◌+◌, ◌≤◌, ℕ, false, List, [], ◌∷◌, ◌++◌, length, Option, Some}
use Rattle.std.specs.Prelude.{None, Result, Ok, Err}
use Rattle.sporc_entry.specs.declared.genesis.Genesis.{Genesis}
use Rattle.sporc_head.specs.HeadChecks.{head_fault}
use Rattle.sporc_order.specs.declared.tail.Unkept.{Unkept}
use Rattle.sporc_outside.specs.AppendFile.{AppendTold, IsFileFound, file_images}
use Rattle.sporc_store.specs.Loading.{AreAccepted}
use Rattle.sporc_store.specs.SavedFile.{IsPrefix}
use Rattle.sporc_store.specs.TailFiles.{OpensBehind, Puts, RecoversAt, StaysFound, TailFileModel}
use Rattle.sporc_store.specs.TailFiles.{TakesTail}

-- One thing that happens. A call that a stop cuts off never answers: its move has what the call
-- would have left, the moment, and the file that is found afterwards
pub data TailMove (D : Type 0) : Type 0 where
  -- an opening, and the entries of the order then
  Open : TailFileModel D → List (List ℕ) → TailMove D
  -- one that failed, or was cut off
  OpenFailed : D → TailMove D
  OpenCut : D → ℕ → D → TailMove D
  -- an entry was put
  Put : List ℕ → Result (Unit {0}) Unkept → TailFileModel D → TailMove D
  PutCut : List ℕ → Result (Unit {0}) Unkept → TailFileModel D → ℕ → D → TailMove D
  -- the log was saved, with all entries of the order, and the tail stays as it is
  Save : TailMove D
  -- the server ended, whether its log was saved or not, and gave the file back
  End : TailMove D
  -- the tail of a log that has all entries was removed, and made anew
  Remake : D → TailMove D
  -- a stop between two calls
  Stop : D → TailMove D

-- the saved log, the entries that any order had so far, and the file, or the tail over it
pub record TailState (D : Type 0) : Type 0 where
  pub log : List (List ℕ)
  pub held : List (List ℕ)
  pub file : D
  pub tail : Option (TailFileModel D)

abbrev pub at_rest : {D : Type 0} → TailState D → D → TailState D
at_rest s file = record s { file = file; tail = None }

abbrev pub in_use : {D : Type 0} → TailState D → TailFileModel D → TailState D
in_use s t = record s { file = t.file; tail = Some t }

-- the entries once one was put
abbrev pub held_then : {E : Type 0} → Result (Unit {0}) E → List ℕ → List (List ℕ) → List (List ℕ)
held_then (Ok done) entry held = held ++ entry ∷ []
held_then (Err e) entry held = held

abbrev pub after_move : {D : Type 0} → TailState D → TailMove D → TailState D
after_move s (Open t entries) = record (in_use s t) { held = entries }
after_move s (OpenFailed file) = at_rest s file
after_move s (OpenCut file at found) = at_rest s found
after_move s (Put entry result t) = record (in_use s t) { held = held_then result entry s.held }
after_move s (PutCut entry result t at found) = at_rest s found
after_move s Save = record s { log = s.held }
after_move s End = at_rest s s.file
after_move s (Remake file) = at_rest s file
after_move s (Stop found) = at_rest s found

abbrev pub after_moves : {D : Type 0} → TailState D → List (TailMove D) → TailState D
after_moves s [] = s
after_moves s (move ∷ moves) = after_moves (after_move s move) moves

module _ {D : Type 0} (file_told : D → AppendTold) (genesis : Genesis) where
  -- it is opened behind the saved log, takes what that lacks of what the file holds, and loses
  -- nothing that was found there
  pub record MayOpen (s : TailState D) (t : TailFileModel D)
      (entries : List (List ℕ)) : Type 0 where
    pub rests : s.tail ≡ None
    pub bytes : List ℕ
    pub told : (file_told s.file).stored ≡ Some bytes
    pub takes : TakesTail genesis s.log bytes entries
    pub behind : OpensBehind file_told s.log t entries
    pub document : t.document ≡ genesis.document
    pub sound : t.is_faulty ≡ false
    pub stays : StaysFound file_told s.log genesis.document s.file t.file

  -- a stop in the middle of a call that would have left this file finds that one
  pub record StopsIn (old new : D) (at : ℕ) (found : D) : Type 0 where
    pub begun : (file_told old).moment ≤ at
    pub before_end : at ≤ (file_told new).moment
    pub is_found : IsFileFound file_told new at found

  -- no bytes, and nothing else whatever a crash does
  pub record IsNew (file : D) : Type 0 where
    pub told : (file_told file).stored ≡ Some []
    pub only : (image : List ℕ) → file_images (file_told file) image → image ≡ []

  -- what may happen next
  abbrev pub MayMove : TailState D → TailMove D → Type 0
  MayMove s (Open t entries) = MayOpen s t entries
  MayMove s (OpenFailed file) =
      (s.tail ≡ None) × StaysFound file_told s.log genesis.document s.file file
  MayMove s (OpenCut file at found) = (s.tail ≡ None)
      × StaysFound file_told s.log genesis.document s.file file × StopsIn s.file file at found
  MayMove s (Put entry result t) = (old : TailFileModel D) × (s.tail ≡ Some old)
      × Puts file_told old (length s.held + 1) entry result t
  MayMove s (PutCut entry result t at found) = (old : TailFileModel D) × (s.tail ≡ Some old)
      × Puts file_told old (length s.held + 1) entry result t × StopsIn old.file t.file at found
  MayMove s Save = (t : TailFileModel D) × (s.tail ≡ Some t)
  MayMove s End = Unit {0}
  MayMove s (Remake file) = (s.log ≡ s.held) × IsNew file
  MayMove s (Stop found) = IsFileFound file_told s.file (file_told s.file).moment found

  abbrev pub IsTailRun : TailState D → List (TailMove D) → Type 0
  IsTailRun s [] = Unit {0}
  IsTailRun s (move ∷ moves) = MayMove s move × IsTailRun (after_move s move) moves

  -- an entry that is put has failed no check of the order, behind all that it has: its
  -- `submit_kept` checks before it puts
  abbrev pub IsChecked : TailState D → TailMove D → Type 0
  IsChecked s (Put entry result t) = head_fault genesis None s.held (length s.held + 1) entry ≡ None
  IsChecked s (PutCut entry result t at found) =
      head_fault genesis None s.held (length s.held + 1) entry ≡ None
  IsChecked s move = Unit {0}

  abbrev pub IsCheckedRun : TailState D → List (TailMove D) → Type 0
  IsCheckedRun s [] = Unit {0}
  IsCheckedRun s (move ∷ moves) = IsChecked s move × IsCheckedRun (after_move s move) moves

  -- An order can begin again, whatever a stop leaves of the file now: its checks accept the saved
  -- log, and all that is read behind it, and it has all that any order had
  pub record CanBegin (s : TailState D) : Type 0 where
    pub log : AreAccepted genesis s.log
    pub tail : (image : List ℕ) → file_images (file_told s.file) image → (entries : List (List ℕ))
        × TakesTail genesis s.log image entries × IsPrefix s.held entries

  -- a server that was never started: no tail, and a log that is all that anybody saw
  pub record Begins (s : TailState D) : Type 0 where
    pub rests : s.tail ≡ None
    pub saved : s.held ≡ s.log
    pub is_new : IsNew s.file

  -- whatever happened before, each order begins with all that any order had: nothing that was
  -- answered or handed out is lost, and it stays where it was
  abbrev pub NothingIsLost : Type 0
  NothingIsLost = (s : TailState D) (before after : List (TailMove D))
      → length genesis.document ≡ 16 → Begins s → IsTailRun s (before ++ after)
      → IsPrefix (after_moves s before).held (after_moves s (before ++ after)).held

  -- and whatever a stop then leaves of the file is read behind the saved log as a tail that has all
  -- of this
  abbrev pub IsFoundAgain : Type 0
  IsFoundAgain = (s : TailState D) (run : List (TailMove D)) → length genesis.document ≡ 16
      → Begins s → IsTailRun s run → RecoversAt file_told (after_moves s run).log genesis.document
      (after_moves s run).file (file_told (after_moves s run).file).moment (after_moves s run).held

  -- and if all that was put was checked, and the first log was accepted, an order can always begin
  -- again
  abbrev pub BeginsAgain : Type 0
  BeginsAgain = (s : TailState D) (run : List (TailMove D)) → length genesis.document ≡ 16
      → Begins s → AreAccepted genesis s.log → IsTailRun s run → IsCheckedRun s run
      → CanBegin (after_moves s run)

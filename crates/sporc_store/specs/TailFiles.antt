-- Tails on their files, and what their calls do to what a crash may leave of these.
use Rattle.std.specs.Prelude.{◌≡◌, ◌⊎◌, ◌+◌, ◌^◌, ◌<◌, ◌≤◌, ℕ, zero, suc, Bool, false, min, List}
use Rattle.std.specs.Prelude.{[], ◌∷◌, ◌++◌, length, take, Option, IsSome, Result, Ok, Err, OnOk}
use Rattle.std.specs.Prelude.{OnErr}
use Rattle.sporc_base.specs.Bytes.{IsBytes}
use Rattle.sporc_entry.specs.declared.genesis.Genesis.{Genesis}
use Rattle.sporc_head.specs.declared.limits.TheConstants.{MAX_ENTRIES}
use Rattle.sporc_outside.specs.AppendFile.{AppendTold, GrowsBy, MayBeCut, FileSteps, file_images}
use Rattle.sporc_outside.specs.declared.file_fault.TheConstants.{MAX_FILE}
use Rattle.sporc_outside.specs.Uses.{use_of}
use Rattle.sporc_store.specs.declared.head.TheConstants.{HEAD_LEN}
use Rattle.sporc_store.specs.declared.stop.Stop.{Stop}
use Rattle.sporc_store.specs.declared.stop.Stop.TheVariants.{End, Refused as RefusedAt}
use Rattle.sporc_store.specs.declared.tail_fault.TailFault.{TailFault}
use Rattle.sporc_store.specs.declared.tail_fault.TailFault.TheVariants.{Malformed, Refused, Memory}
use Rattle.sporc_store.specs.SavedFile.{Taken, read_to}
use Rattle.sporc_store.specs.Loading.{an_order, accepted_from}
use Rattle.sporc_store.specs.TailBytes.{FitsRecord, GivesSame, IsTail, Recovers, TailTaken}
use Rattle.sporc_store.specs.TailBytes.{record_bytes, tail_bytes, tail_behind, tail_head}

-- the file, the document, and whether a call of the file failed
pub record TailFileModel (D : Type 0) : Type 0 where
  pub file : D
  pub document : List ℕ
  pub is_faulty : Bool

module _ {D : Type 0} (file_told : D → AppendTold) where
  -- whatever a crash leaves of a file now is the tail of these entries behind so many, and maybe a
  -- part of one more
  abbrev pub HoldsTail : D → List ℕ → ℕ → List (List ℕ) → Type 0
  HoldsTail file document from entries = (image : List ℕ) → file_images (file_told file) image
      → (next : List ℕ) × (kept : ℕ) × IsTail document from entries next kept image

  -- and of none
  abbrev pub IsWhole : D → List ℕ → ℕ → List (List ℕ) → Type 0
  IsWhole file document from entries = (image : List ℕ) → file_images (file_told file) image
      → image ≡ tail_bytes document from entries

  -- the tail keeps the last of these entries, those behind the first few
  pub record Keeps (t : TailFileModel D) (entries before behind : List (List ℕ)) : Type 0 where
    pub parts : entries ≡ before ++ behind
    pub holds : HoldsTail t.file t.document (length before) behind
    pub whole : t.is_faulty ≡ false → IsWhole t.file t.document (length before) behind

  abbrev pub KeepsEntries : TailFileModel D → List (List ℕ) → Type 0
  KeepsEntries t entries =
      (before : List (List ℕ)) × (behind : List (List ℕ)) × Keeps t entries before behind

  -- bytes were appended and synced, or a prefix of them, or none
  pub record Writes {E : Type 0} (bytes : List ℕ) (old new : D)
      (result : Result (Unit {0}) E) : Type 0 where
    pub step : FileSteps (use_of file_told old new) (GrowsBy bytes)
    pub all : OnOk result ((image : List ℕ) → file_images (file_told new) image
        → (before : List ℕ) × file_images (file_told old) before × (image ≡ before ++ bytes))

  -- bytes were cut off and that was synced, or it may have been
  pub record Cuts {E : Type 0} (len : ℕ) (old new : D) (result : Result (Unit {0}) E) : Type 0 where
    pub step : FileSteps (use_of file_told old new) (MayBeCut len)
    pub all : OnOk result ((image : List ℕ) → file_images (file_told new) image
        → (before : List ℕ) × file_images (file_told old) before × (image ≡ take len before))

  -- whatever a crash leaves now are these bytes
  abbrev pub AreSynced : D → List ℕ → Type 0
  AreSynced file bytes = (image : List ℕ) → file_images (file_told file) image → image ≡ bytes

  -- A put of an entry at a position. A crash in the middle of it leaves what it could have left
  -- before, and a prefix of the record. What was kept is kept then, with the entry behind it if the
  -- put succeeded. The file is as it was unless the tail was sound and the record is one
  pub record Puts {E : Type 0} (old : TailFileModel D) (position : ℕ) (entry : List ℕ)
      (result : Result (Unit {0}) E) (new : TailFileModel D) : Type 0 where
    pub document : new.document ≡ old.document
    pub writes : Writes (record_bytes position entry) old.file new.file result
    pub acts : (new ≡ old) ⊎ ((old.is_faulty ≡ false) × FitsRecord entry × (position < 2 ^ 31))
    pub ok : OnOk result ((entries before behind : List (List ℕ)) → Keeps old entries before behind
        → position ≡ length entries + 1
        → Keeps new (entries ++ entry ∷ []) before (behind ++ entry ∷ []))
    pub err : OnErr result
        ((entries before behind : List (List ℕ)) → Keeps old entries before behind
        → position ≡ length entries + 1 → Keeps new entries before behind)

  -- whatever a crash left of the file at a moment gave these entries behind a log
  abbrev pub RecoversAt : List (List ℕ) → List ℕ → D → ℕ → List (List ℕ) → Type 0
  RecoversAt log document file at entries =
      (image : List ℕ) → (file_told file).images at image → Recovers log document image entries

  -- from one moment to another, what a crash leaves gives behind a log what something gives that it
  -- could have left at first
  abbrev pub StaysFound : List (List ℕ) → List ℕ → D → D → Type 0
  StaysFound log document old new = FileSteps (use_of file_told old new) (GivesSame log document)

-- an order's entries, once it took those that its log lacks of a tail
pub record TakesTail (genesis : Genesis) (log : List (List ℕ)) (bytes : List ℕ)
    (entries : List (List ℕ)) : Type 0 where
  pub taken : TailTaken
  pub reads : tail_behind log genesis.document bytes ≡ Ok taken
  pub accepted : accepted_from (an_order genesis) log taken.entries End ≡ read_to entries End
  pub all : entries ≡ log ++ taken.entries

-- a log between what a tail was opened behind and all that it holds
pub record Between (log before behind front more : List (List ℕ)) : Type 0 where
  pub log_is : log ≡ before ++ front
  pub behind_is : behind ≡ front ++ more

-- a tail that was opened behind a log: it keeps the entries of the order, which begin with the
-- log's
abbrev pub OpensBehind : {D : Type 0} → (D → AppendTold) → List (List ℕ) → TailFileModel D
    → List (List ℕ) → Type 0
OpensBehind file_told log t entries = (before : List (List ℕ)) × (behind : List (List ℕ))
    × (front : List (List ℕ)) × (more : List (List ℕ))
    × Keeps file_told t entries before behind × Between log before behind front more

-- a tail on this file, no call of which failed
abbrev pub tail_on : {D : Type 0} → D → List ℕ → TailFileModel D
tail_on file document = record { file = file; document = document; is_faulty = false }

-- a file whose synced bytes were read behind a log was made one that is appended to
pub record Settles {D E : Type 0} (file_told : D → AppendTold) (log : List (List ℕ))
    (document : List ℕ) (taken : TailTaken)
    (old new : D) (result : Result (Unit {0}) E) : Type 0 where
  pub stays : StaysFound file_told log document old new
  pub opens : OnOk result (OpensBehind file_told log (tail_on new document) (log ++ taken.entries))

-- it was, whatever the log, if the file and the log are not too long
abbrev pub SettlesRead : {D E : Type 0} → (D → AppendTold) → List ℕ → TailTaken → D → D
    → Result (Unit {0}) E → Type 0
SettlesRead file_told document taken old new result =
    (log : List (List ℕ)) (bytes : List ℕ) → IsBytes bytes → length bytes ≤ MAX_FILE
    → length log ≤ MAX_ENTRIES → AreSynced file_told old bytes
    → tail_behind log document bytes ≡ Ok taken
    → Settles file_told log document taken old new result

-- how many bytes of a file count: up to the last whole record, or those of the head if the log has
-- all records
abbrev pub counting_of : List (List ℕ) → ℕ → ℕ
counting_of [] whole = min whole HEAD_LEN
counting_of (e ∷ es) whole = whole

abbrev pub counting : TailTaken → ℕ
counting taken = counting_of taken.entries taken.whole

-- what is written behind so many bytes that count: a head if there are none
abbrev pub head_behind : List ℕ → ℕ → List ℕ
head_behind document zero = tail_head document
head_behind document (suc n) = []

-- a check refused an entry, and what its fault is
abbrev pub IsRefused : Stop → Type 0
IsRefused (RefusedAt position refusal) = Unit {0}
IsRefused stop = ⊥

abbrev pub IsFaultOf : Stop → TailFault → Type 0
IsFaultOf (RefusedAt position refusal) fault = fault ≡ Refused position refusal
IsFaultOf stop fault = ⊥

-- why entries are not all taken, of which these would be
abbrev pub IsRefusal : Taken → TailFault → Type 0
IsRefusal taken (Refused position refusal) = taken.stop ≡ RefusedAt position refusal
IsRefusal taken Memory = Unit {0}
IsRefusal taken fault = ⊥

-- why a tail that reads so is not taken behind an order's entries
abbrev pub IsTakingFault : Genesis → List (List ℕ) → Result TailTaken TailFault → TailFault → Type 0
IsTakingFault genesis log tail (Malformed at) = tail ≡ Err (Malformed at)
IsTakingFault genesis log tail (Refused position refusal) = (taken : TailTaken) × (tail ≡ Ok taken)
    × ((accepted_from (an_order genesis) log taken.entries End).stop ≡ RefusedAt position refusal)
IsTakingFault genesis log tail Memory = Unit {0}
IsTakingFault genesis log tail fault = ⊥

-- a file that told its bytes still tells some
abbrev pub TellsStill : Option (List ℕ) → Option (List ℕ) → Type 0
TellsStill old new = IsSome old → IsSome new

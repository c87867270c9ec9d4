-- The comparison of two devices' saved histories.
use Rattle.std.specs.Prelude.{◌≡◌, ◌<◌, ℕ, List, length, slice_get, Option, Result, Ok}
use Rattle.std.specs.Global.{Vec}
use Rattle.sporc_bytes.specs.Fields.{◌>>=◌}
use Rattle.sporc_outside.specs.Counts.{Rose}
use Rattle.sporc_outside.specs.Folders.{FolderTold}
use Rattle.sporc_outside.specs.Uses.{Use}
use Rattle.sporc_outside.specs.declared.named_file.NamedFile.{NamedFile}
use Rattle.sporc_hash.specs.Chain.{chain}
use Rattle.sporc_hash.specs.declared.verdict.Verdict.{Verdict}
use Rattle.sporc_entry.specs.declared.genesis.Genesis.{Genesis}
use Rattle.sporc_entry.specs.Genesis.{genesis_bytes}
use Rattle.sporc_member.specs.declared.device.Device.{Device}
use Rattle.sporc_report.specs.ClientLines.{Stands, compare_line}
use Rattle.sporc_files.specs.declared.fault.Fault.{Fault}
use Rattle.sporc_files.specs.declared.file.File.{File}
use Rattle.sporc_files.specs.declared.file.File.TheVariants as files
use Rattle.sporc_files.specs.Names.{FileNames, file_name}
use Rattle.sporc_files.specs.Faults.{AnswersUnlessOutside}
use Rattle.sporc_files.specs.Contents.{IsFileAt, genesis_in, entries_in}

-- the files of a comparison, in the order in which they are read
pub record ComparedFiles : Type 0 where
  pub genesis : Option (List ℕ)
  pub first : Option (List ℕ)
  pub second : Option (List ℕ)

-- the chains of two histories
pub record Chains : Type 0 where
  pub first : List (List ℕ)
  pub second : List (List ℕ)

-- the chain of a document's saved history, unchecked
abbrev pub chain_in : Genesis → File → Option (List ℕ) → Result (List (List ℕ)) Fault
chain_in genesis file content = entries_in file genesis.document content
    >>= λ entries. Ok (chain (genesis_bytes genesis) entries)

-- a chain as a call gives it
abbrev pub values_of : Vec (List ℕ) → List (List ℕ)
values_of chain = chain.items

-- the chains of the saved histories of two devices
abbrev pub chains_in : Device → Device → ComparedFiles → Result Chains Fault
chains_in m n content = do
  genesis ← genesis_in content.genesis
  first ← chain_in genesis (files.History m) content.first
  second ← chain_in genesis (files.History n) content.second
  Ok (record { first = first; second = second })

-- the files of a comparison, as a folder holds them
pub record AreComparedFiles (told : Option (List NamedFile)) (names : FileNames) (m n : Device)
    (content : ComparedFiles) : Type 0 where
  pub genesis : IsFileAt told (file_name names files.Genesis) content.genesis
  pub first : IsFileAt told (file_name names (files.History m)) content.first
  pub second : IsFileAt told (file_name names (files.History n)) content.second

-- two chains as a call gives them
abbrev pub both_chains : Vec (List ℕ) × Vec (List ℕ) → Chains
both_chains chains = record { first = values_of chains.0; second = values_of chains.1 }

-- the chains were found in the files of a folder
abbrev pub FindsChains : Use FolderTold → FileNames → Device → Device
    → Result (Vec (List ℕ) × Vec (List ℕ)) Fault → Type 0
FindsChains folder names m n result =
    (content : ComparedFiles) × AreComparedFiles folder.before.files names m n content
    × AnswersUnlessOutside both_chains (Rose folder.before.faults folder.after.faults) result
    (chains_in m n content)

-- two chains begin with one value
pub record AreOfOneGenesis (a b : List (List ℕ)) : Type 0 where
  pub begun : 0 < length a
  pub one_genesis : slice_get a 0 ≡ slice_get b 0

-- a line that says how one chain stands to another: if values of both meet again after they parted,
-- any place at which they part may stand in it
abbrev pub IsVerdictLine : Device → Device → Chains → List ℕ → Type 0
IsVerdictLine m n chains line = (verdict : Verdict) × Stands chains.first chains.second verdict
    × (line ≡ compare_line (record { first = m; second = n }) verdict)

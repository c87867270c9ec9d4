-- What is saved and printed once a session has ended, and what stands of the leaf file.
use Rattle.std.specs.Prelude.{◌≡◌, ◌+◌, ◌<◌, ◌≤◌, ℕ, List, length, option_map, Result, Ok}
use Rattle.std.specs.Prelude.{Err, ⊤}
use Rattle.std.specs.Io.KnownBytes.{Appends}
use Rattle.lms_leaf.specs.LeafFile.{ArePassed, AreTaken}
use Rattle.sporc_client.specs.ClientModel.{Rise, leaves_of}
use Rattle.sporc_outside.specs.Counts.{Rose}
use Rattle.sporc_outside.specs.Folders.{FolderTold}
use Rattle.sporc_outside.specs.Files.{ChangesFile, with_file}
use Rattle.sporc_outside.specs.Uses.{Use}
use Rattle.sporc_outside.specs.Writing.{AppendsPrefix}
use Rattle.sporc_outside.specs.declared.file_fault.TheConstants.{MAX_FILE}
use Rattle.sporc_outside.specs.Streams.{IsUnwritten, StreamTold}
use Rattle.sporc_shared.specs.Items.{Past, client_of}
use Rattle.sporc_store.specs.SavedFile.{saved_bytes}
use Rattle.sporc_files.specs.declared.fault.Fault.{Fault}
use Rattle.sporc_files.specs.declared.fault.Fault.TheVariants as faults
use Rattle.sporc_clients.specs.Report.{report_of}

-- the file of a client's history
abbrev pub history_bytes : Past → List ℕ
history_bytes past = saved_bytes past.opening.genesis.document (client_of past).entries

-- What was saved of a client, whatever its session came to: all its entries, as the file with this
-- name, and nothing else. Or a call of the folder failed, and anything may stand there; or nothing
-- was written, since the file would be too long, or since memory ran out as its bytes were made
abbrev pub SaveOutcome : Past → List ℕ → Use FolderTold → Result ⊤ Fault → Type 0
SaveOutcome past name folder (Ok done) = folder.after.files
    ≡ option_map (λ old. with_file old name (history_bytes past)) folder.before.files
SaveOutcome past name folder (Err faults.Outside) = Rose folder.before.faults folder.after.faults
    × ChangesFile folder.before.files folder.after.files name
SaveOutcome past name folder (Err faults.FullFile) =
    (MAX_FILE < length (history_bytes past)) × (folder.after.files ≡ folder.before.files)
SaveOutcome past name folder (Err faults.Memory) = folder.after.files ≡ folder.before.files
SaveOutcome past name folder (Err fault) = ⊥

-- What was printed of a client, whatever its session and its saving came to: journal and report,
-- and nothing else. Or a call of the sink failed behind a prefix of them; or memory ran out as they
-- were made, before any call of the sink
abbrev pub PrintOutcome : Past → Use StreamTold → Result ⊤ Fault → Type 0
PrintOutcome past out (Ok done) = Appends out.before.written out.after.written (report_of past)
PrintOutcome past out (Err faults.Outside) = Rose out.before.faults out.after.faults
    × AppendsPrefix out.before.written out.after.written (report_of past)
PrintOutcome past out (Err faults.Memory) = IsUnwritten out
PrintOutcome past out (Err fault) = ⊥

-- the leaves of a log's submissions rise from the first on, each once, and one more at most was
-- drawn; no crash makes the blocks of any of them free again; whatever a crash leaves, a later
-- opening goes on at the next leaf or above it
pub record LeavesAreTaken (images : List ℕ → Type 0) (past : Past) : Type 0 where
  pub next : ℕ
  pub forward : past.first_leaf ≤ next
  pub few : next ≤ past.first_leaf + length (leaves_of past.log) + 1
  pub rise : Rise past.first_leaf next (leaves_of past.log)
  pub taken : AreTaken images past.first_leaf next
  pub passed : ArePassed images next

-- The names of this crate and of those below that many of its proofs cite, passed on from one place.
pub use Rattle.sporc_commands.specs.Founding.{FoundOutcome, IsStoreFault, MayFound, founding_files, ring_of_founding}
pub use Rattle.sporc_files.specs.Faults.{WritesFaultLine, fault_line, fault_of_words, status_of}
pub use Rattle.sporc_files.specs.Names.{FileNames, file_name, names_of_document}
pub use Rattle.sporc_files.specs.Writing.{Stores, StoresFirst, StoresPrefix, file_with, with_files, with_one}
pub use Rattle.sporc_files.specs.declared.fault.Fault.{Fault}
pub use Rattle.sporc_keys.specs.KeyFile.{IsKeyWidth, key_file_bytes}
pub use Rattle.sporc_words.specs.Commands.{command_of}
pub use Rattle.sporc_words.specs.declared.client.Client.{Client}
pub use Rattle.sporc_words.specs.declared.command.Command.{Command}
pub use Rattle.sporc_words.specs.declared.found.Found.{Found}
pub use Rattle.sporc_words.specs.declared.keygen.Keygen.{Keygen}
pub use Rattle.sporc_words.specs.declared.serve.Serve.{Serve}
pub use Rattle.sporc_words.specs.declared.serve_all.ServeAll.{ServeAll}
pub use Rattle.std.proofs.lemmas.Bool.{and_parts, false_from_ne_true, leb-true, ltb-true}
pub use Rattle.std.proofs.lemmas.Option.{cond_some, same_Some}
pub use Rattle.std.proofs.lemmas.Slice.Eq.{bytes_eq-Decides}
pub use Rattle.std.specs.Bool.{⊤}
pub use Rattle.std.specs.List.{AllByRecursion, after_first, before_first}
pub use Rattle.std.specs.Str.{bytes_eq}
pub use Rattle.sporc_bytes.specs.Fields.{fault_as}
pub use Rattle.sporc_outside.specs.Files.{ChangesFile, HasNoFile, IsDiskOf, RemovesFile, TakesBack, TakesFile, file_in, made_in, with_file}
pub use Rattle.sporc_outside.specs.Folders.{FolderTold}
pub use Rattle.sporc_outside.specs.LeafDisk.{DiskTold, IsDiskFound, disk_images}
pub use Rattle.sporc_outside.specs.Streams.{IsUnwritten, StreamTold}
pub use Rattle.sporc_outside.specs.Uses.{Use}
pub use Rattle.sporc_outside.specs.declared.named_file.NamedFile.{NamedFile}
pub use Rattle.sporc_member.specs.declared.device.Device.{Device}
pub use Rattle.lms_leaf.specs.Lives.{AreLives, GoesOn, IsLife, LeafLife, all_given}
pub use Rattle.sporc_clients.specs.Uses.{from, until}
pub use Rattle.sporc_top.specs.LeafFiles.{AreProgramRuns, FindsLeafFile, GoesOnOver, LeavesLeafFile, MakesLeafFile, ProgramRun, SignOnceOverRuns, all_signed_over, behind_then, by_command, by_end}
pub use Rattle.sporc_top.specs.LeafFiles.{by_outcome, file_at, if_over, leaf_name, life_of, over_its_disk, over_leaf_file, signed_over}
pub use Rattle.sporc_top.specs.Needs.{needs_by, needs_of}
pub use Rattle.sporc_top.specs.Outcome.{Ends, RunOutcome, UnlessCutOff, command, done, no_command, stopped, unread}
pub use Rattle.sporc_top.specs.Performing.{GeneratedOutcome, Performs, PlaysEdits, PlaysSource, ServesDocument, ServesDocuments, WorksAsMember, fault_of_play, names_of, no_files}
pub use Rattle.sporc_top.specs.Uses.{IsUnused, OutsideUse, client_use}

-- The names of this crate and of those below that many of its proofs cite, passed on from one place.
pub use Rattle.sporc_files.proofs.Answering.{fails_first, tells_alone, tells_behind}
pub use Rattle.sporc_files.proofs.Asking.{AsksOnly-among, AsksOnly-none, AsksOnly-trans, asks_first, asks_then}
pub use Rattle.sporc_files.proofs.FaultCases.{IsPart, WriteCase, WriteFailed, WriteMemory, file_within, if_err, says_now, write_case}
pub use Rattle.sporc_files.specs.Faults.{AnswersUnlessOutside, IsOutsideFault, whole}
pub use Rattle.sporc_files.specs.Names.{FileNames, file_name, names_of_document}
pub use Rattle.sporc_files.specs.Reading.{IsFileFault, SaysFile, any_bytes, genesis_file, key_file, own_key_file}
pub use Rattle.sporc_files.specs.Uses.{AsksOnly}
pub use Rattle.sporc_files.specs.Writing.{LeavesFile, Stores, StoresFirst, StoresPrefix, file_with, with_files, with_one}
pub use Rattle.sporc_files.specs.declared.fault.Fault.{Fault}
pub use Rattle.sporc_files.specs.declared.file.File.{File}
pub use Rattle.sporc_keys.specs.Founding.{CanFound, IsFounding, in_order, is_first_admin, number_of, numbers_of, ring_of, shared_keys}
pub use Rattle.sporc_keys.specs.RingFile.{ring_file_bytes, ring_file_of_member}
pub use Rattle.sporc_keys.specs.declared.named.Named.{Named}
pub use Rattle.sporc_keys.specs.declared.ring_file.RingFile.{RingFile}
pub use Rattle.sporc_store.specs.SavedFile.{Taken, read_to, saved_in}
pub use Rattle.sporc_words.specs.declared.standing.Participant.{Participant}
pub use Rattle.std.proofs.lemmas.List.{map-append, take-append-drop, take_more}
pub use Rattle.std.proofs.lemmas.Result.{err_from_is_err_and}
pub use Rattle.std.specs.Global.{Vec}
pub use Rattle.std.specs.List.{AllByRecursion, Contains, slice_get}
pub use Rattle.std.specs.Prelude.{Ok, codes, length, ◌++◌}
pub use Rattle.sporc_bytes.specs.Fields.{◌>>=◌}
pub use Rattle.sporc_outside.specs.Counts.{Rose}
pub use Rattle.sporc_outside.specs.Files.{HasNoFile, file_in, with_file}
pub use Rattle.sporc_outside.specs.Uses.{Use, use_of}
pub use Rattle.sporc_outside.specs.declared.named_file.NamedFile.{NamedFile}
pub use Rattle.sporc_hash.specs.Chain.{chain, genesis_value, last_value, next_value}
pub use Rattle.sporc_member.specs.Device.{IsMember, first_device}
pub use Rattle.sporc_member.specs.declared.device.Device.{Device}
pub use Rattle.sporc_entry.specs.Genesis.{genesis_bytes}
pub use Rattle.sporc_entry.specs.declared.genesis.Genesis.{Genesis}
pub use Rattle.sporc_line.specs.Kit.{Kit}
pub use Rattle.sporc_line.specs.LineModel.{LineModel}
pub use Rattle.sporc_outside.specs.Folders.{FolderTold}
pub use Rattle.sporc_outside.specs.Streams.{IsUnwritten, StreamTold}
pub use Rattle.lms_tree.specs.LmsPrivate.{LmsPrivate, lms_public_of}
pub use Rattle.sporc_store.specs.Loading.{a_member, loaded}
pub use Rattle.std.specs.Result.{IfErr, OnOk}
pub use Rattle.std.specs.Str.{bytes_eq}
pub use Rattle.sporc_keys.specs.declared.new_key.NewKey.{NewKey}
pub use Rattle.sporc_keys.specs.KeyFile.{key_file_bytes, key_file_of, private_in}
pub use Rattle.std.proofs.lemmas.Bool.{and_parts, leb-true, not-true, or_parts}
pub use Rattle.sporc_words.specs.declared.found.Found.{Found}
pub use Rattle.sporc_words.specs.declared.standing.Standing.TheVariants.{Founder, Joiner}
pub use Rattle.sporc_commands.specs.Checking.{AreCheckedFiles, CheckedFiles, CheckedLine, FindsLine, IsCheckedLine, checked_files, checked_in, checked_line, entries_for_hints, examined, kit_in}
pub use Rattle.sporc_commands.specs.Checking.{line_in, line_of_whole}
pub use Rattle.sporc_commands.specs.Comparing.{AreOfOneGenesis, Chains, FindsChains, IsVerdictLine, both_chains, chain_in, chains_in, values_of}
pub use Rattle.sporc_files.specs.Contents.{AnswersOfFile, IsFileAt, bytes_in, entries_in, entries_of, genesis_in, said}
pub use Rattle.sporc_commands.specs.Founding.{AreNamed, FirstBadKey, FoundOutcome, IsNamed, IsStoreFault, MayFound, found_files, founding_files, key_read, keys_read, names_in, ring_of_founding}
pub use Rattle.sporc_commands.specs.Founding.{rings_written}
pub use Rattle.sporc_commands.specs.Outcomes.{CompareOutcome, Examines}
pub use Rattle.sporc_commands.specs.Telling.{IsJust, lines_from, text_at, text_in}
pub use Rattle.sporc_commands.specs.KeyMaking.{StoresKey, key_line}

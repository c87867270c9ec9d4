-- The names of this crate and of those below that many of its proofs cite, passed on from one place.
pub use Rattle.std.proofs.lemmas.List.{length-append, map-append}
pub use Rattle.std.proofs.lemmas.List.Elements.{All-contains, All-nil, All-push, Contains-append_left, Contains-push}
pub use Rattle.std.proofs.lemmas.Result.{err_from_is_err_and}
pub use Rattle.std.specs.Prelude.{Err, IfErr, IfOk, Ok, Result, if◌then◌else◌, is_none, ⊤}
pub use Rattle.lms_leaf.specs.LeafFile.{block_count}
pub use Rattle.lms_leaf.specs.Leaves.{KeepsStable}
pub use Rattle.sporc_device.specs.Fetching.{IsFetchAt}
pub use Rattle.sporc_device.specs.LeafFile.{KeepsPassed}
pub use Rattle.sporc_device.specs.MemberFiles.{SayScripts, SaysScript, script_files}
pub use Rattle.sporc_device.specs.Opening.{Begin, HasEntries, NotOpened, Opens, founds, joins, kit_from, links_for_hints, no_entries, no_kit}
pub use Rattle.sporc_device.specs.Resuming.{IsResumed, NotResumed, checked_before, not_loaded, not_opened, not_whole}
pub use Rattle.sporc_entry.specs.declared.genesis.Genesis.{Genesis}
pub use Rattle.sporc_exchange.specs.Wires.{InboxModel, LinkStand, LinkTold, link_stand, link_told}
pub use Rattle.sporc_files.proofs.FaultCases.{IsPart, file_within, if_err, says_now}
pub use Rattle.sporc_files.specs.Names.{FileNames, file_name}
pub use Rattle.sporc_files.specs.Uses.{AsksAtMost}
pub use Rattle.sporc_files.specs.declared.fault.Fault.{Fault}
pub use Rattle.sporc_files.specs.declared.file.File.{File}
pub use Rattle.sporc_files.specs.declared.file.File.TheVariants.{Genesis as GenesisFile, History, Key, Ring, Script}
pub use Rattle.sporc_keys.specs.declared.ring_file.RingFile.{RingFile}
pub use Rattle.sporc_line.specs.LineModel.{LineModel}
pub use Rattle.sporc_member.specs.declared.device.Device.{Device}
pub use Rattle.sporc_outside.proofs.Returning.{shut_none, shut_one}
pub use Rattle.sporc_outside.specs.Counts.{count_of_both}
pub use Rattle.sporc_outside.specs.Files.{HasFile}
pub use Rattle.sporc_outside.specs.Folders.{FolderTold}
pub use Rattle.sporc_outside.specs.LeafDisk.{DiskTold, disk_images}
pub use Rattle.sporc_outside.specs.Nets.{NetTold}
pub use Rattle.sporc_outside.specs.Told.{AppendsItem, MayAppend, TakesItem}
pub use Rattle.sporc_outside.specs.Uses.{Use, use_of}
pub use Rattle.sporc_outside.specs.declared.named_file.NamedFile.{NamedFile}
pub use Rattle.sporc_script.specs.declared.editor_line.EditorLine.{EditorLine}
pub use Rattle.sporc_session.specs.Fetches.{IsFetch}
pub use Rattle.sporc_session.specs.declared.fault.SessionFault.{SessionFault}

-- The names of this crate and of those below that many of its proofs cite, passed on from one place.
pub use Rattle.sporc_files.proofs.FaultCases.{file_within}
pub use Rattle.sporc_files.specs.Names.{FileNames, file_name}
pub use Rattle.sporc_files.specs.Uses.{AsksAtMost, AsksOnly}
pub use Rattle.sporc_files.specs.declared.fault.Fault.{Fault}
pub use Rattle.sporc_files.specs.declared.file.File.TheVariants.{History, Leaf}
pub use Rattle.sporc_keys.specs.declared.ring_file.RingFile.{RingFile}
pub use Rattle.sporc_session.specs.declared.fault.SessionFault.{SessionFault}
pub use Rattle.sporc_shared.specs.Items.{IsAllowed, Item, Past, items_of, past_of}
pub use Rattle.sporc_words.specs.declared.client.Client.{Client as Words}
pub use Rattle.std.proofs.lemmas.List.{map-append}
pub use Rattle.std.proofs.lemmas.Result.{err_from_is_err_and}
pub use Rattle.std.specs.Prelude.{Err, IfErr, Ok, Result, drop, option_map, ⊤}
pub use Rattle.lms_leaf.specs.LeafFile.{ArePassed, AreTaken, taken_blocks}
pub use Rattle.lms_leaf.specs.Leaves.{LeavesModel}
pub use Rattle.sporc_outside.proofs.Returning.{shut_none, shut_one, shut_then}
pub use Rattle.sporc_outside.specs.Chances.{ChanceTold}
pub use Rattle.sporc_outside.specs.Counts.{Rose, count_of_both}
pub use Rattle.sporc_outside.specs.LeafDisk.{DiskTold, disk_images}
pub use Rattle.sporc_outside.specs.Folders.{FolderTold}
pub use Rattle.sporc_outside.specs.Nets.{NetTold}
pub use Rattle.sporc_outside.specs.Told.{IsPositive, MayAppend}
pub use Rattle.sporc_outside.specs.Uses.{Use, use_of}
pub use Rattle.sporc_outside.specs.declared.named_file.NamedFile.{NamedFile}
pub use Rattle.sporc_member.specs.declared.device.Device.{Device}
pub use Rattle.sporc_entry.specs.declared.genesis.Genesis.{Genesis}
pub use Rattle.sporc_client.specs.ClientModel.{ClientModel, Rise, first_leaf_of, kept_count, leaves_of}
pub use Rattle.std.proofs.lemmas.List.Elements.{All-cons, All-nil, All-push, All-weaker, Contains-push}
pub use Rattle.sporc_files.specs.declared.file.File.{File}
pub use Rattle.sporc_session.specs.Traces.{IsAllowedLog, Stand, Trace}
pub use Rattle.sporc_exchange.specs.Wires.{InboxModel, LinkTold, empty_inbox, link_told}
pub use Rattle.lms_tree.specs.LmsPrivate.{LmsPrivate}
pub use Rattle.sporc_outside.specs.Files.{IsDiskOf}
pub use Rattle.sporc_clients.specs.Attending.{IsAttended, NotAttended, not_begun, not_resumed}
pub use Rattle.sporc_clients.specs.Causes.{ended}
pub use Rattle.sporc_device.specs.MemberFiles.{IsMemberFault, SayMember, own_files}
pub use Rattle.sporc_clients.specs.Nets.{IsWork, NotBegun, out_of_memory, unreached}
pub use Rattle.sporc_device.specs.Opening.{begin_with, links_for_hints}
pub use Rattle.sporc_clients.specs.Outcome.{ClientOutcome, ClientUse, DiskOutcome, client_files, names_of, no_disk, no_history, no_leaves, no_member, no_session, not_worked, over_disk, worked}
pub use Rattle.sporc_clients.specs.Sessions.{IsSessionOf, stand_at}
pub use Rattle.sporc_clients.specs.declared.session.Wanted.{Wanted}
pub use Rattle.sporc_script.specs.declared.editor_line.EditorLine.{EditorLine}
pub use Rattle.sporc_clients.specs.Concluding.{LeavesAreTaken, SaveOutcome}

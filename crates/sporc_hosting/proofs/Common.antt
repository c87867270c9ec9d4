-- The names of this crate and of those below that many of its proofs cite, passed on from one place.
pub use Rattle.sporc_files.proofs.Answering.{fails_first, tells_alone, tells_behind, tells_later, tells_memory}
pub use Rattle.sporc_files.proofs.Asking.{AsksOnly-among, AsksOnly-none, AsksOnly-trans, asks_again, asks_first, asks_less, asks_more, asks_once, asks_then}
pub use Rattle.sporc_files.specs.Faults.{AnswersUnlessOutside, fault_among, unless_stopped}
pub use Rattle.sporc_files.specs.Names.{FileNames, file_name, names_of_document}
pub use Rattle.sporc_files.specs.Reading.{IsAppendingFault, IsFileFault, SaysFile, SaysFileIfThere, any_bytes, genesis_file}
pub use Rattle.sporc_files.specs.Uses.{AsksAtMost, AsksOnly}
pub use Rattle.sporc_files.specs.declared.fault.Fault.{Fault}
pub use Rattle.sporc_files.specs.declared.file.File.{File}
pub use Rattle.sporc_order.specs.OrderModel.{OrderModel}
pub use Rattle.sporc_store.specs.SavedFile.{IsPrefix, Taken, read_to}
pub use Rattle.std.proofs.lemmas.List.{append_cancel_left, length-append, take-append-drop, take-take, take_at}
pub use Rattle.std.proofs.lemmas.Result.{err_from_is_err_and}
pub use Rattle.std.specs.Global.{Vec}
pub use Rattle.std.specs.Prelude.{IfOk, IfSome, OnErr, OnOk, option_map, string_bytes}
pub use Rattle.sporc_bytes.specs.Fields.{fault_as, ◌>>=◌}
pub use Rattle.sporc_outside.specs.AppendFile.{AppendTold, file_images}
pub use Rattle.sporc_outside.specs.Counts.{Rose, count_of_both}
pub use Rattle.sporc_outside.specs.Files.{ChangesFile, HasNoFile, IsAppendedTo, TakesFile, file_in, made_in, or_empty, with_bytes}
pub use Rattle.sporc_outside.specs.Uses.{Use, use_of}
pub use Rattle.sporc_outside.specs.declared.named_file.NamedFile.{NamedFile}
pub use Rattle.sporc_entry.specs.declared.genesis.Genesis.{Genesis}
pub use Rattle.sporc_store.specs.Loading.{accepted_from, an_order}
pub use Rattle.std.specs.Str.{bytes_eq}
pub use Rattle.std.proofs.lemmas.Bool.{false_from_ne_true}
pub use Rattle.sporc_outside.specs.declared.file_fault.TheConstants.{MAX_FILE}
pub use Rattle.sporc_files.specs.Contents.{AnswersOfFile, IsFileAt, bytes_in, genesis_in}
pub use Rattle.sporc_files.proofs.ReadFiles.{fails, is_there, says, there}
pub use Rattle.sporc_docs.proofs.Opening.{both_more, kept_length}
pub use Rattle.std.specs.List.{AllZip}
pub use Rattle.sporc_docs.specs.Served.{AreKept}
pub use Rattle.sporc_hosting.specs.Outcomes.{IsRound, ServeOutcome, log_line}
pub use Rattle.sporc_hosting.specs.Rounds.{ends, stands}
pub use Rattle.sporc_hosting.specs.Serving.{AreServedFiles, FindsOrder, FindsOrderBehind, HasLogged, ServedFiles, ended, fault_of_tail, log_in, logged, logged_in, order_behind, order_of_whole}
pub use Rattle.sporc_hosting.specs.Serving.{order_with, served_files, tail_in, with_tail}
pub use Rattle.sporc_hosting.specs.Tails.{GivesAll, GivesBack, KeepsBehind, KeepsLast, KeepsTail, LogTailModel, TakesTail, after_last}
pub use Rattle.sporc_hosting.specs.declared.opening.LoggedOrder.{LoggedOrder}
pub use Rattle.sporc_hosting.specs.declared.opening.OpenedOrder.{OpenedOrder}
pub use Rattle.sporc_hosting.specs.Moments.{moment_of}
pub use Rattle.sporc_hosting.specs.Hosting.{AreHeld, GivesAllBack, IsRoundOfAll, ServeAllOutcome}
pub use Rattle.sporc_hosting.specs.Loading.{AreFilesOfAll, AreOpen, AreOpenTo, ChangesTails, FindsHeld, FindsUnlessHeld, IsNoTail, OpensMore, OpensOne, added, files_of_all, files_of_one, is_held}
pub use Rattle.sporc_hosting.specs.Loading.{opened_in, opened_to, order_unless_held, orders_in, unless_held, with_document, with_tail_made, with_tails_made}
pub use Rattle.sporc_hosting.specs.OpenLogModel.{OpenLogModel}
pub use Rattle.sporc_hosting.specs.Saving.{KeepsLogs, logs_of}

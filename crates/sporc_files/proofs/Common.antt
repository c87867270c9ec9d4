-- The names of this crate and of those below that many of its proofs cite, passed on from one place.
pub use Rattle.std.proofs.lemmas.List.{append_cancel_left, drop_at, length-reverse, reverse-append, reverse-reverse, take-append-drop}
pub use Rattle.std.specs.Fmt.{decimal}
pub use Rattle.std.specs.Io.KnownBytes.{Appends}
pub use Rattle.std.specs.List.{Contains, flat_map}
pub use Rattle.std.specs.Result.{IfErr, OnErr, OnOk}
pub use Rattle.sporc_outside.proofs.Prefixes.{AppendsPrefix-all, AppendsPrefix-first, AppendsPrefix-then}
pub use Rattle.sporc_outside.specs.Counts.{CountsFaults, Rose}
pub use Rattle.sporc_outside.specs.Files.{ChangesFile, HasFile, HasNoFile, IsAppendFault, IsDiskFault, IsReadFault, IsTooLong}
pub use Rattle.sporc_outside.specs.declared.file_fault.FileFault.{FileFault}
pub use Rattle.sporc_outside.specs.declared.file_fault.FileFault.TheVariants.{Exists, Failed, Memory, Missing, TooLong}
pub use Rattle.sporc_outside.specs.Folders.{FolderTold}
pub use Rattle.sporc_outside.specs.Uses.{Use}
pub use Rattle.sporc_outside.specs.declared.named_file.NamedFile.{NamedFile}
pub use Rattle.sporc_member.specs.Device.{first_device}
pub use Rattle.sporc_member.specs.declared.device.Device.{Device}
pub use Rattle.sporc_script.specs.Spelling.{DeviceInRange, device_text}
pub use Rattle.sporc_files.specs.Arguments.{argument_bytes, argument_text, space_of, stem_before, text_bytes}
pub use Rattle.sporc_files.specs.Faults.{AnswersUnlessOutside, IsOutsideFault, WritesFaultLine, fault_among, fault_arguments, fault_line, fault_of_file, fault_words, status_of}
pub use Rattle.sporc_files.specs.Names.{FileNames, IsOfDocument, file_name, names_of_documents, stem_of, suffix_of}
pub use Rattle.sporc_files.specs.Reading.{IsAppendingFault, IsFileFault, any_bytes}
pub use Rattle.sporc_files.specs.declared.fault.Fault.{Fault}
pub use Rattle.sporc_files.specs.declared.file.File.{File}

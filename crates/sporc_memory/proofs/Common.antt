-- The names of this crate and of those below that many of its proofs cite, passed on from one place.
pub use Rattle.std.proofs.Math.ListN.{get_or-append}
pub use Rattle.std.proofs.Math.Nat.{eq-or-lt_of_le}
pub use Rattle.std.proofs.Math.Seq.{drop-cons, get_or-drop, take-length, take-suc}
pub use Rattle.std.proofs.lemmas.List.{drop-drop, ext_get_or, length-take, map-append, nil_from_length, reverse-append, take-append-drop, take-append-le, take_all}
pub use Rattle.std.proofs.lemmas.List.Elements.{All-append, All-more}
pub use Rattle.std.proofs.lemmas.List.Sums.{fold-append, fold_more}
pub use Rattle.std.specs.List.{All}
pub use Rattle.std.specs.Prelude.{Err, Ok, OnErr, OnOk, Result, reverse}
pub use Rattle.std.specs.Str.{bytes_eq}
pub use Rattle.sporc_outside.specs.Files.{file_in, made_in, with_bytes, with_file, without_file}
pub use Rattle.sporc_outside.specs.LeafDisk.{CrashStep, IsSame, IsSameOutside, overwrite}
pub use Rattle.sporc_memory.specs.CallsModel.{CallsModel}
pub use Rattle.sporc_memory.specs.MemoryAppendFile.{AppendState, IsImage, IsLoose, Loose, listed_of, some_images, three_of}
pub use Rattle.sporc_memory.specs.MemoryDisk.{DiskState, IsSpoilt, IsUnsynced, MemoryDiskModel, bytes_of, state_after}
pub use Rattle.sporc_memory.specs.MemoryNetModel.{AreFresh, IsFresh, MemoryNetModel}
pub use Rattle.sporc_memory.specs.declared.logged.Call.{Call}

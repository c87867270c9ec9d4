use Rattle.std.proofs.Common.{Err, List, ℕ, ap, ◌∙◌}
use Rattle.sporc_commands.proofs.Common.{err_from_is_err_and, use_of, saved_in, any_bytes, whole, entries_of}
use Rattle.sporc_files.proofs.ReadFiles.{reads_none, reads_value}
use Rattle.sporc_commands.proofs.entries.read_entries.Goals as goal

pub returns-in_err-bytes-clause-found : goal.returns-in_err-bytes-clause-found
returns-in_err-bytes-clause-found g c =
    let failed = err_from_is_err_and c.from_residual.result c.from_residual.ensures.1 in
    reads_none any_bytes entries_of (use_of g.F.Folder.told c.args.files.now c.read_bytes.new.files) c.args.names.now c.args.file (λ (bytes : List ℕ). whole c.args.file (saved_in c.args.document.now bytes)) _ _ (failed.1 ∙ ap Err failed.2) c.in_err-bytes.ensures.err

pub returns-clause-found : goal.returns-clause-found
returns-clause-found g c =
    reads_value any_bytes entries_of (use_of g.F.Folder.told c.args.files.now c.read_bytes.new.files) c.args.names.now c.args.file (λ (bytes : List ℕ). whole c.args.file (saved_in c.args.document.now bytes)) c.in_ok-bytes.bytes.items _ c.in_ok-bytes.ensures.ok
    (rw (← c.as_slice.ensures.value) c.whole_entries.ensures.value)

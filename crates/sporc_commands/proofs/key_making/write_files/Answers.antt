use Rattle.std.proofs.Common.{[], ◌∷◌, ◌∙◌}
use Rattle.sporc_commands.proofs.Common.{file_name, asks_first, asks_then}
use Rattle.sporc_files.specs.declared.file.File.TheVariants as files
use Rattle.sporc_commands.proofs.KeyFiles.{both_written, on_ok}
use Rattle.sporc_commands.proofs.key_making.write_files.Goals as goal

pub returns-in_err-write_new_file-clause-may_ask : goal.returns-in_err-write_new_file-clause-may_ask
returns-in_err-write_new_file-clause-may_ask g c =
    asks_first (file_name c.args.names.now (files.Key c.args.key.now.file.device) ∷ []) (file_name c.args.names.now (files.Leaf c.args.key.now.file.device) ∷ []) _ _
    c.write_new_file.ensures.may_ask

pub returns-clause-ok : goal.returns-clause-ok
returns-clause-ok g c =
    on_ok c.write_new_file-2.result _ _ _ (both_written c.args.names.now c.args.key.now _ _ _ c.as_slice.result.now c.as_slice-2.result.now (c.as_slice.ensures.value ∙ c.in_ok-bytes.ensures.value) (cc)
    c.in_ok-write_new_file.ensures.was_new c.in_ok-write_new_file.ensures.ok) c.write_new_file-2.ensures.was_new c.write_new_file-2.ensures.ok

pub returns-clause-may_ask : goal.returns-clause-may_ask
returns-clause-may_ask g c =
    asks_then (file_name c.args.names.now (files.Key c.args.key.now.file.device) ∷ []) (file_name c.args.names.now (files.Leaf c.args.key.now.file.device) ∷ []) _ _ _
    c.write_new_file.ensures.may_ask c.write_new_file-2.ensures.may_ask

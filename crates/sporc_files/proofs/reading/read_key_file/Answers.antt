use Rattle.sporc_outside.specs.Uses.{use_of}
use Rattle.sporc_files.specs.declared.file.File.TheVariants as files
use Rattle.sporc_files.specs.Reading.{key_file}
use Rattle.sporc_files.proofs.Spelled.{misspelled, spelled}
use Rattle.sporc_files.proofs.reading.read_key_file.Goals as goal

pub returns-clause-ok : goal.returns-clause-ok
returns-clause-ok g c = spelled (key_file c.args.device) (files.Key c.args.device) (g.F.Folder.told c.args.files.now).files _ _ _ c.in_ok-bytes.ensures.ok c.as_slice.ensures.value c.tree_in.result c.tree_in.ensures.value

pub returns-clause-err : goal.returns-clause-err
returns-clause-err g c =
    misspelled (key_file c.args.device) (files.Key c.args.device) (use_of g.F.Folder.told c.args.files.now c.read_bytes.new.files) c.args.names.now _ _ c.in_ok-bytes.ensures.ok c.as_slice.ensures.value c.tree_in.result c.tree_in.ensures.value

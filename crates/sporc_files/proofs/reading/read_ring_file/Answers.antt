use Rattle.sporc_outside.specs.Uses.{use_of}
use Rattle.sporc_files.specs.declared.file.File.TheVariants as files
use Rattle.sporc_keys.specs.RingFile.{ring_file_of_member}
use Rattle.sporc_files.proofs.Spelled.{misspelled, spelled}
use Rattle.sporc_files.proofs.reading.read_ring_file.Goals as goal

pub returns-clause-ok : goal.returns-clause-ok
returns-clause-ok g c = spelled (ring_file_of_member c.args.member) (files.Ring c.args.member) (g.F.Folder.told c.args.files.now).files _ _ _ c.in_ok-bytes.ensures.ok c.as_slice.ensures.value c.ring_in.result c.ring_in.ensures.value

pub returns-clause-err : goal.returns-clause-err
returns-clause-err g c =
    misspelled (ring_file_of_member c.args.member) (files.Ring c.args.member) (use_of g.F.Folder.told c.args.files.now c.read_bytes.new.files) c.args.names.now _ _ c.in_ok-bytes.ensures.ok c.as_slice.ensures.value c.ring_in.result c.ring_in.ensures.value

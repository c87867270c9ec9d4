use Rattle.sporc_device.proofs.Common.{use_of}
use Rattle.sporc_device.proofs.Members.{bad_line}
use Rattle.sporc_device.proofs.member_files.read_script.Goals as goal

pub returns-in-Err-Line-clause-err : goal.returns-in-Err-Line-clause-err
returns-in-Err-Line-clause-err g c =
    bad_line (use_of g.F.Folder.told c.args.files.now c.read_bytes.new.files) c.args.names.now c.args.editor c.in_ok-text.text.items _ c.in-Err-Line.line c.as_slice.ensures.value c.in_ok-text.ensures.ok (c.in-Err-Line.ensures.err c.in-Err-Line.line cc)

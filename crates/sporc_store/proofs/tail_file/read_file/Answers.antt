use Rattle.sporc_store.proofs.TailOpens.{too_long}
use Rattle.sporc_store.proofs.tail_file.read_file.Goals as goal

pub returns-in-Err-TooLong-clause-err : goal.returns-in-Err-TooLong-clause-err
returns-in-Err-TooLong-clause-err g c =
    too_long (g.A.AppendFile.told c.args.file.now).stored _ _ c.in-Err-TooLong.len (rw c.in-Err-TooLong.field-0-is at c.in-Err-TooLong.ensures.err)

use Rattle.sporc_real.proofs.RealFiles.{too_long}
use Rattle.sporc_real.proofs.real_folder.open_file.Goals as goal

pub returns-in-Ok-clause-err : goal.returns-in-Ok-clause-err
returns-in-Ok-clause-err g c = too_long c.args.name.now c.in-Ok.opened.len c.if-open_with_len-gt-MAX_FILE.true

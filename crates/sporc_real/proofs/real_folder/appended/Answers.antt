use Rattle.sporc_real.proofs.RealFiles.{too_long}
use Rattle.sporc_real.proofs.real_folder.appended.Goals as goal

pub returns-then-opened-gt-MAX_FILE-clause-err : goal.returns-then-opened-gt-MAX_FILE-clause-err
returns-then-opened-gt-MAX_FILE-clause-err g c = too_long c.args.name.now c.in-Ok.opened.len c.if-opened-gt-MAX_FILE.true

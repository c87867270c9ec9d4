use Rattle.sporc_session.proofs.Common.{known_of}
use Rattle.sporc_session.proofs.Stating.{saw}
use Rattle.sporc_session.proofs.editor.see.Goals as goal

pub returns-clause-knows : goal.returns-clause-knows
returns-clause-knows g c = (saw (known_of c.args.pass) c.look.result c.looked.result c.looked.ensures c.look.ensures.call c.look.ensures.front c.look.ensures.worn).knows

pub returns-clause-ok : goal.returns-clause-ok
returns-clause-ok g c = (saw (known_of c.args.pass) c.look.result c.looked.result c.looked.ensures c.look.ensures.call c.look.ensures.front c.look.ensures.worn).ok

pub returns-clause-err : goal.returns-clause-err
returns-clause-err g c = (saw (known_of c.args.pass) c.look.result c.looked.result c.looked.ensures c.look.ensures.call c.look.ensures.front c.look.ensures.worn).err

pub returns-clause-read : goal.returns-clause-read
returns-clause-read g c = (saw (known_of c.args.pass) c.look.result c.looked.result c.looked.ensures c.look.ensures.call c.look.ensures.front c.look.ensures.worn).read

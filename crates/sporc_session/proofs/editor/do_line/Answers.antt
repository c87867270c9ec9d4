use Rattle.std.proofs.Common.{subst}
use Rattle.sporc_script.specs.EditorLines.{IsShort}
use Rattle.sporc_session.proofs.editor.do_line.Goals as goal

pub insert-requires-clause-limit : goal.insert-requires-clause-limit
insert-requires-clause-limit g c = subst IsShort c.in-Insert.is c.requires.limit

pub returns-in-Insert-clause-did : goal.returns-in-Insert-clause-did
returns-in-Insert-clause-did g c = rw c.in-Insert.is c.insert.ensures.did

pub returns-in-Remove-clause-did : goal.returns-in-Remove-clause-did
returns-in-Remove-clause-did g c = rw c.in-Remove.is c.remove.ensures.did

pub returns-in-Add-clause-did : goal.returns-in-Add-clause-did
returns-in-Add-clause-did g c = rw c.in-Add.is (rw c.added.ensures at c.change.ensures.did)

pub returns-in-Drop-clause-did : goal.returns-in-Drop-clause-did
returns-in-Drop-clause-did g c = rw c.in-Drop.is c.change-in-Drop.ensures.did

pub returns-in-SetRole-clause-did : goal.returns-in-SetRole-clause-did
returns-in-SetRole-clause-did g c = rw c.in-SetRole.is (rw c.role_set.ensures at c.change-in-SetRole.ensures.did)

pub returns-in-AddDevice-clause-did : goal.returns-in-AddDevice-clause-did
returns-in-AddDevice-clause-did g c = rw c.in-AddDevice.is (rw c.device_added.ensures at c.change-in-AddDevice.ensures.did)

pub returns-in-DropDevice-clause-did : goal.returns-in-DropDevice-clause-did
returns-in-DropDevice-clause-did g c = rw c.in-DropDevice.is (rw c.device_dropped.ensures at c.change-in-DropDevice.ensures.did)

pub returns-in-Upgrade-clause-did : goal.returns-in-Upgrade-clause-did
returns-in-Upgrade-clause-did g c = rw c.in-Upgrade.is c.change-in-Upgrade.ensures.did

use Rattle.sporc_session.proofs.Submitting.{drew_both, drew_none, drew_one}
use Rattle.sporc_session.proofs.receiver.draw.Goals as goal

pub returns-in_default-clause-err : goal.returns-in_default-clause-err
returns-in_default-clause-err g c = drew_none (g.C.Chance.told c.args.chance.now).given (g.C.Chance.told c.fill32.new.self).given c.in_default.ensures.err

pub returns-in_default-fill32-clause-err : goal.returns-in_default-fill32-clause-err
returns-in_default-fill32-clause-err g c =
    drew_one (g.C.Chance.told c.args.chance.now).given (g.C.Chance.told c.fill32.new.self).given (g.C.Chance.told c.fill32-2.new.self).given c.in-Ok.first c.in-Ok.ensures.ok c.in_default-fill32.ensures.err

pub returns-clause-ok : goal.returns-clause-ok
returns-clause-ok g c =
    drew_both (g.C.Chance.told c.args.chance.now).given (g.C.Chance.told c.fill32.new.self).given (g.C.Chance.told c.fill32-2.new.self).given c.in-Ok.first c.in-Ok-fill32.second c.joined.result c.in-Ok.ensures.ok c.in-Ok-fill32.ensures.ok c.joined.ensures

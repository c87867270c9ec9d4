use Rattle.std.proofs.Common.{refl}
use Rattle.sporc_device.proofs.Common.{err_from_is_err_and, shut_none, if_err, not_opened, not_whole}
use Rattle.sporc_files.proofs.Asking.{asks_never}
use Rattle.sporc_device.proofs.Resumed.{not_resumed_by, resumed}
use Rattle.sporc_device.proofs.resuming.resume_line.Goals as goal

pub returns-in_err-check_before-clause-err : goal.returns-in_err-check_before-clause-err
returns-in_err-check_before-clause-err g c =
    let p = err_from_is_err_and c.from_residual.result c.from_residual.ensures.1 in
    if_err _ _ _ _ p.1 p.2 (not_whole c.in_err-check_before.ensures.value refl)

pub returns-in_err-line-clause-err : goal.returns-in_err-line-clause-err
returns-in_err-line-clause-err g c =
    let p = err_from_is_err_and c.from_residual-in_err-line.result c.from_residual-in_err-line.ensures.1 in
    if_err _ _ _ _ p.1 p.2 (not_opened c.in_ok-check_before.ensures.value c.in_err-line.ensures.err)

pub returns-clause-ok : goal.returns-clause-ok
returns-clause-ok g c =
    resumed _ _ _ c.in_ok-check_before.ensures.value c.in_ok-line.line.genesis c.in_ok-line.line.kit c.in_ok-line.ensures.ok c.in_ok-line.ensures.genesis c.load.result
    c.load.ensures.entries c.load.ensures.genesis c.load.ensures.kit

pub returns-clause-err : goal.returns-clause-err
returns-clause-err g c =
    not_resumed_by _ _ _ c.in_ok-check_before.ensures.value c.in_ok-line.line.genesis c.in_ok-line.line.kit c.in_ok-line.ensures.ok c.in_ok-line.ensures.genesis c.load.result
    c.load.ensures.entries

pub returns-in_err-check_before-clause-may_ask : goal.returns-in_err-check_before-clause-may_ask
returns-in_err-check_before-clause-may_ask g c = asks_never _ _ c.args.address.now

pub returns-in_err-check_before-clause-shut : goal.returns-in_err-check_before-clause-shut
returns-in_err-check_before-clause-shut g c =
    shut_none (g.N.Links.told c.args.net.now).returned (g.N.Links.told c.args.net.now).returned refl

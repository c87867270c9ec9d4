use Rattle.std.proofs.Common.{ℕ, map, ap, refl, ◌∙◌}
use Rattle.sporc_device.proofs.Common.{err_from_is_err_and, shut_none, if_err, no_entries}
use Rattle.std.specs.Global.{Vec}
use Rattle.sporc_device.proofs.Addresses.{asks_for_hints}
use Rattle.sporc_files.proofs.Asking.{asks_never}
use Rattle.sporc_device.proofs.OpenedLines.{founder, joiner, not_opened_by, opened_by}
use Rattle.sporc_device.proofs.opening.open_member.Goals as goal

pub returns-in-Some-clause-ok : goal.returns-in-Some-clause-ok
returns-in-Some-clause-ok g c =
    opened_by _ _ _ (founder _ _ _ c.in-Some.is refl (ap (map (λ (e : Vec ℕ). e.items)) (c.as_slice.ensures.value ∙ c.new-none.ensures.items))) c.open_line.result c.open_line.ensures.kit

pub returns-in-Some-clause-err : goal.returns-in-Some-clause-err
returns-in-Some-clause-err g c =
    not_opened_by _ _ _ (founder _ _ _ c.in-Some.is refl (ap (map (λ (e : Vec ℕ). e.items)) (c.as_slice.ensures.value ∙ c.new-none.ensures.items))) c.open_line.result c.open_line.ensures.kit

pub returns-in_err-entries-in-None-clause-err : goal.returns-in_err-entries-in-None-clause-err
returns-in_err-entries-in-None-clause-err g c =
    let p = err_from_is_err_and c.from_residual.result c.from_residual.ensures.1 in
    if_err _ _ _ _ p.1 p.2 (no_entries c.in-None.is c.in_err-entries-in-None.ensures.err)

pub returns-in_ok-entries-in-None-clause-ok : goal.returns-in_ok-entries-in-None-clause-ok
returns-in_ok-entries-in-None-clause-ok g c =
    opened_by _ _ _ (joiner _ _ _ c.in_ok-entries-in-None.entries c.in-None.is c.as_slice-in-None.ensures.value c.in_ok-entries-in-None.ensures.ok) c.open_line-in-None.result
    c.open_line-in-None.ensures.kit

pub returns-in_ok-entries-in-None-clause-err : goal.returns-in_ok-entries-in-None-clause-err
returns-in_ok-entries-in-None-clause-err g c =
    not_opened_by _ _ _ (joiner _ _ _ c.in_ok-entries-in-None.entries c.in-None.is c.as_slice-in-None.ensures.value c.in_ok-entries-in-None.ensures.ok)
    c.open_line-in-None.result c.open_line-in-None.ensures.kit

pub returns-in-Some-clause-may_ask : goal.returns-in-Some-clause-may_ask
returns-in-Some-clause-may_ask g c = asks_never _ _ c.args.address.now

pub returns-in_err-entries-in-None-clause-may_ask : goal.returns-in_err-entries-in-None-clause-may_ask
returns-in_err-entries-in-None-clause-may_ask g c = asks_for_hints c.args.ring.now _ _ c.args.address.now c.in-None.is c.fetch_entries.ensures.may_ask

pub returns-in_ok-entries-in-None-clause-may_ask : goal.returns-in_ok-entries-in-None-clause-may_ask
returns-in_ok-entries-in-None-clause-may_ask g c = asks_for_hints c.args.ring.now _ _ c.args.address.now c.in-None.is c.fetch_entries.ensures.may_ask

pub returns-in-Some-clause-shut : goal.returns-in-Some-clause-shut
returns-in-Some-clause-shut g c =
    shut_none (g.N.Links.told c.args.net.now).returned (g.N.Links.told c.args.net.now).returned refl

use Rattle.std.proofs.Common.{◌≡◌, length, arith, ◌∙◌}
use Rattle.sporc_client.proofs.Rebased.{last_put, last_within}
use Rattle.sporc_client.proofs.rebasing.put_all.Goals as goal

pub index_mut-requires : goal.index_mut-requires
index_mut-requires c =
    omega (arith, last_within c.items.left.items c.pop.new.self.items c.in-Some.one c.items.items.items c.in-Some.ensures.items c.items.invariant.can, c.len-place.ensures, c.pop.new.self.ok.0, c.items.items.ok.0)

pub put_one-requires : goal.put_one-requires
put_one-requires c =
    let place : c.len-place.result ≡ length c.pop.new.self.items = c.len-place.ensures ∙ c.pop.new.self.ok.0 in
    (last_put c.items.left.items c.pop.new.self.items c.in-Some.one c.items.items.items c.len-place.result c.index_mut.result.now c.index_mut.result.now c.in-Some.ensures.items place c.index_mut.ensures.value c.items.invariant.can).fits

pub items-preserved : goal.items-preserved
items-preserved c =
    let place : c.len-place.result ≡ length c.pop.new.self.items = c.len-place.ensures ∙ c.pop.new.self.ok.0 in
    let last = last_put c.items.left.items c.pop.new.self.items c.in-Some.one c.items.items.items c.len-place.result c.index_mut.result.now c.put_one.new.item c.in-Some.ensures.items place c.index_mut.ensures.value c.items.invariant.can in
    record { can = last.rest_fits; same = last.same c.put_one.ensures.value ∙ c.items.invariant.same }

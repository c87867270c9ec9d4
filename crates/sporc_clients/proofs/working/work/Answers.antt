use Rattle.std.proofs.Common.{◌≤◌, ℕ, refl, rules, subst, ap, ◌∙◌, arith}
use Rattle.sporc_clients.proofs.Common.{count_of_both, shut_none, shut_one, out_of_memory, unreached, link_told}
use Rattle.sporc_clients.proofs.CountsRose.{rose_at_net}
use Rattle.sporc_clients.proofs.Counting.{as_many, both_kept, one_is_out}
use Rattle.sporc_clients.proofs.Sessioning.{over_same_link}
use Rattle.sporc_device.proofs.LinksUsed.{told_again, link_used}
use Rattle.sporc_clients.proofs.working.work.Goals as goal

pub take_back-requires : goal.take_back-requires
take_back-requires g c = one_is_out (g.N.Links.told c.args.net.now).out (g.N.Links.told c.connect.new.self).out c.in-Ok.ensures.did.out

pub returns-in_default-clause-err : goal.returns-in_default-clause-err
returns-in_default-clause-err g c =
    unreached (record { may_ask = c.connect.ensures.may_ask; coming = search rules; returned = c.connect.ensures.did.returned; counted = c.connect.ensures.did.links }) (search rules) refl

pub returns-in-Ok-ended-clause-work : goal.returns-in-Ok-ended-clause-work
returns-in-Ok-ended-clause-work g c = record {
  first = g.N.Link.Stream.told c.in-Ok.link;
  last = g.N.Link.Stream.told c.shut.new.self;
  uses = link_used c.args.address.now (g.N.Links.told c.take_back.new.self) c.in-Ok.ensures.did c.shut.ensures.did c.run_session-ended.ensures.shut c.in-Ok.ensures.asked
      c.take_back.ensures.asked c.take_back.ensures.coming c.take_back.ensures.returned c.take_back.ensures.links_kept;
  session = over_same_link _ _ _ _ _ _ _ _ c.shut.ensures.did.written c.shut.ensures.did.left c.shut.ensures.did.count c.in-Ok-ended.ensures.session;
}

pub returns-in-Err-clause-err : goal.returns-in-Err-clause-err
returns-in-Err-clause-err g c = out_of_memory (record {
  first = g.N.Link.Stream.told c.in-Ok.link;
  last = g.N.Link.Stream.told c.shut.new.self;
  uses = link_used c.args.address.now (g.N.Links.told c.take_back.new.self) c.in-Ok.ensures.did c.shut.ensures.did c.run_session-ended.ensures.shut c.in-Ok.ensures.asked
      c.take_back.ensures.asked c.take_back.ensures.coming c.take_back.ensures.returned c.take_back.ensures.links_kept;
  unused = told_again (link_told (g.N.Link.Stream.told c.run_session-ended.new.link))
      (link_told (g.N.Link.Stream.told c.shut.new.self)) c.shut.ensures.did.written c.shut.ensures.did.left c.shut.ensures.did.count
      ∙ ap (λ l. link_told (g.N.Link.Stream.told l)) c.in-Err.ensures.link;
}) refl

pub returns-in-Ok-ended-clause-links_out : goal.returns-in-Ok-ended-clause-links_out
returns-in-Ok-ended-clause-links_out g c = as_many (g.N.Links.told c.args.net.now).out (g.N.Links.told c.connect.new.self).out (g.N.Links.told c.take_back.new.self).out c.in-Ok.ensures.did.out c.take_back.ensures.out

pub returns-in-Ok-ended-clause-links_kept : goal.returns-in-Ok-ended-clause-links_kept
returns-in-Ok-ended-clause-links_kept g c =
    both_kept (g.N.Links.told c.args.net.now).link_faults (g.N.Link.Stream.told c.shut.new.self).faults (g.N.Links.told c.take_back.new.self).link_faults (omega (arith, c.link_faults-faults.ensures))
    (subst (λ (n : ℕ). count_of_both n (g.N.Link.Stream.told c.shut.new.self).faults ≤ (g.N.Links.told c.take_back.new.self).link_faults) c.connect.ensures.did.links c.take_back.ensures.links_kept)

pub returns-in-Err-clause-links_kept : goal.returns-in-Err-clause-links_kept
returns-in-Err-clause-links_kept g c =
    both_kept (g.N.Links.told c.args.net.now).link_faults (g.N.Link.Stream.told c.shut.new.self).faults (g.N.Links.told c.take_back.new.self).link_faults (omega (arith, c.link_faults-faults.ensures))
    (subst (λ (n : ℕ). count_of_both n (g.N.Link.Stream.told c.shut.new.self).faults ≤ (g.N.Links.told c.take_back.new.self).link_faults) c.connect.ensures.did.links c.take_back.ensures.links_kept)

pub returns-in-Ok-ended-clause-causes : goal.returns-in-Ok-ended-clause-causes
returns-in-Ok-ended-clause-causes g c =
    rose_at_net (g.N.Link.Stream.told c.in-Ok.link).faults (g.N.Link.Stream.told c.run_session-ended.new.link).faults (g.N.Links.told c.args.net.now).link_faults (g.N.Links.told c.take_back.new.self).link_faults _ _ _
    c.in-Ok.ensures.did.fresh
    (subst (λ (n : ℕ). count_of_both (g.N.Links.told c.args.net.now).link_faults n ≤ (g.N.Links.told c.take_back.new.self).link_faults) c.shut.ensures.did.count
    (subst (λ (n : ℕ). count_of_both n (g.N.Link.Stream.told c.shut.new.self).faults ≤ (g.N.Links.told c.take_back.new.self).link_faults) c.connect.ensures.did.links c.take_back.ensures.links_kept))
    c.in-Ok-ended.ensures.causes

pub returns-in_default-clause-shut : goal.returns-in_default-clause-shut
returns-in_default-clause-shut g c =
    shut_none (g.N.Links.told c.args.net.now).returned (g.N.Links.told c.connect.new.self).returned c.connect.ensures.did.returned

pub returns-in-Ok-ended-clause-shut : goal.returns-in-Ok-ended-clause-shut
returns-in-Ok-ended-clause-shut g c =
    shut_one (g.N.Links.told c.args.net.now).returned (g.N.Links.told c.connect.new.self).returned (g.N.Links.told c.take_back.new.self).returned (g.N.Link.Stream.told c.shut.new.self)
    c.connect.ensures.did.returned c.take_back.ensures.returned c.shut.ensures.did.shut

pub returns-in-Err-clause-shut : goal.returns-in-Err-clause-shut
returns-in-Err-clause-shut g c =
    shut_one (g.N.Links.told c.args.net.now).returned (g.N.Links.told c.connect.new.self).returned (g.N.Links.told c.take_back.new.self).returned (g.N.Link.Stream.told c.shut.new.self)
    c.connect.ensures.did.returned c.take_back.ensures.returned c.shut.ensures.did.shut

pub returns-in-Err-clause-links_out : goal.returns-in-Err-clause-links_out
returns-in-Err-clause-links_out g c = as_many (g.N.Links.told c.args.net.now).out (g.N.Links.told c.connect.new.self).out (g.N.Links.told c.take_back.new.self).out c.in-Ok.ensures.did.out c.take_back.ensures.out

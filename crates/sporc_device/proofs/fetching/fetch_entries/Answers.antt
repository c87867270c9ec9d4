use Rattle.std.proofs.Common.{Ok, Err, refl, rules}
use Rattle.sporc_device.proofs.Common.{shut_none, shut_one, link_told}
use Rattle.sporc_device.specs.Fetching.{broken, unreached}
use Rattle.sporc_device.proofs.LinksUsed.{fetched_again, told_again, link_used}
use Rattle.sporc_device.proofs.fetching.fetch_entries.Goals as goal

pub returns-in_default-clause-shut : goal.returns-in_default-clause-shut
returns-in_default-clause-shut g c =
    shut_none (g.N.Links.told c.args.net.now).returned (g.N.Links.told c.connect.new.self).returned c.connect.ensures.did.returned

pub returns-in-Ok-fetched-clause-shut : goal.returns-in-Ok-fetched-clause-shut
returns-in-Ok-fetched-clause-shut g c =
    shut_one (g.N.Links.told c.args.net.now).returned (g.N.Links.told c.connect.new.self).returned (g.N.Links.told c.take_back.new.self).returned (g.N.Link.Stream.told c.shut.new.self)
    c.connect.ensures.did.returned c.take_back.ensures.returned c.shut.ensures.did.shut

pub returns-in-Err-clause-shut : goal.returns-in-Err-clause-shut
returns-in-Err-clause-shut g c =
    shut_one (g.N.Links.told c.args.net.now).returned (g.N.Links.told c.connect.new.self).returned (g.N.Links.told c.take_back.new.self).returned (g.N.Link.Stream.told c.shut.new.self)
    c.connect.ensures.did.returned c.take_back.ensures.returned c.shut.ensures.did.shut

pub returns-in_default-clause-err : goal.returns-in_default-clause-err
returns-in_default-clause-err g c =
    unreached (record { may_ask = c.connect.ensures.may_ask; coming = search rules; returned = c.connect.ensures.did.returned; counted = c.connect.ensures.did.links }) (search rules) refl

pub returns-in-Ok-fetched-clause-ok : goal.returns-in-Ok-fetched-clause-ok
returns-in-Ok-fetched-clause-ok g c =
    let same = told_again (link_told (g.N.Link.Stream.told c.fetch-fetched.new.link))
    (link_told (g.N.Link.Stream.told c.shut.new.self)) c.shut.ensures.did.written c.shut.ensures.did.left c.shut.ensures.did.count in
    let (inbox, fetch) = c.fetch-fetched.ensures.fetch in
    record {
      first = g.N.Link.Stream.told c.in-Ok.link;
      last = g.N.Link.Stream.told c.shut.new.self;
      uses = link_used c.args.address.now (g.N.Links.told c.take_back.new.self) c.in-Ok.ensures.did c.shut.ensures.did c.fetch-fetched.ensures.shut c.in-Ok.ensures.asked
          c.take_back.ensures.asked c.take_back.ensures.coming c.take_back.ensures.returned c.take_back.ensures.links_kept;
      inbox = inbox;
      fetch = fetched_again _ _ inbox c.args.document.now c.args.member c.fetch-fetched.result (Ok c.in-Ok-fetched.entries) same c.in-Ok-fetched.is fetch;
    }

pub returns-in-Err-clause-err : goal.returns-in-Err-clause-err
returns-in-Err-clause-err g c =
    let same = told_again (link_told (g.N.Link.Stream.told c.fetch-fetched.new.link))
    (link_told (g.N.Link.Stream.told c.shut.new.self)) c.shut.ensures.did.written c.shut.ensures.did.left c.shut.ensures.did.count in
    let (inbox, fetch) = c.fetch-fetched.ensures.fetch in
    broken
    (record {
      first = g.N.Link.Stream.told c.in-Ok.link;
      last = g.N.Link.Stream.told c.shut.new.self;
      uses = link_used c.args.address.now (g.N.Links.told c.take_back.new.self) c.in-Ok.ensures.did c.shut.ensures.did c.fetch-fetched.ensures.shut c.in-Ok.ensures.asked
          c.take_back.ensures.asked c.take_back.ensures.coming c.take_back.ensures.returned c.take_back.ensures.links_kept;
      inbox = inbox;
      fetch = fetched_again _ _ inbox c.args.document.now c.args.member c.fetch-fetched.result (Err c.in-Err.fault) same c.in-Err.is fetch;
    })
    c.session_fault.ensures.value

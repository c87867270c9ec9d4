use Rattle.std.proofs.Common.{◌≡◌, ◌-◌, suc, Ok, Err, arith, rules, sym, subst, refl}
use Rattle.sporc_serve.proofs.Common.{IsTrueIfTold, known_of, read_of, OfDocument, visit, IsServedSession, IsCrowd, LeavesNet}
use Rattle.sporc_serve.proofs.Links.{leaves_none, leaves_more}
use Rattle.sporc_serve.specs.declared.fault.ServeFault.TheVariants as faults
use Rattle.sporc_serve.proofs.Crowding.{crowd_none, crowd_joined}
use Rattle.sporc_serve.proofs.crowd.+crowd+fn-crowd-join_mut+arg2.Goals as goal

pub returns-then-sessions-eq0-clause-crowd : goal.returns-then-sessions-eq0-clause-crowd
returns-then-sessions-eq0-clause-crowd g t c genesis log =
    crowd_none genesis (known_of c.args.first) (read_of c.args.first)
    (g.N.Links.told c.args.net.now) (g.N.Links.told c.args.net.now) c.args.sessions (Ok tt) refl refl (sym c.if-sessions-eq0.true, tt)

pub returns-in_default-clause-crowd : goal.returns-in_default-clause-crowd
returns-in_default-clause-crowd g t c genesis log =
    crowd_none genesis (known_of c.args.first) (read_of c.args.first)
    (g.N.Links.told c.args.net.now)
    (g.N.Links.told c.accept.new.self) c.args.sessions (Err faults.ListenFault)
    c.in_default.ensures.did.coming_unchanged c.accept.ensures.did.returned c.in_default.ensures.did.count.failed

pub returns-clause-crowd : goal.returns-clause-crowd
returns-clause-crowd g t c genesis log =
    let r = c.join_mut-rest.result in
    let link = c.link-3-1.given.0 in
    let net = c.net-1.given.0 in
    let k0 = known_of c.in-Ok-split.both.0 in
    let k1 = known_of c.in-Ok-split.both.1 in
    let others = c.args.sessions - 1 in
    let came = g.N.Links.told c.accept.new.self in
    let left = g.N.Links.told net in
    let same_link : link ≡ c.join_mut-rest.new.g.1.now = search rules in
    let same_net : net ≡ c.join_mut-rest.new.f.1.now = search rules in
    let session = subst (λ (l : g.row.N-Link.Denot). OfDocument (known_of c.in-Ok-split.both.1).seen (λ h. IsServedSession h (known_of c.in-Ok-split.both.1) (known_of r.1.1) (visit (g.N.Link.Stream.told c.in-Ok.link) (g.N.Link.Stream.told l) r.1.0))) (sym same_link) c.join_mut-rest.ensures.1.met.1.2 in
    let number : (known_of r.1.1).number ≡ (known_of c.in-Ok-split.both.1).number = search rules in
    let crowd = subst (λ (n : g.row.N.Denot). OfDocument (known_of c.in-Ok-split.both.0).seen (λ h. IsCrowd h (known_of c.in-Ok-split.both.0) (known_of r.0.1) (read_of r.0.1) came (g.N.Links.told n) others r.0.0)) (sym same_net) c.join_mut-rest.ensures.0.met.1.2 in
    let size : c.args.sessions ≡ suc (c.args.sessions - 1) = omega (arith, c.if-sessions-eq0.false) in
    crowd_joined genesis (known_of c.args.first) k0 k1 (known_of r.0.1) (known_of r.1.1) (known_of c.joined.result.1) (read_of c.joined.result.1) (read_of r.0.1) (read_of r.1.1)
    (g.N.Links.told c.args.net.now) came left
    (g.N.Links.told c.take_back.new.self) others c.args.sessions
    (g.N.Link.Stream.told c.in-Ok.link) (g.N.Link.Stream.told link) r.1.0 r.0.0 c.joined.result.0 log c.in-Ok-split.ensures.old c.in-Ok-split.ensures.new session crowd c.join_mut-rest.ensures.1.met.1.4 c.joined.ensures.read number c.joined.ensures.known
    c.joined.ensures.begins.0 c.joined.ensures.begins.1 c.joined.ensures.agrees c.in-Ok.ensures.did.next c.in-Ok.ensures.did.not_shut c.accept.ensures.did.returned c.accept.ensures.did.count.kept
    c.take_back.ensures.coming c.take_back.ensures.returned c.take_back.ensures.kept size c.joined.ensures.answer

pub returns-then-sessions-eq0-clause-net : goal.returns-then-sessions-eq0-clause-net
returns-then-sessions-eq0-clause-net g t c = leaves_none (g.N.Links.told c.args.net.now) (g.N.Links.told c.args.net.now) refl refl refl (omega arith)

pub returns-in_default-clause-net : goal.returns-in_default-clause-net
returns-in_default-clause-net g t c =
    leaves_none (g.N.Links.told c.args.net.now) (g.N.Links.told c.accept.new.self) c.accept.ensures.did.returned c.accept.ensures.asked c.in_default.ensures.did.out_unchanged
    c.accept.ensures.did.count.kept

pub returns-clause-net : goal.returns-clause-net
returns-clause-net g t c =
    let link = c.link-3-1.given.0 in
    let net = c.net-1.given.0 in
    let same_link : link ≡ c.join_mut-rest.new.g.1.now = search rules in
    let same_net : net ≡ c.join_mut-rest.new.f.1.now = search rules in
    let shut = subst (λ (l : g.row.N-Link.Denot). IsTrueIfTold (g.N.Link.Stream.told l).is_shut) (sym same_link) c.join_mut-rest.ensures.1.met.1.3 in
    let rest = subst (λ (n : g.row.N.Denot). LeavesNet (g.N.Links.told c.accept.new.self) (g.N.Links.told n)) (sym same_net) c.join_mut-rest.ensures.0.met.1.3 in
    leaves_more (g.N.Links.told c.args.net.now) (g.N.Links.told c.accept.new.self) (g.N.Links.told net) (g.N.Links.told c.take_back.new.self) (g.N.Link.Stream.told link)
    c.accept.ensures.did.returned c.accept.ensures.asked c.in-Ok.ensures.did.out c.accept.ensures.did.count.kept rest c.take_back.ensures.returned shut
    c.take_back.ensures.asked c.take_back.ensures.out c.take_back.ensures.kept

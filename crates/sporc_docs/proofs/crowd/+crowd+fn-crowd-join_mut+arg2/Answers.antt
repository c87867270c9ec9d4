use Rattle.std.proofs.Common.{◌≡◌, ◌∷◌, List, Ok, Err, arith, rules, refl, sym, subst, subst₂}
use Rattle.sporc_docs.proofs.Common.{visit, Hand, IsCrowd, AllHands, HavePasses, LogsBegin, Sits}
use Rattle.sporc_outside.specs.Told.{IsTrueIfTold}
use Rattle.sporc_serve.specs.Crowds.{LeavesNet}
use Rattle.sporc_serve.proofs.Links.{leaves_none, leaves_more}
use Rattle.sporc_serve.specs.declared.fault.ServeFault.TheVariants as faults
use Rattle.sporc_docs.proofs.Crowding.{crowd_none, crowd_more}
use Rattle.sporc_docs.proofs.crowd.+crowd+fn-crowd-join_mut+arg2.Goals as goal

pub returns-in_default-clause-crowd : goal.returns-in_default-clause-crowd
returns-in_default-clause-crowd g t c logs =
    crowd_none c.args.docs.now.turns.now c.args.docs.now.documents.now c.args.hands.now c.args.hands.now
    (g.N.Links.told c.args.net.now) (g.N.Links.told c.args.net.now) (Ok tt) refl refl refl (sym c.in_default.ensures.cases, tt)

pub returns-in_default-accept-clause-crowd : goal.returns-in_default-accept-clause-crowd
returns-in_default-accept-clause-crowd g t c logs =
    crowd_none c.args.docs.now.turns.now c.args.docs.now.documents.now c.args.hands.now _
    (g.N.Links.told c.args.net.now)
    (g.N.Links.told c.accept.new.self) (Err faults.ListenFault) (sym c.in-Some.ensures.cases.0)
    c.in_default-accept.ensures.did.coming_unchanged c.accept.ensures.did.returned c.in_default-accept.ensures.did.count.failed

pub returns-clause-crowd : goal.returns-clause-crowd
returns-clause-crowd g t c logs =
    let link = c.link-3-1.given.0 in
    let net = c.net-1.given.0 in
    let hand = c.hand-2-1.given.0 in
    let others = c.others-1.given.0 in
    let r = c.join_mut-rest.result in
    let same_link : link ≡ c.join_mut-rest.new.g.1.now = search rules in
    let same_hand : hand ≡ c.join_mut-rest.new.g.2.now = search rules in
    let same_net : net ≡ c.join_mut-rest.new.f.1.now = search rules in
    let same_others : others ≡ c.join_mut-rest.new.f.2.now = search rules in
    let before = g.N.Links.told c.args.net.now in
    let came = g.N.Links.told c.accept.new.self in
    let left = g.N.Links.told net in
    let after = g.N.Links.told c.take_back.new.self in
    let logs' = subst (λ (hs : List Hand). AllHands LogsBegin hs) c.in-Some.ensures.cases.0 logs in
    let have = subst (λ (hs : List Hand). AllHands (HavePasses c.args.docs.now.turns.now) hs) c.in-Some.ensures.cases.0 c.requires.locks in
    let have' = subst (λ (h : Hand). HavePasses c.args.docs.now.turns.now h.passes.items) (sym same_hand) c.join_mut-rest.ensures.1.met.1.0 in
    let sits = subst₂ (λ (l : g.row.N-Link.Denot) (h : Hand). Sits c.args.docs.now.documents.now
    (visit (g.N.Link.Stream.told c.in-Ok.link) (g.N.Link.Stream.told l) r.1) c.in-Some.hand.now.passes.items h.passes.items) (sym same_link) (sym same_hand) c.join_mut-rest.ensures.1.met.1.1 in
    let crowd = subst₂ (λ (n : g.row.N.Denot) (hs : List Hand). IsCrowd c.args.docs.now.turns.now
    c.args.docs.now.documents.now c.in-Some.others.now hs came (g.N.Links.told n) r.0) (sym same_net)
    (sym same_others) (c.join_mut-rest.ensures.0.met.1.1 logs'.1) in
    subst (λ (hs : List Hand). IsCrowd c.args.docs.now.turns.now c.args.docs.now.documents.now hs
    (hand ∷ others) before after c.with_end.result) (sym c.in-Some.ensures.cases.0)
    (crowd_more c.args.docs.now.turns.now c.args.docs.now.documents.now c.in-Some.hand.now hand
    c.in-Some.others.now others (g.N.Link.Stream.told c.in-Ok.link) (g.N.Link.Stream.told link) r.1 before came left after r.0 c.with_end.result have.0 have' c.requires.one_length
    logs'.0 sits crowd c.in-Ok.ensures.did.next c.in-Ok.ensures.did.not_shut c.accept.ensures.did.returned c.accept.ensures.did.count.kept c.take_back.ensures.coming c.take_back.ensures.returned
    c.take_back.ensures.kept c.with_end.ensures.value)

pub returns-in_default-clause-net : goal.returns-in_default-clause-net
returns-in_default-clause-net g t c = leaves_none (g.N.Links.told c.args.net.now) (g.N.Links.told c.args.net.now) refl refl refl (omega arith)

pub returns-in_default-accept-clause-net : goal.returns-in_default-accept-clause-net
returns-in_default-accept-clause-net g t c =
    leaves_none (g.N.Links.told c.args.net.now) (g.N.Links.told c.accept.new.self) c.accept.ensures.did.returned c.accept.ensures.asked
    c.in_default-accept.ensures.did.out_unchanged c.accept.ensures.did.count.kept

pub returns-clause-net : goal.returns-clause-net
returns-clause-net g t c =
    let link = c.link-3-1.given.0 in
    let net = c.net-1.given.0 in
    let same_link : link ≡ c.join_mut-rest.new.g.1.now = search rules in
    let same_net : net ≡ c.join_mut-rest.new.f.1.now = search rules in
    let shut = subst (λ (l : g.row.N-Link.Denot). IsTrueIfTold (g.N.Link.Stream.told l).is_shut) (sym same_link) c.join_mut-rest.ensures.1.met.1.2 in
    let rest = subst (λ (n : g.row.N.Denot). LeavesNet (g.N.Links.told c.accept.new.self) (g.N.Links.told n)) (sym same_net) c.join_mut-rest.ensures.0.met.1.2 in
    leaves_more (g.N.Links.told c.args.net.now) (g.N.Links.told c.accept.new.self) (g.N.Links.told net) (g.N.Links.told c.take_back.new.self) (g.N.Link.Stream.told link)
    c.accept.ensures.did.returned c.accept.ensures.asked c.in-Ok.ensures.did.out c.accept.ensures.did.count.kept rest c.take_back.ensures.returned shut
    c.take_back.ensures.asked c.take_back.ensures.out c.take_back.ensures.kept

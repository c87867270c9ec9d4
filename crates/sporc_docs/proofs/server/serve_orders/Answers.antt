use Rattle.std.proofs.Common.{◌≡◌, ◌∙◌, ◌++◌, ℕ, List, [], length, map, reverse, Err, refl, ap, sym, subst, arith}
use Rattle.sporc_docs.proofs.Common.{OrderModel, Hand, AllHands, AllZip, IsEmpty, KnowsFirst, AreEnding}
use Rattle.sporc_serve.specs.declared.fault.ServeFault.TheVariants as faults
use Rattle.sporc_serve.proofs.Links.{leaves_none}
use Rattle.sporc_docs.proofs.Opening.{empty_all, kept_length}
use Rattle.sporc_docs.proofs.Served.{serves_none, serves_opened, serves_all, room_first, open_lengths, opened_back, opened_all, room_back, ok_then}
use Rattle.sporc_docs.proofs.server.serve_orders.Goals as goal

pub returns-in_default-clause-served : goal.returns-in_default-clause-served
returns-in_default-clause-served g c =
    serves_none (g.N.Links.told c.args.net.now) (g.N.Links.told c.args.net.now) c.args.sessions (Err faults.Memory) c.args.orders.now.items refl refl tt

pub returns-in_default-with_capacity-clause-served : goal.returns-in_default-with_capacity-clause-served
returns-in_default-with_capacity-clause-served g c =
    serves_none (g.N.Links.told c.args.net.now) (g.N.Links.told c.args.net.now) c.args.sessions (Err faults.Memory) c.args.orders.now.items refl refl tt

pub close-requires-clause-back : goal.close-requires-clause-back
close-requires-clause-back g c = opened_back c.open.ensures.open.0 c.open.new.self.firsts.items c.open.ensures.open.2.known

pub close-requires-clause-room : goal.close-requires-clause-room
close-requires-clause-room g c =
    room_back c.args.orders.now.items c.open.new.orders.items c.open.ensures.open.0 c.open.new.self c.open.ensures.open.1 c.open.ensures.open.2 _ _ _ _ _
    c.args.orders.now.ok.0 c.open.new.orders.ok.0 c.open.new.self.turns.ok.0 c.args.orders.now.ok.1 c.open.ensures.room.0

pub close-requires-clause-tails_room : goal.close-requires-clause-tails_room
close-requires-clause-tails_room g c =
    room_back c.args.orders.now.items c.open.new.orders.items c.open.ensures.open.0 c.open.new.self c.open.ensures.open.1 c.open.ensures.open.2 _ _ _ _ _
    (c.args.tails.now.ok.0 ∙ kept_length g.T.Tail.keeps c.args.tails.now.items c.args.orders.now.items c.requires.tails)
    (c.open.new.tails.ok.0 ∙ kept_length g.T.Tail.keeps c.open.new.tails.items c.open.new.orders.items c.open.ensures.tails) c.open.new.self.turns.ok.0
    c.args.tails.now.ok.1 c.open.ensures.room.1

pub returns-then-is_err-clause-served : goal.returns-then-is_err-clause-served
returns-then-is_err-clause-served g c =
    let open' = c.open.ensures.open in
    let closed = c.close.ensures.closed in
    serves_opened (g.N.Links.told c.args.net.now) (g.N.Links.told c.args.net.now) c.args.sessions (Err faults.Memory) c.args.orders.now.items c.close.new.orders.items c.open.new.orders.items open'.0 closed.0
    c.open.new.self open'.2 open'.1 closed.1 closed.2 refl refl tt

pub serve-answer-requires-clause-room : goal.serve-answer-requires-clause-room
serve-answer-requires-clause-room g c κs within =
    let count = ap length c.deref_mut.ensures.value in
    let size = c.in-Ok.ensures.len in
    let few = c.requires.limit in
    room_first c.open.ensures.open.0 c.open.new.self.firsts.items (length c.deref_mut.result.now) (omega (arith, count, size, few)) c.open.ensures.open.2.known

pub serve-answer-requires-clause-empty : goal.serve-answer-requires-clause-empty
serve-answer-requires-clause-empty g c κs within =
    let rest = ok_then c.open.result c.is_err.result (c.open.new.orders.items ≡ []) c.is_err.ensures.value c.if-is_err.false c.open.ensures.ok in
    let all = opened_all c.args.orders.now.items c.open.new.orders.items c.open.ensures.open.0 rest c.open.ensures.open.1 in
    let turns = (open_lengths c.open.ensures.open.0 c.open.new.self c.open.ensures.open.2).1 in
    let count = c.len-count.ensures in
    let ok = c.args.orders.now.ok in
    let size : length c.open.new.self.turns.items ≡ c.len-count.result = omega (arith, all.1, turns, count, ok) in
    subst (λ (hs : List Hand). AllHands (AllZip IsEmpty c.open.new.self.turns.items) hs) (sym c.deref_mut.ensures.value)
    (empty_all c.open.new.self.turns.items c.len-count.result c.in-Ok.hands.items size c.in-Ok.ensures.empty)

pub serve-answer-requires-clause-one_length : goal.serve-answer-requires-clause-one_length
serve-answer-requires-clause-one_length g c κs within =
    let both = open_lengths c.open.ensures.open.0 c.open.new.self c.open.ensures.open.2 in both.0 ∙ sym both.1

pub close-requires-2-clause-back : goal.close-requires-2-clause-back
close-requires-2-clause-back g c =
    let rest = ok_then c.open.result c.is_err.result (c.open.new.orders.items ≡ []) c.is_err.ensures.value c.if-is_err.false c.open.ensures.ok in
    let all = opened_all c.args.orders.now.items c.open.new.orders.items c.open.ensures.open.0 rest c.open.ensures.open.1 in
    let known = subst (λ (os : List OrderModel). AllZip KnowsFirst os c.open.new.self.firsts.items) all.0 c.open.ensures.open.2.known in
    let documents = c.open.ensures.open.2.documents_are ∙ ap (λ (os : List OrderModel). map (λ (o : OrderModel). o.genesis.document) os) all.0 in
    (c.serve-answer.ensures.ending c.args.orders.now.items c.requires.apart documents known).1.back

pub close-requires-2-clause-room : goal.close-requires-2-clause-room
close-requires-2-clause-room g c =
    let same = ap (λ v. v.len) c.serve-answer.ensures.turns in
    let room = room_back c.args.orders.now.items c.open.new.orders.items c.open.ensures.open.0 c.open.new.self c.open.ensures.open.1 c.open.ensures.open.2 _ _ _ _ _
    c.args.orders.now.ok.0 c.open.new.orders.ok.0 c.open.new.self.turns.ok.0 c.args.orders.now.ok.1 c.open.ensures.room.0 in
    omega (arith, same, room)

pub close-requires-2-clause-tails_room : goal.close-requires-2-clause-tails_room
close-requires-2-clause-tails_room g c =
    let same = ap (λ v. v.len) c.serve-answer.ensures.turns in
    let room = room_back c.args.orders.now.items c.open.new.orders.items c.open.ensures.open.0 c.open.new.self c.open.ensures.open.1 c.open.ensures.open.2 _ _ _ _ _
    (c.args.tails.now.ok.0 ∙ kept_length g.T.Tail.keeps c.args.tails.now.items c.args.orders.now.items c.requires.tails)
    (c.open.new.tails.ok.0 ∙ kept_length g.T.Tail.keeps c.open.new.tails.items c.open.new.orders.items c.open.ensures.tails) c.open.new.self.turns.ok.0
    c.args.tails.now.ok.1 c.open.ensures.room.1 in
    omega (arith, same, room)

pub returns-clause-served : goal.returns-clause-served
returns-clause-served g c =
    let rest = ok_then c.open.result c.is_err.result (c.open.new.orders.items ≡ []) c.is_err.ensures.value c.if-is_err.false c.open.ensures.ok in
    let all = opened_all c.args.orders.now.items c.open.new.orders.items c.open.ensures.open.0 rest c.open.ensures.open.1 in
    let known = subst (λ (os : List OrderModel). AllZip KnowsFirst os c.open.new.self.firsts.items) all.0 c.open.ensures.open.2.known in
    let documents = c.open.ensures.open.2.documents_are ∙ ap (λ (os : List OrderModel). map (λ (o : OrderModel). o.genesis.document) os) all.0 in
    let ending = c.serve-answer.ensures.ending c.args.orders.now.items c.requires.apart documents known in
    let hands = ap length c.deref_mut.ensures.value in
    let size = c.in-Ok.ensures.len in
    let count : length c.deref_mut.result.now ≡ c.args.sessions = hands ∙ size in
    let closed = c.close-2.ensures.closed in
    serves_all (g.N.Links.told c.args.net.now) (g.N.Links.told c.serve-answer.new.net) c.args.sessions c.serve-answer.result c.args.orders.now.items c.close-2.new.orders.items closed.0 c.serve-answer.new.self.firsts.items
    (subst (λ (n : ℕ). AreEnding c.args.orders.now.items c.serve-answer.new.self.firsts.items (g.N.Links.told c.args.net.now) (g.N.Links.told c.serve-answer.new.net) n c.serve-answer.result) count ending)
    (closed.1 ∙ ap (λ (l : List OrderModel). l ++ reverse closed.0) rest) closed.2

pub returns-in_default-clause-net : goal.returns-in_default-clause-net
returns-in_default-clause-net g c = leaves_none (g.N.Links.told c.args.net.now) (g.N.Links.told c.args.net.now) refl refl refl (omega arith)

pub returns-in_default-with_capacity-clause-net : goal.returns-in_default-with_capacity-clause-net
returns-in_default-with_capacity-clause-net g c = leaves_none (g.N.Links.told c.args.net.now) (g.N.Links.told c.args.net.now) refl refl refl (omega arith)

pub returns-then-is_err-clause-net : goal.returns-then-is_err-clause-net
returns-then-is_err-clause-net g c = leaves_none (g.N.Links.told c.args.net.now) (g.N.Links.told c.args.net.now) refl refl refl (omega arith)

use Rattle.std.proofs.Common.{refl, ◌∙◌, arith, length, ap}
use Rattle.sporc_exchange.proofs.Common.{err_from_is_err_and, Unread, link_at}
use Rattle.sporc_exchange.proofs.Inboxes.{still_waits, waits_short}
use Rattle.sporc_exchange.proofs.Linking.{more_at, more_rest, one_more, silent_then, waited}
use Rattle.sporc_exchange.proofs.exchange.receive.Goals as goal

pub read_piece-requires-clause-waits : goal.read_piece-requires-clause-waits
read_piece-requires-clause-waits g c = (still_waits c.loop-message.inbox c.next.new.self c.in-Ok-None.field-0 c.in-Ok-None.ensures.value c.in-Ok-None.field-0-is c.in-Ok-None.ensures.after).1

pub returns-in_err-read_piece-clause-received : goal.returns-in_err-read_piece-clause-received
returns-in_err-read_piece-clause-received g c =
    let w = still_waits c.loop-message.inbox c.next.new.self c.in-Ok-None.field-0 c.in-Ok-None.ensures.value c.in-Ok-None.field-0-is c.in-Ok-None.ensures.after in
    let waits = waited (link_at (g.L.Stream.told c.args.link.now) c.args.inbox.now) (link_at (g.L.Stream.told c.loop-message.link) c.loop-message.inbox) (link_at (g.L.Stream.told c.loop-message.link) c.next.new.self) c.loop-message.invariant.did refl refl refl w.0 c.in-Ok-None.ensures.taken in
    let p = err_from_is_err_and c.from_residual.result c.from_residual.ensures.1 in
    rw (p.1, p.2) (record { ok = tt; err = silent_then (link_at (g.L.Stream.told c.args.link.now) c.args.inbox.now) (link_at (g.L.Stream.told c.loop-message.link) c.next.new.self) (link_at (g.L.Stream.told c.read_piece.new.link) c.read_piece.new.self) c.in_err-read_piece.field-0.0 waits c.in_err-read_piece.ensures.read.err })

pub loop-message-smaller : goal.loop-message-smaller
loop-message-smaller g c =
    let w = still_waits c.loop-message.inbox c.next.new.self c.in-Ok-None.field-0 c.in-Ok-None.ensures.value c.in-Ok-None.field-0-is c.in-Ok-None.ensures.after in
    let short = waits_short c.next.new.self w.1 in
    let took = c.in_ok-read_piece.ensures.read.ok in
    omega (arith, short, ap (λ (s : Unread). length s.rest) w.0, more_rest c.loop-message.inbox c.next.new.self c.read_piece.new.self took.0 w.0 took.2.inbox, took.1)

pub loop-message-preserved : goal.loop-message-preserved
loop-message-preserved g c =
    let w = still_waits c.loop-message.inbox c.next.new.self c.in-Ok-None.field-0 c.in-Ok-None.ensures.value c.in-Ok-None.field-0-is c.in-Ok-None.ensures.after in
    let waits = waited (link_at (g.L.Stream.told c.args.link.now) c.args.inbox.now) (link_at (g.L.Stream.told c.loop-message.link) c.loop-message.inbox) (link_at (g.L.Stream.told c.loop-message.link) c.next.new.self) c.loop-message.invariant.did refl refl refl w.0 c.in-Ok-None.ensures.taken in
    let took = c.in_ok-read_piece.ensures.read.ok in
    record {
      did = one_more (link_at (g.L.Stream.told c.args.link.now) c.args.inbox.now) (link_at (g.L.Stream.told c.loop-message.link) c.next.new.self) (link_at (g.L.Stream.told c.read_piece.new.link) c.read_piece.new.self) took.0 waits took.2;
      at = more_at c.loop-message.inbox c.next.new.self c.read_piece.new.self took.0 w.0 took.2.inbox ∙ c.loop-message.invariant.at;
      shut = c.read_piece.ensures.shut ∙ c.loop-message.invariant.shut;
    }

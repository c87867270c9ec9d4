use Rattle.std.proofs.Common.{◌≡◌, Ok, Err, None, sym, subst, ap, ◌∙◌}
use Rattle.sporc_serve.proofs.Common.{Unread, next, to_server_of, inlet_at, IsNext}
use Rattle.std.proofs.lemmas.Result.{err_from_is_err_and}
use Rattle.sporc_serve.proofs.Stepping.{next_none}
use Rattle.sporc_serve.proofs.session.next_message.Goals as goal

pub take_piece-requires : goal.take_piece-requires
take_piece-requires g c =
    let n = next_none c.args.frames.now c.next_to_server.new.self c.next_to_server.result (c.in-Ok.is ∙ ap Ok c.in_default.is) c.next_to_server.ensures.value c.next_to_server.ensures.after in
    subst (λ (u : Unread). (next to_server_of u).answer ≡ Ok None) (sym n.1) n.0

pub returns-in_err-take_piece-clause-next : goal.returns-in_err-take_piece-clause-next
returns-in_err-take_piece-clause-next g c =
    let n = next_none c.args.frames.now c.next_to_server.new.self c.next_to_server.result (c.in-Ok.is ∙ ap Ok c.in_default.is) c.next_to_server.ensures.value c.next_to_server.ensures.after in
    let p = err_from_is_err_and c.from_residual.result c.from_residual.ensures.1 in
    rw (p.1, p.2)
    (subst (λ (u : Unread). IsNext (inlet_at (g.L.Stream.told c.args.link.now) u) (inlet_at (g.L.Stream.told c.take_piece.new.link) c.take_piece.new.frames) (Err c.in_err-take_piece.field-0.0))
    n.1 c.in_err-take_piece.ensures.err)

pub returns-in_default-clause-next : goal.returns-in_default-clause-next
returns-in_default-clause-next g c =
    let n = next_none c.args.frames.now c.next_to_server.new.self c.next_to_server.result (c.in-Ok.is ∙ ap Ok c.in_default.is) c.next_to_server.ensures.value c.next_to_server.ensures.after in
    subst (λ (u : Unread). IsNext (inlet_at (g.L.Stream.told c.args.link.now) u) (inlet_at (g.L.Stream.told c.take_piece.new.link) c.take_piece.new.frames) (Ok None))
    n.1 c.in_ok-take_piece.ensures.ok

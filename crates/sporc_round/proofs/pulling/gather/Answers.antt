use Rattle.std.proofs.Common.{◌≡◌, length, ap, ◌∙◌}
use Rattle.std.proofs.lemmas.Result.{err_from_is_err_and}
use Rattle.sporc_client.specs.ClientModel.{state_of}
use Rattle.sporc_exchange.specs.Wires.{link_at}
use Rattle.sporc_round.proofs.Pulled.{asking_stops, taking_stops}
use Rattle.sporc_round.proofs.pulling.gather.Goals as goal

pub returns-in_err-entries-clause-gathers : goal.returns-in_err-entries-clause-gathers
returns-in_err-entries-clause-gathers g c =
    let p = err_from_is_err_and c.from_residual.result c.from_residual.ensures.1 in
    let n : c.len.result ≡ length (state_of c.args.client.now).entries = c.len.ensures.value ∙ ap length c.heads.ensures.entries in
    rw (p.1, p.2) (asking_stops c.args.client.now (link_at (g.L.Stream.told c.args.link.now) c.args.inbox.now) (link_at (g.L.Stream.told c.pull.new.link) c.pull.new.inbox) c.len.result c.in_err-entries.field-0.0 n c.in_err-entries.ensures.pulled.err)

pub returns-in_err-take_all-clause-gathers : goal.returns-in_err-take_all-clause-gathers
returns-in_err-take_all-clause-gathers g c =
    let p = err_from_is_err_and c.from_residual-in_err-take_all.result c.from_residual-in_err-take_all.ensures.1 in
    let n : c.len.result ≡ length (state_of c.args.client.now).entries = c.len.ensures.value ∙ ap length c.heads.ensures.entries in
    rw (p.1, p.2) (taking_stops c.args.client.now c.take_all.new.client (link_at (g.L.Stream.told c.args.link.now) c.args.inbox.now) (link_at (g.L.Stream.told c.pull.new.link) c.pull.new.inbox) c.len.result c.in_ok-entries.entries c.as_slice.result.now c.in_err-take_all.field-0.0 n c.in_ok-entries.ensures.pulled.ok c.as_slice.ensures.value c.in_err-take_all.ensures.takes.err)

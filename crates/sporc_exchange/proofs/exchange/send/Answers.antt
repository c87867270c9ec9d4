use Rattle.std.proofs.Common.{◌≡◌, Ok, refl, sym, ap, ◌∙◌}
use Rattle.sporc_exchange.proofs.Common.{err_from_is_err_and, link_at}
use Rattle.sporc_exchange.proofs.Linking.{sent_less, sent_nothing, sent_whole}
use Rattle.sporc_exchange.proofs.exchange.send.Goals as goal

pub returns-in-Ok-clause-sent : goal.returns-in-Ok-clause-sent
returns-in-Ok-clause-sent g c =
    let left : (g.L.Stream.told c.write_all.new.out).left ≡ (g.L.Stream.told c.args.link.now).left = c.write_all.ensures.left in
    let bytes = c.in_ok-bytes.ensures.value ∙ ap Ok (sym c.as_slice.ensures.value) in
    record {
      ok = sent_whole (link_at (g.L.Stream.told c.args.link.now) c.args.inbox.now)
          (link_at (g.L.Stream.told c.write_all.new.out) c.args.inbox.now)
          (g.M.Sent.message c.args.message.now) c.as_slice.result.now c.requires bytes left refl c.in-Ok.ensures.ok c.in-Ok.ensures.count.kept;
      err = tt;
    }

pub returns-clause-sent : goal.returns-clause-sent
returns-clause-sent g c =
    let left : (g.L.Stream.told c.write_all.new.out).left ≡ (g.L.Stream.told c.args.link.now).left = c.write_all.ensures.left in
    let bytes = c.in_ok-bytes.ensures.value ∙ ap Ok (sym c.as_slice.ensures.value) in
    record {
      ok = tt;
      err = sent_less (link_at (g.L.Stream.told c.args.link.now) c.args.inbox.now)
          (link_at (g.L.Stream.told c.write_all.new.out) c.args.inbox.now)
          (g.M.Sent.message c.args.message.now) c.as_slice.result.now c.requires bytes left refl c.in-Err.ensures.err c.in-Err.ensures.count.kept c.in-Err.ensures.count.failed;
    }

pub returns-in_err-bytes-clause-sent : goal.returns-in_err-bytes-clause-sent
returns-in_err-bytes-clause-sent g c =
    let p = err_from_is_err_and c.from_residual.result c.from_residual.ensures.1 in
    rw (p.1, p.2) (record { ok = tt; err = sent_nothing (link_at (g.L.Stream.told c.args.link.now) c.args.inbox.now) (g.M.Sent.message c.args.message.now) })

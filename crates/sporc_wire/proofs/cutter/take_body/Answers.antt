use Rattle.std.proofs.Common.{◌≡◌, Ok, inl, inr, sym, ap, ◌∙◌}
use Rattle.sporc_wire.proofs.Common.{too_long}
use Rattle.sporc_wire.proofs.Cuts.{head_of}
use Rattle.sporc_wire.proofs.Decoding.{Says, says, says_ours, says_fits, says_same, says_front, says_err, same_length, no_length}
use Rattle.sporc_wire.proofs.cutter.take_body.Goals as goal

ok : (c : goal.In-Ok) → Says c.args.codec.now c.args.buffer.now.items (Ok c.in-Ok.found) c.decode-found.new.self c.decode-found.new.src.items
ok c = says _ _ _ _ c.bytes_of-before.ensures.fits c.bytes_of-after.ensures.fits c.requires (Ok c.in-Ok.found) c.in-Ok.ensures.next c.in-Ok.ensures.settled

pub returns-in-Ok-clause-ours : goal.returns-in-Ok-clause-ours
returns-in-Ok-clause-ours c = says_ours c.args.codec.now c.decode-found.new.self c.args.buffer.now.items c.decode-found.new.src.items c.in-Ok.found (ok c)

pub returns-in-Ok-clause-fits : goal.returns-in-Ok-clause-fits
returns-in-Ok-clause-fits c = says_fits c.args.codec.now c.decode-found.new.self c.args.buffer.now.items c.decode-found.new.src.items c.in-Ok.found (ok c)

pub returns-in-Ok-clause-same : goal.returns-in-Ok-clause-same
returns-in-Ok-clause-same c = says_same c.args.codec.now c.decode-found.new.self c.args.buffer.now.items c.decode-found.new.src.items c.in-Ok.found (ok c)

pub returns-in-Ok-clause-ok : goal.returns-in-Ok-clause-ok
returns-in-Ok-clause-ok c = says_front c.args.codec.now c.decode-found.new.self c.args.buffer.now.items c.decode-found.new.src.items c.in-Ok.found (ok c)

pub length_of-requires : goal.length_of-requires
length_of-requires c =
    let fails = says_err _ _ _ _ _ c.bytes_of-before.ensures.fits c.bytes_of-after.ensures.fits c.requires c.in-Err.ensures.next in
    rw c.bytes_of-after.ensures.same (fails.long (sym c.kind.ensures ∙ c.in-InvalidData.is))

pub returns-in-InvalidData : goal.returns-in-InvalidData
returns-in-InvalidData c =
    let fails = says_err _ _ _ _ _ c.bytes_of-before.ensures.fits c.bytes_of-after.ensures.fits c.requires c.in-Err.ensures.next in
    let len : c.length_of.result ≡ head_of c.decode-found.new.src.items = rw c.bytes_of-after.ensures.same at c.length_of.ensures in
    record {
      ours = fails.ours;
      fits = tt;
      unread = fails.same;
      same = tt;
      ok = tt;
      too_long = λ n e. fails.cause (sym c.kind.ensures ∙ c.in-InvalidData.is) ∙ ap too_long (sym len ∙ same_length c.length_of.result n e);
    }

pub returns-in-OutOfMemory : goal.returns-in-OutOfMemory
returns-in-OutOfMemory c =
    let fails = says_err _ _ _ _ _ c.bytes_of-before.ensures.fits c.bytes_of-after.ensures.fits c.requires c.in-Err.ensures.next in
    record { ours = fails.ours; fits = tt; unread = fails.same; same = tt; ok = tt; too_long = λ n e. absurd (no_length n e) }

pub unreachable-requires : goal.unreachable-requires
unreachable-requires c =
    let fails = says_err _ _ _ _ _ c.bytes_of-before.ensures.fits c.bytes_of-after.ensures.fits c.requires c.in-Err.ensures.next in
    elim fails.kind [
      | inl long ↦ absurd (c.in_default.not-InvalidData (c.kind.ensures ∙ long))
      | inr memory ↦ absurd (c.in_default.not-OutOfMemory (c.kind.ensures ∙ memory))
    ]

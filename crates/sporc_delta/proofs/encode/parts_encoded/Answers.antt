use Rattle.sporc_delta.proofs.Spelled.{written_more, written_all, typed_more, typed_all}
use Rattle.sporc_delta.proofs.encode.parts_encoded.Goals as goal

pub loop-part-preserved : goal.loop-part-preserved
loop-part-preserved c =
    let parts = c.args.parts.now in
    let i = c.loop-part.part-index in
    let part = c.part-item.result in
    record {
      bytes = written_more parts i part c.loop-part.bytes.items c.put_part.new.bytes.items c.loop-part-test.true c.part-item.is c.in_ok-put_part.ensures.ok
          c.loop-part.invariant.bytes;
      typed = typed_more parts i part c.loop-part-test.true c.part-item.is c.in_ok-put_part.ensures.typed c.loop-part.invariant.typed;
    }

pub returns-clause-ok : goal.returns-clause-ok
returns-clause-ok c = written_all c.args.parts.now c.loop-part.part-index c.loop-part.bytes.items c.loop-part-test.false c.loop-part.invariant.bytes

pub returns-clause-typed : goal.returns-clause-typed
returns-clause-typed c = typed_all c.args.parts.now c.loop-part.part-index c.loop-part-test.false c.loop-part.invariant.typed

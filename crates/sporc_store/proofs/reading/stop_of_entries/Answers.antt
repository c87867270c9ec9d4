use Rattle.sporc_store.proofs.Taking.{stops_behind, stops_cut, stops_later}
use Rattle.std.proofs.Common.{◌∙◌}
use Rattle.sporc_store.proofs.reading.stop_of_entries.Goals as goal

pub returns-in-Err-clause-value : goal.returns-in-Err-clause-value
returns-in-Err-clause-value c = stops_cut c.args.count c.loop.counter c.loop.cursor c.in-Err.field-0.0 _ c.loop-test.true c.in-Err.ensures.err c.loop.invariant

pub loop-preserved : goal.loop-preserved
loop-preserved c = stops_later c.args.count c.loop.counter c.loop.cursor c.counted.new.self c.in-Ok.field-0.now _ c.loop-test.true c.in-Ok.ensures.ok c.loop.invariant

pub returns-clause-value : goal.returns-clause-value
returns-clause-value c = c.stop_at_end.ensures.value ∙ stops_behind c.args.count c.loop.counter c.loop.cursor _ c.loop-test.false c.loop.invariant

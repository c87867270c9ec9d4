use Rattle.sporc_entry.proofs.Common.{err_from_is_err_and, values_at, wrap_at, left_by}
use Rattle.sporc_entry.proofs.Skimmed.{skims_on, skim_ends, skim_done}
use Rattle.sporc_entry.proofs.skimming.skim_wraps.Goals as goal

pub returns-in_err-read_wrap : goal.returns-in_err-read_wrap
returns-in_err-read_wrap c =
    let p = err_from_is_err_and c.from_residual.result c.from_residual.ensures.1 in
    rw (p.1, p.2) (skim_ends wrap_at c.args.count c.loop.counter c.loop.cursor (left_by (values_at wrap_at c.args.count c.args.cursor.now)) c.loop.invariant c.in_err-read_wrap.field-0.0.0 c.loop-test.true c.in_err-read_wrap.ensures)

pub loop-preserved : goal.loop-preserved
loop-preserved c = skims_on wrap_at c.args.count c.loop.counter c.loop.cursor (left_by (values_at wrap_at c.args.count c.args.cursor.now)) c.loop.invariant _ _ c.loop-test.true c.in_ok-read_wrap.ensures

pub returns : goal.returns
returns c = skim_done wrap_at c.args.count c.loop.counter c.loop.cursor (left_by (values_at wrap_at c.args.count c.args.cursor.now)) c.loop.invariant c.loop-test.false

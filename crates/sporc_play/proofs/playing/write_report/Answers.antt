use Rattle.std.proofs.Common.{Err, ◌++◌, sym, ap, subst, arith}
use Rattle.sporc_play.proofs.Common.{err_from_is_err_and, Scene, StandsFor}
use Rattle.std.proofs.KnownBytes.{Appends-trans}
use Rattle.sporc_play.proofs.Founders.{are_declared, has_admin_later}
use Rattle.sporc_play.proofs.Ready.{next_can}
use Rattle.sporc_play.proofs.Reported.{reports_all, reports_failed, reports_more, reports_none, scene_at, scene_more}
use Rattle.sporc_play.proofs.playing.write_report.Goals as goal

pub new-requires : goal.new-requires
new-requires g c = record { declared = let (text, within, reads) = c.requires in are_declared text c.args.lines.now reads }

pub write_line-requires : goal.write_line-requires
write_line-requires g c =
    next_can c.args.lines.now c.loop-line.state c.loop-line.line-index c.line-item.result c.requires c.loop-line-test.true c.line-item.is
    (has_admin_later c.args.lines.now c.loop-line.line-index) c.loop-line.invariant.stands

pub returns-in_err-state-clause-err : goal.returns-in_err-state-clause-err
returns-in_err-state-clause-err g c =
    let failed = err_from_is_err_and c.from_residual.result c.from_residual.ensures.1 in
    rw failed.1 (reports_none c.args.lines.now _)

pub returns-in-Err-clause-err : goal.returns-in-Err-clause-err
returns-in-Err-clause-err g c =
    reports_failed c.args.lines.now c.loop-line.line-index c.line-item.result _ _ _ _ _ c.in-Err.fault c.loop-line-test.true c.line-item.is
    c.loop-line.invariant.written c.in-Err.ensures.causes (λ is. ap (λ l. (g.O.Stream.told l).written) (c.in-Err.ensures.memory (ap Err is)))
    (λ is. c.in-Err.ensures.prefix (ap Err is) c.args.lines.now (scene_at c.args.lines.now c.loop-line.line-index) c.loop-line.invariant.stands)

pub returns-clause-ok : goal.returns-clause-ok
returns-clause-ok g c = reports_all c.args.lines.now c.loop-line.line-index _ _ (omega arith) c.loop-line.invariant.written

pub loop-line-preserved : goal.loop-line-preserved
loop-line-preserved g c =
    let lines = c.args.lines.now in
    let scene = scene_at lines c.loop-line.line-index in
    let (report, so_far, first) = c.loop-line.invariant.written in
    let (line, writes, then) = c.in_default.ensures.ok lines scene c.loop-line.invariant.stands in
    record {
      written = (
        report ++ line,
        reports_more lines c.loop-line.line-index c.line-item.result report line c.loop-line-test.true c.line-item.is so_far writes,
        Appends-trans _ _ _ _ _ first then,
      );
      stands = subst (λ (s : Scene). StandsFor lines s c.write_line.new.state) (sym (scene_more lines c.loop-line.line-index c.line-item.result c.loop-line-test.true c.line-item.is))
          (c.in_default.ensures.state lines scene c.loop-line.invariant.stands);
      kept = omega (arith, c.in_default.ensures.kept, c.loop-line.invariant.kept);
    }

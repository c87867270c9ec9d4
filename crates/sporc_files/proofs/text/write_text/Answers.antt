use Rattle.sporc_files.proofs.Common.{AppendsPrefix-first, AppendsPrefix-then}
use Rattle.sporc_files.proofs.Written.{any_err, cut_as, on_err, said}
use Rattle.sporc_files.proofs.text.write_text.Goals as goal

pub returns-in_err-write_middle-clause-err : goal.returns-in_err-write_middle-clause-err
returns-in_err-write_middle-clause-err g c =
    let before = said _ _ _ c.args.text.before.now (cc) c.in_ok-write_all.ensures.ok in
    any_err _ _ (AppendsPrefix-then _ _ _ c.args.text.before.now _ before (AppendsPrefix-first _ _ _ c.args.text.behind.now c.in_err-write_middle.ensures.err))

pub returns-clause-err : goal.returns-clause-err
returns-clause-err g c =
    let before = said _ _ _ c.args.text.before.now (cc) c.in_ok-write_all.ensures.ok in
    on_err c.write_all-2.result _ _ (λ cut. AppendsPrefix-then _ _ _ c.args.text.before.now _ before
    (AppendsPrefix-then _ _ _ _ c.args.text.behind.now c.in_ok-write_middle.ensures.ok (cut_as _ _ c.as_bytes-2.result.now c.args.text.behind.now (cc) cut))) c.write_all-2.ensures.err

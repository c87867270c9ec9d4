use Rattle.sporc_files.proofs.Common.{AppendsPrefix-first, AppendsPrefix-then, argument_text, space_of, stem_before, text_bytes}
use Rattle.sporc_files.proofs.Written.{any_err, cut_as, on_err, said}
use Rattle.sporc_files.proofs.argument.write_argument.Goals as goal

pub returns-in_err-write_all-2-clause-err : goal.returns-in_err-write_all-2-clause-err
returns-in_err-write_all-2-clause-err g c =
    let before = said _ _ _ (space_of c.args.argument) (cc) c.in_ok-write_all.ensures.ok in
    let stem = cut_as _ _ _ (stem_before c.args.names.now c.args.argument) (cc) c.in_err-write_all-2.ensures.err in
    any_err _ _ (AppendsPrefix-then _ _ _ (space_of c.args.argument) _ before (AppendsPrefix-first _ _ _ (argument_text c.args.argument) stem))

pub returns-clause-err : goal.returns-clause-err
returns-clause-err g c =
    let before = said _ _ _ (space_of c.args.argument) (cc) c.in_ok-write_all.ensures.ok in
    let stem = said _ _ _ (stem_before c.args.names.now c.args.argument) (cc) c.in_ok-write_all-2.ensures.ok in
    on_err c.write_text.result _ _ (λ cut. AppendsPrefix-then _ _ _ (space_of c.args.argument) _ before
    (AppendsPrefix-then _ _ _ (stem_before c.args.names.now c.args.argument) _ stem
    (cut_as _ _ (text_bytes c.text.result) (argument_text c.args.argument) c.text.ensures cut))) c.write_text.ensures.err

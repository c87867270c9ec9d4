use Rattle.std.proofs.Common.{codes}
use Rattle.sporc_files.proofs.Common.{flat_map, AppendsPrefix-first, AppendsPrefix-then, argument_bytes, fault_arguments, fault_words}
use Rattle.sporc_files.proofs.Written.{any_err, cut_as, on_err, said}
use Rattle.sporc_files.proofs.fault.Fault.write_line.Goals as goal

pub returns-in_err-write_all-clause-err : goal.returns-in_err-write_all-clause-err
returns-in_err-write_all-clause-err g c = any_err _ _ (AppendsPrefix-first _ _ (codes "fault ") _ c.in_err-write_all.ensures.err)

pub returns-in_err-write_all-2-clause-err : goal.returns-in_err-write_all-2-clause-err
returns-in_err-write_all-2-clause-err g c =
    let words = cut_as _ _ _ (fault_words c.args.self) (cc) c.in_err-write_all-2.ensures.err in
    any_err _ _ (AppendsPrefix-then _ _ _ (codes "fault ") _ c.in_ok-write_all.ensures.ok (AppendsPrefix-first _ _ (fault_words c.args.self) _ words))

pub returns-in_err-write_arguments-clause-err : goal.returns-in_err-write_arguments-clause-err
returns-in_err-write_arguments-clause-err g c =
    let words = said _ _ _ (fault_words c.args.self) (cc) c.in_ok-write_all-2.ensures.ok in
    let cut = cut_as _ _ _ (flat_map (argument_bytes c.args.names.now) (fault_arguments c.args.self)) (cc) c.in_err-write_arguments.ensures.err in
    any_err _ _ (AppendsPrefix-then _ _ _ (codes "fault ") _ c.in_ok-write_all.ensures.ok (AppendsPrefix-then _ _ _ (fault_words c.args.self) _ words
    (AppendsPrefix-first _ _ _ (codes "\n") cut)))

pub returns-clause-err : goal.returns-clause-err
returns-clause-err g c =
    let words = said _ _ _ (fault_words c.args.self) (cc) c.in_ok-write_all-2.ensures.ok in
    let all = said _ _ _ (flat_map (argument_bytes c.args.names.now) (fault_arguments c.args.self)) (cc) c.in_ok-write_arguments.ensures.ok in
    on_err c.write_all-3.result _ _ (λ cut. AppendsPrefix-then _ _ _ (codes "fault ") _ c.in_ok-write_all.ensures.ok (AppendsPrefix-then _ _ _ (fault_words c.args.self) _ words
    (AppendsPrefix-then _ _ _ _ (codes "\n") all cut))) c.write_all-3.ensures.err

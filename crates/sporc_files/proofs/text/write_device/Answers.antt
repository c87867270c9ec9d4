use Rattle.std.proofs.Common.{codes}
use Rattle.sporc_files.proofs.Common.{AppendsPrefix-first, AppendsPrefix-then, device_text, decimal}
use Rattle.sporc_files.proofs.Written.{any_err, cut_as, further_text, on_err, said}
use Rattle.sporc_files.proofs.text.write_device.Goals as goal

pub returns-in_err-write_all-clause-err : goal.returns-in_err-write_all-clause-err
returns-in_err-write_all-clause-err g c =
    let d = c.args.device in
    let member = said _ _ _ (decimal d.member) (cc) c.in_ok-write_number.ensures.ok in
    let dot = cut_as _ _ _ (codes ".") (cc) c.in_err-write_all.ensures.err in
    any_err _ _ (cut_as _ _ _ (device_text d) (further_text d c.if-device-eq-FIRST_DEVICE.false)
    (AppendsPrefix-then _ _ _ (decimal d.member) _ member (AppendsPrefix-first _ _ (codes ".") (decimal d.number) dot)))

pub returns-clause-err : goal.returns-clause-err
returns-clause-err g c =
    let d = c.args.device in
    let member = said _ _ _ (decimal d.member) (cc) c.in_ok-write_number.ensures.ok in
    let dot = said _ _ _ (codes ".") (cc) c.in_ok-write_all.ensures.ok in
    on_err c.write_number-2.result _ _ (λ cut. cut_as _ _ _ (device_text d) (further_text d c.if-device-eq-FIRST_DEVICE.false)
    (AppendsPrefix-then _ _ _ (decimal d.member) _ member (AppendsPrefix-then _ _ _ (codes ".") (decimal d.number) dot (cut_as _ _ _ (decimal d.number) (cc) cut)))) c.write_number-2.ensures.err

use Rattle.std.proofs.Common.{arith, ap, sym, ◌∙◌}
use Rattle.sporc_line.proofs.Common.{err_from_is_err_and, Memory, unless_exit}
use Rattle.std.specs.Option.{option_copied}
use Rattle.sporc_line.proofs.Effects.{edit_seen, seen_size, seen_within, seen_bad, seen_wrong, seen_right, seen_small, seen_does, no_key}
use Rattle.sporc_line.proofs.line.Line.edit_effect.Goals as goal

pub returns-in_default-clause-fault : goal.returns-in_default-clause-fault
returns-in_default-clause-fault c other =
    no_key c.args.self.now.genesis c.args.self.now.kit c.args.self.now.entries c.args.checked.now c.requires.checked c.requires.edit (ap option_copied (sym c.in_default.is) ∙ c.key.ensures.value)

pub read_payload-requires : goal.read_payload-requires
read_payload-requires c =
    let s = edit_seen {kit = c.args.self.now.kit} {key = c.in-Some.key.now} c.requires.checked c.requires.edit (ap option_copied (sym c.in-Some.is) ∙ c.key.ensures.value) c.header-header.ensures.value c.stream_of.ensures.value c.body.ensures.value in
    omega (arith, seen_size s)

pub returns-in_err-marks-clause-fault : goal.returns-in_err-marks-clause-fault
returns-in_err-marks-clause-fault c =
    let p = err_from_is_err_and c.from_residual.result c.from_residual.ensures.1 in
    let s = edit_seen {kit = c.args.self.now.kit} {key = c.in-Some.key.now} c.requires.checked c.requires.edit (ap option_copied (sym c.in-Some.is) ∙ c.key.ensures.value) c.header-header.ensures.value c.stream_of.ensures.value c.body.ensures.value in
    unless_exit Memory _ p.0 c.in_err-marks.field-0.0 _ p.1 p.2 (λ n. seen_bad s c.in_err-marks.field-0.0 (c.in_err-marks.ensures.fault n))

pub text_len_at-requires : goal.text_len_at-requires
text_len_at-requires c =
    let s = edit_seen {kit = c.args.self.now.kit} {key = c.in-Some.key.now} c.requires.checked c.requires.edit (ap option_copied (sym c.in-Some.is) ∙ c.key.ensures.value) c.header-header.ensures.value c.stream_of.ensures.value c.body.ensures.value in
    seen_within s

pub returns-then-base_len-text_len_at-clause-fault : goal.returns-then-base_len-text_len_at-clause-fault
returns-then-base_len-text_len_at-clause-fault c other =
    let s = edit_seen {kit = c.args.self.now.kit} {key = c.in-Some.key.now} c.requires.checked c.requires.edit (ap option_copied (sym c.in-Some.is) ∙ c.key.ensures.value) c.header-header.ensures.value c.stream_of.ensures.value c.body.ensures.value in
    seen_wrong s c.in_ok-marks.marks c.in_ok-marks.ensures.ok (λ same. c.if-base_len-text_len_at.true (c.base_len.ensures.value ∙ same ∙ sym c.text_len_at.ensures.value))

pub over_forms-requires-clause-in_bounds : goal.over_forms-requires-clause-in_bounds
over_forms-requires-clause-in_bounds c =
    let s = edit_seen {kit = c.args.self.now.kit} {key = c.in-Some.key.now} c.requires.checked c.requires.edit (ap option_copied (sym c.in-Some.is) ∙ c.key.ensures.value) c.header-header.ensures.value c.stream_of.ensures.value c.body.ensures.value in
    seen_within s

pub over_forms-requires-clause-limit : goal.over_forms-requires-clause-limit
over_forms-requires-clause-limit c =
    let s = edit_seen {kit = c.args.self.now.kit} {key = c.in-Some.key.now} c.requires.checked c.requires.edit (ap option_copied (sym c.in-Some.is) ∙ c.key.ensures.value) c.header-header.ensures.value c.stream_of.ensures.value c.body.ensures.value in
    seen_small s c.in_ok-marks.marks c.in_ok-marks.ensures.ok

pub returns : goal.returns
returns c =
    let s = edit_seen {kit = c.args.self.now.kit} {key = c.in-Some.key.now} c.requires.checked c.requires.edit (ap option_copied (sym c.in-Some.is) ∙ c.key.ensures.value) c.header-header.ensures.value c.stream_of.ensures.value c.body.ensures.value in
    record {
      fault = seen_right s c.in_ok-marks.marks c.in_ok-marks.ensures.ok (sym c.base_len.ensures.value ∙ c.if-base_len-text_len_at.false ∙ c.text_len_at.ensures.value);
      ok = seen_does s c.in_ok-marks.marks c.in_ok-form.form c.in_ok-marks.ensures.ok c.in_ok-form.ensures.ok;
    }

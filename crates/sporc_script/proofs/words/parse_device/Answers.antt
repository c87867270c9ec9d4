use Rattle.std.proofs.Common.{None, Some, refl, ◌∙◌}
use Rattle.sporc_script.proofs.Common.{further_number_of}
use Rattle.sporc_script.proofs.DeviceWords.{device_split}
use Rattle.sporc_script.proofs.words.parse_device.Goals as goal

pub returns-in_err-member-2 : goal.returns-in_err-member-2
returns-in_err-member-2 c = record {
  value = c.from_residual-in_err-member-2.ensures ∙ device_split c.args.word.now c.in-Some.first.now c.in-Some.rest.now None (further_number_of c.in-Some.rest.now) c.in-Some.ensures.value c.in_err-member-2.ensures.value refl;
}

pub returns-in_err-number : goal.returns-in_err-number
returns-in_err-number c = record {
  value = c.from_residual-in_err-number.ensures ∙ device_split c.args.word.now c.in-Some.first.now c.in-Some.rest.now (Some c.in_ok-member-2.member) None c.in-Some.ensures.value c.in_ok-member-2.ensures.value c.in_err-number.ensures.value;
}

pub returns : goal.returns
returns c = record {
  value = device_split c.args.word.now c.in-Some.first.now c.in-Some.rest.now (Some c.in_ok-member-2.member) (Some c.in_ok-number.number) c.in-Some.ensures.value c.in_ok-member-2.ensures.value c.in_ok-number.ensures.value;
}

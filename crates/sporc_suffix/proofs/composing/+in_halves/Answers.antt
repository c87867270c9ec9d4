use Rattle.std.proofs.Common.{◌∙◌, arith}
use Rattle.sporc_suffix.proofs.InOne.{halves, one_ready}
use Rattle.sporc_suffix.proofs.composing.+in_halves.Goals as goal

pub in_halves-requires : goal.in_halves-requires
in_halves-requires t c =
    let h = halves c.args.len c.args.forms.now c.split_at.result.0.now c.split_at.result.1.now c.split_at.ensures.by_index.0 c.requires.follow in
    (omega (arith, c.in_default.len_at_least, c.split_at.ensures.front_len, c.decreases), (h.front_follow, c.requires.limit))

pub in_halves-requires-in_default : goal.in_halves-requires-in_default
in_halves-requires-in_default t c =
    let h = halves c.args.len c.args.forms.now c.split_at.result.0.now c.split_at.result.1.now c.split_at.ensures.by_index.0 c.requires.follow in (
      omega (arith, c.in_default.len_at_least, c.split_at.ensures.front_len, c.split_at.ensures.back_len, c.decreases),
      (rw (c.out_len.ensures.value, c.in_ok-front-in_default.ensures.ok) h.back_follow, c.out_len.ensures.within),
    )

pub compose-requires : goal.compose-requires
compose-requires t c =
    let h = halves c.args.len c.args.forms.now c.split_at.result.0.now c.split_at.result.1.now c.split_at.ensures.by_index.0 c.requires.follow in
    rw (c.in_ok-back-in_default.ensures.ok, c.out_len.ensures.value, c.in_ok-front-in_default.ensures.ok) h.joined

pub returns-in_ok-one-in-len1 : goal.returns-in_ok-one-in-len1
returns-in_ok-one-in-len1 t c = record {
  ok = c.in_ok-one-in-len1.ensures.ok ∙ c.form.ensures.value ∙ one_ready c.args.len c.args.forms.now c.form-item.result (omega (arith, c.in-len1.len_at_least)) (omega (arith, c.in-len1.len_below)) c.form-item.is c.requires.follow;
}

pub returns-in_ok-whole-in_default : goal.returns-in_ok-whole-in_default
returns-in_ok-whole-in_default t c =
    let h = halves c.args.len c.args.forms.now c.split_at.result.0.now c.split_at.result.1.now c.split_at.ensures.by_index.0 c.requires.follow in
    record { ok = rw (c.in_ok-whole-in_default.ensures.ok, c.in_ok-back-in_default.ensures.ok, c.out_len.ensures.value, c.in_ok-front-in_default.ensures.ok) h.whole }

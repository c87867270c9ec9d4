use Rattle.std.proofs.Common.{ap, ◌∙◌, arith}
use Rattle.sporc_client.proofs.Common.{keep_marks, base_len-keep_marks, length-text}
use Rattle.sporc_client.proofs.workspace.ready_keep.Goals as goal

pub keep_all-requires : goal.keep_all-requires
keep_all-requires c = omega (arith, c.shown_len.ensures.value, c.requires.limit)

pub ready-requires : goal.ready-requires
ready-requires c = record { base = rw c.in_ok-keep.ensures.ok (base_len-keep_marks c.shown_len.result ∙ c.shown_len.ensures.value ∙ length-text c.args.own.now.shown c.requires.follow) }

pub returns-clause-ok : goal.returns-clause-ok
returns-clause-ok c = c.in_ok-ready.ensures.ok ∙ c.in_ok-keep.ensures.ok ∙ ap keep_marks c.shown_len.ensures.value

use Rattle.std.proofs.Common.{ap, ◌∙◌}
use Rattle.sporc_client.proofs.Common.{base_len}
use Rattle.sporc_client.proofs.Comings.{form_there}
use Rattle.sporc_client.proofs.client.accepting.ready_coming.Goals as goal

pub settle-requires : goal.settle-requires
settle-requires c = record { follow = c.requires.settles.follow; text_limit = c.requires.settles.short; over = c.requires.settles.over; limit = c.requires.settles.limit }

pub ready-requires : goal.ready-requires
ready-requires c =
    let form = form_there c.args.own.now c.args.prepared.now c.args.bytes.now c.in_ok-coming.form c.requires.bytes c.in_ok-coming.ensures.form in
    record { base = ap base_len form ∙ c.requires.settles.base }

pub returns-in-Ok-clause-ready_form : goal.returns-in-Ok-clause-ready_form
returns-in-Ok-clause-ready_form c =
    c.in-Ok.ensures.ok ∙ form_there c.args.own.now c.args.prepared.now c.args.bytes.now c.in_ok-coming.form c.requires.bytes c.in_ok-coming.ensures.form

use Rattle.std.proofs.Common.{rules, drop}
use Rattle.sporc_client.proofs.Common.{plain_of}
use Rattle.sporc_client.proofs.SubmitEntries.{can_take, due_first, due_some, making, short_entry, signed_is, unsigned_is}
use Rattle.sporc_client.proofs.client.submitting.making.make_signed.Goals as goal

pub first_item-requires : goal.first_item-requires
first_item-requires g c = due_some (plain_of c.args.signer.now.key c.args.line.now c.args.own.now) c.requires.due

pub unsigned_entry-requires : goal.unsigned_entry-requires
unsigned_entry-requires g c =
    let plain = plain_of c.args.signer.now.key c.args.line.now c.args.own.now in
    let is = due_first plain c.first_item.result.now (drop 1 c.args.own.now.pending) c.requires.due c.first_item.ensures in
    can_take c.args.signer.now.key c.args.line.now c.args.own.now c.first_item.result.now is c.requires.sound

pub sign_entry-requires : goal.sign_entry-requires
sign_entry-requires g c =
    let key = c.args.signer.now.key in
    let plain = plain_of key c.args.line.now c.args.own.now in
    let item = c.first_item.result.now in
    let random = c.args.random.now in
    let e = c.in-Ok.ensures in
    let is = due_first plain item (drop 1 c.args.own.now.pending) c.requires.due c.first_item.ensures in
    let unsigned = unsigned_is key c.args.line.now c.args.own.now random c.args.ticket c.leaf.result c.second_half-new_key.result item c.in-Ok.entry c.leaf.ensures.value c.second_half-new_key.ensures.value
    e.value e.header e.spelled in
    let short = short_entry plain random c.args.ticket item c.in-Ok.entry is unsigned in
    record { ticket_limit = c.requires.limit; version = unsigned.header.version; body_limit = short.body; limit = short.string }

pub returns-in-Ok : goal.returns-in-Ok
returns-in-Ok g c =
    let key = c.args.signer.now.key in
    let plain = plain_of key c.args.line.now c.args.own.now in
    let item = c.first_item.result.now in
    let random = c.args.random.now in
    let e = c.in-Ok.ensures in
    let is = due_first plain item (drop 1 c.args.own.now.pending) c.requires.due c.first_item.ensures in
    let unsigned = unsigned_is key c.args.line.now c.args.own.now random c.args.ticket c.leaf.result c.second_half-new_key.result item c.in-Ok.entry c.leaf.ensures.value c.second_half-new_key.ensures.value
    e.value e.header e.spelled in
    let makes = making plain random c.args.ticket item c.in-Ok.entry is c.requires.sound c.told-random c.requires.limit unsigned in
    let signed = signed_is plain random c.first_half.result c.args.ticket item c.in-Ok.entry c.sign_entry.result makes unsigned c.first_half.ensures.value c.sign_entry.ensures.made in
    record { answer = signed.answer; made = search rules; submission = signed.is_submission; returned = search rules; unchanged = search rules }

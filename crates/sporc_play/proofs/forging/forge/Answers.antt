use Rattle.std.proofs.Common.{◌+◌, ◌<◌, ◌^◌, List, ℕ, Err, arith, ap, sym, subst, ◌∙◌}
use Rattle.sporc_play.proofs.Common.{SignerModel, LmsPrivate, height_of, Device, state_of, random_of, signed_by, AreDrawn}
use Rattle.sporc_play.proofs.Forgeries.{forged_none, forged_signed, leaf_drawn, leaf_none, drawn_more}
use Rattle.sporc_play.proofs.forging.forge.Goals as goal

pub returns-in_ok-bytes-in-Ok-clause-entry : goal.returns-in_ok-bytes-in-Ok-clause-entry
returns-in_ok-bytes-in-Ok-clause-entry c = λ s own is.
    let client = state_of c.args.client.now in
    let f = c.args.forgery.now in
    let old = c.args.signer.now in
    let leaf = c.in-Ok.ticket in
    let drawn = leaf_drawn old.key old.leaves.next leaf old.leaves.leaf_count c.in-Ok.ensures.draws.given c.in-Ok.ensures.draws.within c.requires.leaves.count in
    forged_signed s client f c.args.t leaf c.in_ok-bytes-in-Ok.bytes.items _ drawn
    (c.in_ok-bytes-in-Ok.ensures.entry s (c.in-Ok.ensures.key ∙ own) is ∙ ap (λ (random : List ℕ). signed_by s client f random leaf) (c.random_of-random.ensures.value ∙ ap (λ (who : Device). random_of who c.args.t) c.first.ensures.value))

pub returns-in-Err-Exhausted-clause-entry : goal.returns-in-Err-Exhausted-clause-entry
returns-in-Err-Exhausted-clause-entry c = λ s own is.
    let old = c.args.signer.now in
    let used = (c.in-Err-Exhausted.ensures.faults.exhausted c.in-Err-Exhausted.field-0-0).0 (ap Err c.in-Err-Exhausted.field-0-is) in
    forged_none s (state_of c.args.client.now) c.args.forgery.now c.args.t _ _ (leaf_none old.key old.leaves.next old.leaves.leaf_count used.0 c.requires.leaves.count)

pub sign_with-requires-clause-ticket_limit : goal.sign_with-requires-clause-ticket_limit
sign_with-requires-clause-ticket_limit c = subst (λ (key : LmsPrivate). c.in-Ok.ticket < 2 ^ height_of key.lms) (sym c.in-Ok.ensures.key) c.in-Ok.ensures.within

pub returns-in_ok-bytes-in-Ok-clause-drawn : goal.returns-in_ok-bytes-in-Ok-clause-drawn
returns-in_ok-bytes-in-Ok-clause-drawn c =
    let old = c.args.signer.now in
    let draws = c.in-Ok.ensures.draws in
    subst (AreDrawn old.key (old.leaves.next + 1)) (sym (ap (λ (signer : SignerModel _). signer.leaves) c.in_ok-bytes-in-Ok.ensures.unchanged))
    (drawn_more old.key old.leaves c.draw.new.self.leaves 1 c.requires.leaves draws.next (omega (arith, draws.given, draws.within)) draws.leaf_count
    (λ faulty. let failed = c.in-Ok.ensures.faults.faulty.0 faulty in cc))

pub returns-in-Err-Exhausted-clause-drawn : goal.returns-in-Err-Exhausted-clause-drawn
returns-in-Err-Exhausted-clause-drawn c =
    let old = c.args.signer.now in
    let draws = c.in-Err-Exhausted.ensures.draws in
    let used = (c.in-Err-Exhausted.ensures.faults.exhausted c.in-Err-Exhausted.field-0-0).0 (ap Err c.in-Err-Exhausted.field-0-is) in
    drawn_more old.key old.leaves c.draw.new.self.leaves 0 c.requires.leaves (omega (arith, draws.next)) (omega (arith, used.0)) draws.leaf_count
    (λ faulty. let failed = c.in-Err-Exhausted.ensures.faults.faulty.0 faulty in let is = c.in-Err-Exhausted.field-0-is in cc)

use Rattle.std.proofs.Common.{rules, ◌≡◌, Err, Ok, Result, ap, sym, subst, ◌∙◌}
use Rattle.sporc_client.proofs.Common.{SubmitFault, Memory, plain_of, leaf_for, draw_fault, submission, GivesUnless, Made}
use Rattle.sporc_client.specs.declared.submitted.Submitted.TheVariants as submitted
use Rattle.sporc_client.proofs.Leaves.{drawn_is, is_draw, no_leaf}
use Rattle.sporc_client.proofs.SubmitEntries.{undrawn}
use Rattle.sporc_client.proofs.client.submitting.making.make_entry.Goals as goal

pub returns-in_err-ticket-clause-drawn : goal.returns-in_err-ticket-clause-drawn
returns-in_err-ticket-clause-drawn g c = λ none.
    is_draw g.D.LeafDisk.told c.args.signer.now.leaves c.take_ticket.new.signer.leaves (Err c.in_err-ticket.field-0.0)
    (c.in_err-ticket.ensures.draws none) (c.in_err-ticket.ensures.faults none)

pub returns-in_err-ticket-clause-value : goal.returns-in_err-ticket-clause-value
returns-in_err-ticket-clause-value g c =
    let plain = plain_of c.args.signer.now.key c.args.line.now c.args.own.now in
    let random = c.args.random.now in
    let fault = c.in_err-ticket.field-0.0 in
    let old = c.args.signer.now.leaves in
    let new = c.take_ticket.new.signer.leaves in
    let e = c.in_err-ticket.ensures in
    let is : c.from_residual.result ≡ Err (draw_fault fault) = search rules in
    let leaf : leaf_for c.args.kept.now old new ≡ Err fault =
    no_leaf c.args.kept.now old new fault (λ leaf h. (e.undrawn leaf h).0)
    (λ none. drawn_is g.D.LeafDisk.told old new (Err fault) (e.draws none) (e.faults none)) in
    let P : Result Made SubmitFault → Type 0 = λ r. GivesUnless Memory (λ made. submitted.Entry made.answer) r (submission plain random (leaf_for c.args.kept.now old new)) in
    subst P (sym is) (λ _. ap (submission plain random) leaf ∙ undrawn plain random fault c.requires.due)

pub returns-in-Ok-clause-drawn : goal.returns-in-Ok-clause-drawn
returns-in-Ok-clause-drawn g c = λ none.
    let ticket = c.in_ok-ticket in
    let same : c.make_signed.new.signer.leaves ≡ c.take_ticket.new.signer.leaves = ap (λ s. s.leaves) c.make_signed.ensures.unchanged in
    is_draw g.D.LeafDisk.told c.args.signer.now.leaves c.make_signed.new.signer.leaves (Ok ticket.ticket)
    (rw same (ticket.ensures.draws none)) (rw same (ticket.ensures.faults none))

pub returns-in-Err-clause-drawn : goal.returns-in-Err-clause-drawn
returns-in-Err-clause-drawn g c = λ none.
    let ticket = c.in_ok-ticket in
    let same : c.make_signed.new.signer.leaves ≡ c.take_ticket.new.signer.leaves = ap (λ s. s.leaves) c.make_signed.ensures.unchanged in
    is_draw g.D.LeafDisk.told c.args.signer.now.leaves c.make_signed.new.signer.leaves (Ok ticket.ticket)
    (rw same (ticket.ensures.draws none)) (rw same (ticket.ensures.faults none))

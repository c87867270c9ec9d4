use Rattle.std.proofs.Common.{rules, ◌≡◌, Err, Ok, inr, ap}
use Rattle.sporc_evidence.specs.Summary.{summary_of}
use Rattle.sporc_evidence.specs.Summarizing.{draw_fault}
use Rattle.sporc_evidence.proofs.Signing.{drew_once, fault_is, leaf_is, signed_is}
use Rattle.sporc_evidence.proofs.summarizing.summarize.Goals as goal

pub returns-in_err-ticket-clause-drawn : goal.returns-in_err-ticket-clause-drawn
returns-in_err-ticket-clause-drawn g c =
    let fault = c.in_err-ticket.field-0.0 in
    let e = c.in_err-ticket.ensures in
    let is : c.from_residual-in_err-ticket.result ≡ Err (draw_fault fault) = search rules in
    inr (drew_once g.D.LeafDisk.told c.args.signer.now.leaves (Err fault) c.from_residual-in_err-ticket.result _ (fault_is c.args.signer.now.leaves.next fault _ is) e.draws e.faults)

pub returns-clause-drawn : goal.returns-clause-drawn
returns-clause-drawn g c =
    let old = c.args.signer.now.leaves in
    let ticket = c.in_ok-ticket in
    let same = ap (λ s. s.leaves) c.sign_draft.ensures.unchanged in
    inr (drew_once g.D.LeafDisk.told old (Ok ticket.ticket) c.sign_draft.result _ (leaf_is old.next ticket.ticket _ ticket.ensures.draws.given c.sign_draft.ensures.err)
    (rw same ticket.ensures.draws) (rw same ticket.ensures.faults))

pub returns-clause-ok : goal.returns-clause-ok
returns-clause-ok g c =
    let ticket = c.in_ok-ticket in
    let draft = c.in_ok-draft in
    let x = summary_of c.args.line.now.genesis c.args.line.now.entries c.args.me c.args.device in
    signed_is c.sign_draft.result (λ made. made.items) c.args.signer.now.key c.draw.new.self.key c.args.signer.now.leaves.next ticket.ticket c.args.c.now draft.draft.message draft.draft.file x ticket.ensures.key ticket.ensures.draws.given
    draft.ensures.message draft.ensures.file c.sign_draft.ensures.ok

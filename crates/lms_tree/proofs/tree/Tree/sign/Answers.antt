use Rattle.std.proofs.Common.{◌≡◌, length, ◌∙◌, rules}
use Rattle.lms_tree.specs.Signatures.{lms_signature_of}
use Rattle.lms_tree.proofs.SignatureLemmas.{signature_is, signatures_verify}
use Rattle.lms_tree.proofs.tree.Tree.sign.Goals as goal
use Rattle.lms_tree.proofs.tree.Tree.sign.Goals.{After-drop-ots_signature-2}

signed : (c : After-drop-ots_signature-2) → c.in_ok-signature.signature.items ≡ lms_signature_of c.args.self.now c.args.q c.args.c.now c.args.message.now
signed c =
    signature_is c.args.self.now _ c.args.q c.args.c.now c.args.message.now _ _ _ _ _ c.self.view_is c.deref.ensures.value
    c.in_ok-ots_signature.ensures.value c.code-code.ensures.value (c.deref-2.ensures.value ∙ c.in_ok-path.ensures.ok) c.in_ok-signature.ensures

pub returns-clause-value : goal.returns-clause-value
returns-clause-value c = signed c

pub returns-clause-verifies : goal.returns-clause-verifies
returns-clause-verifies c =
    let size : length c.args.c.now ≡ 32 = search rules in
    rw (signed c) (signatures_verify c.args.self.now c.args.q c.args.c.now c.args.message.now size c.requires)

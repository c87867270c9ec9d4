use Rattle.std.proofs.Common.{◌++◌, Bool, List, ℕ, ap, ◌∙◌, string_bytes}
use Rattle.sporc_play.proofs.Common.{Device, first_device, state_of, leaf_after, signed_line}
use Rattle.sporc_play.proofs.Forgeries.{signing_is}
use Rattle.sporc_play.proofs.signing.sign.Goals as goal

pub returns-clause-line : goal.returns-clause-line
returns-clause-line c s key cast =
    let rogue = c.args.rogue.now in
    let f = c.args.forgery.now in
    rw c.in-Some.is (c.in_ok-push_signed.ensures
    ∙ ap (λ (who : Device). string_bytes c.args.out.now ++ signed_line who c.args.next c.is_some.result) c.first.ensures.value
    ∙ ap (λ (b : Bool). string_bytes c.args.out.now ++ signed_line (first_device f.member) c.args.next b) c.is_some.ensures
    ∙ ap (λ (l : List ℕ). string_bytes c.args.out.now ++ l)
    (signing_is (λ v. v.items) s (state_of c.in-Some.client.now) f _ c.args.next (leaf_after rogue.signer.key rogue.signer.leaves.next) c.in_ok-made.made (c.in_ok-made.ensures.entry s key cast)))

use Rattle.std.proofs.Common.{◌≡◌, ◌++◌, List, ℕ, ap, sym, ◌∙◌}
use Rattle.sporc_client.proofs.Common.{lms_public_of, lms_signature_of, lms_signature_len_of, signed_string}
use Rattle.sporc_client.proofs.SubmitEntries.{are_copies}
use Rattle.sporc_client.proofs.client.submitting.draft.sign_entry.Goals as goal

pub returns-in-Ok-sign-clause-made : goal.returns-in-Ok-sign-clause-made
returns-in-Ok-sign-clause-made g c =
    let key = c.args.signer.now.key in
    let e = c.args.entry.now in
    let draft = c.in-Ok.draft in
    let public : c.public.result ≡ lms_public_of key = c.public.ensures.value in
    let message : c.as_slice.result.now ≡ signed_string e = c.as_slice.ensures.value ∙ c.in-Ok.ensures.draft.message in
    let signature : c.in-Ok-sign.signature.items ≡ lms_signature_of key c.args.ticket c.args.randomizer.now (signed_string e) =
    c.in-Ok-sign.ensures.value ∙ ap (lms_signature_of key c.args.ticket c.args.randomizer.now) message in
    let behind : (xs : List ℕ) → xs ++ c.as_slice-in-Ok-sign.result.now ≡ xs ++ c.in-Ok-sign.signature.items = λ (xs : List ℕ). ap (λ (s : List ℕ). xs ++ s) c.as_slice-in-Ok-sign.ensures.value in
    are_copies e (lms_signature_len_of c.public.result) draft c.finish.result c.in-Ok-sign.signature.items _ c.in-Ok.ensures.draft
    (c.in-Ok-sign.ensures.verifies.form.size ∙ ap lms_signature_len_of (sym public)) signature
    (c.finish.ensures.answer ∙ behind draft.answer.items) (c.finish.ensures.flight ∙ behind draft.flight.items) (c.finish.ensures.event ∙ behind draft.event.items)

-- Verification as tests that compute.
use Rattle.std.proofs.Common.{◌≡◌, ◌↔◌, Bool, List, ℕ, IsTrue}
use Rattle.std.proofs.lemmas.Bool.Decides.{Decides-and, Decides-eqb, Decides-ltb, same_from_decides}
use Rattle.std.proofs.lemmas.Slice.Eq.{bytes_eq-Decides}
use Rattle.lms_tree.specs.declared.public_key.LmsPublic.{LmsPublic}
use Rattle.lms_tree.specs.Verification.{HasForm, Verifies, has_form, root_in, verifies}
use Rattle.lms_tree.specs.Laws.{VerificationComputes}

-- the test of the form is true exactly where the signature has it
pub has_form_decides : (key : LmsPublic) (signature : List ℕ) → IsTrue (has_form key signature) ↔ HasForm key signature
has_form_decides key signature =
    let tests = Decides-and _ _ (Decides-and _ _ (Decides-and _ _ (Decides-eqb _ _) (Decides-ltb _ _)) (Decides-eqb _ _)) (Decides-eqb _ _) in (
      λ yes. let all = tests.0 yes in record { size = all.0.0.0; leaf = all.0.0.1; ots_code = all.0.1; lms_code = all.1 },
      λ form. tests.1 (((form.size, form.leaf), form.ots_code), form.lms_code),
    )

-- the test is true exactly where the signature verifies
pub verifies_decides : VerificationComputes
unfolding verifies
verifies_decides key message signature =
    let tests = Decides-and _ _ (has_form_decides key signature) (bytes_eq-Decides (root_in key message signature) key.root) in (
      λ yes. let all = tests.0 yes in record { form = all.0; root = all.1 },
      λ signed. tests.1 (signed.form, signed.root),
    )

-- an answer that is true exactly where the signature verifies is the test
pub verifies_is : (answer : Bool) (key : LmsPublic) (message signature : List ℕ)
    → IsTrue answer ↔ Verifies key message signature → answer ≡ verifies key message signature
verifies_is answer key message signature decides = same_from_decides answer _ decides (verifies_decides key message signature)

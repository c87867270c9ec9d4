-- What verifying the signature of an entry that fails no check finds.
use Rattle.std.proofs.Common.{◌≡◌, ℕ, ◌+◌, true, List, length, Option, None, Some, sym, ap, ◌∙◌, subst}
use Rattle.sporc_client.proofs.Common.{first_fault, Genesis, Kit, author_device, passed, signed_string, roster_of}
use Rattle.std.specs.Result.{result_ok}
use Rattle.sporc_member.specs.Roster.{key_of}
use Rattle.sporc_entry.specs.Skimming.{header_in, header_of}
use Rattle.sporc_head.specs.Examined.{is_signed_read, is_verified, key_at, key_for}
use Rattle.sporc_head.specs.HeadChecks.{verifies_device}

pub verifies_there : (g : Genesis) (kit : Kit) (entries : List (List ℕ)) (bytes key : List ℕ) → first_fault g kit entries (length entries + 1) bytes ≡ None
    → key_for (roster_of g entries) bytes ≡ Some key → is_verified key bytes ≡ true
unfolding is_verified key_for header_in
verifies_there g kit entries bytes key passes there =
    let its = passed g kit entries (length entries + 1) bytes passes in
    let e = its.0 in
    let there' : key_of (roster_of g entries) (author_device e.header) ≡ Some key =
    sym (ap (λ r. key_at (roster_of g entries) (result_ok (header_of r))) its.1) ∙ there in
    ap (is_signed_read key) its.1
    ∙ subst (λ (k : Option (List ℕ)). verifies_device (signed_string e) e.signature k ≡ true) there' its.2.signature
